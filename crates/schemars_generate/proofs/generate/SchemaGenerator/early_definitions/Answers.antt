-- The text of what the transforms of OpenAPI make of each definition that a part leads to.
use Rattle.std.proofs.Common.{◌≡◌, ◌∙◌, inl, true, None, refl, sym, ap, subst, string_bytes}
use Rattle.schemars_generate.proofs.Words.{IsAnswer, Plan, each_made, for_openapi3, IsDefinitionsText, IsDefinitionsRefusal, held_transforms, transforms_of, transforms_openapi3, AreThrough, err_told, part, state, state_of, state_plan, ApplyInOrder, HasKeysOnce, IsAnswerFor, IsOneToOne, Members, Registry, Step}
use Rattle.schemars_generate.specs.declared.error.GenerateError.{GenerateError}
use Rattle.schemars_generate.proofs.Answered.{answered_for, keeps_answer, subschema_for}
use Rattle.schemars_generate.proofs.BuiltIns.{are_transformed}
use Rattle.schemars_generate.proofs.EarlyDefinitions.{each_through}
use Rattle.schemars_generate.proofs.generate.SchemaGenerator.early_definitions.Goals as goal

pub returns-in_err-_part-clause-refused : goal.returns-in_err-_part-clause-refused
returns-in_err-_part-clause-refused g c =
    let self = c.args.self in
    let P : GenerateError → Type 0 = λ e. IsDefinitionsRefusal g.O.Transform.makes (held_transforms self) (state self) c.args.n e in
    err_told c.from_residual-in_err-_part.result P _ c.from_residual-in_err-_part.ensures.1 (λ e is. inl is)

pub returns-clause-text : goal.returns-clause-text
returns-clause-text g c =
    let Q = g.O.Transform.makes in
    let inside = c.self.inside in
    let ts = inside.settings.transforms in
    let n = c.args.n in
    let d = c.in_ok-_part._part in
    let s = state_of inside.settings inside.types inside.registry in
    let w = c.answer.new.registry in
    let x = c.commit.new.self in
    let new = state_of inside.settings inside.types x in
    let ms = c.into_store.result in
    let plan = state_plan s None in
    let step : Step plan inside.registry w =
    subst (λ y. Step plan y w) c.with_store-registry.ensures
    (subst (λ (p : Plan). Step p c.with_store-registry.result w) c.plan_for-plan.ensures c.in_ok-_part.ensures.step) in
    let is : IsAnswer plan true inside.registry w (part n) d =
    subst (λ y. IsAnswer plan true y w (part n) d) c.with_store-registry.ensures
    (subst (λ (p : Plan). IsAnswer p true c.with_store-registry.result w (part n) d) c.plan_for-plan.ensures c.in_ok-_part.ensures.is) in
    let answered : IsAnswerFor s new (part n) d =
    answered_for s inside.registry w x (part n) d c.self.invariant.3 step is c.commit.ensures.kept in
    let keeps = keeps_answer s new (part n) d refl answered in
    let one : IsOneToOne x.names = subst IsOneToOne (sym (ap (λ (y : Registry). y.names) c.commit.ensures.kept)) c.commit.ensures.one_to_one in
    let openapi3 : ts.items ≡ transforms_openapi3 = ap transforms_of c.self.view_is ∙ c.requires.transforms in
    let same : ms ≡ x.definitions = c.into_store.ensures in
    let taken = each_made for_openapi3 ms in
    let through : AreThrough (ApplyInOrder Q) ts ts x.definitions taken =
    subst (λ (es : Members). AreThrough (ApplyInOrder Q) ts ts x.definitions (each_made for_openapi3 es)) (sym same)
    (each_through Q ts openapi3 x.definitions) in
    subst (λ y. IsDefinitionsText Q (held_transforms y) (state y) n (string_bytes c.in_ok-text.text)) c.self.view_is (record {
      new = new;
      part = record {
        schema = d;
        subschema = subschema_for s new n d refl c.self.invariant.1 one keeps.own answered;
        keeps = keeps;
        rest = refl;
      };
      after = ts;
      taken = taken;
      transformed = are_transformed Q ts ts new taken c.self.invariant.1 one (subst HasKeysOnce same c.in_ok-text.ensures.once) through;
      is = c.in_ok-text.ensures.text;
    })
