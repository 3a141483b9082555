-- The text of what the transforms make of the definitions that a part leads to.
use Rattle.std.proofs.Common.{◌≡◌, ◌∙◌, ℕ, Result, Ok, Err, inl, inr, sym, ap, subst}
use Rattle.schemars_generate.proofs.Words.{IsErrAnd, HasMadePart, IsDefinitionsRefusal, Generator, held_transforms, told, IsSubschemaFor, KeepsDefinitions, err_told, members_view, state, State, Data, Transforms, TransformStep, AreTransformed, IsTakeRefusal}
use Rattle.schemars_walk.specs.declared.transform.TransformError.{TransformError}
use Rattle.schemars_walk.specs.declared.transform.TransformError.TheVariants.{Memory, TooDeep, Own}
use Rattle.schemars_generate.specs.declared.error.GenerateError.{GenerateError}
use Rattle.schemars_generate.specs.declared.error.GenerateError.TheVariants.{UnknownType}
use Rattle.schemars_generate.proofs.generate.SchemaGenerator.late_definitions.Goals as goal

-- a part adds names and definitions alone
same_transforms : {O : Type 0} (old new : Generator O) → new ≡ record old { names = new.names; definitions = new.definitions }
    → held_transforms new ≡ held_transforms old
same_transforms old new rest = ap held_transforms rest

only_adds : {O : Type 0} (old new : Generator O) → new ≡ record old { names = new.names; definitions = new.definitions }
    → state new ≡ record (state old) { names = new.names; definitions = new.definitions }
only_adds old new rest = ap state rest

part_made : {O : Type 0} (old new : Generator O) (n : ℕ) (schema : Data) → IsSubschemaFor (state old) (state new) n schema
    → KeepsDefinitions (state old) (state new) → new ≡ record old { names = new.names; definitions = new.definitions }
    → HasMadePart (state old) (state new) n
part_made old new n schema subschema keeps rest =
    record { schema = schema; subschema = subschema; keeps = keeps; rest = only_adds old new rest }

-- ---- it is refused

pub returns-in_err-subschema_for_type-clause-refused : goal.returns-in_err-subschema_for_type-clause-refused
returns-in_err-subschema_for_type-clause-refused g c =
    let self = c.args.self in
    let P : GenerateError → Type 0 = λ e. IsDefinitionsRefusal g.O.Transform.makes (held_transforms self) (state self) c.args.n e in
    err_told c.from_residual.result P _ c.from_residual.ensures.1
    (λ e is. subst P (sym is) (elim c.in_err-subschema_for_type.ensures.refused [ inl memory ↦ inl memory | inr unknown ↦ inr (inl unknown) ]))

-- what is refused of definitions is not the row
told_is_known : (a : TransformError) (n : ℕ) → told a ≡ UnknownType n → ⊥
told_is_known Memory n same = cc
told_is_known TooDeep n same = cc
told_is_known (Own k) n same = cc

refusal_is_known : {O : Type 0} (Q : TransformStep O) (ts us : Transforms O) (s : State) (e : GenerateError) (n : ℕ)
    → IsTakeRefusal Q ts us s e → e ≡ UnknownType n → ⊥
refusal_is_known Q ts us s e n h same =
    elim h.refused [
      | inl memory ↦ told_is_known Memory n (sym memory.0 ∙ same)
      | inr turned ↦ told_is_known turned.0 n (sym turned.3 ∙ same)
    ]

result_is_known : {X : Type 0} (r : Result X GenerateError) (e : GenerateError) (n : ℕ) → IsErrAnd r (λ x. x ≡ e)
    → (e ≡ UnknownType n → ⊥) → r ≡ Err (UnknownType n) → ⊥
result_is_known (Ok x) e n is other same = absurd is
result_is_known (Err x) e n is other same = let row : e ≡ UnknownType n = cc in other row

pub returns-in_err-definitions-clause-unknown : goal.returns-in_err-definitions-clause-unknown
returns-in_err-definitions-clause-unknown g c =
    let why = c.in_err-definitions.ensures.refused in
    let n = c.args.n in (
      λ same. absurd (result_is_known c.from_residual-in_err-definitions.result c.in_err-definitions.field-0.0 n
          c.from_residual-in_err-definitions.ensures.1 (refusal_is_known _ _ why.0 _ _ n why.1) same),
      λ past. let clash = c.in_ok-subschema_for_type.ensures.unknown.1 past in cc,
    )

pub returns-in_err-definitions-clause-refused : goal.returns-in_err-definitions-clause-refused
returns-in_err-definitions-clause-refused g c =
    let Q = g.O.Transform.makes in
    let self = c.args.self in
    let kept = c.subschema_for_type.new.self in
    let made = c.in_ok-subschema_for_type.ensures in
    let why = c.in_err-definitions.ensures.refused in
    let P : GenerateError → Type 0 = λ e. IsDefinitionsRefusal Q (held_transforms self) (state self) c.args.n e in
    err_told c.from_residual-in_err-definitions.result P _ c.from_residual-in_err-definitions.ensures.1
    (λ e is. subst P (sym is) (inr (inr (
      state kept,
      part_made self kept c.args.n c.in_ok-subschema_for_type.field-0 made.subschema made.keeps made.rest,
      why.0,
      subst (λ ts. IsTakeRefusal Q ts why.0 (state kept) c.in_err-definitions.field-0.0)
          (same_transforms self kept made.rest) why.1,
    ))))

-- ---- the text

pub returns-clause-text : goal.returns-clause-text
returns-clause-text g c =
    let kept = c.subschema_for_type.new.self in
    let part = c.in_ok-subschema_for_type.ensures in
    let made = c.in_ok-definitions.ensures.transformed in
    let taken = members_view c.in_ok-definitions.definitions.entries in
    record {
      new = state kept;
      part = part_made c.args.self kept c.args.n c.in_ok-subschema_for_type.field-0 part.subschema part.keeps part.rest;
      after = made.0;
      taken = taken;
      transformed = subst (λ ts. AreTransformed g.O.Transform.makes ts made.0 (state kept) taken)
          (same_transforms c.args.self kept part.rest) made.1;
      is = c.in_ok-text.ensures.ordered;
    }
