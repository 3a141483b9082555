use Rattle.std.proofs.Common.{◌≡◌, None, Some, is_some, refl, string_bytes, sym, ◌∙◌, ap, rules}
use Rattle.schemars_impls.proofs.Words.{Entry, entry_of, place_of, reserved, entry_under, RefusesType}
use Rattle.schemars_impls.proofs.Keeping.{keeps-refl, keeps-same, keeps-trans, reserved-then, place_of-kept, define-keeps, undefined-reserved, defined-there}
use Rattle.schemars_impls.proofs.Following.{made-kept}
use Rattle.schemars_impls.proofs.Registering.{part-refused, never-refused, registered-follows, registered-completes, nothing-under, never-under, present-completes, reserved-name}
use Rattle.schemars_impls.proofs.law.register.Goals as goal

pub returns-in_err-text-clause-keeps : goal.returns-in_err-text-clause-keeps
returns-in_err-text-clause-keeps g c = keeps-refl c.args.types.now

pub returns-in_err-id-clause-keeps : goal.returns-in_err-id-clause-keeps
returns-in_err-id-clause-keeps g c = keeps-refl c.args.types.now

pub returns-in_err-schema_name-clause-keeps : goal.returns-in_err-schema_name-clause-keeps
returns-in_err-schema_name-clause-keeps g c = keeps-refl c.args.types.now

pub returns-in_err-name-clause-keeps : goal.returns-in_err-name-clause-keeps
returns-in_err-name-clause-keeps g c = keeps-refl c.args.types.now

pub returns-in_err-n-clause-keeps : goal.returns-in_err-n-clause-keeps
returns-in_err-n-clause-keeps g c = keeps-same _ _ c.in_err-n.ensures.err

pub returns-in_err-entry-clause-keeps : goal.returns-in_err-entry-clause-keeps
returns-in_err-entry-clause-keeps g c = reserved-then _ _ c.in_ok-n.ensures.ok (c.in_err-entry.ensures.keeps.keeps tt)

pub returns-in_err-define-clause-keeps : goal.returns-in_err-define-clause-keeps
returns-in_err-define-clause-keeps g c =
    keeps-trans (reserved-then _ _ c.in_ok-n.ensures.ok (c.in_ok-entry.ensures.keeps.keeps tt)) (keeps-same _ _ c.in_err-define.ensures.err)

pub returns-in-Some-clause-keeps : goal.returns-in-Some-clause-keeps
returns-in-Some-clause-keeps g c = keeps-refl c.args.types.now

pub returns-clause-keeps : goal.returns-clause-keeps
returns-clause-keeps g c =
    keeps-trans (reserved-then _ _ c.in_ok-n.ensures.ok (c.in_ok-entry.ensures.keeps.keeps tt))
    (define-keeps _ _ _ _ c.in_ok-define.ensures.refused c.in_ok-define.ensures.ok)

pub returns-in-Some-clause-added : goal.returns-in-Some-clause-added
returns-in-Some-clause-added g c =
    let t = g.T.JsonSchema.says in
    let id_is : c.as_str.result.now ≡ t.id = c.as_str.ensures.value ∙ c.in_ok-text.ensures in
    let there : place_of t.id c.args.types.now ≡ Some c.in-Some.n = ap (λ i. place_of i c.args.types.now) (sym id_is)
    ∙ c.in-Some.ensures.number in
    let present = ap (λ i. is_some (entry_under i c.args.types.now)) (sym id_is) ∙ sym c.in-Some.ensures.defined in
    record {
      number = there;
      name = λ none. let never : None ≡ Some c.in-Some.n = sym none ∙ there in cc;
      described = λ undefined. absurd (never-under _ undefined present);
    }

pub returns-clause-added : goal.returns-clause-added
returns-clause-added g c =
    let t = g.T.JsonSchema.says in
    let id_is = c.in_ok-id.ensures.ok ∙ c.in_ok-text.ensures in
    let name_is = c.in_ok-name.ensures.ok ∙ c.in_ok-schema_name.ensures in
    let mid = c.reserve.new.self in
    let mid_is : mid ≡ reserved t.id t.name c.args.types.now = c.in_ok-n.ensures.ok
    ∙ ap (λ i. reserved i (string_bytes c.in_ok-name.name) c.args.types.now) id_is
    ∙ ap (λ x. reserved t.id x c.args.types.now) name_is in
    let there : place_of t.id mid ≡ Some c.in_ok-n.n = ap (λ i. place_of i mid) (sym id_is) ∙ c.in_ok-n.ensures.number in
    let kept = define-keeps _ _ _ _ c.in_ok-define.ensures.refused c.in_ok-define.ensures.ok in
    let e : Entry = entry_of c.in_ok-entry.entry in
    let last = c.json_schema.new.types in
    let placed = place_of-kept t.id c.in_ok-n.n (c.in_ok-entry.ensures.keeps.keeps tt) there in
    record {
      number = place_of-kept t.id c.in_ok-n.n kept placed;
      name = λ none. reserved-name t.id t.name c.args.types.now mid _ c.in_ok-n.n mid_is there (keeps-trans (c.in_ok-entry.ensures.keeps.keeps tt) kept)
          none;
      described = λ undefined. record {
        entry = record e { inline = t.inline };
        is = defined-there t.id last _ c.in_ok-n.n _ placed c.in_ok-define.ensures.ok
            ∙ ap (λ b. Some (record e { inline = b })) c.inline_schema.ensures;
        described = record { given = e; made = made-kept t.making last _ e kept c.in_ok-entry.ensures.made; is = refl };
      };
    }

pub returns-in_err-entry-clause-present : goal.returns-in_err-entry-clause-present
returns-in_err-entry-clause-present g c =
    let t = g.T.JsonSchema.says in
    let undefined : entry_under t.id c.args.types.now ≡ None = nothing-under _ (c.in_default.ensures.defined
    ∙ ap (λ i. is_some (entry_under i c.args.types.now)) (c.as_str.ensures.value ∙ c.in_ok-text.ensures)) in
    λ present. absurd (never-under _ undefined present)

pub returns-in_err-define-clause-present : goal.returns-in_err-define-clause-present
returns-in_err-define-clause-present g c =
    let t = g.T.JsonSchema.says in
    let undefined : entry_under t.id c.args.types.now ≡ None = nothing-under _ (c.in_default.ensures.defined
    ∙ ap (λ i. is_some (entry_under i c.args.types.now)) (c.as_str.ensures.value ∙ c.in_ok-text.ensures)) in
    λ present. absurd (never-under _ undefined present)

pub returns-clause-present : goal.returns-clause-present
returns-clause-present g c =
    let t = g.T.JsonSchema.says in
    let undefined : entry_under t.id c.args.types.now ≡ None = nothing-under _ (c.in_default.ensures.defined
    ∙ ap (λ i. is_some (entry_under i c.args.types.now)) (c.as_str.ensures.value ∙ c.in_ok-text.ensures)) in
    λ present. absurd (never-under _ undefined present)

pub returns-in-Some-clause-completes : goal.returns-in-Some-clause-completes
returns-in-Some-clause-completes g c =
    let t = g.T.JsonSchema.says in
    let id_is : c.as_str.result.now ≡ t.id = c.as_str.ensures.value ∙ c.in_ok-text.ensures in
    let there : place_of t.id c.args.types.now ≡ Some c.in-Some.n = ap (λ i. place_of i c.args.types.now) (sym id_is)
    ∙ c.in-Some.ensures.number in
    let present = ap (λ i. is_some (entry_under i c.args.types.now)) (sym id_is) ∙ sym c.in-Some.ensures.defined in
    present-completes t c.args.types.now c.in-Some.n there present

pub returns-clause-follows : goal.returns-clause-follows
returns-clause-follows g c =
    let t = g.T.JsonSchema.says in
    let id_is = c.in_ok-id.ensures.ok ∙ c.in_ok-text.ensures in
    let name_is = c.in_ok-name.ensures.ok ∙ c.in_ok-schema_name.ensures in
    let mid = c.reserve.new.self in
    let mid_is : mid ≡ reserved t.id t.name c.args.types.now = c.in_ok-n.ensures.ok
    ∙ ap (λ i. reserved i (string_bytes c.in_ok-name.name) c.args.types.now) id_is
    ∙ ap (λ x. reserved t.id x c.args.types.now) name_is in
    let there : place_of t.id mid ≡ Some c.in_ok-n.n = ap (λ i. place_of i mid) (sym id_is) ∙ c.in_ok-n.ensures.number in
    let undefined : entry_under t.id c.args.types.now ≡ None = nothing-under _ (c.in_default.ensures.defined
    ∙ ap (λ i. is_some (entry_under i c.args.types.now)) (c.as_str.ensures.value ∙ c.in_ok-text.ensures)) in
    let missing = ap is_some (undefined-reserved t.id t.name c.args.types.now mid c.in_ok-n.n undefined mid_is there) in
    registered-follows t c.args.types.now mid c.json_schema.new.types c.in_ok-n.n mid_is there missing
    c.inline_schema.result (entry_of c.in_ok-entry.entry) _ c.inline_schema.ensures (c.in_ok-entry.ensures.keeps.keeps tt)
    c.in_ok-entry.ensures.follows c.in_ok-entry.ensures.made c.in_ok-define.ensures.ok
    (define-keeps _ _ _ _ c.in_ok-define.ensures.refused c.in_ok-define.ensures.ok)

pub returns-clause-completes : goal.returns-clause-completes
returns-clause-completes g c =
    let t = g.T.JsonSchema.says in
    let id_is = c.in_ok-id.ensures.ok ∙ c.in_ok-text.ensures in
    let name_is = c.in_ok-name.ensures.ok ∙ c.in_ok-schema_name.ensures in
    let mid = c.reserve.new.self in
    let mid_is : mid ≡ reserved t.id t.name c.args.types.now = c.in_ok-n.ensures.ok
    ∙ ap (λ i. reserved i (string_bytes c.in_ok-name.name) c.args.types.now) id_is
    ∙ ap (λ x. reserved t.id x c.args.types.now) name_is in
    let there : place_of t.id mid ≡ Some c.in_ok-n.n = ap (λ i. place_of i mid) (sym id_is) ∙ c.in_ok-n.ensures.number in
    let undefined : entry_under t.id c.args.types.now ≡ None = nothing-under _ (c.in_default.ensures.defined
    ∙ ap (λ i. is_some (entry_under i c.args.types.now)) (c.as_str.ensures.value ∙ c.in_ok-text.ensures)) in
    let missing = ap is_some (undefined-reserved t.id t.name c.args.types.now mid c.in_ok-n.n undefined mid_is there) in
    registered-completes t c.args.types.now mid c.json_schema.new.types c.in_ok-n.n mid_is there missing
    c.inline_schema.result (entry_of c.in_ok-entry.entry) _ c.inline_schema.ensures (c.in_ok-entry.ensures.keeps.keeps tt)
    c.in_ok-entry.ensures.follows c.in_ok-entry.ensures.made c.in_ok-define.ensures.ok
    (define-keeps _ _ _ _ c.in_ok-define.ensures.refused c.in_ok-define.ensures.ok)

pub returns-in_err-entry-clause-refused : goal.returns-in_err-entry-clause-refused
returns-in_err-entry-clause-refused g c =
    let t = g.T.JsonSchema.says in
    let id_is = c.in_ok-id.ensures.ok ∙ c.in_ok-text.ensures in
    let name_is = c.in_ok-name.ensures.ok ∙ c.in_ok-schema_name.ensures in
    let mid = c.reserve.new.self in
    let mid_is : mid ≡ reserved t.id t.name c.args.types.now = c.in_ok-n.ensures.ok
    ∙ ap (λ i. reserved i (string_bytes c.in_ok-name.name) c.args.types.now) id_is
    ∙ ap (λ x. reserved t.id x c.args.types.now) name_is in
    let there : place_of t.id mid ≡ Some c.in_ok-n.n = ap (λ i. place_of i mid) (sym id_is) ∙ c.in_ok-n.ensures.number in
    let undefined : entry_under t.id c.args.types.now ≡ None = nothing-under _ (c.in_default.ensures.defined
    ∙ ap (λ i. is_some (entry_under i c.args.types.now)) (c.as_str.ensures.value ∙ c.in_ok-text.ensures)) in
    let missing = ap is_some (undefined-reserved t.id t.name c.args.types.now mid c.in_ok-n.n undefined mid_is there) in
    let why : RefusesType t c.args.types.now c.in_err-entry.field-0.0 = record {
      present = λ present.
          absurd (never-under _ undefined present);
      as_told = part-refused t c.args.types.now mid mid c.in_ok-n.n mid_is there missing _ c.in_err-entry.ensures.refused;
    } in
    search rules

pub returns-in_err-define-clause-refused : goal.returns-in_err-define-clause-refused
returns-in_err-define-clause-refused g c =
    let t = g.T.JsonSchema.says in
    let id_is = c.in_ok-id.ensures.ok ∙ c.in_ok-text.ensures in
    let name_is = c.in_ok-name.ensures.ok ∙ c.in_ok-schema_name.ensures in
    let mid = c.reserve.new.self in
    let mid_is : mid ≡ reserved t.id t.name c.args.types.now = c.in_ok-n.ensures.ok
    ∙ ap (λ i. reserved i (string_bytes c.in_ok-name.name) c.args.types.now) id_is
    ∙ ap (λ x. reserved t.id x c.args.types.now) name_is in
    let there : place_of t.id mid ≡ Some c.in_ok-n.n = ap (λ i. place_of i mid) (sym id_is) ∙ c.in_ok-n.ensures.number in
    let undefined : entry_under t.id c.args.types.now ≡ None = nothing-under _ (c.in_default.ensures.defined
    ∙ ap (λ i. is_some (entry_under i c.args.types.now)) (c.as_str.ensures.value ∙ c.in_ok-text.ensures)) in
    let missing = ap is_some (undefined-reserved t.id t.name c.args.types.now mid c.in_ok-n.n undefined mid_is there) in
    let why : RefusesType t c.args.types.now c.in_err-define.field-0.0 = record {
      present = λ present.
          absurd (never-under _ undefined present);
      as_told = never-refused t c.args.types.now mid c.json_schema.new.types c.in_ok-n.n mid_is there missing
          (record (entry_of c.in_ok-entry.entry) { inline = c.inline_schema.result }) _ (c.in_ok-entry.ensures.keeps.keeps tt)
          c.in_ok-entry.ensures.follows c.in_ok-entry.ensures.known c.in_err-define.ensures.refused;
    } in
    search rules
