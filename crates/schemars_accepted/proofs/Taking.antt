-- Definitions that are taken for OpenAPI accept what is written.
use Rattle.std.proofs.Common.{◌≡◌, ◌<◌, ℕ, zero, suc, [], List, Option, Some, None, true, false, inr, IfOk, IfErr, Result, Ok, Err, refl, sym, ap, arith, ◌∙◌, subst}
use Rattle.schemars_accepted.proofs.Words.{is_some, Data, number, array, object, Members, no_members, get_member, Text, IsJson, resolved, IsSchema, verdict, Yes, No, Dialect, openapi3, Patterns, accepts, bound, read_data, follow, plain-components, resolved-definition, belongs, Row, place_of, is_inline_at, TypeRow, reference, IsPlainForEach, IsOneToOne, name_of, is_in_place, IsKey, reference_to, components, components_of, components-found, TransformStep, IsReferenceOf, State, path_of, HasOwnDefinitions, MeanTheirRows, TakenHeadline, HasSameKeys, KeepsDefinitions, IsJoined, IsSubschemaOfType, with_rows, Generator, Transforms, held_transforms, settings_of, state, AreTransformed, AreGone, IsTakeRefusal, BelongsUnder, IsForOpenApi, DefinitionAccepts, ReferenceAccepts, TakenAccepts, HasJoined, AreTaken, IsNotTaken, IsTakenRefusal}
use Rattle.serde_json.specs.Data.{null, boolean, string}
use Rattle.schemars_types.specs.declared.contract.Contract.TheVariants.{Serialize}
use Rattle.schemars_generate.specs.declared.error.GenerateError.{GenerateError}
use Rattle.schemars_accepted.proofs.Rooting.{plain_for_each}

-- ---- references

-- what accepts a value is a schema
accepting_schema : (dialect : Dialect) (document : Data) (patterns : Patterns) (n : ℕ) (d v : Data)
    → accepts dialect document patterns n d v ≡ Yes → IsSchema d
unfolding read_data
accepting_schema dialect document patterns n null v is = let never : No ≡ Yes = is in cc
accepting_schema dialect document patterns n (boolean b) v is = tt
accepting_schema dialect document patterns n (number x) v is = let never : No ≡ Yes = is in cc
accepting_schema dialect document patterns n (string s) v is = let never : No ≡ Yes = is in cc
accepting_schema dialect document patterns n (array ds) v is = let never : No ≡ Yes = is in cc
accepting_schema dialect document patterns n (object ms) v is = tt

-- what a reference leads to, with one reference more followed
followed_to : (document : Data) (patterns : Patterns) (n : ℕ) (r : Text) (d v : Data) → resolved document r ≡ Some d
    → (follow openapi3 document patterns (suc n) r).fits v ≡ accepts openapi3 document patterns n d v
unfolding follow
followed_to document patterns n r d v is = rw (is, follow) refl

-- a reference accepts what the schema accepts to which it leads, with one reference more followed
reference_accepts : (document : Data) (patterns : Patterns) (n : ℕ) (r : Text) (d v : Data) → resolved document r ≡ Some d
    → accepts openapi3 document patterns (suc n) (reference r) v ≡ accepts openapi3 document patterns n d v
unfolding read_data
reference_accepts document patterns n r d v is = followed_to document patterns n r d v is

-- ---- definitions

-- the definition of a name of the row accepts what belongs to the row
definition_accepts : (reading : Patterns → Type 0) (s : State) (n : ℕ) (taken : Members) (v : Data) → IsOneToOne s.names
    → s.settings.contract ≡ Serialize → MeanTheirRows s taken → BelongsUnder reading s.rows n v → IsJson v
    → (name : Text) → name_of n Serialize s.names ≡ Some name → (d : Data) → get_member name taken ≡ Some d
    → DefinitionAccepts reading taken d v
definition_accepts reading s n taken v one contract means belongs_to json name named d found patterns takes followed bounded =
    let m = means name d found in
    let same : m.row ≡ n = (one.one_row m.row n s.settings.contract Serialize name m.is_named named).0 in
    m.accepts_its_values patterns v json followed bounded
    ∙ ap verdict (ap (λ c. belongs s.rows c patterns m.row v) contract ∙ ap (λ k. belongs s.rows Serialize patterns k v) same
    ∙ belongs_to patterns takes)

-- the reference to a key of the definitions leads to one that is taken
reference_leads : (reading : Patterns → Type 0) (s : State) (taken : Members) (name : Text) (schema v : Data)
    → HasOwnDefinitions s → HasSameKeys taken s.definitions → IsKey name s.definitions → schema ≡ reference (reference_to components name)
    → ((d : Data) → get_member name taken ≡ Some d → DefinitionAccepts reading taken d v)
    → ReferenceAccepts reading taken name schema v
reference_leads reading s taken name schema v own same key is accept = go (get_member name taken) refl
  where
    refers : (d : Data) → get_member name taken ≡ Some d → (patterns : Patterns) → reading patterns → (followed : ℕ)
        → bound components (components_of taken) v < followed
        → accepts openapi3 (components_of taken) patterns followed schema v ≡ Yes
    refers d found patterns takes zero bounded = absurd (omega arith)
    refers d found patterns takes (suc m) bounded =
        let yes = accept d found patterns takes m (omega arith) in
        let leads = resolved-definition components name (components_of taken) d taken plain-components (components-found taken)
        (own name key.0 key.1).is_text found (accepting_schema openapi3 (components_of taken) patterns m d v yes) in
        ap (λ x. accepts openapi3 (components_of taken) patterns (suc m) x v) is
        ∙ (reference_accepts (components_of taken) patterns m (reference_to components name) d v leads ∙ yes)

    go : (o : Option Data) → get_member name taken ≡ o → ReferenceAccepts reading taken name schema v
    go None none = absurd (let never : false ≡ true = sym (ap is_some none) ∙ (same name ∙ ap is_some key.1) in cc)
    go (Some d) found = record {
      is_reference = is;
      definition = d;
      is_there = found;
      definition_accepts = accept d found;
      accepts_too = refers d found;
    }

-- the definitions that a type's row needs are taken from s, and accept what belongs to the row
pub taken_accepts : (reading : Patterns → Type 0) (t : TypeRow) (old s : State) (n : ℕ) (taken : Members) (schema v : Data)
    → old.settings.contract ≡ Serialize → path_of old ≡ components → s.settings ≡ old.settings → HasOwnDefinitions s → IsOneToOne s.names
    → IsPlainForEach Serialize s.rows → HasSameKeys taken s.definitions → TakenHeadline s taken → IsReferenceOf (with_rows s.rows old) s n schema
    → place_of t.id s.rows ≡ Some n → BelongsUnder reading s.rows n v → IsJson v
    → TakenAccepts reading t (record s { definitions = no_members }) taken schema v
taken_accepts reading t old s n taken schema v contract path settings own one plain same headline is_reference placed belongs_to json =
    let means = headline own (ap (λ x. path_of (record s { settings = x })) settings ∙ path)
    (plain_for_each openapi3 s.settings.contract s.rows (subst (λ c. IsPlainForEach c s.rows) (sym (ap (λ x. x.contract) settings ∙ contract)) plain)) in
    let accept = definition_accepts reading s n taken v one (ap (λ x. x.contract) settings ∙ contract) means belongs_to json in
    record {
      n = n;
      number = placed;
      definitions_accept = accept;
      refers = λ apart.
          let r = is_reference (ap (λ x. is_in_place s.rows x.inlines [] n) (sym settings) ∙ apart) in
          let named : name_of n Serialize s.names ≡ Some r.0 = ap (λ c. name_of n c s.names) (sym contract) ∙ r.1 in (
            r.0,
            named,
            reference_leads reading s taken r.0 schema v own same r.2 (r.3 ∙ ap (λ p. reference (reference_to p r.0)) path)
                (accept r.0 named),
          );
    }

-- ---- a generator that had no rows

-- the row of a type that is not written in place is not
row_apart : (t : TypeRow) (rows : List Row) (n : ℕ) → IsJoined t [] rows n → t.inline ≡ false → is_inline_at rows n ≡ false
row_apart t rows n joined apart =
    let row = joined.registered.added.described refl in
    rw (row.is, row.described.is) apart

-- so its schema is the reference to a definition that accepts the value
pub reference_of_new : {O : Type 0} (Q : TransformStep O) (ts us : Transforms O) (reading : Patterns → Type 0) (t : TypeRow)
    (old new : State) (taken : Members) (schema v : Data) → AreTaken Q ts us t old new schema taken
    → TakenAccepts reading t new taken schema v → old.rows ≡ [] → old.settings.inlines ≡ false → t.inline ≡ false
    → (name : Text) × ReferenceAccepts reading taken name schema v
reference_of_new Q ts us reading t old new taken schema v made is empty none apart =
    let s = made.before in
    let joined = made.joined.subschema.joined in
    let rows : new.rows ≡ s.rows = ap (λ x. x.rows) made.gone.rest in
    let inlines : new.settings.inlines ≡ false =
    ap (λ x. x.settings.inlines) made.gone.rest ∙ (ap (λ x. x.inlines) made.joined.settings ∙ none) in
    let found : Some is.n ≡ Some made.joined.subschema.n =
    sym is.number ∙ (ap (λ x. place_of t.id x) rows ∙ joined.registered.added.number) in
    let same : is.n ≡ made.joined.subschema.n = cc in
    let row = row_apart t s.rows made.joined.subschema.n (subst (λ x. IsJoined t x s.rows made.joined.subschema.n) empty joined) apart in
    let place : is_in_place new.rows new.settings.inlines [] is.n ≡ false = rw (inlines, rows, same, row) refl in
    let r = is.refers place in
    (r.0, r.2)

-- of two facts of a result
pub of_both : {T E : Type 0} (r : Result T E) (P Q R : T → Type 0) → ((x : T) → P x → Q x → R x) → IfOk r P → IfOk r Q → IfOk r R
of_both (Ok x) P Q R both p q = both x p q
of_both (Err e) P Q R both p q = tt

-- and of an error
pub refused_and_left : {T E : Type 0} (r : Result T E) (P Q R : E → Type 0) → ((e : E) → P e → Q e → R e) → IfErr r P → IfErr r Q
    → IfErr r R
refused_and_left (Ok x) P Q R both p q = tt
refused_and_left (Err e) P Q R both p q = both e p q

-- ---- what the calls leave

-- what adding a type leaves, by its clauses
module _ {O : Type 0} (t : TypeRow) (old mid : Generator O) (schema : Data) (is : IsSubschemaOfType t (state old) (state mid) schema)
    (own : HasOwnDefinitions (state old) → HasOwnDefinitions (with_rows mid.rows (state old)))
    (keeps : KeepsDefinitions (with_rows mid.rows (state old)) (state mid))
    (rest : mid ≡ record old { rows = mid.rows; names = mid.names; definitions = mid.definitions }) where
  pub has_joined : HasJoined t (state old) (state mid) schema
  has_joined = record {
    subschema = is;
    settings = ap (λ (x : Generator O). settings_of x.settings) rest;
    own = λ before. keeps.own (own before);
  }

  same_transforms : held_transforms mid ≡ held_transforms old
  same_transforms = ap (λ (x : Generator O). held_transforms x) rest

  pub none_taken : IsNotTaken t (state old) (state mid) × (held_transforms mid ≡ held_transforms old)
  none_taken = ((schema, has_joined), same_transforms)

  -- then taking definitions
  pub all_taken : (Q : TransformStep O) (new : Generator O) (taken : Members)
      → AreTransformed Q (held_transforms mid) (held_transforms new) (state mid) taken → AreGone (state mid) (state new)
      → AreTaken Q (held_transforms old) (held_transforms new) t (state old) (state new) schema taken
  all_taken Q new taken transformed gone = record {
    before = state mid;
    joined = has_joined;
    transformed = subst (λ ts. AreTransformed Q ts (held_transforms new) (state mid) taken) same_transforms transformed;
    gone = gone;
  }

  pub none_left : (new : Generator O) → state new ≡ state mid → IsNotTaken t (state old) (state new)
  none_left new same = (schema, subst (λ s. HasJoined t (state old) s schema) (sym same) has_joined)

  pub take_refused : (Q : TransformStep O) (new : Generator O) (e : GenerateError)
      → IsTakeRefusal Q (held_transforms mid) (held_transforms new) (state mid) e → state new ≡ state mid
      → IsTakenRefusal Q t old new e
  take_refused Q new e refused same = inr (
    none_left new same,
    subst (λ s. IsTakeRefusal Q (held_transforms old) (held_transforms new) s e) (sym same)
        (subst (λ ts. IsTakeRefusal Q ts (held_transforms new) (state mid) e) same_transforms refused),
  )

  -- what is taken for OpenAPI accepts what belongs to the row
  pub all_accept : (reading : Patterns → Type 0) (Q : TransformStep O) (new : Generator O) (taken : Members) (v : Data)
      → IsForOpenApi old → IsOneToOne mid.names → IsPlainForEach Serialize mid.rows
      → AreTransformed Q (held_transforms mid) (held_transforms new) (state mid) taken → AreGone (state mid) (state new)
      → BelongsUnder reading mid.rows is.n v → IsJson v
      → TakenAccepts reading t (state new) taken schema v
  all_accept reading Q new taken v for one plain transformed gone belongs_to json =
      let made = transformed.openapi3 (ap (λ (x : Transforms O). x.items) same_transforms ∙ for.settings.transforms) in
      subst (λ s. TakenAccepts reading t s taken schema v) (sym gone.rest)
      (taken_accepts reading t (state old) (state mid) is.n taken schema v for.settings.contract for.settings.path has_joined.settings
      (has_joined.own for.own) one plain made.0 made.1 is.is.reference is.joined.registered.added.number belongs_to json)
