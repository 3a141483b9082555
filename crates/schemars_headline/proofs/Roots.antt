-- Root documents mean their types, and so do subschemas beside their definitions.
use Rattle.std.proofs.Common.{[], ◌≡◌, inl, inr, ℕ, List, Option, Some, None, Bool, true, refl, sym, ap, ◌∙◌, subst, arith}
use Rattle.schemars_headline.proofs.Words.{is_some, Data, object, Members, get_member, Text, IsSchema, members_in, resolved, references, resolves, Dialect, Patterns, Judge, judge, draft2020_12, follow, IsSilent, context2020_12, Entry, Shape, Field, Flattened, Row, name_at, entry_at, IsChecked, root_document, IsWritten, Describes, HasPlainLiteral, IsPlainFor, IsPlainUnder, IsPlainTable, IsNotedEntry, HasPlainNotes, HasPlainNotesThroughout, plain_under, IsOneToOne, Plan, Registry, Refers, basis_of_plan, allow_null, State, state_plan, registry_of, HasOwnDefinitions, IsRootOf, MeansItsType, IsDraftPath, with_definitions, HasKeysOnce, describes-wider, IsSubschema, document_describes, described, under_rows, judge-put, IsDraft, AcceptsNullToo, expanded_shape, flattened_in, part_enums, IsPlainShape, IsEntryUnder, written_or_null, MeansItsTypeIn, SubschemaHeadline, judge-root, written_map, placed_written}
use Rattle.schemars_types.specs.declared.contract.Contract.{Contract}
use Rattle.schemars_shapes.specs.Shape as shape
use Rattle.schemars_headline.proofs.Keys.{all_members, IsDefinitionsKey}
use Rattle.schemars_headline.proofs.OwnKeys.{no_definitions_in}
use Rattle.schemars_headline.proofs.Resolving.{all_pass-resolve, Resolve, AllResolve, described_resolved, written_resolved, root_resolved, placed_resolved}
use Rattle.schemars_headline.proofs.Standing.{MayRefer, AllStand, stands_now, refers_may}
use Rattle.schemars_headline.proofs.Leading.{HoldsDefinitions, IsItsRoot, refers_resolve, written_accepts}
use Rattle.schemars_headline.proofs.Placed.{IsPlaced, stands_key, holds_put, holds_nothing, placing, placed_in, held}

key_silent : (key : Text) → IsDefinitionsKey key → IsSilent key
key_silent key (inl is) = rw is refl
key_silent key (inr is) = rw is refl

-- ---- what holds of every document with the definitions

module _ (plan : Plan) (w : Registry) (document : Data) (checked : IsChecked plan.rows)
    (plain : IsPlainUnder plan.contract plan.rows)
    (one : IsOneToOne w.names) (definitions : AllStand plan w)
    (holds : HoldsDefinitions plan.path w.definitions document) (is_root : IsItsRoot plan w document) where
  leads : (j : ℕ) (r : Text) → MayRefer plan w j r → is_some (resolved document r) ≡ true
  leads = refers_resolve plan w document checked plain one definitions holds is_root

  noted : HasPlainNotesThroughout plan.rows
  noted = under_rows plan.contract plan.rows plain

  definition_resolved : (name : Text) (d : Data) → get_member name w.definitions ≡ Some d → Resolve (resolves document) (references d)
  definition_resolved name d found =
      let definition = definitions name d found in
      (described_resolved (resolves document) (basis_of_plan plan) (MayRefer plan w) noted leads definition.depth
      definition.row d definition.describes).1

  schema_resolved : (d n : ℕ) (t : Data) → IsWritten (MayRefer plan w)
      (Describes (basis_of_plan plan) (MayRefer plan w) d) n t → Resolve (resolves document) (references t)
  schema_resolved d n t h = (written_resolved (resolves document) (basis_of_plan plan) (MayRefer plan w) noted leads d n
      t h).1

-- ---- root documents

judge_placed : (path : Text) (definitions : Members) (root document : Data) → IsPlaced path definitions root document
    → root ≡ object (members_in root) → (patterns : Patterns) (f : Text → Judge)
    → judge (context2020_12 patterns f) document ≡ judge (context2020_12 patterns f) root
judge_placed path definitions root document (inl is) whole patterns f = rw (is.1)
judge_placed path definitions root document (inr (key, at, is)) whole patterns f =
    rw is (judge-put (context2020_12 patterns f) key (object definitions) (members_in root) (key_silent key (stands_key path key at))
    ∙ ap (judge (context2020_12 patterns f)) (sym whole))

schema_placed : (path : Text) (definitions ms : Members) (document : Data) → IsPlaced path definitions (object ms) document
    → IsSchema document
schema_placed path definitions ms document (inl is) = rw (is.1) tt
schema_placed path definitions ms document (inr (key, at, is)) = rw is tt

holds_placed : (path : Text) (definitions ms : Members) (document : Data) → IsPlaced path definitions (object ms) document
    → HoldsDefinitions path definitions document
holds_placed path definitions ms document (inl is) = rw (is.0) (holds_nothing path document)
holds_placed path definitions ms document (inr (key, at, is)) = rw is (holds_put path key at definitions ms)

resolved_placed : (path : Text) (definitions ms : Members) (document : Data) → IsPlaced path definitions (object ms) document
    → AllResolve (resolves document) definitions → Resolve (resolves document) (references (object ms))
    → Resolve (resolves document) (references document)
resolved_placed path definitions ms document (inl is) all h = let P : Data → Type 0 = λ d. Resolve (resolves document) (references d) in
    subst P (sym is.1) h
resolved_placed path definitions ms document (inr (key, at, is)) all h =
    let P : Data → Type 0 = λ d. Resolve (resolves document) (references d) in
    subst P (sym is) (placed_resolved (resolves document) key definitions ms (stands_key path key at) all h)

-- a root document with its definitions means its type
pub root_means : (plan : Plan) (w : Registry) (n : ℕ) (name : Text) (uri : Option Text) (depth : ℕ) (own document : Data)
    → IsChecked plan.rows → IsOneToOne w.names → HasKeysOnce w.definitions → plan.root ≡ Some n
    → AllStand plan w → Describes (basis_of_plan plan) (MayRefer plan w) depth n own
    → IsPlaced plan.path w.definitions (root_document name uri own) document
    → IsPlainUnder plan.contract plan.rows → MeansItsType draft2020_12 plan.rows plan.contract plan.path n document
root_means plan w n name uri depth own document checked one once root definitions h placed plain =
    let members : Members = members_in (root_document name uri own) in
    let is_schema : IsSchema own = described (basis_of_plan plan) (MayRefer plan w) depth n own h in
    let same : (patterns : Patterns) (f : Text → Judge) → judge (context2020_12 patterns f) document
    ≡ judge (context2020_12 patterns f) own =
    λ patterns f. judge_placed plan.path w.definitions (root_document name uri own) document placed refl patterns f
    ∙ judge-root patterns f name uri own is_schema in
    let P : ℕ → Type 0 = λ i. Describes (basis_of_plan plan) (MayRefer plan w) depth i own in
    let is_root : IsItsRoot plan w document = λ m is. let alike : n ≡ m = cc in
    (own, depth, same, schema_placed plan.path w.definitions members document placed, subst P alike h) in
    let holds : HoldsDefinitions plan.path w.definitions document = holds_placed plan.path w.definitions members document placed in
    let all : AllResolve (resolves document) w.definitions = all_members (λ d. Resolve (resolves document) (references d)) w.definitions
    once (definition_resolved plan w document checked plain one definitions holds is_root) in
    let resolved_own = described_resolved (resolves document) (basis_of_plan plan) (MayRefer plan w)
    (under_rows plan.contract plan.rows plain)
    (refers_resolve plan w document checked plain one definitions holds is_root) depth n own h in
    record {
      accepts_its_values = λ patterns v json followed bounded.
          ap (λ j. j.fits v) (same patterns (follow draft2020_12 document patterns followed))
          ∙ written_accepts plan w document checked plain one definitions holds is_root depth n own (inr h) patterns v json followed
          bounded;
      references_resolve = sym (all_pass-resolve document (references document))
          ∙ resolved_placed plan.path w.definitions members document placed all
          (root_resolved (resolves document) name uri own resolved_own);
    }

plain_literal : (has : Flattened → List Field) (enums : Flattened → List ℕ) (s : Shape) → IsPlainShape (expanded_shape has enums s)
    → HasPlainLiteral s
plain_literal has enums (shape.literal d) h = h
plain_literal has enums s h = tt

plain_notes : (contract : Contract) (rows : List Row) → IsPlainUnder contract rows → HasPlainNotes rows
plain_notes contract rows plain n = by (entry_at rows n) (plain n)
  where
    by : (o : Option Entry) → IsEntryUnder contract rows o → IsNotedEntry o
    by None h = tt
    by (Some e) h = (h.0, plain_literal (flattened_in rows) (part_enums rows) e.shape h.1)

module _ (plan : Plan) (w : Registry) (n : ℕ) (name : Text) (uri : Option Text) (depth : ℕ) (own : Data) (plain : HasPlainNotes plan.rows)
    (R : ℕ → Text → Type 0) (h : Describes (basis_of_plan plan) R depth n own) where
  room : (key : Text) → IsDefinitionsKey key → get_member key (members_in (root_document name uri own)) ≡ None
  room key is = no_definitions_in key is (basis_of_plan plan) R plain name uri depth n own h

  -- at a draft's path definitions can always be placed
  pub root_placed : IsDraftPath plan.path → (document : Data) × (with_definitions plan.path w.definitions (root_document name uri own)
      ≡ Some document) × IsPlaced plan.path w.definitions (root_document name uri own) document
  root_placed draft = placing plan.path w.definitions (members_in (root_document name uri own)) draft room

-- so does what is made of it by placing the definitions
pub root_headline : (plan : Plan) (w : Registry) (n : ℕ) (name : Text) (uri : Option Text) (depth : ℕ) (own document : Data)
    → IsChecked plan.rows → IsOneToOne w.names → HasKeysOnce w.definitions → plan.root ≡ Some n
    → AllStand plan w → Describes (basis_of_plan plan) (MayRefer plan w) depth n own → IsDraftPath plan.path
    → with_definitions plan.path w.definitions (root_document name uri own) ≡ Some document
    → IsPlainUnder plan.contract plan.rows → MeansItsType draft2020_12 plan.rows plan.contract plan.path n document
root_headline plan w n name uri depth own document checked one once root definitions h draft made plain =
    let placed = placed_in plan.path w.definitions (members_in (root_document name uri own)) document draft
    (room plan w n name uri depth own (plain_notes plan.contract plan.rows plain) (MayRefer plan w) h) made in
    root_means plan w n name uri depth own document checked one once root definitions h placed plain

-- so does what a root call makes
pub root_call_means : (old : State) (n : ℕ) (w : Registry) (document : Data) → IsRootOf old n w document → IsChecked old.rows
    → IsOneToOne w.names → HasKeysOnce w.definitions → AllStand (state_plan old (Some n)) w
    → IsDraftPath (state_plan old (Some n)).path
    → IsPlainUnder old.settings.contract old.rows
    → MeansItsType draft2020_12 old.rows old.settings.contract (state_plan old (Some n)).path n document
root_call_means old n w document h checked one once definitions draft =
    let plan = state_plan old (Some n) in
    let depth = h.is_document.0 in
    let described = describes-wider (basis_of_plan plan) (Refers plan true w) (MayRefer plan w) (refers_may plan w true)
    depth depth (omega arith) n h.own (document_describes (basis_of_plan plan) plan.inlines
    (Refers plan true w) [] n h.own h.is_document) in
    root_headline plan w n (name_at old.rows n) old.settings.meta_schema depth h.own document checked one once refl definitions described
    draft h.is_root

-- ---- subschemas

-- a plain table is plain under each contract
pub plain_for : (dialect : Dialect) (contract : Contract) (rows : List Row) → IsPlainFor dialect contract rows
    → IsPlainUnder contract rows
plain_for dialect contract rows (inl plain) = plain_under rows contract plain
plain_for dialect contract rows (inr (reads, plain)) = plain

-- a subschema means its type in each document that holds its definitions
pub subschema_means : (plan : Plan) (w : Registry) (n : ℕ) (free : Bool) (depth : ℕ) (schema document : Data) → IsChecked plan.rows
    → IsOneToOne w.names → plan.root ≡ None → AllStand plan w
    → IsWritten (Refers plan free w) (Describes (basis_of_plan plan) (Refers plan free w) depth) n schema
    → IsPlainUnder plan.contract plan.rows → HoldsDefinitions plan.path w.definitions document
    → MeansItsTypeIn plan.rows plan.contract plan.path n w.definitions document schema
subschema_means plan w n free depth schema document checked one none definitions h plain holds =
    let is_root : IsItsRoot plan w document = λ m is. absurd (let never : None ≡ Some m = sym none ∙ is in cc) in
    let more = refers_may plan w free in
    let wide = written_map (Refers plan free w) (MayRefer plan w) (Describes (basis_of_plan plan) (Refers plan free w)
    depth) (Describes (basis_of_plan plan) (MayRefer plan w) depth) more
    (describes-wider (basis_of_plan plan) (Refers plan free w) (MayRefer plan w) more depth depth (omega arith)) n
    schema h in
    record {
      accepts_its_values = written_accepts plan w document checked plain one definitions holds is_root depth n schema wide;
      references_resolve = sym (all_pass-resolve document (references schema))
          ∙ schema_resolved plan w document checked plain one definitions holds is_root depth n schema wide;
      definitions_resolve = λ name d found. sym (all_pass-resolve document (references d))
          ∙ definition_resolved plan w document checked plain one definitions holds is_root name d found;
    }

pub subschema_headline : (s : State) (n : ℕ) (free : Bool) (schema : Data) → IsChecked s.rows → IsOneToOne s.names
    → HasOwnDefinitions s → IsSubschema (state_plan s None) free (registry_of s) n schema → SubschemaHeadline s n schema
subschema_headline s n free schema checked one definitions h plain known document holding =
    let plan = state_plan s None in
    let written = placed_written (basis_of_plan plan) plan.inlines (Refers plan free (registry_of s)) [] n schema h in
    subschema_means plan (registry_of s) n free written.0 schema document checked one refl
    (λ name d found. stands_now plan (registry_of s) name d (definitions name d found)) written.1
    (plain_for draft2020_12 s.settings.contract s.rows plain) (held plan.path s.definitions document known holding)

-- with null added, a subschema of a plain table accepts under each draft what it accepted, and null
pub subschema_or_null : (s : State) (n : ℕ) (free : Bool) (schema : Data) → IsSubschema (state_plan s None) free (registry_of s) n schema
    → IsPlainTable s.rows → (dialect : Dialect) → IsDraft dialect → AcceptsNullToo dialect schema (allow_null schema)
subschema_or_null s n free schema h plain =
    let plan = state_plan s None in
    let written = placed_written (basis_of_plan plan) plan.inlines (Refers plan free (registry_of s)) [] n schema h in
    written_or_null (basis_of_plan plan) (Refers plan free (registry_of s)) plain written.0 n schema written.1
