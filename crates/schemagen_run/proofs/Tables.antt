-- What the generator asks of a table holds of each input, and what it answers is the root document of a row.
use Rattle.std.proofs.Common.{◌≡◌, ◌≢◌, ◌⊎◌, ◌↔◌, ◌<◌, ◌≤◌, ℕ, codes, nat_lt, List, [], length, Bool, true, false, ◌&&◌, Some, refl, ap, ◌∙◌, subst, sym, inl, inr, Result, Ok, Err, IfOk, IfErr, arith}
use Rattle.schemagen_run.proofs.Vocabulary.{ltb-true, Data, Members, no_members, has_float, Row, IsAccepted, draft2020_12, draft2019_09, draft07, Draft, dialect_of, some_own, made_by, IsMadeBy, HasFault, Headline, IsDraftPath, CannotPlace, IsPlainFor, openapi3, HasPlainNotes, HasNoFloat, TransformStep, IsDefinitionsRefusal, Generator, Transforms, generator_over, settings_of, state, IsUntransformed, IsRefused, State, stripped, path_of, HasOwnDefinitions, components, transforms_openapi3, is_complete, is_table, settings_for, transforms_of_dialect, fresh, Means, IsWrittenDocument, IsUnplaced, IsRefusal, settings_of_dialect, AreTakenAt, AreTaken, AreDefinitionsOf}
use Rattle.schemars_types.specs.declared.contract.Contract.{Contract}
use Rattle.schemars_headline.specs.Drafts as drafts
use Rattle.schemars_transform.specs.declared.gen_transform.GenTransform.{GenTransform}
use Rattle.schemars_transform.specs.declared.no_transform.NoTransform.{NoTransform}
use Rattle.schemagen_run.specs.declared.words.Asked.{Asked}
use Rattle.schemagen_run.specs.declared.words.Dialect.{Dialect}
use Rattle.schemagen_run.specs.declared.words.Dialect.TheVariants.{Draft2020_12, Draft2019_09, Draft07, OpenApi3}
use Rattle.schemars_generate.specs.declared.error.GenerateError.{GenerateError}
use Rattle.schemars_generate.specs.declared.error.GenerateError.TheVariants.{OutOfMemory, UnknownType, DefinitionsPath}
use Rattle.schemars_generate.specs.declared.settings.SchemaSettings.{SchemaSettings}

pub both : (a b : Bool) → a && b ≡ true → (a ≡ true) × (b ≡ true)
both true b e = (refl, e)
both false b e = cc

-- ---- the root

pub root_is_within : (rows : List Row) (root : ℕ) → is_table rows root ≡ true → root < length rows
root_is_within rows root table = ltb-true root (length rows) (both (is_complete rows) (nat_lt root (length rows)) table).1

-- ---- kinds of refusals

is_faulty : {U : Type 0} (rows : List Row) (e f : GenerateError) → (e ≡ OutOfMemory) ⊎ HasFault rows e → f ≡ e
    → (f ≡ OutOfMemory) ⊎ HasFault rows f ⊎ U
is_faulty rows e f (inl memory) same = inl (same ∙ memory)
is_faulty rows e f (inr fault) same = inr (inl (subst (HasFault rows) (sym same) fault))

of_three : {A B C : Type 0} → A ⊎ C → A ⊎ B ⊎ C
of_three (inl a) = inl a
of_three (inr c) = inr (inr c)

of_two : {A B C : Type 0} → A ⊎ (B × C) → A ⊎ B
of_two (inl a) = inl a
of_two (inr (b, c)) = inr b

-- ---- a generator over the table

pub fresh_of : (g : Generator NoTransform) (settings : SchemaSettings NoTransform) (asked : Asked) (rows : List Row)
    → settings_of settings ≡ settings_for asked → g ≡ generator_over settings rows → state g ≡ fresh asked rows
fresh_of g settings asked rows same made =
    ap state made ∙ ap (λ s. record { settings = s; rows = rows; names = []; definitions = no_members }) same

pub has_own_definitions : (asked : Asked) (rows : List Row) → HasOwnDefinitions (fresh asked rows)
has_own_definitions asked rows name d there = cc

pub none_own : (dialect : Dialect) → some_own (transforms_of_dialect dialect) ≡ false
none_own Draft2020_12 = refl
none_own Draft2019_09 = refl
none_own Draft07 = refl
none_own OpenApi3 = refl

-- what stands for the words
abbrev asks : Dialect → Contract → Bool → Asked
asks dialect contract inlines = record { dialect = dialect; contract = contract; inlines = inlines }

-- what holds of the draft of a dialect
pub for_draft : (draft other : Draft) (P : Draft → Type 0) → Some draft ≡ Some other → P draft → P other
for_draft draft other P is h = let same : draft ≡ other = cc in subst P same h

means : (dialect : Dialect) (c : Contract) (inlines : Bool) (rows : List Row) (root : ℕ) (d document : Data)
    → IsUntransformed (fresh (asks dialect c inlines) rows) root d → document ≡ made_by (transforms_of_dialect dialect) d
    → Means dialect rows c root document
means Draft2020_12 c inlines rows root d document told same draft is =
    for_draft drafts.Draft2020_12 draft (λ x. Headline (dialect_of x) rows c (codes "/$defs") root document) is
    (subst (Headline draft2020_12 rows c (codes "/$defs") root) (sym same)
    (told.headlines drafts.Draft2020_12 (has_own_definitions (asks Draft2020_12 c inlines) rows) (inl refl)))
means Draft2019_09 c inlines rows root d document told same draft is =
    for_draft drafts.Draft2019_09 draft (λ x. Headline (dialect_of x) rows c (codes "/$defs") root document) is
    (subst (Headline draft2019_09 rows c (codes "/$defs") root) (sym same)
    (told.headlines drafts.Draft2019_09 (has_own_definitions (asks Draft2019_09 c inlines) rows) (inl refl)))
means Draft07 c inlines rows root d document told same draft is =
    for_draft drafts.Draft07 draft (λ x. Headline (dialect_of x) rows c (codes "/definitions") root document) is
    (subst (Headline draft07 rows c (codes "/definitions") root) (sym same)
    (told.headlines drafts.Draft07 (has_own_definitions (asks Draft07 c inlines) rows) (inr refl)))
means OpenApi3 c inlines rows root d document told same draft is = cc

-- what the transforms make of a document of which R holds, and that they leave numbers whole
abbrev pub IsMadeWhole : List (GenTransform NoTransform) → (Data → Type 0) → Data → Type 0
IsMadeWhole ts R document = IsMadeBy ts R document × (((d : Data) → R d → has_float d ≡ false) → has_float document ≡ false)

-- what the generator answers is the root document of the row
pub is_document : {E : Type 0} (r : Result Data E) (s : State) (asked : Asked) (rows : List Row) (root : ℕ)
    (ts : List (GenTransform NoTransform)) → s ≡ fresh asked rows → ts ≡ transforms_of_dialect asked.dialect
    → (some_own ts ≡ false → IfOk r (IsMadeWhole ts (IsUntransformed s root))) → IfOk r (IsWrittenDocument asked rows root)
is_document (Err e) s asked rows root ts same is made = tt
is_document (Ok document) s asked rows root ts same is made =
    let ((d, told, of), whole) = made (ap some_own is ∙ none_own asked.dialect) in
    let there : (e : Data) → IsUntransformed s root e → IsUntransformed (fresh asked rows) root e =
    λ e. subst (λ (t : State). IsUntransformed t root e) same in
    let here = there d told in
    let by : document ≡ made_by (transforms_of_dialect asked.dialect) d =
    of ∙ ap (λ (xs : List (GenTransform NoTransform)). made_by xs d) is in (
      (d, here.last, by),
      means asked.dialect asked.contract asked.inlines rows root d document here by,
      λ none. whole (λ e made_here. (there e made_here).whole none (has_own_definitions asked rows)),
    )

draft_path : (dialect : Dialect) (c : Contract) (inlines : Bool) (rows : List Row) → dialect ≢ OpenApi3
    → IsDraftPath (path_of (fresh (asks dialect c inlines) rows))
draft_path Draft2020_12 c inlines rows draft = inl refl
draft_path Draft2019_09 c inlines rows draft = inl refl
draft_path Draft07 c inlines rows draft = inr refl
draft_path OpenApi3 c inlines rows draft = absurd (draft refl)

-- it refuses if out of memory, or where there is no place for the definitions
is_refused : {A : Type 0} (r : Result A GenerateError) (s : State) (asked : Asked) (rows : List Row) (root : ℕ)
    → is_table rows root ≡ true → IsAccepted rows → s ≡ fresh asked rows
    → ((r ≡ Err (UnknownType root)) ↔ (length s.rows ≤ root))
    → IfErr r (λ e. (e ≡ UnknownType root) ⊎ IsRefused s root e)
    → IfErr r (λ e. (e ≡ OutOfMemory) ⊎ ((e ≡ DefinitionsPath) × IsUnplaced asked rows root))
is_refused (Ok d) s asked rows root table accepted same unknown why = tt
is_refused (Err e) s asked rows root table accepted same unknown (inr (inl memory)) = inl memory
is_refused (Err e) s asked rows root table accepted same unknown (inl is) =
    let past : length s.rows ≤ root = unknown.0 (ap Err is) in
    let as_many : length s.rows ≡ length rows = ap (λ (t : State). length t.rows) same in
    absurd (omega (arith, past, as_many, root_is_within rows root table))
is_refused (Err e) s asked rows root table accepted same unknown (inr (inr (is, cannot))) =
    inr (is, (accepted, subst (λ (t : State). CannotPlace t root) same cannot))

-- where the notes of rows are annotations, memory is all that it may want
wants_only_memory : {P : Type 0} (s : State) (asked : Asked) (rows : List Row) (root : ℕ) → asked.dialect ≢ OpenApi3
    → is_table rows root ≡ true → s ≡ fresh asked rows
    → (HasPlainNotes s.rows → IsDraftPath (path_of s) → root < length s.rows → P) → HasPlainNotes rows → P
wants_only_memory {P} s asked rows root draft table same only plain =
    let here : HasPlainNotes rows → IsDraftPath (path_of (fresh asked rows)) → root < length rows → P =
    subst (λ (t : State). HasPlainNotes t.rows → IsDraftPath (path_of t) → root < length t.rows → P) same only in
    here plain (draft_path asked.dialect asked.contract asked.inlines rows draft) (root_is_within rows root table)

-- why it answers no document
pub is_refusal : {A : Type 0} (r : Result A GenerateError) (s : State) (asked : Asked) (rows : List Row) (root : ℕ) → asked.dialect ≢ OpenApi3
    → is_table rows root ≡ true → IsAccepted rows → s ≡ fresh asked rows
    → ((r ≡ Err (UnknownType root)) ↔ (length s.rows ≤ root))
    → IfErr r (λ e. (e ≡ UnknownType root) ⊎ IsRefused s root e)
    → (HasPlainNotes s.rows → IsDraftPath (path_of s) → root < length s.rows → IfErr r (λ e. e ≡ OutOfMemory))
    → IfErr r (IsRefusal asked rows root)
is_refusal (Ok d) s asked rows root draft table accepted same unknown why only = tt
is_refusal (Err e) s asked rows root draft table accepted same unknown why only =
    let told = is_refused (Err e) s asked rows root table accepted same unknown why in
    record {
      refused = of_three told;
      unfaulty = λ _. of_two told;
      only_memory = λ _ plain. wants_only_memory s asked rows root draft table same only plain;
    }

-- the table's own refusal, or out of memory
pub faulty_refusal : (asked : Asked) (rows : List Row) (root : ℕ) (e : GenerateError) → (e ≡ OutOfMemory) ⊎ HasFault rows e
    → (IsAccepted rows → e ≡ OutOfMemory) → IsRefusal asked rows root e
faulty_refusal asked rows root e why only = record {
  refused = is_faulty rows e e why refl;
  unfaulty = λ accepted. inl (only accepted);
  only_memory = λ accepted _. only accepted;
}

pub memory_refusal : (asked : Asked) (rows : List Row) (root : ℕ) (e : GenerateError) → e ≡ OutOfMemory → IsRefusal asked rows root e
memory_refusal asked rows root e memory = record {
  refused = inl memory;
  unfaulty = λ _. inl memory;
  only_memory = λ _ _. memory;
}

-- why it answers no text of definitions for a row that it has
pub definitions_refusal : (s : State) (root : ℕ) (ts : Transforms NoTransform) (Q : TransformStep NoTransform) (e : GenerateError)
    → root < length s.rows → some_own ts.items ≡ false → IsDefinitionsRefusal Q ts s root e → (e ≡ UnknownType root → length s.rows ≤ root)
    → e ≡ OutOfMemory
definitions_refusal s root ts Q e known none (inl memory) unknown = memory
definitions_refusal s root ts Q e known none (inr (inl is)) unknown = absurd (omega (arith, unknown is, known))
definitions_refusal s root ts Q e known none (inr (inr h)) unknown = h.3.only_memory none

-- the definitions that the generator takes are those that a part for the row leads to
pub are_definitions : (s : State) (asked : Asked) (rows : List Row) (root : ℕ) (ts : List (GenTransform NoTransform)) (taken : Members)
    → asked.dialect ≡ OpenApi3 → s ≡ fresh asked rows → ts ≡ transforms_of_dialect asked.dialect → AreTaken ts s root taken
    → AreDefinitionsOf asked rows root taken
are_definitions s asked rows root ts taken dialect same is made = (
  now,
  at,
  λ plain. there.2 refl (own (has_own_definitions asked rows)) (ap path_of held ∙ path asked dialect)
      (subst (λ (t : State). IsPlainFor openapi3 t.settings.contract t.rows) (sym held) plain),
  λ none. there.3 (subst HasNoFloat (sym (ap (λ (t : State). t.rows) held)) none) (own (has_own_definitions asked rows)),
)
  where
    path : (asked : Asked) → asked.dialect ≡ OpenApi3 → path_of (fresh asked rows) ≡ components
    path asked same = ap (λ d. stripped (settings_of_dialect d).definitions_path) same

    these : ts ≡ transforms_openapi3
    these = is ∙ ap transforms_of_dialect dialect

    there : AreTaken transforms_openapi3 (fresh asked rows) root taken
    there =
        subst (λ (xs : List (GenTransform NoTransform)). AreTaken xs (fresh asked rows) root taken) these
        (subst (λ (t : State). AreTaken ts t root taken) same made)

    now : State
    now = there.0

    at : AreTakenAt transforms_openapi3 (fresh asked rows) root now taken
    at = there.1

    held : now ≡ record (fresh asked rows) { names = now.names; definitions = now.definitions }
    held = at.2

    own : HasOwnDefinitions (fresh asked rows) → HasOwnDefinitions now
    own = at.4
