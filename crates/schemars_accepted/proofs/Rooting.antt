-- The root document of a type accepts what is written.
use Rattle.std.proofs.Common.{◌≡◌, ℕ, List, Some, Ok, inl, inr, sym, ap, subst, ◌∙◌}
use Rattle.schemars_accepted.proofs.Words.{Data, IsJson, Patterns, verdict, belongs, Row, place_of, IsChecked, IsPlainFor, IsPlainForEach, Dialect, Draft, dialect_of, Settings, stripped, MeansType, IsJoined, Dictionary, TypeRow, IsIn, BelongsUnder, AreAsTold, IsToldIn, follows_told, AcceptsWritten, HasRoot, HasOwnDefinitions, KeepsDefinitions, TransformStep, Generator, IsRootOfType, held_transforms, state, with_rows}
use Rattle.schemars_types.specs.declared.contract.Contract.{Contract}
use Rattle.schemars_types.specs.declared.contract.Contract.TheVariants.{Serialize}
use Rattle.schemars_transform.proofs.Laws.{built_ins_stay}

-- the row of a type that has joined a table describes the type
pub joined_row : (t : TypeRow) (told : Dictionary → Type 0) (R : List Row → ℕ → Type 0) → ((d : Dictionary) → told d → IsIn t d)
    → ((d : Dictionary) (rows : List Row) (n : ℕ) → told d → AreAsTold d.told rows → IsChecked rows → place_of t.id rows ≡ Some n → R rows n)
    → (old new : List Row) (n : ℕ) → IsToldIn told old → IsJoined t old new n → IsChecked new → R new n
joined_row t told R is_in described old new n is joined checked =
    let d = is.dictionary in
    let follows = joined.registered.follows.each d (is_in d is.tells) is.follows in
    described d new n is.tells (follows_told d new follows) checked joined.registered.added.number

-- what a root document leaves, by the clauses of its call
pub has_root : {O : Type 0} (Q : TransformStep O) (t : TypeRow) (old new : Generator O) (document : Data)
    → IsRootOfType Q (held_transforms old) (held_transforms new) t (state old) (state new) document
    → (HasOwnDefinitions (state old) → HasOwnDefinitions (with_rows new.rows (state old)))
    → KeepsDefinitions (with_rows new.rows (state old)) (state new)
    → HasRoot Q (held_transforms old) (held_transforms new) t (state old) (state new) document
has_root Q t old new document root own keeps =
    let (d, (untransformed, (w, is, same)), made) = root.is.made.through in
    record {
      root = root;
      settings = ap (λ s. s.settings) same;
      own = λ before. keeps.own (own before);
      stay = λ none. built_ins_stay Q (held_transforms old).items (held_transforms new).items d document (Ok tt) none made;
    }

-- plain for each dialect is plain for one
pub plain_for_each : (dialect : Dialect) (contract : Contract) (rows : List Row) → IsPlainForEach contract rows → IsPlainFor dialect contract rows
plain_for_each dialect contract rows (inl plain) = inl plain
plain_for_each dialect contract rows (inr (none, plain)) = inr (inr none, plain)

-- a document that means the type accepts what belongs to its row
pub root_accepts : (reading : Patterns → Type 0) (draft : Draft) (t : TypeRow) (s : Settings) (rows : List Row) (n : ℕ) (document v : Data)
    → MeansType draft t s rows document → place_of t.id rows ≡ Some n → IsPlainForEach Serialize rows → s.contract ≡ Serialize
    → BelongsUnder reading rows n v → IsJson v → AcceptsWritten reading draft (stripped s.definitions_path) document v
unfolding MeansType
root_accepts reading draft t s rows n document v means number plain contract belongs_to json patterns takes followed bounded =
    let found : Some means.n ≡ Some n = sym means.number ∙ number in
    let same : means.n ≡ n = cc in
    let here = plain_for_each (dialect_of draft) s.contract rows (subst (λ c. IsPlainForEach c rows) (sym contract) plain) in
    (means.headline here).accepts_its_values patterns v json followed bounded
    ∙ ap verdict (ap (λ c. belongs rows c patterns means.n v) contract ∙ ap (λ k. belongs rows Serialize patterns k v) same
    ∙ belongs_to patterns takes)
