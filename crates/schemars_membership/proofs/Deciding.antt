-- A verdict of a document that means a row decides whether a value belongs to the row.
use Rattle.std.proofs.Common.{rules, ◌≡◌, ◌∙◌, ◌⊎◌, inl, inr, ℕ, ◌<◌, ◌≤◌, Bool, true, false, refl, sym, ap, subst, List, length, arith}
use Rattle.schemars_membership.proofs.Words.{nat_lt, codes, nat_tests, ltb-true, Data, view, draft2020_12, Patterns, accepts, bound, Text, IsJson, verdict, is_yes, belongs, Row, MeansItsType, RootHeadline, State, HasOwnDefinitions, HasPlainNotes, IsAccepted, IsRefused, IsUntransformed, IsTypeDocument, fresh, Accepts, IsOf, dialect_of, AreExpressionsOf, Belongs, IsDocumentRefusal, IsMember, IsOfType, IsRowRefusal}
use Rattle.schemars_types.specs.declared.contract.Contract.{Contract}
use Rattle.schemars_generate.specs.declared.error.GenerateError.{GenerateError}
use Rattle.schemars_generate.specs.declared.error.GenerateError.TheVariants.{OutOfMemory, UnknownType, DefinitionsPath}
use Rattle.schemars_readable.specs.Drafts as paths
use Rattle.schemars_readable.specs.declared.draft.Draft.TheVariants.{Draft2020_12}
use Rattle.schemars_validator.specs.declared.validator.Validator.{Validator}

settled : (b : Bool) → is_yes (verdict b) ≡ b
settled true = refl
settled false = refl

pub decided : (validator : Validator) (rows : List Row) (contract : Contract) (n : ℕ) (v : Data) (answer : Bool)
    → IsOfType validator rows contract n → IsJson v → Accepts validator v answer
    → Belongs validator.expressions.items rows contract n v answer
decided validator rows contract n v answer means json (says, (patterns, read, followed, enough, is), answers) =
    (patterns, read, answers ∙ ap is_yes is ∙ ap is_yes (means.accepts_its_values patterns v json followed enough) ∙ settled _)

-- what is decided from the table and by a document that means the row is the same
pub agreed : (rows : List Row) (contract : Contract) (n : ℕ) (patterns : Patterns) (document v : Data) (by_table by_document : Bool)
    → MeansItsType draft2020_12 rows contract (codes "/$defs") n document → IsJson v
    → by_table ≡ belongs rows contract patterns n v
    → by_document ≡ is_yes (accepts draft2020_12 document patterns (bound (codes "/$defs") document v) document v)
    → by_table ≡ by_document
agreed rows contract n patterns document v by_table by_document means json table answer =
    table ∙ sym (answer ∙ ap is_yes (means.accepts_its_values patterns v json (bound (codes "/$defs") document v) (omega arith)) ∙ settled _)

-- what is known of the error that a generator returns in place of the root document of row n
pub record IsRefusedRow (s : State) (n : ℕ) (e : GenerateError) : Type 0 where
  pub unknown : e ≡ UnknownType n → length s.rows ≤ n
  pub beyond : length s.rows ≤ n → e ≡ UnknownType n
  pub why : (e ≡ UnknownType n) ⊎ IsRefused s n e
  pub plain : HasPlainNotes s.rows → n < length s.rows → e ≡ OutOfMemory

-- a row of an accepted table that a fresh generator refuses
pub row_refused : (rows : List Row) (contract : Contract) (n : ℕ) (e : GenerateError) → IsAccepted rows → IsRefusedRow (fresh rows contract) n e
    → IsDocumentRefusal rows contract n e
row_refused rows contract n e accepted h = inr (accepted, go h.why)
  where
    within : (e ≡ UnknownType n → ⊥) → n < length rows
    within other = below (nat_lt n (length rows)) refl
      where
        below : (b : Bool) → nat_lt n (length rows) ≡ b → n < length rows
        below true is = ltb-true n (length rows) is
        below false is =
            let long : length rows ≤ n = grind (arith, nat_tests) in
            absurd (other (h.beyond long))

    known : IsRefused (fresh rows contract) n e → e ≡ UnknownType n → ⊥
    known (inl is) other = let two : OutOfMemory ≡ UnknownType n = sym is ∙ other in cc
    known (inr (is, cannot)) other = let two : DefinitionsPath ≡ UnknownType n = sym is ∙ other in cc

    go : (e ≡ UnknownType n) ⊎ IsRefused (fresh rows contract) n e → IsRowRefusal rows contract n e
    go (inl is) = inl (is, h.unknown is)
    go (inr why) = let here = within (known why) in inr (here, why, λ plain. h.plain plain here)

-- the root document of a fresh generator
pub type_document : (rows : List Row) (contract : Contract) (n : ℕ) (document : Data) → HasOwnDefinitions (fresh rows contract)
    → RootHeadline draft2020_12 (fresh rows contract) n document → IsUntransformed (fresh rows contract) n document
    → IsTypeDocument rows contract n document
type_document rows contract n document own root made = (root own (search rules), made)

-- a validator of a document that means a row
of_type : (validator : Validator) (rows : List Row) (contract : Contract) (n : ℕ) (document : Data) → IsOf Draft2020_12 document validator
    → MeansItsType draft2020_12 rows contract (codes "/$defs") n document → IsOfType validator rows contract n
of_type validator rows contract n document (same, is) means =
    subst (λ d. MeansItsType (dialect_of d) rows contract (paths.path_of d) n (view validator.document.now)) (sym same)
    (subst (λ d. MeansItsType draft2020_12 rows contract (codes "/$defs") n d) (sym is) means)

pub is_member : (validator : Validator) (rows : List Row) (contract : Contract) (n : ℕ) (v document : Data) (answer : Bool)
    → IsOf Draft2020_12 document validator → MeansItsType draft2020_12 rows contract (codes "/$defs") n document
    → AreExpressionsOf document validator.expressions.items
    → (IsOfType validator rows contract n → Belongs validator.expressions.items rows contract n v answer)
    → IsMember rows contract n v answer
is_member validator rows contract n v document answer is means expressions answers =
    (document, validator.expressions.items, means, expressions, answers (of_type validator rows contract n document is means))
