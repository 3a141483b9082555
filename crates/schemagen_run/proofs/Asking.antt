-- Words that a run knows, for those who make them.
use Rattle.std.proofs.Common.{◌≡◌, refl, ap, ◌∙◌, List, [], ◌∷◌, Bool, map, codes, String, Global, string_bytes}
use Rattle.schemagen_run.proofs.Vocabulary.{Text, IsDialect, AreFlagsFor, AskForTypes, AskForSample}
use Rattle.schemars_types.specs.declared.contract.Contract.{Contract}
use Rattle.schemagen_run.specs.declared.words.Dialect.TheVariants.{Draft2020_12, Draft2019_09, Draft07, OpenApi3}

pub names_2020_12 : IsDialect (codes "2020-12")
names_2020_12 = (Draft2020_12, refl)

pub names_2019_09 : IsDialect (codes "2019-09")
names_2019_09 = (Draft2019_09, refl)

pub names_draft_07 : IsDialect (codes "draft-07")
names_draft_07 = (Draft07, refl)

pub names_openapi3 : IsDialect (codes "openapi3")
names_openapi3 = (OpenApi3, refl)

-- `types`, a dialect and flags
pub ask_for_types : (words : List (String Global)) (word : Text) (flags : List Text) (contract : Contract) (inlines : Bool) → IsDialect word
    → AreFlagsFor contract inlines flags → map string_bytes words ≡ codes "types" ∷ word ∷ flags → AskForTypes words
ask_for_types words word flags contract inlines (dialect, is) are same =
    (record { dialect = dialect; contract = contract; inlines = inlines }, (word, flags, (is, are), same))

-- `sample` and a dialect
pub ask_for_sample : (words : List (String Global)) (word : Text) → IsDialect word
    → map string_bytes words ≡ codes "sample" ∷ word ∷ [] → AskForSample words
ask_for_sample words word (dialect, is) same = (dialect, same ∙ ap (λ (t : Text). codes "sample" ∷ t ∷ []) is)
