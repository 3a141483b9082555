-- Examples that are read one after another.
use Rattle.std.proofs.Common.{◌≡◌, List, [], ◌∷◌, ◌++◌, Option, Some, None, refl, ap, String, Global}
use Rattle.schemagen_input.proofs.Words.{option_map, string_bytes, example_of, examples_view, entries_view, Examples, no_examples, example, Entries, no_entries, entry}
use Rattle.schemars_sample.specs.declared.sample.Sample.{Sample}

-- those that were read stand before the rest
abbrev pub examples_before : List Sample → Examples → Examples
examples_before [] rest = rest
examples_before (x ∷ xs) rest = example (example_of x) (examples_before xs rest)

abbrev pub entries_before : List (String Global × Sample) → Entries → Entries
entries_before [] rest = rest
entries_before (x ∷ xs) rest = entry (string_bytes x.0) (example_of x.1) (entries_before xs rest)

pub all_examples : (xs : List Sample) → examples_before xs no_examples ≡ examples_view xs
all_examples [] = refl
all_examples (x ∷ xs) = ap (example (example_of x)) (all_examples xs)

pub all_entries : (xs : List (String Global × Sample)) → entries_before xs no_entries ≡ entries_view xs
all_entries [] = refl
all_entries (x ∷ xs) = ap (entry (string_bytes x.0) (example_of x.1)) (all_entries xs)

pub examples_before-push : (xs : List Sample) (x : Sample) (rest : Examples)
    → examples_before (xs ++ x ∷ []) rest ≡ examples_before xs (example (example_of x) rest)
examples_before-push [] x rest = refl
examples_before-push (y ∷ xs) x rest = ap (example (example_of y)) (examples_before-push xs x rest)

pub entries_before-push : (xs : List (String Global × Sample)) (x : String Global × Sample) (rest : Entries)
    → entries_before (xs ++ x ∷ []) rest ≡ entries_before xs (entry (string_bytes x.0) (example_of x.1) rest)
entries_before-push [] x rest = refl
entries_before-push (y ∷ xs) x rest = ap (entry (string_bytes y.0) (example_of y.1)) (entries_before-push xs x rest)

-- one more that was read
pub more_examples : (xs : List Sample) (x : Sample) (o : Option Examples)
    → option_map (examples_before (xs ++ x ∷ [])) o ≡ option_map (examples_before xs) (option_map (example (example_of x)) o)
more_examples xs x None = refl
more_examples xs x (Some rest) = ap Some (examples_before-push xs x rest)

pub more_entries : (xs : List (String Global × Sample)) (x : String Global × Sample) (o : Option Entries)
    → option_map (entries_before (xs ++ x ∷ [])) o
    ≡ option_map (entries_before xs) (option_map (entry (string_bytes x.0) (example_of x.1)) o)
more_entries xs x None = refl
more_entries xs x (Some rest) = ap Some (entries_before-push xs x rest)
