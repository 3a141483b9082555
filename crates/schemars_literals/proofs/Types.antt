-- The types that a literal names.
use Rattle.std.proofs.Common.{◌≡◌, true, false, ap}
use Rattle.schemars_literals.proofs.Words.{option_and_then, Data, array, Items, when, is_of_some_type, are_type_names, types_in, is_of_types, are_texts, texts_of, texts_found}

types_listed : (ds : Items) → types_in (array ds) ≡ option_and_then (λ ts. when (are_type_names ts) ts) (when (are_texts ds) (texts_of ds))
types_listed ds = ap (option_and_then (λ ts. when (are_type_names ts) ts)) (texts_found ds)

pub types_there : (ds : Items) (v : Data) → are_texts ds ≡ true → are_type_names (texts_of ds) ≡ true
    → is_of_types (array ds) v ≡ is_of_some_type (texts_of ds) v
types_there ds v texts names = rw (types_listed ds, texts, names)

pub no_texts : (ds : Items) (v : Data) → are_texts ds ≡ false → is_of_types (array ds) v ≡ true
no_texts ds v texts = rw (types_listed ds, texts)

pub no_types : (ds : Items) (v : Data) → are_texts ds ≡ true → are_type_names (texts_of ds) ≡ false → is_of_types (array ds) v ≡ true
no_types ds v texts names = rw (types_listed ds, texts, names)
