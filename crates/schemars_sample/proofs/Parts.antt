-- What lists and maps are seen as, and one part more of a list.
use Rattle.std.proofs.Common.{◌≡◌, List, [], ◌∷◌, ◌++◌, Option, Some, None, option_map, map, refl, ap, append_assoc, rules, Vec, Global}
use Rattle.schemars_sample.proofs.Words.{Data, view, json_array}
use Rattle.serde_json.specs.declared.value.Value.{Value, Array, the_lemmas}

pub seen_array : (v : Vec Value Global) → view (Array v) ≡ json_array (map view v.items)
seen_array v = search (rules, the_lemmas)

pub one_part : (before : List Data) (d : Data) (rest : Option (List Data))
    → option_map (λ ds. (before ++ d ∷ []) ++ ds) rest ≡ option_map (λ ds. before ++ ds) (option_map (λ ds. d ∷ ds) rest)
one_part before d None = refl
one_part before d (Some ds) = ap Some (append_assoc before (d ∷ []) ds)
