-- The texts of a literal with a pattern are those of the pattern.
use Rattle.std.proofs.Common.{◌≡◌, [], ◌∷◌, Some, None, false, codes, refl, sym, ap, ◌∙◌, option_map, option_and_then}
use Rattle.schemars_types.proofs.Words.{Data, as_str, get, Text, keys, literal_texts}
use Rattle.schemars_types.proofs.keys.add_literal_texts.Goals as goal

by_pattern : (d : Data) (p : Text) → option_and_then as_str (get (codes "pattern") d) ≡ Some p
    → literal_texts d ≡ keys false [] None (p ∷ [])
by_pattern d p found = rw (found, literal_texts) refl

pub returns-in-Some : goal.returns-in-Some
returns-in-Some c =
    let found = sym c.text_at.ensures ∙ ap (option_map (λ t. t.now)) c.in-Some.is in
    rw (by_pattern c.args.schema.now c.in-Some.pattern.now found) c.add_pattern.ensures
