-- The references that generators write are names.
use Rattle.std.proofs.Common.{◌≡◌, inr, List, [], ◌∷◌, Option, Some, None, Bool, true, false, codes, refl, ap, ◌∙◌}
use Rattle.schemars_laws.proofs.Words.{IsUtf8, ◌++◌, option_and_then, if◌then◌else◌, Data, object, Members, get_member, pointer, serde_json_on_literals, Text, lookup, encoded, percent_decoded, percent_decoded_bytes, text_of_bytes, pointer-defs, pointer-definitions, plain-defs, plain-definitions, lookup-definition, IsName}

-- a path through what isn't there leads nowhere, whatever its text is decoded to
text-nowhere : (p : Text → Option Data) (bs : List _) → p bs ≡ None → option_and_then p (text_of_bytes bs) ≡ None
text-nowhere p bs none = go _
  where
    go : (b : Bool) → option_and_then p (if b then Some bs else None) ≡ None
    go true = none
    go false = refl

nowhere : (path rest : Text) (ms : Members) → percent_decoded_bytes (path ++ rest) ≡ path ++ percent_decoded_bytes rest
    → pointer (path ++ percent_decoded_bytes rest) (object ms) ≡ None → lookup (codes "#" ++ (path ++ rest)) (object ms) ≡ None
unfolding percent_decoded
nowhere path rest ms decoded missing =
    ap (λ bs. option_and_then (λ p. pointer p (object ms)) (text_of_bytes bs)) decoded
    ∙ text-nowhere (λ p. pointer p (object ms)) (path ++ percent_decoded_bytes rest) missing

missing-defs : (bs : Text) (ms : Members) → get_member (codes "$defs") ms ≡ None → pointer (codes "/$defs/" ++ bs) (object ms) ≡ None
unfolding serde_json_on_literals
missing-defs bs ms none = rw none refl

decoded-defs : (rest : Text) → percent_decoded_bytes (codes "/$defs/" ++ rest) ≡ codes "/$defs/" ++ percent_decoded_bytes rest
unfolding percent_decoded_bytes
decoded-defs [] = refl
decoded-defs (x ∷ []) = refl
decoded-defs (x ∷ y ∷ rest) = refl

nowhere-defs : (rest : Text) (ms : Members) → get_member (codes "$defs") ms ≡ None → lookup (codes "#/$defs/" ++ rest) (object ms) ≡ None
nowhere-defs rest ms none = nowhere (codes "/$defs/") rest ms (decoded-defs rest) (missing-defs (percent_decoded_bytes rest) ms none)

pub defs-name : (k : Text) → IsUtf8 k → IsName (codes "$defs") (codes "#/$defs/" ++ encoded k)
defs-name k text = inr (
  k,
  record {
    there = λ ms es is. lookup-definition (codes "/$defs") k (object ms) es plain-defs (pointer-defs ms (object es) is) text;
    missing = λ ms none. nowhere-defs (encoded k) ms none;
  },
)

missing-definitions : (bs : Text) (ms : Members) → get_member (codes "definitions") ms ≡ None
    → pointer (codes "/definitions/" ++ bs) (object ms) ≡ None
unfolding serde_json_on_literals
missing-definitions bs ms none = rw none refl

decoded-definitions : (rest : Text)
    → percent_decoded_bytes (codes "/definitions/" ++ rest) ≡ codes "/definitions/" ++ percent_decoded_bytes rest
unfolding percent_decoded_bytes
decoded-definitions [] = refl
decoded-definitions (x ∷ []) = refl
decoded-definitions (x ∷ y ∷ rest) = refl

nowhere-definitions : (rest : Text) (ms : Members) → get_member (codes "definitions") ms ≡ None
    → lookup (codes "#/definitions/" ++ rest) (object ms) ≡ None
nowhere-definitions rest ms none =
    nowhere (codes "/definitions/") rest ms (decoded-definitions rest) (missing-definitions (percent_decoded_bytes rest) ms none)

pub definitions-name : (k : Text) → IsUtf8 k → IsName (codes "definitions") (codes "#/definitions/" ++ encoded k)
definitions-name k text = inr (
  k,
  record {
    there = λ ms es is.
        lookup-definition (codes "/definitions") k (object ms) es plain-definitions (pointer-definitions ms (object es) is) text;
    missing = λ ms none. nowhere-definitions (encoded k) ms none;
  },
)
