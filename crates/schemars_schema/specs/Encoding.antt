-- Names in the fragment of a reference (RFC 3986, section 3.5), as tokens of a JSON Pointer (RFC 6901, section 6).
use Rattle.std.specs.Prelude.{ℕ, ◌+◌, ◌-◌, ◌*◌, ◌/◌, ◌%◌, ◌&&◌, ◌||◌, ◌==◌, nat_le, nat_lt, List, [], ◌∷◌, ◌++◌, Bool, false, if◌then◌else◌, Option, Some, None, option_and_then, length}
use Rattle.std.specs.Str.Lossy.{utf8_valid_len}
use Rattle.serde_json.specs.Data.{Data}
use Rattle.serde_json.specs.Find.{pointer}
use Rattle.schemars_schema.specs.Json.{Text}

abbrev pub is_between : ℕ → ℕ → ℕ → Bool
is_between a b n = nat_le a n && nat_le n b

-- `0` to `9`, `A` to `F`, `a` to `f`
abbrev pub is_hex_digit : ℕ → Bool
is_hex_digit n = is_between 48 57 n || (is_between 65 70 n || is_between 97 102 n)

abbrev pub hex_value : ℕ → ℕ
hex_value n = if nat_le n 57 then n - 48 else (if nat_le n 70 then n - 55 else n - 87)

-- `%` and two hexadecimal digits are one byte; every other byte stays
unfoldable pub percent_decoded_bytes : List ℕ → List ℕ
percent_decoded_bytes [] = []
percent_decoded_bytes (x ∷ []) = x ∷ []
percent_decoded_bytes (x ∷ y ∷ []) = x ∷ y ∷ []
percent_decoded_bytes (x ∷ y ∷ z ∷ rest) =
    if x == 37 && (is_hex_digit y && is_hex_digit z) then (16 * hex_value y + hex_value z) ∷ percent_decoded_bytes rest else
    x ∷ percent_decoded_bytes (y ∷ z ∷ rest)

abbrev pub text_of_bytes : List ℕ → Option Text
text_of_bytes bs = if utf8_valid_len bs == length bs then Some bs else None

-- none where the bytes are no UTF-8
unfoldable pub percent_decoded : Text → Option Text
percent_decoded s = text_of_bytes (percent_decoded_bytes s)

-- the bytes begin with `%` and two hexadecimal digits
abbrev pub begins_escape : List ℕ → Bool
begins_escape [] = false
begins_escape (x ∷ []) = false
begins_escape (x ∷ y ∷ []) = false
begins_escape (x ∷ y ∷ z ∷ rest) = x == 37 && (is_hex_digit y && is_hex_digit z)

-- such bytes occur somewhere
abbrev pub has_escape : List ℕ → Bool
has_escape [] = false
has_escape (x ∷ rest) = begins_escape (x ∷ rest) || has_escape rest

-- `!`, `$`, `&` to `;` without `/`, `=`, `?` to `Z`, `_`, `a` to `z`
abbrev pub stays : ℕ → Bool
stays b = b == 33 || (b == 36 || (is_between 38 46 b || (is_between 48 59 b ||
    (b == 61 || (is_between 63 90 b || (b == 95 || is_between 97 122 b))))))

-- `0` to `9`, `A` to `F`
abbrev pub hex_digit : ℕ → ℕ
hex_digit n = if nat_lt n 10 then 48 + n else 55 + n

-- `~` becomes `~0` and `/` becomes `~1`; a byte that cannot occur in a fragment becomes `%` and two digits
abbrev pub encoded_byte : ℕ → Text
encoded_byte b =
    if b == 126 then 126 ∷ 48 ∷ []
    else (if b == 47 then 126 ∷ 49 ∷ []
    else (if stays b then b ∷ [] else 37 ∷ hex_digit (b / 16) ∷ hex_digit (b % 16) ∷ []))

-- a name as a token in a fragment
unfoldable pub encoded : Text → Text
encoded [] = []
encoded (b ∷ bs) = encoded_byte b ++ encoded bs

-- what a reference leads to: `#` and a pointer, percent-encoded
abbrev pub lookup : Text → Data → Option Data
lookup [] document = None
lookup (x ∷ rest) document = if x == 35 then option_and_then (λ p. pointer p document) (percent_decoded rest) else None
