-- Patterns of ECMA-262 as expressions of the `regex` crate.
use Rattle.std.specs.Prelude.{ℕ, ◌==◌, ◌&&◌, ◌-◌, nat_le, List, [], ◌∷◌, ◌++◌, if◌then◌else◌, codes}
use Rattle.std.specs.Char.{encode_utf8}
use Rattle.std.specs.Str.{chars}
use Rattle.schemars_schema.specs.Json.{Text}
use Rattle.schemars_readable.specs.declared.ecma.Place as place

-- `\s` and its complement, the dot, and a class without members, which is also what its complement excludes
abbrev pub spaces : Text
spaces = codes "[\\t\\n\\x0B\\x0C\\r\\x{FEFF}\\x{2028}\\x{2029}\\p{Zs}]"

abbrev pub no_spaces : Text
no_spaces = codes "[^\\t\\n\\x0B\\x0C\\r\\x{FEFF}\\x{2028}\\x{2029}\\p{Zs}]"

abbrev pub any : Text
any = codes "[^\\n\\r\\x{2028}\\x{2029}]"

abbrev pub none : Text
none = codes "[a&&b]]"

-- what a backslash and a character stand for, but for `\b` and `\B`
abbrev pub escape : ℕ → Text
escape c =
    if c == 100 then codes "[0-9]"
    else if c == 68 then codes "[^0-9]"
    else if c == 119 then codes "[0-9A-Za-z_]"
    else if c == 87 then codes "[^0-9A-Za-z_]"
    else if c == 115 then spaces
    else if c == 83 then no_spaces
    else if c == 48 then codes "\\x00"
    else if c == 47 then codes "/"
    else 92 ∷ encode_utf8 c

-- a character inside a class that is a member of it, or ends a range; a backslash waits for the next one
abbrev pub in_class : ℕ → Text
in_class c =
    if c == 92 then []
    else if c == 91 then codes "\\["
    else if c == 38 then codes "\\&"
    else if c == 126 then codes "\\~"
    else if c == 45 then codes "\\-"
    else encode_utf8 c

-- what a character at a place becomes
abbrev pub written : place.Place → ℕ → Text
written place.TheVariants.Outside c = if c == 92 then [] else if c == 46 then any else encode_utf8 c
written place.TheVariants.Start c = if c == 93 then none else in_class c
written place.TheVariants.Negated c = if c == 93 then none else in_class c
written place.TheVariants.Member c = if c == 45 then codes "-" else in_class c
written place.TheVariants.Range c = in_class c
written place.TheVariants.Ended c = in_class c
written (place.TheVariants.EndDigits n) c = encode_utf8 c
written place.TheVariants.EndBraces c = encode_utf8 c
written place.TheVariants.Escaped c =
    if c == 98 then codes "(?-u:\\b)" else if c == 66 then codes "(?-u:\\B)" else escape c
written place.TheVariants.EscapedMember c = if c == 98 then codes "\\x08" else escape c
written place.TheVariants.EscapedEnd c = if c == 98 then codes "\\x08" else escape c

-- Where the next character stands. A `-` after a member makes a range, which the next member ends; anywhere else it is a member. The
-- digits of a code that ends a range belong to it.
abbrev pub after_member : ℕ → place.Place
after_member c =
    if c == 92 then place.TheVariants.EscapedMember else if c == 93 then place.TheVariants.Outside else place.TheVariants.Member

abbrev pub after : place.Place → ℕ → place.Place
after place.TheVariants.Outside c =
    if c == 92 then place.TheVariants.Escaped else if c == 91 then place.TheVariants.Start else place.TheVariants.Outside
after place.TheVariants.Start c = if c == 94 then place.TheVariants.Negated else after_member c
after place.TheVariants.Negated c = after_member c
after place.TheVariants.Member c = if c == 45 then place.TheVariants.Range else after_member c
after place.TheVariants.Range c =
    if c == 92 then place.TheVariants.EscapedEnd else if c == 93 then place.TheVariants.Outside else place.TheVariants.Ended
after place.TheVariants.Ended c = after_member c
after (place.TheVariants.EndDigits n) c =
    if (n == 4) && (c == 123) then place.TheVariants.EndBraces
    else if nat_le n 1 then place.TheVariants.Ended
    else place.TheVariants.EndDigits (n - 1)
after place.TheVariants.EndBraces c = if c == 125 then place.TheVariants.Ended else place.TheVariants.EndBraces
after place.TheVariants.Escaped c = place.TheVariants.Outside
after place.TheVariants.EscapedMember c = place.TheVariants.Member
after place.TheVariants.EscapedEnd c =
    if c == 120 then place.TheVariants.EndDigits 2 else if c == 117 then place.TheVariants.EndDigits 4 else place.TheVariants.Ended

-- a backslash at the end stays
abbrev pub at_end : place.Place → Text
at_end place.TheVariants.Outside = []
at_end place.TheVariants.Start = []
at_end place.TheVariants.Negated = []
at_end place.TheVariants.Member = []
at_end place.TheVariants.Range = []
at_end place.TheVariants.Ended = []
at_end (place.TheVariants.EndDigits n) = []
at_end place.TheVariants.EndBraces = []
at_end place.TheVariants.Escaped = codes "\\"
at_end place.TheVariants.EscapedMember = codes "\\"
at_end place.TheVariants.EscapedEnd = codes "\\"

abbrev pub written_from : place.Place → List ℕ → Text
written_from p [] = []
written_from p (c ∷ cs) = written p c ++ written_from (after p c) cs

abbrev pub place_after : place.Place → List ℕ → place.Place
place_after p [] = p
place_after p (c ∷ cs) = place_after (after p c) cs

-- the expression of a pattern
unfoldable pub expression_of : Text → Text
expression_of pattern =
    written_from place.TheVariants.Outside (chars pattern) ++ at_end (place_after place.TheVariants.Outside (chars pattern))
