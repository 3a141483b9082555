-- Texts in regular expressions.
use Rattle.std.specs.Prelude.{ℕ, ◌==◌, Bool, [], ◌∷◌, ◌++◌, if◌then◌else◌, codes}
use Rattle.std.specs.List.{list_any}
use Rattle.schemars_schema.specs.Json.{Text}

-- these have a meaning of their own in patterns
abbrev pub is_special : ℕ → Bool
is_special b = list_any (λ s. b == s) (codes "\\.+*?()|[]{}^$#&-~")

-- a backslash before each that is special
abbrev pub escaped_byte : ℕ → Text
escaped_byte b = if is_special b then 92 ∷ b ∷ [] else b ∷ []

unfoldable pub escaped : Text → Text
escaped [] = []
escaped (b ∷ bs) = escaped_byte b ++ escaped bs

-- a backslash is removed, and the next byte is kept as it is
unfoldable pub unescaped : Text → Text
unescaped [] = []
unescaped (b ∷ []) = b ∷ []
unescaped (b ∷ c ∷ bs) = if b == 92 then c ∷ unescaped bs else b ∷ unescaped (c ∷ bs)
