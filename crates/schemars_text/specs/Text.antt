-- Texts.
use Rattle.std.specs.Prelude.{ℕ, List}

-- a text, as its UTF-8 bytes
abbrev pub Text : Type 0
Text = List ℕ
