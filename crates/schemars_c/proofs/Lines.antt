-- A line for words, of which something weaker holds.
use Rattle.std.proofs.Common.{ℕ, List, String, inl, inr}
use Rattle.std.specs.declared.alloc.Global.{Global}
use Rattle.schemars_c.proofs.Vocabulary.{Text, IsLineFor}

pub line_weaker : (words : List (String Global)) (bytes : List ℕ) (P Q : Text → Type 0) → ((line : Text) → P line → Q line)
    → IsLineFor words bytes P → IsLineFor words bytes Q
line_weaker words bytes P Q f (inl (asked, asks, of)) =
    inl (asked, asks, (of.0, (of.1.0, (of.1.1.0, of.1.1.1, of.1.1.2, of.1.1.3, f of.1.1.0 of.1.1.4))))
line_weaker words bytes P Q f (inr (dialect, asks, of)) =
    inr (dialect, asks, (of.0, (of.1.0, of.1.1, of.1.2, f of.1.0 of.1.3)))
