-- Titles and descriptions in documentation.
use Rattle.std.specs.Prelude.{ℕ, ◌-◌, ◌==◌, Bool, false, [], ◌∷◌, if◌then◌else◌, length, take, drop}
use Rattle.std.specs.Char.{is_ascii_whitespace}
use Rattle.std.specs.List.{prefix_len, suffix_len, before_first, after_first}
use Rattle.schemars_schema.specs.Json.{Text}

-- without white space at the start, at the end, and at both
abbrev pub trimmed_start : Text → Text
trimmed_start t = drop (prefix_len is_ascii_whitespace t) t

abbrev pub trimmed_end : Text → Text
trimmed_end t = take (length t - suffix_len is_ascii_whitespace t) t

abbrev pub trimmed : Text → Text
trimmed t = trimmed_end (trimmed_start t)

-- `#` and a line's end
abbrev pub is_mark : ℕ → Bool
is_mark b = b == 35

abbrev pub ends_line : ℕ → Bool
ends_line b = b == 10

abbrev pub is_headed : Text → Bool
is_headed [] = false
is_headed (b ∷ bs) = is_mark b

abbrev pub without_marks : Text → Text
without_marks t = drop (prefix_len is_mark t) t

-- of a text without white space around it: its first line is the title, where it is headed
abbrev pub title_of : Text → Text
title_of t = if is_headed t then trimmed (without_marks (before_first ends_line t)) else []

abbrev pub description_of : Text → Text
description_of t = if is_headed t then trimmed (after_first ends_line t) else t

-- ---- the whole

abbrev pub title_in : Text → Text
title_in doc = title_of (trimmed doc)

abbrev pub description_in : Text → Text
description_in doc = description_of (trimmed doc)
