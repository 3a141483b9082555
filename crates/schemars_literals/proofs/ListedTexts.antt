-- What the texts of a literal say of a key.
use Rattle.std.proofs.Common.{◌≡◌, List, [], Option, Some, None, Bool, true, false, sym, ap, ◌∙◌}
use Rattle.std.proofs.Math.Bool.{or-false}
use Rattle.schemars_literals.proofs.Words.{Items, is_listed, Text, holds_text, Patterns, when, are_texts, texts_of, texts_found, holds_listed, KeyOptions, keys, any_text, texts_options, said, any_said}

abbrev options : Option (List Text) → KeyOptions
options o = elim o [ Some ts ↦ keys false ts None [] | None ↦ any_text ]

found_options : (ds : Items) (b : Bool) → are_texts ds ≡ b → texts_options ds ≡ options (when b (texts_of ds))
found_options ds b is = ap options (texts_found ds ∙ ap (λ b. when b (texts_of ds)) is)

pub listed_says : (patterns : Patterns) (key : Text) (ds : Items) → are_texts ds ≡ true
    → record { found = holds_text key ds; integers = None } ≡ said patterns key (texts_options ds)
listed_says patterns key ds texts =
    ap (λ (b : Bool). record { found = b; integers = None }) (holds_listed key ds ∙ sym (or-false (is_listed key (texts_of ds))))
    ∙ sym (ap (said patterns key) (found_options ds true texts))

pub unlisted_says : (patterns : Patterns) (key : Text) (ds : Items) → are_texts ds ≡ false → any_said ≡ said patterns key (texts_options ds)
unlisted_says patterns key ds others = sym (ap (said patterns key) (found_options ds false others))
