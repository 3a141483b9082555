-- A text to which more is written after it, as the newline of a line.
use Rattle.std.proofs.Common.{◌++◌, Option, ap, sym, ◌∙◌, append_assoc}
use Rattle.schemars_text.proofs.Words.{Appends-trans, Appends, Text, AppendsBeginning}

-- a beginning of the text is one of the longer text
pub begun_longer : (old new : Option Text) (text last : Text) → AppendsBeginning old new text → AppendsBeginning old new (text ++ last)
begun_longer old new text last (taken, rest, split, appended) =
    (taken, rest ++ last, ap (λ t. t ++ last) split ∙ append_assoc taken rest last, appended)

-- the text, and then a beginning of what comes after it
pub begun_after : (old middle new : Option Text) (text last : Text) → Appends old middle text → AppendsBeginning middle new last
    → AppendsBeginning old new (text ++ last)
begun_after old middle new text last whole (taken, rest, split, appended) = (
  text ++ taken,
  rest,
  ap (λ t. text ++ t) split ∙ sym (append_assoc text taken rest),
  Appends-trans old middle new text taken whole appended,
)
