-- One character more, and no character more.
use Rattle.std.proofs.Common.{◌≡◌, List, ℕ, encode_utf8_all, chars, sym, ap, ◌∙◌, map-id, append-nil}
use Rattle.schemars_builders.proofs.Words.{IsUtf8, map, YieldsList-from_chars, YieldsList-end, encodes-append, encodes-chars, Text, escaped, unescaped}
use Rattle.schemars_builders.proofs.Escapes.{escaped-append, unescaped-escaped}
use Rattle.schemars_builders.proofs.pattern.escape.Goals as goal

-- all characters were escaped
whole : (text pattern : Text) (yielded : List ℕ) → IsUtf8 text → pattern ≡ escaped (encode_utf8_all yielded)
    → map (λ c. c) yielded ≡ chars text → pattern ≡ escaped text
whole text pattern yielded utf8 so_far all =
    so_far
    ∙ (ap (λ cs. escaped (encode_utf8_all cs)) (sym (map-id yielded) ∙ all) ∙ ap escaped (encodes-chars text utf8))

pub loop-character-init : goal.loop-character-init
unfolding escaped
loop-character-init c = c.new-pattern.ensures.bytes

pub loop-character-preserved : goal.loop-character-preserved
loop-character-preserved c =
    rw (encodes-append, escaped-append, ← c.loop-character.invariant, append-nil) c.in_ok-push_escaped.ensures

pub returns-clause-escaped : goal.returns-clause-escaped
returns-clause-escaped c =
    let done = YieldsList-end (YieldsList-from_chars c.args.text.now c.utf8.text cc) c.loop-character.yielded _
    c.loop-character.yielded_by _ _ c.in-None.is c.next.ensures.steps in
    whole c.args.text.now _ c.loop-character.yielded c.utf8.text c.loop-character.invariant done.0

pub returns-clause-law : goal.returns-clause-law
returns-clause-law c =
    let done = YieldsList-end (YieldsList-from_chars c.args.text.now c.utf8.text cc) c.loop-character.yielded _
    c.loop-character.yielded_by _ _ c.in-None.is c.next.ensures.steps in
    ap unescaped (whole c.args.text.now _ c.loop-character.yielded c.utf8.text c.loop-character.invariant done.0)
    ∙ unescaped-escaped c.args.text.now
