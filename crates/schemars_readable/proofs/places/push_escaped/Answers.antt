-- One character more, and then no character more.
use Rattle.std.proofs.Common.{◌≡◌, ◌++◌, chars, sym, ap, ◌∙◌, map-id, append-nil, append_assoc, string_bytes}
use Rattle.schemars_readable.proofs.Words.{YieldsList-from_chars, YieldsList-end, escaped_characters}
use Rattle.schemars_readable.proofs.Following.{escaped-more}
use Rattle.schemars_readable.proofs.places.push_escaped.Goals as goal

pub loop-c-init : goal.loop-c-init
loop-c-init c = sym (append-nil (string_bytes c.args.whole.now))

pub loop-c-preserved : goal.loop-c-preserved
loop-c-preserved c = rw (escaped-more, ← append_assoc, ← c.loop-c.invariant) c.in_ok-push_character.ensures

pub returns : goal.returns
returns c =
    let done = YieldsList-end (YieldsList-from_chars c.args.name.now c.utf8.name cc) c.loop-c.yielded _
    c.loop-c.yielded_by _ _ c.in-None.is c.next.ensures.steps in
    let all : c.loop-c.yielded ≡ chars c.args.name.now = sym (map-id c.loop-c.yielded) ∙ done.0 in
    c.loop-c.invariant ∙ ap (λ cs. string_bytes c.args.whole.now ++ escaped_characters cs) all
