-- One character more, and then no character more.
use Rattle.std.proofs.Common.{rules, ◌≡◌, ◌++◌, chars, sym, ap, ◌∙◌, map-id}
use Rattle.schemars_readable.proofs.Words.{YieldsList-from_chars, YieldsList-end, expression_of, written_from, place_after, at_end}
use Rattle.schemars_readable.specs.declared.ecma.Place.TheVariants.{Outside}
use Rattle.schemars_readable.proofs.Translated.{written-more, place-more}
use Rattle.schemars_readable.proofs.ecma.expression_of.Goals as goal

pub loop-c-preserved : goal.loop-c-preserved
loop-c-preserved c = (
  rw (written-more, ← c.loop-c.invariant.0, ← c.loop-c.invariant.1) c.in_ok-push_written.ensures,
  rw (place-more, ← c.loop-c.invariant.1) (search rules),
)

pub returns : goal.returns
unfolding expression_of
returns c =
    let done = YieldsList-end (YieldsList-from_chars c.args.pattern.now c.utf8.pattern cc) c.loop-c.yielded _
    c.loop-c.yielded_by _ _ c.in-None.is c.next.ensures.steps in
    let all : c.loop-c.yielded ≡ chars c.args.pattern.now = sym (map-id c.loop-c.yielded) ∙ done.0 in
    c.in_ok-push_end.ensures
    ∙ ap (λ t. t ++ at_end c.loop-c.place) c.loop-c.invariant.0
    ∙ ap (λ p. written_from Outside c.loop-c.yielded ++ at_end p) c.loop-c.invariant.1
    ∙ ap (λ cs. written_from Outside cs ++ at_end (place_after Outside cs)) all
