-- A front that stands for itself, and the escape of the byte after it.
use Rattle.std.proofs.Common.{◌++◌, take, refl, [], ap, ◌∙◌}
use Rattle.schemars_text.proofs.Becomings.{adds_then, adds_nothing}
use Rattle.schemars_text.proofs.Escapes.{cut_at, escaped_front, escaped_more}
use Rattle.schemars_text.proofs.gathered.Gathered.put_escaped.Goals as goal

pub loop-rest-init : goal.loop-rest-init
loop-rest-init g c = record { written = []; split = refl; adds = adds_nothing _ _ _ _; after = refl }

pub loop-rest-preserved-in-Some : goal.loop-rest-preserved-in-Some
loop-rest-preserved-in-Some g c =
    let before = c.loop-rest.invariant in
    let rest = c.loop-rest.rest.now in
    let n = c.plain_len-stop.result in
    let same = c.plain_len-stop.ensures.same in
    let front = adds_then _ _ _ _ _ _ _ _ _ _ _ _ _ _ before.adds c.put.ensures.adds in
    let cut = cut_at rest n ∙ ap (λ l. take n rest ++ l) c.in-Some.ensures.cases.0 in
    record {
      written = (before.written ++ take n rest) ++ take c.escape_of-len.result.1 c.escape_of-len.result.0;
      split = rw c.escape_of-len.ensures.value
          (escaped_more before.written (take n rest) c.in-Some.after.now rest c.args.text.now c.in-Some.byte.now same cut before.split);
      adds = adds_then _ _ _ _ _ _ _ _ _ _ _ _ _ _ front c.put-in-Some.ensures.adds;
      after = c.put-in-Some.ensures.after ∙ c.put.ensures.after ∙ before.after;
    }

pub loop-rest-preserved : goal.loop-rest-preserved
loop-rest-preserved g c =
    let before = c.loop-rest.invariant in
    let rest = c.loop-rest.rest.now in
    let n = c.plain_len-stop.result in
    record {
      written = before.written ++ take n rest;
      split = escaped_front before.written (take n rest) _ rest c.args.text.now c.plain_len-stop.ensures.same (cut_at rest n) before.split;
      adds = adds_then _ _ _ _ _ _ _ _ _ _ _ _ _ _ before.adds c.put.ensures.adds;
      after = c.put.ensures.after ∙ before.after;
    }
