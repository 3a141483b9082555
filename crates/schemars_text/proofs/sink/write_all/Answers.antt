-- Each write moves the front of the rest to what has been taken.
use Rattle.std.proofs.Common.{◌≡◌, ℕ, ◌-◌, List, ◌++◌, length, take, drop, sym, ap, ◌∙◌, append_assoc, take-append-drop}
use Rattle.schemars_text.proofs.Words.{take_rest, Appends-trans}
use Rattle.schemars_text.proofs.sink.write_all.Goals as goal

front_moves : (all taken rest : List ℕ) (n : ℕ) → all ≡ taken ++ rest → all ≡ (taken ++ take n rest) ++ take (length rest - n) (drop n rest)
front_moves all taken rest n split =
    let cut = sym (take-append-drop n rest) in
    let whole = sym (take_rest rest n) in
    split ∙ ap (λ l. taken ++ l) cut ∙ sym (append_assoc taken (take n rest) (drop n rest)) ∙ ap (λ l. (taken ++ take n rest) ++ l) whole

pub loop-rest-preserved : goal.loop-rest-preserved
loop-rest-preserved g c =
    let before = c.loop-rest.invariant in
    let n = c.in_ok-count.count in
    let rest = c.loop-rest.rest.now in
    record {
      taken = before.taken ++ take n rest;
      split = front_moves _ before.taken rest n before.split;
      appended = Appends-trans _ _ _ _ _ before.appended c.in_ok-count.ensures.bytes;
      sound = λ _. sym c.in_ok-count.ensures.failed;
    }
