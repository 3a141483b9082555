-- One byte more.
use Rattle.std.proofs.Common.{◌≡◌, ◌<◌, ◌+◌, ℕ, List, ◌∷◌, [], ◌++◌, length, get_or, take, sym, ◌∙◌, ap₂, arith}
use Rattle.schemars_text.proofs.Words.{take_more, flat_map_more, escape, escape_byte}
use Rattle.schemars_text.proofs.gathered.plain_len.Goals as goal

plain_more : (text : List ℕ) (i : ℕ) → i < length text → escape (take i text) ≡ take i text
    → escape_byte (get_or text i 0) ≡ get_or text i 0 ∷ [] → escape (take (i + 1) text) ≡ take (i + 1) text
plain_more text i within same here =
    rw (take_more text i 0 within)
    (sym (flat_map_more escape_byte [] (take i text) (get_or text i 0)) ∙ ap₂ (λ (a b : List ℕ). a ++ b) same here)

pub loop-len-preserved : goal.loop-len-preserved
loop-len-preserved c = record {
  within = omega arith;
  same = plain_more c.args.text.now c.loop-len.len c.loop-len-test.true c.loop-len.invariant.same
      (rw c.if-is_plain.true at c.is_plain.ensures);
}
