-- None of the keys so far is this one.
use Rattle.std.proofs.Common.{◌≡◌, drop, map}
use Rattle.schemars_text.specs.OrderedText.{is_listed}
use Rattle.schemars_schema.proofs.edits.is_listed.Given as goal

abbrev pub invariant-loop-listed : goal.invariant-loop-listed
invariant-loop-listed l = is_listed l.key (map (λ k. k.now) (drop l.listed-index l.keys)) ≡ is_listed l.key (map (λ k. k.now) l.keys)
