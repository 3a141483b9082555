use Rattle.std.proofs.Common.{arith, ap, sym, ◌∙◌, refl, ◌+◌, length}
use Rattle.schemars_build.proofs.Words.{is_used}
use Rattle.schemars_build.proofs.NamingLemmas.{not_all_used}
use Rattle.schemars_build.proofs.names.Names.first_unused.Goals as goal

pub returns-then-not-is_used : goal.returns-then-not-is_used
returns-then-not-is_used c = record {
  behind = refl;
  small = omega (arith, c.loop-tries-test.true, c.len-tries-end.ensures.small);
  first = record {
    tries = c.loop-tries.tries;
    is_candidate = c.in_ok-name.ensures;
    is_unused = ap (λ name. is_used name c.args.self.now) (sym c.as_str.ensures.value) ∙ sym c.if-not-is_used.ensures;
    earlier_are_used = c.loop-tries.invariant;
    few = omega (arith, c.loop-tries-test.true, c.len-tries-end.ensures.len);
  };
}

pub unreachable-requires : goal.unreachable-requires
unreachable-requires c = not_all_used c.args.self.now c.args.base.now (length c.args.self.now + 1) (omega arith)
    (omega (arith, c.len-tries-end.ensures.small, c.len-tries-end.ensures.len))
    (λ j less. c.loop-tries.invariant j (omega (arith, less, c.len-tries-end.ensures.len, c.loop-tries-test.false)))
