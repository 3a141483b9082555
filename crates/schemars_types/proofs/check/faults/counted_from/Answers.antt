-- What the closure keeps, counted from there.
use Rattle.std.proofs.Common.{◌≡◌, ◌-◌, ◌∙◌, length, map, filter, nat_le, ap, rules, arith}
use Rattle.schemars_types.proofs.Words.{filter_same, with_items_is}
use Rattle.schemars_types.proofs.check.faults.counted_from.Goals as goal

pub returns : goal.returns
returns c =
    let kept : c.retain.new.self.items ≡ filter (nat_le c.args.from) c.args.numbers.items =
    filter_same _ _ _ (λ x b f' k. search rules) _ _ c.retain.ensures.filtered in
    with_items_is c.retain.new.self c.count_from.new.numbers
    (omega (arith, c.count_from.auto.numbers, ap length c.deref_mut.ensures.value, c.retain.new.self.ok.0))
    ∙ (c.count_from.ensures ∙ ap (map (λ n. n - c.args.from)) (c.deref_mut.ensures.value ∙ kept))
