use Rattle.std.proofs.Common.{◌≡◌, ◌∷◌, ◌++◌, [], sym, ap, ◌∙◌, rules}
use Rattle.schemars_walk.proofs.Words.{values_mut_rest}
use Rattle.schemars_walk.proofs.Parts.{value_added, none_left, nothing_in}
use Rattle.schemars_walk.proofs.rewrite.take_values.Goals as goal

pub loop-value-init : goal.loop-value-init
loop-value-init c = ap (λ vs. vs ++ values_mut_rest c.into_iter-value-iterator.result) c.in_ok-values.ensures.items ∙ search rules

pub loop-value-preserved : goal.loop-value-preserved
loop-value-preserved c =
    let step : values_mut_rest c.loop-value.value-iterator ≡ c.in-Some.value.now ∷ values_mut_rest c.next.new.self = search rules in
    let pushed : c.push.new.self.items ≡ c.loop-value.values.items ++ c.in-Some.value.now ∷ [] = search rules in
    value_added c.loop-value.values.items c.push.new.self.items c.in-Some.value.now (values_mut_rest c.next.new.self) pushed ∙ ap (λ vs.
    c.loop-value.values.items ++ vs) (sym step) ∙ c.loop-value.invariant

pub returns-clause-values : goal.returns-clause-values
returns-clause-values c =
    let end : values_mut_rest c.loop-value.value-iterator ≡ [] = nothing_in _ (search rules) in
    none_left c.loop-value.values.items ∙ ap (λ vs. c.loop-value.values.items ++ vs) (sym end) ∙ c.loop-value.invariant
