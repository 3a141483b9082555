-- What is flattened into the variants changes none of their names.
use Rattle.std.proofs.Common.{map, subst, sym, true≢false}
use Rattle.schemars_plain.proofs.Words.{IfOk-weaker, IsTrue}
use Rattle.schemars_plain.proofs.Named.{distinct_spread}
use Rattle.schemars_plain.proofs.table.are_named_and_plain.Goals as goal

pub returns-then-not-is_distinct : goal.returns-then-not-is_distinct
returns-then-not-is_distinct g c =
    let spread = distinct_spread c.args.types.now (map g.V.AnyVariant.says c.args.variants.now) in (
      λ t. absurd (true≢false (sym t)),
      λ p. subst IsTrue c.if-not-is_distinct.true (c.in_ok-is_distinct.ensures.1 (spread.1 p.0)),
    )

pub returns : goal.returns
returns g c =
    let spread = distinct_spread c.args.types.now (map g.V.AnyVariant.says c.args.variants.now) in
    let distinct = spread.0 (c.in_ok-is_distinct.ensures.0 c.if-not-is_distinct.false) in
    IfOk-weaker c.are_plain_variants.result _ _ (λ b plain. (λ t. (distinct, plain.0 t), λ p. plain.1 p.1)) c.are_plain_variants.ensures
