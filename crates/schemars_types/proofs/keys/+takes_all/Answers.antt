use Rattle.std.proofs.Common.{◌<◌, ◌∙◌, refl, ap, sym, arith, rules}
use Rattle.schemars_types.proofs.Words.{◌==◌, is_none, is_some, SameValueEdge, rank, all_options}
use Rattle.schemars_shapes.specs.declared.shape.Shape.TheVariants as src
use Rattle.schemars_types.proofs.Adding.{external_takes, internal_takes, adjacent_takes, untagged_takes, literal_takes, other_leaves}
use Rattle.schemars_types.proofs.Settling.{all_options-none}
use Rattle.schemars_types.proofs.Shapes.{of_shape, edge_of_shape}
use Rattle.schemars_types.proofs.keys.+takes_all.Goals as goal

pub returns-in_default : goal.returns-in_default
returns-in_default t c = ap is_none (sym (all_options-none c.args.types.now c.args.n (sym c.in_default.ensures)))

pub takes_all-requires : goal.takes_all-requires
takes_all-requires t c =
    let rows = c.args.types.now in
    let edge : SameValueEdge rows c.args.n c.in-Newtype.m = edge_of_shape rows c.requires c.args.n c.in-Some.entry.now
    c.in-Some.ensures (src.Newtype c.in-Newtype.m) c.in-Newtype.is c.in-Newtype.m (0, omega arith, refl) in
    let falls : rank rows c.in-Newtype.m < rank rows c.args.n = c.requires.rank_falls c.args.n c.in-Newtype.m edge in
    (search rules, c.requires)

pub returns-in-Any : goal.returns-in-Any
returns-in-Any t c =
    ap is_none (sym (of_shape c.args.types.now c.requires c.args.n c.in-Some.entry.now c.in-Some.ensures src.Any c.in-Any.is))

pub returns-in-Newtype : goal.returns-in-Newtype
returns-in-Newtype t c =
    let own = of_shape c.args.types.now c.requires c.args.n c.in-Some.entry.now c.in-Some.ensures
    (src.Newtype c.in-Newtype.m) c.in-Newtype.is in
    c.takes_all.ensures ∙ ap is_none (sym own)

pub returns-in-External : goal.returns-in-External
returns-in-External t c =
    let own = of_shape c.args.types.now c.requires c.args.n c.in-Some.entry.now c.in-Some.ensures
    (src.External c.in-External.variants) c.in-External.is in
    c.is_empty.ensures ∙ (ap (λ n. n == 0) (omega (arith, c.in-External.variants.ok.0))
    ∙ (external_takes c.in-External.variants.items ∙ ap is_none (sym own)))

pub returns-in-Internal : goal.returns-in-Internal
returns-in-Internal t c =
    let own = of_shape c.args.types.now c.requires c.args.n c.in-Some.entry.now c.in-Some.ensures
    (src.Internal c.in-Internal.internal) c.in-Internal.is in
    c.is_empty-in-Internal.ensures ∙ (ap (λ n. n == 0) (omega (arith, c.in-Internal.internal.variants.ok.0))
    ∙ (internal_takes c.in-Internal.internal.variants.items ∙ ap is_none (sym own)))

pub returns-in-Adjacent : goal.returns-in-Adjacent
returns-in-Adjacent t c =
    let own = of_shape c.args.types.now c.requires c.args.n c.in-Some.entry.now c.in-Some.ensures
    (src.Adjacent c.in-Adjacent.adjacent) c.in-Adjacent.is in
    c.is_empty-in-Adjacent.ensures ∙ (ap (λ n. n == 0) (omega (arith, c.in-Adjacent.adjacent.variants.ok.0))
    ∙ (adjacent_takes c.in-Adjacent.adjacent.variants.items ∙ ap is_none (sym own)))

pub returns-in-Untagged : goal.returns-in-Untagged
returns-in-Untagged t c =
    let own = of_shape c.args.types.now c.requires c.args.n c.in-Some.entry.now c.in-Some.ensures
    (src.Untagged c.in-Untagged.variants) c.in-Untagged.is in
    c.is_empty-in-Untagged.ensures ∙ (ap (λ n. n == 0) (omega (arith, c.in-Untagged.variants.ok.0))
    ∙ (untagged_takes (all_options c.args.types.now) c.in-Untagged.variants.items ∙ ap is_none (sym own)))

pub returns-in-Literal : goal.returns-in-Literal
returns-in-Literal t c =
    let own = of_shape c.args.types.now c.requires c.args.n c.in-Some.entry.now c.in-Some.ensures
    (src.Literal c.in-Literal.schema) c.in-Literal.is in
    c.is_some.ensures ∙ (ap is_some c.as_bool.ensures ∙ (literal_takes c.in-Literal.schema ∙ ap is_none (sym own)))

pub returns-in_default-shape : goal.returns-in_default-shape
returns-in_default-shape t c =
    let e = c.in-Some.entry.now in
    let other = c.in_default-shape in
    let own = of_shape c.args.types.now c.requires c.args.n e c.in-Some.ensures e.shape refl in
    sym (ap is_none own ∙ other_leaves (all_options c.args.types.now) e.shape other.not-Any other.not-Newtype
    other.not-External other.not-Internal other.not-Adjacent other.not-Untagged other.not-Literal)
