use Rattle.std.proofs.Common.{◌≡◌, ◌∙◌, ◌+◌, ◌-◌, ◌∷◌, List, Some, suc, sym, ap, map, drop, arith}
use Rattle.schemars_belonging.proofs.Words.{drop_more, variant_of, payload_of, options_within, members_options, member_options, external_options, Said, said_of, said_by}
use Rattle.schemars_shapes.specs.declared.variant.Variant as src
use Rattle.schemars_belonging.proofs.KeyOptions.{none_within, some_row, no_row, joined, one_joined}
use Rattle.schemars_belonging.proofs.keys.+keys.Goals as goal

pub row_says-returns-then-steps-eq0 : goal.row_says-returns-then-steps-eq0
row_says-returns-then-steps-eq0 g t c =
    let rows = c.args.types.now in
    let says = said_by (g.P.Patterns.reading c.args.patterns.now) c.args.key.now in
    ap Some c.any_said.ensures
    ∙ sym (ap says (ap (λ k. options_within rows k c.args.n) c.if-steps-eq0.true ∙ none_within rows c.args.n))

pub row_says-returns-in-Some : goal.row_says-returns-in-Some
row_says-returns-in-Some g t c =
    let rows = c.args.types.now in
    let says = said_by (g.P.Patterns.reading c.args.patterns.now) c.args.key.now in
    let one : suc (c.args.steps - 1) ≡ c.args.steps = omega arith in
    c.shape_says.ensures ∙ sym (ap says (some_row rows c.args.steps (c.args.steps - 1) c.args.n _ one c.in-Some.ensures))

pub row_says-returns-in-None : goal.row_says-returns-in-None
row_says-returns-in-None g t c =
    let rows = c.args.types.now in
    let says = said_by (g.P.Patterns.reading c.args.patterns.now) c.args.key.now in
    let one : suc (c.args.steps - 1) ≡ c.args.steps = omega arith in
    ap Some c.any_said-in-None.ensures ∙ sym (ap says (no_row rows c.args.steps (c.args.steps - 1) c.args.n one c.in-None.ensures))

pub shape_says-returns-in-External : goal.shape_says-returns-in-External
shape_says-returns-in-External g t c =
    let patterns = g.P.Patterns.reading c.args.patterns.now in
    rw c.in-External.is (c.external_says.ensures patterns
    ∙ ap (λ (xs : List src.Variant). said_by patterns c.args.key.now (external_options (map variant_of xs))) c.deref.ensures.value)

pub members_say-loop-variant-preserved : goal.members_say-loop-variant-preserved
members_say-loop-variant-preserved g t c =
    let patterns = g.P.Patterns.reading c.args.patterns.now in
    let key = c.args.key.now in
    let part = options_within c.args.types.now c.args.steps in
    let i = c.loop-variant.variant-index in
    let rest = members_options part (map variant_of (drop (i + 1) c.args.variants.now)) in
    let before = said_of c.loop-variant.says in
    ap (λ (s : Said). joined s (said_by patterns key rest)) c.either_said-says.ensures
    ∙ (one_joined patterns key before (said_of c.in-Some.more) (member_options part
    (payload_of c.variant-item.result.payload)) rest c.in-Some.ensures
    ∙ (sym (ap (λ (xs : List src.Variant). joined before (said_by patterns key (members_options part (map variant_of xs))))
    (drop_more c.args.variants.now i c.variant-item.result c.loop-variant-test.true
    ∙ ap (λ (x : src.Variant). x ∷ drop (i + 1) c.args.variants.now) (sym c.variant-item.is)))
    ∙ c.loop-variant.invariant))
