use Rattle.std.proofs.Common.{◌∙◌, ap, sym, None, Bool}
use Rattle.schemars_literals.proofs.Words.{items_view}
use Rattle.schemars_literals.proofs.ListedTexts.{listed_says, unlisted_says}
use Rattle.schemars_literals.proofs.literal_keys.listed_say.Goals as goal

pub returns-then-are_texts : goal.returns-then-are_texts
returns-then-are_texts c = λ patterns.
    c.found_said.ensures
    ∙ (ap (λ (b : Bool). record { found = b; integers = None }) c.holds_text.ensures
    ∙ listed_says patterns c.args.key.now (items_view c.args.values.now) (sym c.are_texts.ensures ∙ c.if-are_texts.true))

pub returns-else-are_texts : goal.returns-else-are_texts
returns-else-are_texts c = λ patterns.
    c.any_said.ensures
    ∙ unlisted_says patterns c.args.key.now (items_view c.args.values.now) (sym c.are_texts.ensures ∙ c.if-are_texts.false)
