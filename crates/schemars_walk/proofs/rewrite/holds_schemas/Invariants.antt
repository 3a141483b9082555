use Rattle.serde_json.specs.View.{members_view}
use Rattle.schemars_walk.specs.Parts.{all_unread}
use Rattle.schemars_walk.proofs.rewrite.holds_schemas.Given as goal

abbrev pub invariant-loop-key : goal.invariant-loop-key
invariant-loop-key g l = all_unread (g.R.Rule.rules.place l.rule) (members_view l.key-iterator)
    → all_unread (g.R.Rule.rules.place l.rule) (members_view l.fn.members.entries)
