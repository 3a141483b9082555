-- What has joined and what the rest becomes is what the whole becomes.
use Rattle.std.proofs.Common.{◌≡◌, map, drop}
use Rattle.schemars_templates.proofs.Words.{finished, filled, left, ask_of, with_answers}
use Rattle.schemars_templates.proofs.template.add_members.Given as goal

abbrev pub invariant-loop-member : goal.invariant-loop-member
invariant-loop-member l = record {
  value : filled (with_answers (finished l.schema) (map ask_of (drop l._member-index l.members))) l.parts.items
      ≡ filled (with_answers (finished l.fn.schema) (map ask_of l.members)) l.fn.parts.items;
  left : left (with_answers (finished l.schema) (map ask_of (drop l._member-index l.members))) l.parts.items
      ≡ left (with_answers (finished l.fn.schema) (map ask_of l.members)) l.fn.parts.items;
}
