use Rattle.std.proofs.Common.{◌≡◌}
use Rattle.schemars_templates.proofs.Words.{object, members_view, put_members, members_in}
use Rattle.schemars_templates.proofs.finished.annotate.Given as goal

abbrev pub invariant-loop-key : goal.invariant-loop-key
invariant-loop-key l = record {
  is_object : l.schema ≡ object (members_in l.schema);
  left : put_members (members_view l.key-iterator) (members_in l.schema)
      ≡ put_members (members_view l.notes.entries) (members_in l.fn.schema);
}
