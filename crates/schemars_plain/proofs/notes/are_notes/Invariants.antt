-- The members that are left decide.
use Rattle.schemars_plain.proofs.Words.{◌↔◌, members_view, AreNotes}
use Rattle.schemars_plain.proofs.notes.are_notes.Given as goal

abbrev pub invariant-loop-key : goal.invariant-loop-key
invariant-loop-key l = AreNotes (members_view l.key-iterator) ↔ AreNotes (members_view l.initial.key-iterator)
