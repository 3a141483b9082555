-- The keys that are left decide.
use Rattle.std.proofs.Common.{◌≡◌, drop}
use Rattle.schemars_assertions.proofs.Words.{items_view, members_view, have_all, texts_of}
use Rattle.schemars_assertions.proofs.keys.have_all.Given as goal

abbrev pub invariant-loop-key : goal.invariant-loop-key
invariant-loop-key l =
    have_all (texts_of (items_view (drop l.key-index l.keys))) (members_view l.members.entries)
    ≡ have_all (texts_of (items_view l.keys)) (members_view l.members.entries)
