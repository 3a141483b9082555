-- What was told, and what is left to tell.
use Rattle.std.proofs.Common.{◌≡◌, [], drop}
use Rattle.schemars_readable.proofs.Words.{view, standing, told, with_new, unread_of}
use Rattle.schemars_readable.proofs.unread.unread_in.Given as goal

abbrev pub invariant-loop-schema : goal.invariant-loop-schema
invariant-loop-schema l =
    with_new (told l.unread.items) (unread_of l.draft (view l.document) (standing (drop l.schema-index l.schemas)))
    ≡ with_new [] (unread_of l.draft (view l.document) (standing l.schemas))
