-- What was told, and what is left to tell.
use Rattle.std.proofs.Common.{◌≡◌, string_bytes}
use Rattle.schemars_readable.proofs.Words.{view, members_view, told, with_new, unread_among}
use Rattle.schemars_readable.proofs.unread.add_unread.Given as goal

abbrev pub invariant-loop-keyword : goal.invariant-loop-keyword
invariant-loop-keyword l =
    with_new (told l.unread.items)
    (unread_among l.draft (view l.document) (string_bytes l.schema.pointer) (members_view l.keyword-iterator))
    ≡ with_new (told l.fn.unread.items)
    (unread_among l.draft (view l.document) (string_bytes l.schema.pointer) (members_view l.schema.keywords.now.entries))
