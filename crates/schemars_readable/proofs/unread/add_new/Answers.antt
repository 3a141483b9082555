-- A keyword that was told stays, and a new one is added.
use Rattle.std.proofs.Common.{rules, ◌∙◌, refl, ap, string_bytes}
use Rattle.schemars_readable.proofs.Words.{told}
use Rattle.schemars_readable.proofs.Telling.{told_again, told_new}
use Rattle.schemars_readable.proofs.unread.add_new.Goals as goal

pub returns-then-is_told : goal.returns-then-is_told
returns-then-is_told c = told_again c.args.unread.now.items (string_bytes c.args.place) c.args.keyword.now (search rules)

pub returns : goal.returns
returns c =
    ap told c.in_ok-push.ensures.items
    ∙ told_new c.args.unread.now.items _ (string_bytes c.args.place) c.args.keyword.now refl (search rules) (search rules)
