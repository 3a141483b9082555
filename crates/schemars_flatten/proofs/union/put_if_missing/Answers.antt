-- The entry has the value that was there, or else the new one.
use Rattle.std.proofs.Common.{◌≡◌, string_cmp, string_bytes, ap, ◌∙◌, rules}
use Rattle.schemars_flatten.proofs.Words.{insert_entry, put, members_view, members_view-insert_entry}
use Rattle.schemars_flatten.proofs.PutIn.{view-entry_or}
use Rattle.schemars_flatten.proofs.union.put_if_missing.Goals as goal

pub returns : goal.returns
returns c =
    let entries = c.args.members.now.entries in
    let name = c.args.name in
    let put_in : _ ≡ insert_entry string_cmp entries name c.or_insert.result.now = search rules in
    ap members_view put_in
    ∙ (members_view-insert_entry entries name c.or_insert.result.now
    ∙ ap (λ d. put (string_bytes name) d (members_view entries))
    (view-entry_or name entries _ c.args.value c.or_insert.result.now c.in_ok-members.ensures.value
    c.or_insert.ensures.value))
