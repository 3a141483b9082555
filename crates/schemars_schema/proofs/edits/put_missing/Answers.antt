-- Whether a map has a key, in the words of members.
use Rattle.std.proofs.Common.{◌≡◌, true, false, is_some, sym, ◌∙◌}
use Rattle.schemars_schema.proofs.Words.{get_member, members_view}
use Rattle.schemars_schema.proofs.Changes.{is_there}
use Rattle.schemars_schema.proofs.edits.put_missing.Goals as goal

pub returns-then-contains_key : goal.returns-then-contains_key
returns-then-contains_key c =
    let key = c.args.key.now in
    let entries = c.args.members.now.entries in
    let there : is_some (get_member key (members_view entries)) ≡ true =
    sym (is_there key entries) ∙ (sym c.contains_key.ensures ∙ c.if-contains_key.true) in
    rw there

pub returns : goal.returns
returns c =
    let key = c.args.key.now in
    let entries = c.args.members.now.entries in
    let missing : is_some (get_member key (members_view entries)) ≡ false =
    sym (is_there key entries) ∙ (sym c.contains_key.ensures ∙ c.if-contains_key.false) in
    rw missing c.put.ensures.ok
