-- Each level of a copy stands for the same data.
use Rattle.std.proofs.Common.{◌≡◌, ◌+◌, [], ◌∷◌, ◌++◌, take, string_bytes, sym, ap, ◌∙◌, arith, rules}
use Rattle.schemagen_json.proofs.Words.{take_more, view, members_view, view-Object, members_view-insert_entry, object, data_of, members_data}
use Rattle.schemagen_json.specs.declared.borrowed_value.BorrowedValue.{Object}
use Rattle.schemagen_json.proofs.Members.{data_of-Object, members_data-push}
use Rattle.schemagen_json.proofs.borrowed_value.copying.+copy.Goals as goal

pub copy-returns-in_ok-copy_members-in-Object : goal.copy-returns-in_ok-copy_members-in-Object
copy-returns-in_ok-copy_members-in-Object t c =
    let copied = c.in_ok-copy_members-in-Object in
    let is : c.args.value.now ≡ Object c.in-Object.members = c.in-Object.is in
    view-Object copied.field-0 ∙ ap object (copied.ensures ∙ ap members_data c.deref-in-Object.ensures.value)
    ∙ sym (data_of-Object c.in-Object.members) ∙ ap data_of (sym is)

pub copy_members-loop-name-preserved : goal.copy_members-loop-name-preserved
copy_members-loop-name-preserved t c =
    let l = c.loop-name in
    let ms = c.args.members.now in
    let m = c.loop-name-item.result in
    let front : take (l.name-index + 1) ms ≡ take l.name-index ms ++ m ∷ [] =
    take_more ms l.name-index m (omega arith) ∙ ap (λ y. take l.name-index ms ++ y ∷ []) (sym c.loop-name-item.is) in
    let named : string_bytes c.in_ok-name.name ≡ m.0.now = search rules in
    let copied : view c.in_ok-copy.field-0 ≡ data_of m.1 = search rules in
    ap members_view c.in_ok-insert.ensures.entries
    ∙ members_view-insert_entry l.copies.entries c.in_ok-name.name c.in_ok-copy.field-0
    ∙ rw (named, copied, l.invariant) (sym (ap members_data front ∙ members_data-push (take l.name-index ms) m))
