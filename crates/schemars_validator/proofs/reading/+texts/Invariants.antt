-- The texts so far, and those that are left.
use Rattle.std.proofs.Common.{◌≡◌, ◌++◌, drop, map}
use Rattle.schemars_validator.proofs.Words.{items_view, members_view, texts_in_items, texts_in_members}
use Rattle.schemars_validator.proofs.reading.+texts.Given as goal

abbrev pub invariant-add_in_items-loop-item : goal.invariant-add_in_items-loop-item
invariant-add_in_items-loop-item l =
    map (λ t. t.now) l.texts.items ++ texts_in_items (items_view (drop l.item-index l.items.items))
    ≡ map (λ t. t.now) l.fn.texts.items ++ texts_in_items (items_view l.items.items)

abbrev pub invariant-add_in_members-loop-name : goal.invariant-add_in_members-loop-name
invariant-add_in_members-loop-name l =
    map (λ t. t.now) l.texts.items ++ texts_in_members (members_view l.name-iterator)
    ≡ map (λ t. t.now) l.fn.texts.items ++ texts_in_members (members_view l.members.entries)
