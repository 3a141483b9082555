-- A walk of what is left, after the calls so far, is a walk of the whole.
use Rattle.std.proofs.Common.{◌+◌, ◌*◌, take, drop, ◌++◌, string_cmp}
use Rattle.schemars_walk.proofs.Words.{IsStrictlySortedBy, keys_of, Items, Members, items_view, members_view, place_under, Answer, EachItem, EachMember, AtSchema, AtPlace, Visited}
use Rattle.schemars_walk.proofs.Walks.{then_items, then_members, levels}
use Rattle.schemars_walk.proofs.walk.+walk.Given as goal

abbrev pub decreases-walk : goal.decreases-walk
decreases-walk g l = 8 * levels l.reach + 6

abbrev pub decreases-walk_keywords : goal.decreases-walk_keywords
decreases-walk_keywords g l = 8 * levels l.reach + 5

abbrev pub decreases-walk_place : goal.decreases-walk_place
decreases-walk_place g l = 8 * levels l.reach + 4

abbrev pub decreases-walk_items : goal.decreases-walk_items
decreases-walk_items g l = 8 * levels l.reach + 3

abbrev pub decreases-walk_names : goal.decreases-walk_names
decreases-walk_names g l = 8 * levels l.reach + 3

abbrev pub decreases-walk_schema : goal.decreases-walk_schema
decreases-walk_schema g l = 8 * levels l.reach + 2

abbrev pub decreases-visit : goal.decreases-visit
decreases-visit g l = 8 * levels l.reach + 1

abbrev pub invariant-walk_items-loop-item : goal.invariant-walk_items-loop-item
invariant-walk_items-loop-item g l =
    (r : Answer) (u : _) (es : Items) → EachItem (AtSchema (Visited g.T.Transform.makes l.reach)) l.t (items_view (drop l.item-index
    l.items)) r u es
    → EachItem (AtSchema (Visited g.T.Transform.makes l.reach)) l.fn.t (items_view l.fn.items) r u (then_items (items_view (take
    l.item-index l.items)) es)

abbrev pub invariant-walk_keywords-loop-key : goal.invariant-walk_keywords-loop-key
invariant-walk_keywords-loop-key g l = record {
  sorted : IsStrictlySortedBy string_cmp (keys_of (l.members.entries ++ l.key-iterator));
  goes_on : (r : Answer) (u : _) (es : Members) → EachMember (λ k. AtPlace (place_under k) (Visited g.T.Transform.makes l.reach)) l.t
      (members_view l.key-iterator) r u es
      → EachMember (λ k. AtPlace (place_under k) (Visited g.T.Transform.makes l.reach)) l.fn.t (members_view l.fn.members.entries) r u
      (then_members (members_view l.members.entries) es);
}

abbrev pub invariant-walk_names-loop-key : goal.invariant-walk_names-loop-key
invariant-walk_names-loop-key g l = record {
  sorted : IsStrictlySortedBy string_cmp (keys_of (l.members.entries ++ l.key-iterator));
  goes_on : (r : Answer) (u : _) (es : Members) → EachMember (λ k. AtSchema (Visited g.T.Transform.makes l.reach)) l.t (members_view
      l.key-iterator) r u es
      → EachMember (λ k. AtSchema (Visited g.T.Transform.makes l.reach)) l.fn.t (members_view l.fn.members.entries) r u (then_members
      (members_view l.members.entries) es);
}
