-- `prefixItems` and `items` moved, call by call.
use Rattle.std.proofs.Common.{◌≡◌, Some, codes, ap, ◌∙◌}
use Rattle.schemars_transform.proofs.Words.{Data, object, get, get_member, members_in, inserted, removed, prefix_as_items}

pub both_moved : (s p i without once twice : Data) → Some p ≡ get (codes "prefixItems") s → without ≡ removed (codes "prefixItems") s
    → once ≡ inserted (codes "items") p without → Some i ≡ get_member (codes "items") (members_in without)
    → twice ≡ inserted (codes "additionalItems") i once → twice ≡ prefix_as_items s
both_moved (object ms) p i without once twice prefix gone first old second =
    let there : Some i ≡ get (codes "items") (removed (codes "prefixItems") (object ms)) = old ∙ ap (λ d. get_member (codes "items")
    (members_in d)) gone in
    let e : twice ≡ inserted (codes "additionalItems") i (inserted (codes "items") p (removed (codes "prefixItems") (object ms))) =
    second ∙ ap (inserted (codes "additionalItems") i) (first ∙ ap (inserted (codes "items") p) gone) in
    rw (← prefix) (rw (← there) e)
both_moved _ p i without once twice prefix gone first old second = cc
