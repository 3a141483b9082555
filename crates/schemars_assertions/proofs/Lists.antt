-- The number of items, and of members.
use Rattle.std.proofs.Common.{◌≡◌, List, length}
use Rattle.serde_json.specs.declared.value.Value.{Value}
use Rattle.schemars_assertions.proofs.Words.{items_len, members_len, items_view, members_view, Entry, items_len-items_view, members_len-members_view}

pub items_counted : (vs : List Value) → items_len (items_view vs) ≡ length vs
items_counted vs = items_len-items_view vs

pub members_counted : (es : List Entry) → members_len (members_view es) ≡ length es
members_counted es = members_len-members_view es
