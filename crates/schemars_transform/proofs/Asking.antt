-- What values need, call by call.
use Rattle.std.proofs.Common.{◌≡◌, ℕ, ◌+◌, ◌<◌, ◌≤◌, Bool, List, length, get_or, drop, refl, sym, ap, ◌∙◌}
use Rattle.schemars_transform.proofs.Words.{◌==◌, Data, object, Items, no_items, item, Members, no_members, member, view, items_view, members_view, Entry, members_len-members_view, Text, from_here, needed, needed_by_items, needed_by_names, needed_by_keywords}
use Rattle.serde_json.specs.declared.value.Value.{Value}
use Rattle.schemars_text.proofs.Lists.{nothing_left as none_left}
use Rattle.schemars_transform.specs.declared.needs.Needs.{Needs}

-- one turn: what the first member needs has been noted
pub keyword_done : (alone : Bool) (k : Text) (d : Data) (ms : Members) (now next : Needs)
    → next ≡ needed_by_keywords alone (member k d no_members) now
    → needed_by_keywords alone ms next ≡ needed_by_keywords alone (member k d ms) now
unfolding needed_by_keywords
keyword_done alone k d ms now next e = ap (needed_by_keywords alone ms) e

pub nothing_left : (alone : Bool) (n : Needs) → needed_by_keywords alone no_members n ≡ n
unfolding needed_by_keywords
nothing_left alone n = refl

pub name_done : (k : Text) (d : Data) (ms : Members) (now next : Needs) → next ≡ (needed d now).as_schema
    → needed_by_names ms next ≡ needed_by_names (member k d ms) now
unfolding needed_by_names
name_done k d ms now next e = ap (needed_by_names ms) e

pub no_names_left : (n : Needs) → needed_by_names no_members n ≡ n
unfolding needed_by_names
no_names_left n = refl

item_done : (d : Data) (ds : Items) (now next : Needs) → next ≡ (needed d now).as_schema
    → needed_by_items ds next ≡ needed_by_items (item d ds) now
unfolding needed_by_items
item_done d ds now next e = ap (needed_by_items ds) e

no_items_left : (n : Needs) → needed_by_items no_items n ≡ n
unfolding needed_by_items
no_items_left n = refl

pub items_turn : (xs : List Value) (i : ℕ) (x : Value) (all now next : Needs) → i < length xs → x ≡ get_or xs i x
    → next ≡ (needed (view x) now).as_schema
    → needed_by_items (items_view (drop i xs)) now ≡ all → needed_by_items (items_view (drop (i + 1) xs)) next ≡ all
items_turn xs i x all now next within is step before =
    item_done (view x) (items_view (drop (i + 1) xs)) now next step
    ∙ ap (λ ds. needed_by_items ds now) (sym (from_here xs i x within is)) ∙ before

pub items_end : (xs : List Value) (i : ℕ) (all now : Needs) → length xs ≤ i
    → needed_by_items (items_view (drop i xs)) now ≡ all → now ≡ all
items_end xs i all now end before =
    sym (no_items_left now) ∙ ap (λ ds. needed_by_items ds now) (sym (none_left xs i end)) ∙ before

-- an object needs what its keywords need
pub object_done : (es : List Entry) (many : ℕ) (now next : Needs) → many ≡ length es
    → next ≡ needed_by_keywords (many == 1) (members_view es) now → next ≡ (needed (object (members_view es)) now).as_schema
unfolding needed
object_done es many now next is e =
    e ∙ ap (λ k. needed_by_keywords (k == 1) (members_view es) now) (is ∙ sym (members_len-members_view es))
