-- The JSON value that a borrowed value denotes.
use Rattle.std.specs.Prelude.{ℕ, List, [], ◌∷◌, map}
use Rattle.std.specs.Borrow.{Bor}
use Rattle.serde_json.specs.Data.{Data, null, boolean, number, string, array, object, Items, Members, no_members, put}
use Rattle.serde_json.specs.View.{items_of, number_view}
use Rattle.schemagen_json.specs.declared.borrowed_value.BorrowedValue.{BorrowedValue, fold-BorrowedValue}
use Rattle.schemagen_json.specs.declared.borrowed_value.BorrowedValue.TheOpen.{BorrowedValue-F}

-- these members, put in one after another: of a name that comes twice, the last one stays
abbrev pub put_each : List (Bor (List ℕ) × Data) → Members → Members
put_each [] found = found
put_each (m ∷ ms) found = put_each ms (put m.0.now m.1 found)

-- one level, with each value inside already seen as its data
abbrev pub data_step : BorrowedValue-F Data → Data
data_step BorrowedValue-F.Null = null
data_step (BorrowedValue-F.Bool b) = boolean b
data_step (BorrowedValue-F.Number x) = number (number_view x)
data_step (BorrowedValue-F.String s) = string s.now
data_step (BorrowedValue-F.Array v) = array (items_of v.items)
data_step (BorrowedValue-F.Object v) = object (put_each v.items no_members)

abbrev pub data_of : BorrowedValue → Data
data_of = fold-BorrowedValue Data data_step

abbrev pub items_data : List BorrowedValue → Items
items_data vs = items_of (map data_of vs)

abbrev pub members_data : List (Bor (List ℕ) × BorrowedValue) → Members
members_data ms = put_each (map (λ m. (m.0, data_of m.1)) ms) no_members
