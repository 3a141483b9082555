-- The members that values by name stand for.
use Rattle.std.specs.Prelude.{Bool, List, [], ◌∷◌, map, String, string_bytes}
use Rattle.std.specs.BTreeMap.{is_at}
use Rattle.std.specs.Ordering.{nat_cmp}
use Rattle.std.specs.Cmp.Lexicographic.{slice_cmp}
use Rattle.std.specs.declared.alloc.Global.{Global}
use Rattle.serde_json.specs.Data.{Data, Members, no_members, put}
use Rattle.serde_json.specs.View.{members_of}
use Rattle.schemars_schema.specs.Json.{Text}

-- whether the key is this name
abbrev pub has_name : Text → String Global → Bool
has_name name = is_at (λ key. slice_cmp nat_cmp name (string_bytes key))

-- the members that the entries stand for, where `data_of` reads a value
abbrev pub members_by : {X : Type 0} → (X → Data) → List (String Global × X) → Members
members_by data_of es = members_of (map (λ e. (e.0, data_of e.1)) es)

-- the members that entries with different names stand for, in the order of the names
abbrev pub members_put : {X : Type 0} → (X → Data) → List (String Global × X) → Members
members_put data_of [] = no_members
members_put data_of (e ∷ es) = put (string_bytes e.0) (data_of e.1) (members_put data_of es)
