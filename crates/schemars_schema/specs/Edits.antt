-- Plain JSON: what a text, a list or an object holds, and small changes of lists and of members.
use Rattle.std.specs.Prelude.{◌||◌, ◌==◌, Bool, false, Option, Some, None, is_some, bytes_eq, if◌then◌else◌}
use Rattle.serde_json.specs.Data.{Data, null, boolean, number, string, array, object, Items, no_items, item, Members, no_members, member, put}
use Rattle.serde_json.specs.Events.{members_len}
use Rattle.serde_json.specs.Find.{get_member, as_object, as_str}
use Rattle.schemars_schema.specs.Json.{Text}

-- the members without the one at k, if there is one
abbrev pub without : Text → Members → Members
without k no_members = no_members
without k (member l d ms) = if bytes_eq k l then ms else member l d (without k ms)

-- the members with d as the value at k, if there is one
abbrev pub replaced : Text → Data → Members → Members
replaced k d no_members = no_members
replaced k d (member l e ms) = if bytes_eq k l then member l d ms else member l e (replaced k d ms)

-- an object with its members changed; what is no object stays as it is
abbrev pub on_object : (Members → Members) → Data → Data
on_object f null = null
on_object f (boolean b) = boolean b
on_object f (number n) = number n
on_object f (string s) = string s
on_object f (array ds) = array ds
on_object f (object ms) = object (f ms)

-- an object without its member at k
abbrev pub removed : Text → Data → Data
removed k d = on_object (without k) d

-- the members with the value at k changed; if there is none, the change of d is added at k
abbrev pub changed_at : Text → (Data → Data) → Data → Members → Members
changed_at k change d ms = elim (get_member k ms) [ None ↦ put k (change d) ms | Some e ↦ replaced k (change e) ms ]

-- the members with d at k, unless there is a value at k
abbrev pub put_missing : Text → Data → Members → Members
put_missing k d ms = if is_some (get_member k ms) then ms else put k d ms

-- ---- texts, lists and objects

abbrev pub is_text : Text → Option Text → Bool
is_text t None = false
is_text t (Some s) = bytes_eq s t

abbrev pub holds_text : Text → Items → Bool
holds_text t no_items = false
holds_text t (item d ds) = is_text t (as_str d) || holds_text t ds

abbrev pub has_one_member : Data → Bool
has_one_member s = elim (as_object s) [ None ↦ false | Some ms ↦ members_len ms == 1 ]

abbrev pub with_item : Items → Data → Items
with_item no_items e = item e no_items
with_item (item d ds) e = item d (with_item ds e)

-- a list with its items changed; what is no list stays as it is
abbrev pub on_list : (Items → Items) → Data → Data
on_list f null = null
on_list f (boolean b) = boolean b
on_list f (number n) = number n
on_list f (string s) = string s
on_list f (array ds) = array (f ds)
on_list f (object ms) = object ms

-- a list with d in front
abbrev pub with_first : Data → Data → Data
with_first d list = on_list (item d) list

-- a list with d at its end
abbrev pub with_last : Data → Data → Data
with_last d list = on_list (λ ds. with_item ds d) list

-- an object with d at k
abbrev pub with_member : Text → Data → Data → Data
with_member k d s = on_object (put k d) s
