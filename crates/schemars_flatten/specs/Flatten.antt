-- A schema with the keywords of another put in.
use Rattle.std.specs.Prelude.{◌||◌, [], ◌∷◌, Bool, true, false, if◌then◌else◌, None, Some, is_some, codes}
use Rattle.serde_json.specs.Data.{Data, null, boolean, number, string, array, object, Items, no_items, item, Members, no_members, member, put}
use Rattle.serde_json.specs.Find.{get_member, as_array, as_object}
use Rattle.schemars_schema.specs.Json.{Text}
use Rattle.schemars_text.specs.OrderedText.{is_listed}
use Rattle.schemars_schema.specs.SchemaData.{members_in, put_members}
use Rattle.schemars_schema.specs.Edits.{replaced, without, on_object}
use Rattle.schemars_schema.specs.Acceptance.{both_some}

-- ---- keywords that judge what is left of an object

abbrev pub contains_key : Text → Members → Bool
contains_key k ms = is_some (get_member k ms)

-- a keyword applies schemas to the same value
abbrev pub has_subschema : Members → Bool
has_subschema ms =
    contains_key (codes "if") ms
    || (contains_key (codes "allOf") ms
    || (contains_key (codes "anyOf") ms || (contains_key (codes "oneOf") ms || contains_key (codes "$ref") ms)))

-- what was additional is unevaluated
abbrev pub moved : Members → Members
moved ms = elim (get_member (codes "additionalProperties") ms) [
  | None ↦ ms
  | Some d ↦ put (codes "unevaluatedProperties") d (without (codes "additionalProperties") ms)
]

-- beside these keywords of the other side
abbrev pub moved_beside : Members → Members → Members
moved_beside others ms = if contains_key (codes "unevaluatedProperties") others || has_subschema others then moved ms else ms

-- the keyword that judges what is left of an object
abbrev pub rest_keyword : Members → Text
rest_keyword ms = if has_subschema ms then codes "unevaluatedProperties" else codes "additionalProperties"

-- further members of the object are let in, unless a keyword speaks of them
abbrev pub opened_keywords : Members → Members
opened_keywords ms =
    if contains_key (codes "additionalProperties") ms || contains_key (codes "unevaluatedProperties") ms then ms
    else put (rest_keyword ms) (boolean true) ms

-- ---- a keyword that both sides have

abbrev pub appended : Items → Items → Items
appended no_items es = es
appended (item d ds) es = item d (appended ds es)

-- two lists are concatenated; of values that are not both lists, the first stays
abbrev pub joined : Data → Data → Data
joined first second = elim (both_some (λ es ds. appended ds es) (as_array second) (as_array first)) [
  | None ↦ first
  | Some ds ↦ array ds
]

-- two objects are merged, with the second's value where both have a name; of values that are not both objects, the first stays
abbrev pub merged : Data → Data → Data
merged first second = elim (both_some put_members (as_object second) (as_object first)) [
  | None ↦ first
  | Some ms ↦ object ms
]

abbrev pub is_joined : Text → Bool
is_joined k = is_listed k (codes "required" ∷ codes "allOf" ∷ [])

abbrev pub is_merged : Text → Bool
is_merged k = is_listed k (codes "properties" ∷ codes "patternProperties" ∷ [])

abbrev pub is_choice : Text → Bool
is_choice k = is_listed k (codes "oneOf" ∷ codes "anyOf" ∷ [])

-- the value of the first side with the second's; under most keywords the first stays
abbrev pub united : Text → Data → Data → Data
united k first second = if is_joined k then joined first second else if is_merged k then merged first second else first

abbrev pub with_united : Text → Data → Members → Members
with_united k d ms = elim (get_member k ms) [ None ↦ put k d ms | Some e ↦ replaced k (united k e d) ms ]

-- a schema of one keyword
abbrev pub alone : Text → Data → Data
alone k d = object (member k d no_members)

abbrev pub both_choices : Text → Data → Data → Data
both_choices k first second = array (item (alone k first) (item (alone k second) no_items))

-- two choices have to hold both: each is a schema of its own under `allOf`
abbrev pub with_choice : Text → Data → Members → Members
with_choice k d ms = elim (get_member k ms) [
  | None ↦ put k d ms
  | Some e ↦ with_united (codes "allOf") (both_choices k e d) (without k ms)
]

-- ---- the whole

abbrev pub with_keyword : Text → Data → Members → Members
with_keyword k d ms = if is_choice k then with_choice k d ms else with_united k d ms

-- each keyword, one after another
abbrev pub with_keywords : Members → Members → Members
with_keywords no_members ms = ms
with_keywords (member k d others) ms = with_keywords others (with_keyword k d ms)

-- the second side looks at the first as it is by then
abbrev pub united_all : Members → Members → Members
united_all ms others = with_keywords (moved_beside (moved_beside others ms) others) (moved_beside others ms)

abbrev pub opened_schema : Data → Data
opened_schema s = on_object opened_keywords s

-- the first schema with the second put in
abbrev pub flattened : Data → Data → Data
flattened s null = s
flattened s (boolean true) = opened_schema s
flattened s (boolean false) = s
flattened s (number n) = s
flattened s (string t) = s
flattened s (array ds) = s
flattened s (object others) = object (united_all (members_in s) others)
