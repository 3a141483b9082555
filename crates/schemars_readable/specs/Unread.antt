-- What stands in a document and is not read, or has no form in which it would be.
use Rattle.std.specs.Prelude.{◌&&◌, ◌||◌, ◌==◌, Bool, true, false, not, is_some, length, List, [], ◌∷◌, ◌++◌, Option, Some, None, if◌then◌else◌, codes, map, bytes_eq, string_bytes, Contains}
use Rattle.serde_json.specs.Data.{Data, Num, unsigned, Members, no_members, member}
use Rattle.serde_json.specs.Find.{as_str, as_number}
use Rattle.schemars_text.specs.OrderedText.{is_listed}
use Rattle.schemars_schema.specs.Json.{Text}
use Rattle.schemars_schema.specs.Lookup.{resolved}
use Rattle.schemars_schema.specs.Numbers.{number_le, size_in_64_bits}
use Rattle.schemars_readable.specs.declared.draft.Draft as named
use Rattle.schemars_readable.specs.declared.refusal.Unread.{Unread}
use Rattle.schemars_readable.specs.Forms.{is_malformed}
use Rattle.schemars_readable.specs.Standing.{StandsAt, member_place}

-- ---- keywords that judge values

-- a keyword of the dialect judges values and is not read
abbrev pub is_unread : named.Draft → Text → Bool
is_unread named.TheVariants.Draft07 k = false
is_unread named.TheVariants.Draft2019_09 k = is_listed k (codes "dependencies" ∷ codes "$recursiveRef" ∷ [])
is_unread named.TheVariants.Draft2020_12 k = is_listed k (codes "dependencies" ∷ codes "$dynamicRef" ∷ [])
is_unread named.TheVariants.OpenApi3 k = false

-- a divisor above 0 that is no whole number of 64 bits, which leaves other numbers open
abbrev pub is_open_divisor : Num → Bool
is_open_divisor m = not (number_le m (unsigned 0) || is_some (size_in_64_bits m))

abbrev pub leaves_open : Text → Data → Bool
leaves_open k d = bytes_eq k (codes "multipleOf") && elim (as_number d) [ None ↦ false | Some m ↦ is_open_divisor m ]

-- ---- keywords that change how others are read

-- what `$schema` may say
abbrev pub is_named_by : named.Draft → Text → Bool
is_named_by named.TheVariants.Draft07 t =
    is_listed t (codes "http://json-schema.org/draft-07/schema#" ∷ codes "http://json-schema.org/draft-07/schema" ∷ [])
is_named_by named.TheVariants.Draft2019_09 t =
    is_listed t (codes "https://json-schema.org/draft/2019-09/schema" ∷ codes "https://json-schema.org/draft/2019-09/schema#" ∷ [])
is_named_by named.TheVariants.Draft2020_12 t =
    is_listed t (codes "https://json-schema.org/draft/2020-12/schema" ∷ codes "https://json-schema.org/draft/2020-12/schema#" ∷ [])
is_named_by named.TheVariants.OpenApi3 t = true

abbrev pub is_own : named.Draft → Option Text → Bool
is_own draft None = false
is_own draft (Some t) = is_named_by draft t

abbrev pub is_other_dialect : named.Draft → Text → Data → Bool
is_other_dialect draft k d = bytes_eq k (codes "$schema") && not (is_own draft (as_str d))

-- an identifier that is not that of the whole
abbrev pub is_inner_id : Text → Text → Bool
is_inner_id place k = bytes_eq k (codes "$id") && not (length place == 0)

abbrev pub is_lost : Data → Option Text → Bool
is_lost document None = false
is_lost document (Some reference) = not (is_some (resolved document reference))

-- a reference that leads to no schema of the document
abbrev pub leads_nowhere : Data → Text → Data → Bool
leads_nowhere document k d = bytes_eq k (codes "$ref") && is_lost document (as_str d)

-- a keyword of a schema at a place is not read, or its value has no form that the dialect gives it
abbrev pub is_unread_at : named.Draft → Data → Text → Text → Data → Bool
is_unread_at draft document place k d =
    ((is_unread draft k || leaves_open k d) || (is_inner_id place k || is_malformed draft k d))
    || (is_other_dialect draft k d || leads_nowhere document k d)

abbrev pub unread_keyword : named.Draft → Data → Text → Text → Data → List (Text × Text)
unread_keyword draft document place k d =
    if is_unread_at draft document place k d then (member_place place k, k) ∷ [] else []

-- the keywords of a schema at a place that are not read, and their places
abbrev pub unread_among : named.Draft → Data → Text → Members → List (Text × Text)
unread_among draft document place no_members = []
unread_among draft document place (member k d ms) = unread_keyword draft document place k d ++ unread_among draft document place ms

-- a keyword that is not read stands at a place in the document
abbrev pub IsUnreadAt : named.Draft → Data → Text → Text → Type 0
IsUnreadAt draft document place keyword = (schema : Text) × (ms : Members) × StandsAt document schema ms
    × Contains (unread_among draft document schema ms) (place, keyword)

-- ---- as they are told

abbrev pub unread_of : named.Draft → Data → List (Text × Members) → List (Text × Text)
unread_of draft document [] = []
unread_of draft document (s ∷ ss) = unread_among draft document s.0 s.1 ++ unread_of draft document ss

abbrev pub told : List Unread → List (Text × Text)
told us = map (λ u. (string_bytes u.place, string_bytes u.keyword)) us

abbrev pub is_told : List Unread → Text → Text → Bool
is_told [] place k = false
is_told (u ∷ us) place k = (bytes_eq (string_bytes u.place) place && bytes_eq (string_bytes u.keyword) k) || is_told us place k

abbrev pub has_pair : List (Text × Text) → Text × Text → Bool
has_pair [] x = false
has_pair (y ∷ ys) x = (bytes_eq y.0 x.0 && bytes_eq y.1 x.1) || has_pair ys x

-- the pairs with each of these that is new
abbrev pub with_new : List (Text × Text) → List (Text × Text) → List (Text × Text)
with_new pairs [] = pairs
with_new pairs (x ∷ xs) = with_new (if has_pair pairs x then pairs else pairs ++ x ∷ []) xs
