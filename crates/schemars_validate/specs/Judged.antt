-- Which parts of a value have been judged: a mark for each, in their order.
use Rattle.std.specs.Prelude.{◌&&◌, ◌||◌, ℕ, zero, suc, nat_lt, Bool, true, false, is_some, Option, Some, None, if◌then◌else◌, List, [], ◌∷◌}
use Rattle.serde_json.specs.Data.{Data, null, boolean, number, string, array, object, Items, no_items, item, Members, no_members, member}
use Rattle.serde_json.specs.Events.{items_len}
use Rattle.schemars_schema.specs.Json.{Text}
use Rattle.serde_json.specs.Find.{get_member, get_item, as_object}
use Rattle.schemars_schema.specs.Verdict.{Verdict, Yes, both, is_yes}
use Rattle.schemars_schema.specs.Judges.{Judge, Part, key, position, Patterns, matches}
use Rattle.schemars_schema.specs.Applicators.{beside_members}
use Rattle.schemars_schema.specs.Evaluated.{judged_by, judged_by_some}

abbrev pub keys_in : Members → List Part
keys_in no_members = []
keys_in (member k d ms) = key k ∷ keys_in ms

-- of the items that are left, the first of which is the n-th
abbrev pub positions_in : ℕ → Items → List Part
positions_in n no_items = []
positions_in n (item d ds) = position n ∷ positions_in (suc n) ds

-- the members of an object and the items of a list; no other value has parts
abbrev pub parts_of : Data → List Part
parts_of null = []
parts_of (boolean b) = []
parts_of (number n) = []
parts_of (string s) = []
parts_of (array ds) = positions_in 0 ds
parts_of (object ms) = keys_in ms

-- marked too where the test holds of the part
abbrev pub marked : (Part → Bool) → List Part → List Bool → List Bool
marked f [] bs = bs
marked f (p ∷ ps) [] = []
marked f (p ∷ ps) (b ∷ bs) = (b || f p) ∷ marked f ps bs

abbrev pub unmarked : List Part → List Bool
unmarked [] = []
unmarked (p ∷ ps) = false ∷ unmarked ps

-- marked too where the others are
abbrev pub united : List Bool → List Bool → List Bool
united [] bs = bs
united (m ∷ ms) [] = []
united (m ∷ ms) (b ∷ bs) = (b || m) ∷ united ms bs

-- so many from the first on
abbrev pub first_marked : ℕ → List Bool → List Bool
first_marked zero bs = bs
first_marked (suc n) [] = []
first_marked (suc n) (b ∷ bs) = true ∷ first_marked n bs

abbrev pub is_marked : Option Bool → Bool
is_marked None = false
is_marked (Some b) = b

-- the members that have no mark
abbrev pub each_unmarked : Judge → Members → List Bool → Verdict
each_unmarked s no_members bs = Yes
each_unmarked s (member k w ms) [] = both (s.fits w) (each_unmarked s ms [])
each_unmarked s (member k w ms) (b ∷ bs) = both (if b then Yes else s.fits w) (each_unmarked s ms bs)

-- the items that have no mark
abbrev pub each_unmarked_item : Judge → Items → List Bool → Verdict
each_unmarked_item s no_items bs = Yes
each_unmarked_item s (item w ws) [] = both (s.fits w) (each_unmarked_item s ws [])
each_unmarked_item s (item w ws) (b ∷ bs) = both (if b then Yes else s.fits w) (each_unmarked_item s ws bs)

abbrev pub unmarked_by : Judge → Data → List Bool → Verdict
unmarked_by s null bs = Yes
unmarked_by s (boolean b) bs = Yes
unmarked_by s (number n) bs = Yes
unmarked_by s (string t) bs = Yes
unmarked_by s (array ds) bs = each_unmarked_item s ds bs
unmarked_by s (object ms) bs = each_unmarked s ms bs

-- ---- which parts a schema of the same value judges, if there is one, and those by name

abbrev pub judged_by_one : Option Judge → Data → Part → Bool
judged_by_one schema v p = elim schema [ None ↦ false | Some s ↦ judged_by s v p ]

abbrev pub judged_beside_members : List (Text × Judge) → Data → Part → Bool
judged_beside_members ss v p = elim (as_object v) [ None ↦ false | Some ms ↦ judged_by_some (beside_members ss ms) v p ]

-- ---- which members `properties` and `patternProperties` judge

abbrev pub at_keys : (Text → Bool) → Part → Bool
at_keys f p = elim p [ key k ↦ f k | position n ↦ false ]

abbrev pub is_named : Option Members → Text → Bool
is_named None k = false
is_named (Some ms) k = is_some (get_member k ms)

abbrev pub matches_one : Patterns → Members → Text → Bool
matches_one patterns no_members k = false
matches_one patterns (member p d ms) k = matches patterns p k || matches_one patterns ms k

abbrev pub is_matched : Patterns → Option Members → Text → Bool
is_matched patterns None k = false
is_matched patterns (Some ms) k = matches_one patterns ms k

-- and `additionalProperties` judges all others
abbrev pub is_taken : Patterns → Option Members → Option Members → Option Data → Text → Bool
is_taken patterns named by_pattern others k = (is_named named k || is_matched patterns by_pattern k) || is_some others

-- ---- which items are judged: by a schema at their position or by that of all others, and by `contains`

abbrev pub at_positions : (ℕ → Bool) → Part → Bool
at_positions f p = elim p [ key k ↦ false | position n ↦ f n ]

abbrev pub is_placed : Items → Option Data → ℕ → Bool
is_placed first others n = nat_lt n (items_len first) || is_some others

abbrev pub fits_at : Bool → Judge → Items → ℕ → Bool
fits_at counts s ws n = counts && elim (get_item n ws) [ None ↦ false | Some w ↦ is_yes (s.fits w) ]
