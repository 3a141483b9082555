-- The members of an object in parts: the places of schemas in their values, and the values by themselves.
use Rattle.std.specs.Prelude.{◌≡◌, List, [], ◌∷◌, ⊤}
use Rattle.serde_json.specs.Data.{Data, Items, no_items, item, Members, no_members, member}
use Rattle.schemars_schema.specs.Json.{Text}
use Rattle.schemars_schema.specs.References.{Place, NoSchemas}
use Rattle.schemars_walk.specs.Rewritten.{Rules, form_at, forms}

-- no value has schemas
abbrev pub all_unread : (Text → Data → Place) → Members → Type 0
all_unread place no_members = ⊤
all_unread place (member k d ms) = (place k d ≡ NoSchemas) × all_unread place ms

-- where schemas are in each value
abbrev pub member_places : (Text → Data → Place) → Members → List Place
member_places place no_members = []
member_places place (member k d ms) = place k d ∷ member_places place ms

-- values, each with the schemas at its place rewritten
abbrev pub in_places : {R : Type 0} → Rules R → R → List Place → Items → Items
in_places ρ r [] ds = ds
in_places ρ r (p ∷ ps) no_items = no_items
in_places ρ r (p ∷ ps) (item d ds) = item (form_at p d (forms ρ r d)) (in_places ρ r ps ds)
