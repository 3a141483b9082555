-- What a walk over subschemas does, for every transform: which schemas it reaches, in which order, and what it makes of them.
use Rattle.std.specs.Prelude.{◌≡◌, ℕ, zero, suc, ◌⊎◌, Bool, true, false, Result, Ok, Err, OnOk}
use Rattle.serde_json.specs.Data.{Data, boolean, array, object, Items, no_items, item, Members, no_members, member}
use Rattle.schemars_schema.specs.Json.{Text}
use Rattle.schemars_schema.specs.References.{NoSchemas, OneSchema, SchemaList, SchemaOrList, SchemasByName, place_under}
use Rattle.schemars_schema.specs.References as references
use Rattle.schemars_walk.specs.declared.transform.TransformError.{TransformError}
use Rattle.schemars_walk.specs.declared.transform.TransformError.TheVariants.{Memory, TooDeep}
use Rattle.schemars_walk.specs.declared.walk.Reach.{Reach}
use Rattle.schemars_walk.specs.declared.walk.Reach.TheVariants.{Once, Levels}
use Rattle.schemars_walk.specs.declared.rewrite.place.Place as place

abbrev pub Answer : Type 0
Answer = Result (Unit {0}) TransformError

abbrev pub place_meant : place.Place → references.Place
place_meant place.TheVariants.Nothing = NoSchemas
place_meant place.TheVariants.Schema = OneSchema
place_meant place.TheVariants.List = SchemaList
place_meant place.TheVariants.SchemaOrList = SchemaOrList
place_meant place.TheVariants.Names = SchemasByName

-- what a call may do: the old state and value, the answer, the new state and value
abbrev pub TransformStep : Type 0 → Type 1
TransformStep S = S → Data → Answer → S → Data → Type 0

-- all that follows a call which gave this answer and left this state: a refusal is passed on, and nothing more is done
abbrev pub Next : {S : Type 0} → Answer → S → Answer → S → Type 0 → Type 0
Next (Ok x) w r u Rest = Rest
Next (Err x) w r u Rest = (r ≡ Err x) × (u ≡ w)

-- nothing is done
abbrev pub PassedOver : {S A : Type 0} → S → A → Answer → S → A → Type 0
PassedOver s d r u e = (r ≡ Ok tt) × (u ≡ s) × (e ≡ d)

-- one after another; after a refusal the value is open
abbrev pub EachItem : {S : Type 0} → TransformStep S → S → Items → Answer → S → Items → Type 0
EachItem Q s no_items r u es = PassedOver s no_items r u es
EachItem {S} Q s (item d ds) r u es =
    (a : Answer) × (w : S) × (e : Data) × Q s d a w e × Next a w r u ((fs : Items) × EachItem Q w ds r u fs × OnOk r (es ≡ item e fs))

-- the same by keys, in map order; a map may lack the memory to take its member back
abbrev pub EachMember : {S : Type 0} → (Text → TransformStep S) → S → Members → Answer → S → Members → Type 0
EachMember Q s no_members r u es = PassedOver s no_members r u es
EachMember {S} Q s (member k d ms) r u es =
    (a : Answer) × (w : S) × (e : Data) × Q k s d a w e
    × Next a w r u (((r ≡ Err Memory) × (u ≡ w)) ⊎ ((fs : Members) × EachMember Q w ms r u fs × OnOk r (es ≡ member k e fs)))

-- a value that is not a schema is passed over
abbrev pub AtSchema : {S : Type 0} → TransformStep S → TransformStep S
AtSchema Q s (boolean b) r u e = Q s (boolean b) r u e
AtSchema Q s (object ms) r u e = Q s (object ms) r u e
AtSchema Q s d r u e = PassedOver s d r u e

abbrev pub AtList : {S : Type 0} → TransformStep S → TransformStep S
AtList Q s (array ds) r u e = (es : Items) × EachItem (AtSchema Q) s ds r u es × OnOk r (e ≡ array es)
AtList Q s d r u e = PassedOver s d r u e

abbrev pub AtSchemaOrList : {S : Type 0} → TransformStep S → TransformStep S
AtSchemaOrList Q s (boolean b) r u e = Q s (boolean b) r u e
AtSchemaOrList Q s (array ds) r u e = (es : Items) × EachItem (AtSchema Q) s ds r u es × OnOk r (e ≡ array es)
AtSchemaOrList Q s (object ms) r u e = Q s (object ms) r u e
AtSchemaOrList Q s d r u e = PassedOver s d r u e

abbrev pub AtNames : {S : Type 0} → TransformStep S → TransformStep S
AtNames Q s (object ms) r u e = (es : Members) × EachMember (λ k. AtSchema Q) s ms r u es × OnOk r (e ≡ object es)
AtNames Q s d r u e = PassedOver s d r u e

abbrev pub AtPlace : {S : Type 0} → references.Place → TransformStep S → TransformStep S
AtPlace NoSchemas Q s d r u e = PassedOver s d r u e
AtPlace OneSchema Q s d r u e = AtSchema Q s d r u e
AtPlace SchemaList Q s d r u e = AtList Q s d r u e
AtPlace SchemaOrList Q s d r u e = AtSchemaOrList Q s d r u e
AtPlace SchemasByName Q s d r u e = AtNames Q s d r u e

-- the direct subschemas of a schema; a truth value has none
abbrev pub Walked : {S : Type 0} → TransformStep S → TransformStep S
Walked Q s (object ms) r u e = (es : Members) × EachMember (λ k. AtPlace (place_under k) Q) s ms r u es × OnOk r (e ≡ object es)
Walked Q s d r u e = PassedOver s d r u e

-- a schema, and then the schemas inside it, from the top down, on so many levels; a schema below them is refused
unfoldable pub Recursed : {S : Type 0} → TransformStep S → ℕ → TransformStep S
Recursed R zero s d r u e = (r ≡ Err TooDeep) × (u ≡ s)
Recursed {S} R (suc n) s d r u e = (a : Answer) × (w : S) × (c : Data) × R s d a w c × Next a w r u (Walked (Recursed R n) w c r u e)

-- what is done at a schema that a walk reaches
abbrev pub Visited : {S : Type 0} → TransformStep S → Reach → TransformStep S
Visited R Once s d r u e = R s d r u e
Visited R (Levels n) s d r u e = Recursed R n s d r u e

-- what a call on a value answers: whether it is a schema, or the transform's refusal
abbrev pub transformed : Answer → Result Bool TransformError
transformed (Ok x) = Ok true
transformed (Err x) = Err x

abbrev pub Transformed : {S : Type 0} → TransformStep S → S → Data → Result Bool TransformError → S → Data → Type 0
Transformed Q s d r u e = (a : Answer) × Q s d a u e × (r ≡ transformed a)

abbrev pub LeftAlone : {S : Type 0} → S → Data → Result Bool TransformError → S → Data → Type 0
LeftAlone s d r u e = (r ≡ Ok false) × (u ≡ s) × (e ≡ d)

-- a value that may be a schema: one that is none is left alone
abbrev pub OnValue : {S : Type 0} → TransformStep S → S → Data → Result Bool TransformError → S → Data → Type 0
OnValue Q s (boolean b) r u e = Transformed Q s (boolean b) r u e
OnValue Q s (object ms) r u e = Transformed Q s (object ms) r u e
OnValue Q s d r u e = LeftAlone s d r u e
