-- The notes of a type of one's own, of its fields and of its variants.
use Rattle.std.specs.Prelude.{List, [], ◌∷◌}
use Rattle.serde_json.specs.Data.{Data, put}
use Rattle.schemars_schema.specs.Json.{Text}
use Rattle.schemars_shapes.specs.Shape.{Entry, Field, Variant}

-- with this annotation, which replaces one of its name
abbrev pub noted_entry : Text → Data → Entry → Entry
noted_entry key value e = record e { notes = put key value e.notes }

abbrev pub noted_field : Text → Data → Field → Field
noted_field key value f = record f { notes = put key value f.notes }

abbrev pub noted_variant : Text → Data → Variant → Variant
noted_variant key value x = record x { notes = put key value x.notes }

-- a list whose last element is changed
abbrev pub at_last : {A : Type 0} → (A → A) → List A → List A
at_last change [] = []
at_last change (x ∷ []) = change x ∷ []
at_last change (x ∷ y ∷ ys) = x ∷ at_last change (y ∷ ys)
