-- What values send whose maps have the fields of another value, and which rows describe them.
use Rattle.std.specs.Prelude.{ℕ, ◌<◌, ◌^◌, Bool, List, codes, string_bytes, String}
use Rattle.std.specs.String.{string_cmp}
use Rattle.std.specs.BTreeSet.{BTreeSet, IsOrdered}
use Rattle.std.specs.declared.alloc.Global.{Global}
use Rattle.serde.specs.Event.{Log, Sends, text, unsigned, WritesSeq}
use Rattle.serde.specs.declared.name.Case.TheVariants.{AsIs}
use Rattle.schemars_shapes.specs.Shape as shape
use Rattle.schemars_shapes.specs.Shape.{by_tag}
use Rattle.schemars_shapes.specs.declared.shape.IntKind.TheVariants.{U8}
use Rattle.schemars_types.specs.Rows.{Row}
use Rattle.schemars_written.specs.Gives.{Struct, Field, Done, Beside}
use Rattle.schemars_written.specs.Fits.{HasShape, HasFields, HasFlattened, HasUnit, HasNewtype, NextField, LastField}
use Rattle.example_agreement.specs.Events.{IsText}
use Rattle.example_agreement.specs.Orders.{IsU32}
use Rattle.example_agreement.specs.declared.note.Note.{Note}
use Rattle.example_agreement.specs.declared.review.Review.{Review}
use Rattle.example_agreement.specs.declared.review.Review.TheVariants as review
use Rattle.example_agreement.specs.declared.card.Card.{Card}

-- ---- the fields that stand in several maps

abbrev pub note_fields : Note → Log → Log → Type 0
note_fields x = Field (codes "words") (Sends (text (string_bytes x.words))) (Field (codes "stars") (Sends (unsigned x.stars)) Done)

abbrev pub IsNote : Note → Type 0
IsNote x = x.stars < 2 ^ 8

abbrev pub IsU8 : List Row → ℕ → Type 0
IsU8 rows n = HasShape rows n (shape.int U8)

abbrev pub StarsField : List Row → List shape.Field → Type 0
StarsField rows = NextField (codes "stars") (IsU8 rows) LastField

abbrev pub NoteFields : List Row → List shape.Field → Type 0
NoteFields rows = NextField (codes "words") (IsText rows) (StarsField rows)

-- ---- a value beside a tag

abbrev pub review_writes : Review → Log → Log → Type 0
review_writes review.Missing = Struct 1 (Beside (codes "kind") (codes "missing") AsIs Done)
review_writes (review.Given x) = Struct 3 (Beside (codes "kind") (codes "given") AsIs (note_fields x))

abbrev pub IsReview : Review → Type 0
IsReview review.Missing = Unit {0}
IsReview (review.Given x) = IsNote x

abbrev pub IsReviewRow : List Row → ℕ → Type 0
IsReviewRow rows n = ((closed : Bool) × HasUnit rows n (by_tag (codes "kind") closed) (codes "missing"))
    × ((closed : Bool) × HasNewtype rows n (by_tag (codes "kind") closed) (codes "given") (λ m. HasFields rows m (NoteFields rows)))

-- ---- a struct that is flattened

abbrev pub tags_write : BTreeSet (String Global) → Log → Log → Type 0
tags_write tags = WritesSeq (λ s. Sends (text (string_bytes s))) tags.keys

abbrev pub card_writes : Card → Log → Log → Type 0
card_writes x = Struct 4 (Field (codes "id") (Sends (unsigned x.id)) (Field (codes "tags") (tags_write x.tags) (note_fields x.note)))

abbrev pub IsCard : Card → Type 0
IsCard x = (x.id < 2 ^ 32) × IsOrdered string_cmp x.tags × IsNote x.note

abbrev pub AreTexts : List Row → ℕ → Type 0
AreTexts rows n = (m : ℕ) × HasShape rows n (shape.set m) × IsText rows m

-- its own fields, and then others
abbrev pub TagsField : List Row → (List shape.Field → Type 0) → List shape.Field → Type 0
TagsField rows others = NextField (codes "tags") (AreTexts rows) others

abbrev pub CardFields : List Row → (List shape.Field → Type 0) → List shape.Field → Type 0
CardFields rows others = NextField (codes "id") (IsU32 rows) (TagsField rows others)

abbrev pub IsCardRow : List Row → ℕ → Type 0
IsCardRow rows n = HasFlattened rows n (CardFields rows LastField) (NoteFields rows)
