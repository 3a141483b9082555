-- What values send whose maps have the fields of another value belongs to their rows.
use Rattle.std.proofs.Common.{ℕ, List, refl}
use Rattle.std.specs.Prelude.{All, codes, string_bytes, String, ⊤}
use Rattle.std.specs.String.{string_cmp}
use Rattle.std.specs.declared.alloc.Global.{Global}
use Rattle.serde.specs.Event.{Sends, text, unsigned}
use Rattle.serde.specs.declared.name.Case.TheVariants.{AsIs}
use Rattle.serde_json.specs.Data.{string}
use Rattle.schemars_shapes.specs.Shape.{by_tag}
use Rattle.schemars_types.specs.Rows.{Row}
use Rattle.schemars_types.specs.Faults.{IsChecked}
use Rattle.schemars_written.specs.Gives.{Gives, Field, Done, Struct}
use Rattle.schemars_written.specs.Fits.{Means, HasFields, HasUnit, HasNewtype, LastField}
use Rattle.schemars_written.proofs.Atoms.{text_agrees}
use Rattle.schemars_written.proofs.Laws.{u8_law, u32_law, FieldsAgree, next_field, last_field, struct_law}
use Rattle.schemars_written.proofs.Shown.{text_shows, texts_differ}
use Rattle.schemars_written.proofs.Sets.{set_law}
use Rattle.schemars_written.proofs.Variants.{internal_unit_law, internal_newtype_law, next_avoids, last_avoids}
use Rattle.schemars_written.proofs.Flattened.{NamesApart, Joins, flattened_law, next_joins, last_joins, next_apart, last_apart}
use Rattle.example_agreement.specs.Events.{IsText}
use Rattle.example_agreement.specs.Orders.{IsU32}
use Rattle.example_agreement.specs.EventLaws.{as_is}
use Rattle.example_agreement.specs.Notes.{note_fields, IsNote, IsU8, StarsField, NoteFields, review_writes, IsReview, IsReviewRow, tags_write, card_writes, IsCard, AreTexts, TagsField, CardFields, IsCardRow}
use Rattle.example_agreement.specs.declared.note.Note.{Note}
use Rattle.example_agreement.specs.declared.review.Review.{Review}
use Rattle.example_agreement.specs.declared.review.Review.TheVariants as review
use Rattle.example_agreement.specs.declared.card.Card.{Card}

-- ---- the fields that stand in several maps

pub note_fields_agree : (rows : List Row) → IsChecked rows → (x : Note) → IsNote x → FieldsAgree rows (NoteFields rows) (note_fields x)
note_fields_agree rows checked x valid =
    next_field rows (codes "words") (IsText rows) (StarsField rows) (Sends (text (string_bytes x.words))) (Field (codes "stars") (Sends
    (unsigned x.stars)) Done)
    (λ m r. text_agrees rows m (string_bytes x.words) r)
    (next_field rows (codes "stars") (IsU8 rows) LastField (Sends (unsigned x.stars)) Done (λ m r. u8_law rows m x.stars checked r valid)
    (last_field rows))

pub note_law : (rows : List Row) (n : ℕ) (x : Note) → IsChecked rows → HasFields rows n (NoteFields rows) → IsNote x
    → Gives (Struct 2 (note_fields x)) (Means rows n)
note_law rows n x checked row valid = struct_law rows checked n 2 (NoteFields rows) (note_fields x) row
    (note_fields_agree rows checked x valid)

-- ---- a value beside a tag

pub review_law : (rows : List Row) (n : ℕ) (x : Review) → IsChecked rows → IsReviewRow rows n → IsReview x
    → Gives (review_writes x) (Means rows n)
review_law rows n review.Missing checked row valid = internal_unit_law rows checked n (codes "kind") row.0.0 (codes "missing") AsIs
    (as_is (HasUnit rows n (by_tag (codes "kind") row.0.0)) (codes "missing") row.0.1) 1
review_law rows n (review.Given x) checked row valid =
    internal_newtype_law rows checked n (codes "kind") row.1.0 (codes "given") AsIs (NoteFields rows)
    (as_is (λ t. HasNewtype rows n (by_tag (codes "kind") row.1.0) t (λ m. HasFields rows m (NoteFields rows))) (codes "given") row.1.1)
    (next_avoids (codes "kind") (codes "words") (IsText rows) (StarsField rows) refl
    (next_avoids (codes "kind") (codes "stars") (IsU8 rows) LastField refl (last_avoids (codes "kind"))))
    3 (note_fields x) (note_fields_agree rows checked x valid)

-- ---- a struct that is flattened

card_joins : (rows : List Row) → Joins (CardFields rows)
card_joins rows = next_joins (codes "id") (IsU32 rows) (TagsField rows) (next_joins (codes "tags") (AreTexts rows)
    (λ others. others) last_joins)

card_apart : (rows : List Row) → NamesApart (CardFields rows LastField) (NoteFields rows)
card_apart rows =
    next_apart (codes "id") (IsU32 rows) (TagsField rows LastField) (NoteFields rows)
    (next_avoids (codes "id") (codes "words") (IsText rows) (StarsField rows) refl
    (next_avoids (codes "id") (codes "stars") (IsU8 rows) LastField refl (last_avoids (codes "id"))))
    (next_apart (codes "tags") (AreTexts rows) LastField (NoteFields rows)
    (next_avoids (codes "tags") (codes "words") (IsText rows) (StarsField rows) refl
    (next_avoids (codes "tags") (codes "stars") (IsU8 rows) LastField refl (last_avoids (codes "tags"))))
    (last_apart (NoteFields rows)))

nothing_asked : (xs : List (String Global)) → All (λ s. ⊤) xs
nothing_asked xs k d low = tt

pub card_law : (rows : List Row) (n : ℕ) (x : Card) → IsChecked rows → IsCardRow rows n → IsCard x → Gives (card_writes x) (Means rows n)
card_law rows n x checked row valid =
    flattened_law rows checked n 4 (CardFields rows) (NoteFields rows)
    (Field (codes "id") (Sends (unsigned x.id)) (Field (codes "tags") (tags_write x.tags) (note_fields x.note))) row (card_joins rows)
    (card_apart rows)
    (next_field rows (codes "id") (IsU32 rows) (TagsField rows (NoteFields rows)) (Sends (unsigned x.id)) (Field (codes "tags")
    (tags_write x.tags) (note_fields x.note))
    (λ m r. u32_law rows m x.id checked r valid.0)
    (next_field rows (codes "tags") (AreTexts rows) (NoteFields rows) (tags_write x.tags) (note_fields x.note)
    (λ m r. set_law rows checked m (λ s. Sends (text (string_bytes s))) (λ s. ⊤) IsText string_cmp (λ s. string (string_bytes s))
    (λ k s is v. text_shows rows k (string_bytes s) is) (λ s t v w less. texts_differ s t less) r x.tags.keys
    (valid.1, nothing_asked x.tags.keys))
    (note_fields_agree rows checked x.note valid.2)))
