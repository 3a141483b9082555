-- The laws of variants, in the form in which they are cited.
use Rattle.std.proofs.Common.{◌≡◌, ℕ, List, [], ◌∷◌, Bool, false, refl, sym, subst}
use Rattle.schemars_written.proofs.Words.{bytes_eq, Log, Logs, InSeq, Then, spelled, Text, Patterns, Field, by_name, by_nothing, by_tag, by_tag_and_content, no_payload, newtype_payload, tuple_payload, struct_payload, Row, IsChecked, Gives, GivesItems, GivesMembers, Done, Named, Tagged, Struct, Beside, IsObject, MeansUnder, HasFields, HasUnit, HasNewtype, HasTuple, HasStruct, NextItem, LastItem, NextField, NextOptional, LastField, AvoidsTag}
use Rattle.json.specs.Json as json
use Rattle.serde.specs.Event as event
use Rattle.serde.specs.declared.name.Case.{Case}
use Rattle.serde.specs.declared.name.NameKind.TheVariants as kind
use Rattle.schemars_written.specs.Gives as gives
use Rattle.schemars_written.proofs.Atoms.{weaker, null_gives}
use Rattle.schemars_written.proofs.Lists.{Of, in_seq_gives, then_give, last_gives}
use Rattle.schemars_written.proofs.Objects.{Matches, plain_fields, struct_gives}
use Rattle.schemars_written.proofs.Payloads.{PayloadMeans}
use Rattle.schemars_written.proofs.Enums.{unit_agrees, external_agrees, untagged_agrees, internal_unit_agrees, internal_struct_agrees}
use Rattle.schemars_written.proofs.Adjacent.{adjacent_unit_agrees, adjacent_agrees}
use Rattle.schemars_written.proofs.Inside.{internal_newtype_agrees}
use Rattle.schemars_written.proofs.Laws.{FieldsAgreeUnder}

-- ---- items and fields

-- of items that are these, the tuple sends those that belong to them
abbrev pub ItemsAgree : (Patterns → Type 0) → List Row → (List ℕ → Type 0) → (Log → Log → Type 0) → Type 0
ItemsAgree reading rows items sends = (ns : List ℕ) → items ns → GivesItems sends (Of reading rows ns)

pub last_item : {reading : Patterns → Type 0} (rows : List Row) (R : ℕ → Type 0) (w : Log → Log → Type 0)
    → ((m : ℕ) → R m → Gives w (MeansUnder reading rows m))
    → ItemsAgree reading rows (NextItem R LastItem) w
last_item {reading = reading} rows R w value [] is = absurd is
last_item {reading = reading} rows R w value (m ∷ []) is = last_gives w (MeansUnder reading rows m) (value m is.0)
last_item {reading = reading} rows R w value (m ∷ k ∷ ns) is = absurd is.1

pub next_item : {reading : Patterns → Type 0} (rows : List Row) (R : ℕ → Type 0) (others : List ℕ → Type 0) (w ws : Log → Log → Type 0)
    → ((m : ℕ) → R m → Gives w (MeansUnder reading rows m)) → ItemsAgree reading rows others ws
    → ItemsAgree reading rows (NextItem R others) (Then w ws)
next_item {reading = reading} rows R others w ws value more [] is = absurd is
next_item {reading =
    reading} rows R others w ws value more (m ∷ ns) is = then_give w ws (MeansUnder reading rows m) (Of reading rows ns) (value m is.0)
    (more ns is.1)

fields_give : (reading : Patterns → Type 0) (rows : List Row) (list : List Field) (closed : Bool) (count : ℕ) (w : Log → Log → Type 0)
    → GivesMembers w (Matches reading rows list)
    → Gives (Struct count w) (PayloadMeans reading rows (struct_payload (plain_fields list closed)))
fields_give reading rows list closed count w given =
    weaker (Struct count w) (IsObject (Matches reading rows list)) (PayloadMeans reading rows (struct_payload (plain_fields list closed)))
    (λ j is. (refl, is))
    (struct_gives count w (Matches reading rows list) given)

-- ---- tagged by names

pub unit_law : {reading : Patterns → Type 0} (rows : List Row) → IsChecked rows → (n : ℕ) (name : Text) (case : Case)
    → HasUnit rows n by_name (spelled case kind.Variant name)
    → Gives (Named name case) (MeansUnder reading rows n)
unit_law {reading = reading} rows checked n name case row = unit_agrees reading rows n name case row

pub newtype_law : {reading : Patterns → Type 0} (rows : List Row) → IsChecked rows → (n : ℕ) (name : Text) (case : Case) (R : ℕ → Type 0)
    → HasNewtype rows n by_name (spelled case kind.Variant name) R → (w : Log → Log → Type 0)
    → ((m : ℕ) → R m → Gives w (MeansUnder reading rows m))
    → Gives (Tagged name case w) (MeansUnder reading rows n)
newtype_law {reading = reading} rows checked n name case R row w value =
    external_agrees reading rows checked n name case (newtype_payload row.0) row.1 tt w (value row.0 row.2)

pub tuple_law : {reading : Patterns → Type 0} (rows : List Row) → IsChecked rows
    → (n : ℕ) (name : Text) (case : Case) (items : List ℕ → Type 0)
    → HasTuple rows n by_name (spelled case kind.Variant name) items → (count : ℕ) (w : Log → Log → Type 0)
    → ItemsAgree reading rows items w
    → Gives (Tagged name case (InSeq count w)) (MeansUnder reading rows n)
tuple_law {reading = reading} rows checked n name case items row count w agree =
    external_agrees reading rows checked n name case (tuple_payload row.0) row.1 tt (InSeq count w)
    (in_seq_gives count w (Of reading rows row.0) (agree row.0 row.2))

pub fields_law : {reading : Patterns → Type 0} (rows : List Row) → IsChecked rows
    → (n : ℕ) (name : Text) (case : Case) (fields : List Field → Type 0)
    → HasStruct rows n by_name (spelled case kind.Variant name) fields → (count : ℕ) (w : Log → Log → Type 0)
    → FieldsAgreeUnder reading rows fields w
    → Gives (Tagged name case (Struct count w)) (MeansUnder reading rows n)
fields_law {reading = reading} rows checked n name case fields row count w agree =
    external_agrees reading rows checked n name case (struct_payload (plain_fields row.0 row.1)) row.2 tt (Struct count w)
    (fields_give reading rows row.0 row.1 count w (agree.agree row.0 row.3))

-- ---- not tagged

pub untagged_unit_law : {reading : Patterns → Type 0} (rows : List Row) → IsChecked rows → (n : ℕ) (name : Text)
    → HasUnit rows n by_nothing name
    → Gives (λ old new. Logs old new event.nothing) (MeansUnder reading rows n)
untagged_unit_law {reading =
    reading} rows checked n name row = untagged_agrees reading rows checked n name no_payload row (λ old new. Logs old new event.nothing)
    (null_gives (λ j. j ≡ json.null) refl)

pub untagged_newtype_law : {reading : Patterns → Type 0} (rows : List Row) → IsChecked rows → (n : ℕ) (name : Text) (R : ℕ → Type 0)
    → HasNewtype rows n by_nothing name R
    → (w : Log → Log → Type 0) → ((m : ℕ) → R m → Gives w (MeansUnder reading rows m)) → Gives w (MeansUnder reading rows n)
untagged_newtype_law {reading = reading} rows checked n name R row w value =
    untagged_agrees reading rows checked n name (newtype_payload row.0) row.1 w (value row.0 row.2)

pub untagged_tuple_law : {reading : Patterns → Type 0} (rows : List Row) → IsChecked rows → (n : ℕ) (name : Text) (items : List ℕ → Type 0)
    → HasTuple rows n by_nothing name items
    → (count : ℕ) (w : Log → Log → Type 0) → ItemsAgree reading rows items w → Gives (InSeq count w) (MeansUnder reading rows n)
untagged_tuple_law {reading = reading} rows checked n name items row count w agree =
    untagged_agrees reading rows checked n name (tuple_payload row.0) row.1 (InSeq count w)
    (in_seq_gives count w (Of reading rows row.0) (agree row.0 row.2))

pub untagged_fields_law : {reading : Patterns → Type 0} (rows : List Row) → IsChecked rows
    → (n : ℕ) (name : Text) (fields : List Field → Type 0) → HasStruct rows n by_nothing name fields
    → (count : ℕ) (w : Log → Log → Type 0) → FieldsAgreeUnder reading rows fields w → Gives (Struct count w) (MeansUnder reading rows n)
untagged_fields_law {reading = reading} rows checked n name fields row count w agree =
    untagged_agrees reading rows checked n name (struct_payload (plain_fields row.0 row.1)) row.2 (Struct count w)
    (fields_give reading rows row.0 row.1 count w (agree.agree row.0 row.3))

-- ---- tagged inside

pub internal_unit_law : {reading : Patterns → Type 0} (rows : List Row) → IsChecked rows
    → (n : ℕ) (tag : Text) (closed : Bool) (name : Text) (case : Case)
    → HasUnit rows n (by_tag tag closed) (spelled case kind.Variant name) → (count : ℕ)
    → Gives (Struct count (Beside tag name case Done)) (MeansUnder reading rows n)
internal_unit_law {reading =
    reading} rows checked n tag closed name case row count = internal_unit_agrees reading rows checked n tag closed name case row count

pub internal_fields_law : {reading : Patterns → Type 0} (rows : List Row) → IsChecked rows
    → (n : ℕ) (tag : Text) (closed : Bool) (name : Text) (case : Case) (fields : List Field → Type 0)
    → HasStruct rows n (by_tag tag closed) (spelled case kind.Variant name) fields
    → ((list : List Field) → fields list → AvoidsTag tag list)
    → (count : ℕ) (w : Log → Log → Type 0) → FieldsAgreeUnder reading rows fields w
    → Gives (Struct count (Beside tag name case w)) (MeansUnder reading rows n)
internal_fields_law {reading = reading} rows checked n tag closed name case fields row avoids count w agree =
    internal_struct_agrees reading rows checked n tag closed name case row.0 row.1 row.2 (avoids row.0 row.3) count w
    (agree.agree row.0 row.3)

-- a struct whose fields stand beside the tag
pub internal_newtype_law : {reading : Patterns → Type 0} (rows : List Row) → IsChecked rows
    → (n : ℕ) (tag : Text) (closed : Bool) (name : Text) (case : Case) (fields : List Field → Type 0)
    → HasNewtype rows n (by_tag tag closed) (spelled case kind.Variant name) (λ m. HasFields rows m fields)
    → ((list : List Field) → fields list → AvoidsTag tag list)
    → (count : ℕ) (w : Log → Log → Type 0) → FieldsAgreeUnder reading rows fields w
    → Gives (Struct count (Beside tag name case w)) (MeansUnder reading rows n)
internal_newtype_law {reading = reading} rows checked n tag closed name case fields row avoids count w agree =
    let part = row.2 in
    internal_newtype_agrees reading rows checked n row.0 tag closed name case part.0 part.1 row.1 part.2 (avoids part.0 part.3) count w
    (agree.agree part.0 part.3)

-- ---- no name of these fields is the tag

pub last_avoids : (tag : Text) (list : List Field) → LastField list → AvoidsTag tag list
last_avoids tag [] is = tt
last_avoids tag (f ∷ fs) is = absurd is

pub next_avoids : (tag name : Text) (R : ℕ → Type 0) (others : List Field → Type 0) → bytes_eq tag name ≡ false
    → ((list : List Field) → others list → AvoidsTag tag list) → (list : List Field) → NextField name R others list → AvoidsTag tag list
next_avoids tag name R others differ more [] is = absurd is
next_avoids tag name R others differ more (f ∷ fs) is = (subst (λ (t : Text). bytes_eq tag t ≡ false) (sym is.0) differ, more fs is.2)

pub optional_avoids : (tag name : Text) (R : ℕ → Type 0) (others : List Field → Type 0) → bytes_eq tag name ≡ false
    → ((list : List Field) → others list → AvoidsTag tag list) → (list : List Field) → NextOptional name R others list → AvoidsTag tag list
optional_avoids tag name R others differ more [] is = absurd is
optional_avoids tag name R others differ more (f ∷ fs) is = (subst (λ (t : Text). bytes_eq tag t ≡ false) (sym is.0) differ, more fs is.3)

-- ---- tagged beside a content

pub adjacent_unit_law : {reading : Patterns → Type 0} (rows : List Row) → IsChecked rows
    → (n : ℕ) (tag content : Text) (closed : Bool) (name : Text) (case : Case)
    → HasUnit rows n (by_tag_and_content tag content closed) (spelled case kind.Variant name) → (count : ℕ)
    → Gives (Struct count (Beside tag name case Done)) (MeansUnder reading rows n)
adjacent_unit_law {reading =
    reading} rows checked n tag content closed name case row count = adjacent_unit_agrees reading rows checked n tag content closed name case row count

pub adjacent_newtype_law : {reading : Patterns → Type 0} (rows : List Row) → IsChecked rows
    → (n : ℕ) (tag content : Text) (closed : Bool) (name : Text) (case : Case) (R : ℕ → Type 0)
    → HasNewtype rows n (by_tag_and_content tag content closed) (spelled case kind.Variant name) R → (w : Log → Log → Type 0)
    → ((m : ℕ) → R m → Gives w (MeansUnder reading rows m)) → (count : ℕ)
    → Gives (Struct count (Beside tag name case (gives.Field content w Done))) (MeansUnder reading rows n)
adjacent_newtype_law {reading = reading} rows checked n tag content closed name case R row w value count =
    adjacent_agrees reading rows checked n tag content closed name case (newtype_payload row.0) row.1 tt count w (value row.0 row.2)

pub adjacent_tuple_law : {reading : Patterns → Type 0} (rows : List Row) → IsChecked rows
    → (n : ℕ) (tag content : Text) (closed : Bool) (name : Text) (case : Case) (items : List ℕ → Type 0)
    → HasTuple rows n (by_tag_and_content tag content closed) (spelled case kind.Variant name) items → (many : ℕ) (w : Log → Log → Type 0)
    → ItemsAgree reading rows items w → (count : ℕ)
    → Gives (Struct count (Beside tag name case (gives.Field content (InSeq many w) Done))) (MeansUnder reading rows n)
adjacent_tuple_law {reading = reading} rows checked n tag content closed name case items row many w agree count =
    adjacent_agrees reading rows checked n tag content closed name case (tuple_payload row.0) row.1 tt count (InSeq many w)
    (in_seq_gives many w (Of reading rows row.0) (agree row.0 row.2))

pub adjacent_fields_law : {reading : Patterns → Type 0} (rows : List Row) → IsChecked rows
    → (n : ℕ) (tag content : Text) (closed : Bool) (name : Text) (case : Case) (fields : List Field → Type 0)
    → HasStruct rows n (by_tag_and_content tag content closed) (spelled case kind.Variant name) fields → (many : ℕ) (w : Log → Log → Type 0)
    → FieldsAgreeUnder reading rows fields w → (count : ℕ)
    → Gives (Struct count (Beside tag name case (gives.Field content (Struct many w) Done))) (MeansUnder reading rows n)
adjacent_fields_law {reading = reading} rows checked n tag content closed name case fields row many w agree count =
    adjacent_agrees reading rows checked n tag content closed name case (struct_payload (plain_fields row.0 row.1)) row.2 tt count
    (Struct many w)
    (fields_give reading rows row.0 row.1 many w (agree.agree row.0 row.3))
