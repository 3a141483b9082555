-- An enum that is tagged inside its maps, where it is flattened.
use Rattle.std.proofs.Common.{◌≡◌, ℕ, ◌<◌, List, [], ◌∷◌, Bool, true, map, refl, sym, subst}
use Rattle.schemars_meaning.proofs.Words.{Data, Members, depth, Text, IsJson, IsSchema, AreNotes, verdict, Context, judge, unit_variant, Field, Fields, Payload, Variant, no_payload, newtype_payload, tuple_payload, struct_payload, VariantMatch, AreDistinct, AreNoted, annotated, Ask, part, asks_of, asks_in, filled, filled_in, templates_of, struct_template, content_template, internal_item, internal_template, internal_choice, tagged}
use Rattle.schemars_types.specs.declared.contract.Contract.{Contract}
use Rattle.schemars_types.specs.Meaning.{is_text}
use Rattle.schemars_meaning.proofs.Filling.{Fit, without_end, parted}
use Rattle.schemars_meaning.proofs.Offers.{one_object}
use Rattle.schemars_meaning.proofs.Items.{IsItem, AnyItems}
use Rattle.schemars_meaning.proofs.StructDocuments.{IsStruct}
use Rattle.schemars_meaning.proofs.Tags.{tagged_item, tagged_unit}
use Rattle.schemars_meaning.proofs.OneOf.{AreTold}

-- units, and structs with plain fields that `Told` speaks of
abbrev pub IsInside : (Fields → List Field) → (Fields → Type 0) → Payload → Type 0
IsInside fields Told no_payload = Unit {0}
IsInside fields Told (newtype_payload n) = ⊥
IsInside fields Told (tuple_payload ns) = ⊥
IsInside fields Told (struct_payload y) = Told y × AreDistinct (fields y) × AreNoted (fields y)

-- the same, and newtypes that `Fits` speaks of
abbrev pub IsHeld : (Fields → List Field) → (Fields → Type 0) → (ℕ → Type 0) → Payload → Type 0
IsHeld fields Told Fits no_payload = Unit {0}
IsHeld fields Told Fits (newtype_payload n) = Fits n
IsHeld fields Told Fits (tuple_payload ns) = ⊥
IsHeld fields Told Fits (struct_payload y) = IsInside fields Told (struct_payload y)

module _ (c : Context) (on : c.dialect.reads_unevaluated ≡ true) (contract : Contract) (A : Ask → Data → Type 0) (M : ℕ → Data → Bool)
    (schemas : (j : ℕ) (t : Data) → A (part j) t → IsSchema t) (v : Data) (json : IsJson v)
    (agree : (j : ℕ) (t w : Data) → A (part j) t → IsJson w → depth w < depth v → (judge c t).fits w ≡ verdict (M j w))
    (tells : (name : Text) (w : Data) → (judge c (unit_variant name)).fits w ≡ verdict (is_text name w))
    (fields : Fields → List Field) (Told : Fields → Type 0)
    (fills : (y : Fields) → Told y → (us : List Data) → Fit A (asks_of (struct_template contract y)) us
    → IsStruct c on contract (λ j. A (part j)) v (fields y) [] y.closed (filled (struct_template contract y) us)) where
  -- a variant with the fields of flattened rows among its own
  abbrev with_fields : Variant → Variant
  with_fields x = record {
    name = x.name;
    payload = elim x.payload [
      | no_payload ↦ no_payload
      | newtype_payload n ↦ newtype_payload n
      | tuple_payload ns ↦ tuple_payload ns
      | struct_payload y ↦ struct_payload (record { list = fields y; flatten = []; closed = y.closed })
    ];
    notes = x.notes;
  }

  abbrev pub offer : Text → Variant → VariantMatch
  offer tag x = internal_choice contract M tag v (with_fields x)

  item_filled : (tag : Text) (closed : Bool) (name : Text) (p : Payload) (notes : Members) → IsInside fields Told p → AreNotes notes → (us : List Data)
      → Fit A (asks_of (content_template contract p)) us
      → (b : Bool) × IsItem c on b (annotated notes (filled (tagged tag name closed (content_template contract p)) us))
      (offer tag (record { name = name; payload = p; notes = notes })) v
  item_filled tag closed name no_payload notes h plain us fit =
      (closed, tagged_unit c on contract (λ j. A (part j)) M schemas v json agree tells tag name closed notes plain)
  item_filled tag closed name (newtype_payload n) notes h plain us fit = absurd h
  item_filled tag closed name (tuple_payload ns) notes h plain us fit = absurd h
  item_filled tag closed name (struct_payload y) notes h plain us fit = (
    y.closed,
    tagged_item c on contract (λ j. A (part j)) M schemas v json agree tells tag name closed notes (fields y) y.closed
        (filled (struct_template contract y) us) plain h.1 h.2 (fills y h.0 us fit),
  )

  items_filled : (tag : Text) (closed : Bool) (xs : List Variant) → AreTold (IsInside fields Told) xs → (us : List Data)
      → Fit A (asks_in (templates_of (map (internal_item contract tag closed) xs))) us
      → AnyItems c on (filled_in (templates_of (map (internal_item contract tag closed) xs)) us) (map (offer tag) xs) v
  items_filled tag closed [] h us fit = tt
  items_filled tag closed (x ∷ xs) h us fit =
      let s = parted A (internal_item contract tag closed x)
      (asks_in (templates_of (map (internal_item contract tag closed) xs))) us fit in (
        subst (λ t. (b : Bool) × IsItem c on b t (offer tag x) v) (sym s.4)
            (item_filled tag closed x.name x.payload x.notes h.0.0 h.0.1 s.0 s.2),
        subst (λ ws. AnyItems c on (filled_in (templates_of (map (internal_item contract tag closed) xs)) ws) (map (offer tag) xs) v)
            (sym s.5)
            (items_filled tag closed xs h.1 s.1 s.3),
      )

  -- the enum, which has a variant at least
  pub internal_filled : (tag : Text) (closed : Bool) (x : Variant) (xs : List Variant) → AreTold (IsInside fields Told) (x ∷ xs) → (us : List Data)
      → Fit A (asks_of (internal_template contract tag closed (x ∷ xs))) us
      → (ts : List Data) × (filled (internal_template contract tag closed (x ∷ xs)) us ≡ one_object ts)
      × AnyItems c on ts (map (offer tag) (x ∷ xs)) v
  internal_filled tag closed x xs h us fit =
      let ts = templates_of (map (internal_item contract tag closed) (x ∷ xs)) in
      (filled_in ts us, refl, items_filled tag closed (x ∷ xs) h us (without_end A (asks_in ts) us fit))
