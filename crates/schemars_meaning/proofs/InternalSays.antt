-- What the document of an enum says that is tagged inside its maps, whose structs may have enums among their members, and whose newtypes
-- say what they mean beside the tag.
use Rattle.std.proofs.Common.{◌≡◌, ℕ, ◌<◌, List, [], ◌∷◌, map, Option, Some, None, Bool, true, false, refl, sym, ap, ◌∙◌, subst, true≢false}
use Rattle.schemars_meaning.proofs.Words.{bytes_eq, if◌then◌else◌, is_some, option_and_then, list_any, and_parts, bytes_eq-Decides, Data, null, object, Members, no_members, member, depth, get_member, as_str, Text, IsJson, IsSchema, without, verdict, Judge, Patterns, Context, judge, context2020_12, Field, Fields, Flattened, Payload, Variant, no_payload, newtype_payload, tuple_payload, struct_payload, holds, every_member, VariantMatch, every_part, excludes_key, matches_of, AreDistinctVariants, Ask, part, content, asked, asks_of, filled, struct_template, content_template, internal_template, expanded_payload, expanded_variant, effective, flattened_enums, enum_at, option_map_or, not, as_object, has_content, has_internal, internally_tagged_variant, Member, member_named, has_each, are_members, tag_member, has_members_with, field_member, tagged}
use Rattle.schemars_types.specs.declared.contract.Contract.{Contract}
use Rattle.schemars_types.specs.Meaning.{is_text}
use Rattle.schemars_text.proofs.Members.{get_member-member}
use Rattle.schemars_meaning.proofs.Filling.{Fit}
use Rattle.schemars_meaning.proofs.StructDocuments.{IsStruct}
use Rattle.schemars_meaning.proofs.InternalParts.{IsHeld}
use Rattle.schemars_meaning.proofs.Tags.{null_means, tagged_means}
use Rattle.schemars_meaning.proofs.Choices.{unit_says}
use Rattle.schemars_meaning.proofs.OneOf.{AreTold, Tells, one_tells, one_says}

-- ---- a value tells its name

-- a member of a map passes where each does
held : (p : Text → Data → Bool) (ms : Members) (k : Text) → every_member p ms ≡ true → is_some (get_member k ms) ≡ true
    → holds (get_member k ms) (p k) ≡ true
held p no_members k every there = there
held p (member l e ms) k every there =
    let parts = and_parts (p l e) (every_member p ms) every in
    subst (λ o. holds o (p k) ≡ true) (sym (get_member-member k l e ms))
    (go (bytes_eq k l) refl parts.0 (held p ms k parts.1) (subst (λ o. is_some o ≡ true) (get_member-member k l e ms) there))
  where
    go : (b : Bool) → bytes_eq k l ≡ b → p l e ≡ true → (is_some (get_member k ms) ≡ true → holds (get_member k ms) (p k) ≡ true)
        → is_some (if b then Some e else get_member k ms) ≡ true → holds (if b then Some e else get_member k ms) (p k) ≡ true
    go true same own later there = ap (λ t. p t e) ((bytes_eq-Decides k l).0 same) ∙ own
    go false other own later there = later there

-- the text under the tag
abbrev pub told : Text → Data → Option Text
told tag v = option_and_then (λ ms. option_and_then as_str (get_member tag ms)) (as_object v)

text_is : (name : Text) (o : Option Text) → holds o (bytes_eq name) ≡ true → o ≡ Some name
text_is name None h = absurd (true≢false (sym h))
text_is name (Some s) h = ap Some (sym ((bytes_eq-Decides name s).0 h))

text_at : (name : Text) (o : Option Data) → holds o (is_text name) ≡ true → option_and_then as_str o ≡ Some name
text_at name None h = absurd (true≢false (sym h))
text_at name (Some w) h = text_is name (as_str w) h

module _ (tag : Text) where
  member_told : (list : List Member) (others : Text → Bool) (name : Text) (ms : Members)
      → are_members (tag_member tag name ∷ list) others ms ≡ true → told tag (object ms) ≡ Some name
  member_told list others name ms h =
      let each = λ (k : Text) (w : Data). option_map_or (λ (m : Member). m.has w) (member_named (tag_member tag name ∷ list) k) (others k) in
      let parts = and_parts (every_member each ms) (has_each (tag_member tag name ∷ list) ms) h in
      let there = and_parts (is_some (get_member tag ms)) (has_each list ms) parts.1 in
      text_at name (get_member tag ms)
      (subst (λ b. holds (get_member tag ms) (λ w. option_map_or (λ (m : Member). m.has w)
      (if b then Some (tag_member tag name) else member_named list tag) (others tag)) ≡ true)
      ((bytes_eq-Decides tag tag).1 refl) (held each ms tag parts.0 there.0))

  -- a map with the tag among its members tells its name
  pub tagged_told : (ps : List (List VariantMatch)) (list : List Member) (closed : Bool) (name : Text) (v : Data)
      → has_members_with ps (tag_member tag name ∷ list) closed v ≡ true → told tag v ≡ Some name
  tagged_told ps list closed name (object ms) h =
      let others = λ (k : Text). not (excludes_key closed ps k) in
      member_told list others name ms (and_parts (every_part ps) (are_members (tag_member tag name ∷ list) others ms) h).1
  tagged_told ps list closed name _ h = absurd (true≢false (sym h))

  -- what is tagged tells its name
  content_told : (p : Data → Bool) (name : Text) (v : Data) → has_content p tag name v ≡ true → told tag v ≡ Some name
  content_told p name (object ms) h =
      text_at name (get_member tag ms) (and_parts (holds (get_member tag ms) (is_text name)) (p (object (without tag ms))) h).0
  content_told p name null h = absurd (true≢false (sym h))
  content_told p name _ h = absurd (true≢false (sym h))

module _ (patterns : Patterns) (f : Text → Judge) (contract : Contract) (A : Ask → Data → Type 0) (M : ℕ → Data → Bool)
    (C : ℕ → Data → List VariantMatch) (v : Data) (part_fields : Flattened → List Field) (enums : Flattened → List ℕ)
    (tag : Text) (closed : Bool) where
  abbrev has : Variant → Bool
  has = has_internal contract M C tag closed v

  abbrev inside : Text → Payload → Bool
  inside name p = has (record { name = name; payload = p; notes = no_members })

  abbrev each : Variant → Variant
  each = expanded_variant part_fields enums

  variant_told : (name : Text) (p : Payload) → inside name p ≡ true → told tag v ≡ Some name
  variant_told name no_payload h = tagged_told tag [] [] closed name v h
  variant_told name (newtype_payload n) h = content_told tag (M n) name v h
  variant_told name (tuple_payload ns) h = absurd (true≢false (sym h))
  variant_told name (struct_payload y) h =
      tagged_told tag (matches_of C y.flatten v) (map (field_member contract M) y.list) y.closed name v h

  -- ---- the whole

  module _ (Told : Fields → Type 0) (Fits : ℕ → Type 0) (json : IsJson v) (schemas : (j : ℕ) (t : Data) → A (part j) t → IsSchema t)
      (agree : (j : ℕ) (t w : Data) → A (part j) t → IsJson w → depth w < depth v
      → (judge (context2020_12 patterns f) t).fits w ≡ verdict (M j w))
      (fills : (y : Fields) → Told y → (us : List Data) → Fit A (asks_of (struct_template contract y)) us
      → IsStruct (context2020_12 patterns f) refl contract (λ j. A (part j)) v (effective part_fields y)
      (matches_of C (map enum_at (flattened_enums enums y.flatten)) v) y.closed
      (filled (struct_template contract y) us))
      (contents : (n : ℕ) (t : Data) → Fits n → A (content n) t → (name : Text)
      → (judge (context2020_12 patterns f) (internally_tagged_variant tag name closed t)).fits v ≡ verdict (has_content (M n) tag name v)) where
    abbrev c : Context
    c = context2020_12 patterns f

    item_tells : (name : Text) (p : Payload) → IsHeld (effective part_fields) Told Fits p
        → Tells patterns f A v (tagged tag name closed (content_template contract p)) (inside name (expanded_payload part_fields enums p))
    item_tells name no_payload h = λ us fit. (
      tt,
      null_means c refl contract (λ j. A (part j)) M schemas v json agree (unit_says patterns f) tag name closed,
    )
    item_tells name (newtype_payload n) h = content_tells
      where
        content_tells : Tells patterns f A v (tagged tag name closed (asked (content n))) (has_content (M n) tag name v)
        content_tells [] fit = absurd fit
        content_tells (t ∷ us) fit = (tt, contents n t h fit.0 name)
    item_tells name (tuple_payload ns) h = absurd h
    item_tells name (struct_payload y) h = λ us fit. (
      tt,
      tagged_means c refl contract (λ j. A (part j)) M schemas v json agree (unit_says patterns f) tag name closed
          (effective part_fields y) _ y.closed (filled (struct_template contract y) us) h.1 h.2 (fills y h.0 us fit),
    )

    -- the document of the enum says what the enum means
    pub internal_says : (xs : List Variant) → AreDistinctVariants (map each xs) → AreTold (IsHeld (effective part_fields) Told Fits) xs
        → Tells patterns f A v (internal_template contract tag closed xs) (list_any has (map each xs))
    internal_says [] apart all = one_tells patterns f A v [] [] tt
    internal_says (x ∷ xs) apart all =
        one_says patterns f A v (λ y. tagged tag y.name closed (content_template contract y.payload)) each has
        (IsHeld (effective part_fields) Told Fits) (λ y h. item_tells y.name y.payload h) (told tag v) (λ y. variant_told y.name y.payload)
        (x ∷ xs) apart all
