-- A unit, and a variant that has more than its name.
use Rattle.std.proofs.Common.{◌≡◌, ℕ, [], ◌∷◌, Bool, true, false, refl, sym, true≢false}
use Rattle.schemars_belonging.proofs.Words.{Data, Text, Payload, no_payload, newtype_payload, tuple_payload, struct_payload, has_external, has_adjacent, has_member, is_text, Asked, has, offers, bare, variant_in, has_beside_of, tag_given, is_unit}

module _ (a : Asked) (steps : ℕ) where
  pub external_unit : (name : Text) (p : Payload) (v : Data) → is_unit p ≡ true
      → is_text name v ≡ has_external a.contract (has a steps) (offers a steps) v (variant_in a (bare name p))
  external_unit name no_payload v is = refl
  external_unit name (newtype_payload n) v is = absurd (true≢false (sym is))
  external_unit name (tuple_payload ns) v is = absurd (true≢false (sym is))
  external_unit name (struct_payload x) v is = absurd (true≢false (sym is))

  pub external_other : (name : Text) (p : Payload) (v : Data) → is_unit p ≡ false
      → has_beside_of a steps [] name p true v ≡ has_external a.contract (has a steps) (offers a steps) v (variant_in a (bare name p))
  external_other name no_payload v is = absurd (true≢false is)
  external_other name (newtype_payload n) v is = refl
  external_other name (tuple_payload ns) v is = refl
  external_other name (struct_payload x) v is = refl

  module _ (tag content : Text) (closed : Bool) (name : Text) where
    pub adjacent_unit : (p : Payload) (v : Data) → is_unit p ≡ true
        → has_member tag (is_text name) closed v
        ≡ has_adjacent a.contract (has a steps) (offers a steps) tag content closed v (variant_in a (bare name p))
    adjacent_unit no_payload v is = refl
    adjacent_unit (newtype_payload n) v is = absurd (true≢false (sym is))
    adjacent_unit (tuple_payload ns) v is = absurd (true≢false (sym is))
    adjacent_unit (struct_payload x) v is = absurd (true≢false (sym is))

    pub adjacent_other : (p : Payload) (v : Data) → is_unit p ≡ false
        → has_beside_of a steps (tag_given tag name ∷ []) content p closed v
        ≡ has_adjacent a.contract (has a steps) (offers a steps) tag content closed v (variant_in a (bare name p))
    adjacent_other no_payload v is = absurd (true≢false is)
    adjacent_other (newtype_payload n) v is = refl
    adjacent_other (tuple_payload ns) v is = refl
    adjacent_other (struct_payload x) v is = refl
