-- Maps with fields, and with enums among their members.
use Rattle.std.proofs.Common.{◌≡◌, ℕ, List, [], ◌∷◌, ◌++◌, Option, Some, Bool, true, false, ap, ◌∙◌, map}
use Rattle.schemars_belonging.proofs.Words.{◌&&◌, not, Data, Members, as_object, is_listed, Text, Fields, effective, flattened_in, flattened_enums, part_enums, enum_at, Member, VariantMatch, holds, every_part, matches_of, are_members, has_members, has_members_with, has_fields, has_tagged, tag_member, excludes_key, is_key_of_match, Asked, Given, has, offers, member_of, field_given, tag_given, allows, all_claims, has_fields_of}
use Rattle.schemars_belonging.proofs.Members.{field_members}
use Rattle.schemars_belonging.proofs.Offers.{all_listed}

-- what the enums flattened into fields offer of a value
abbrev pub offered : Asked → ℕ → Fields → Data → List (List VariantMatch)
offered a steps x v = matches_of (offers a steps) (map enum_at (flattened_enums (part_enums a.rows) x.flatten)) v

module _ (a : Asked) (steps : ℕ) (x : Fields) (v : Data) where
  pub fields_mean : has_fields_of a steps [] x v
      ≡ has_fields a.contract (has a steps) (offered a steps x v) (effective (flattened_in a.rows) x) x.closed v
  fields_mean = ap (λ (ms : List Member). has_members_with (offered a steps x v) ms x.closed v)
      (field_members a steps (effective (flattened_in a.rows) x))

  pub tagged_mean : (tag name : Text) → has_fields_of a steps (tag_given tag name ∷ []) x v
      ≡ has_tagged a.contract (has a steps) (offered a steps x v) tag (effective (flattened_in a.rows) x) x.closed name v
  tagged_mean tag name = ap (λ (ms : List Member). has_members_with (offered a steps x v) (tag_member tag name ∷ ms) x.closed v)
      (field_members a steps (effective (flattened_in a.rows) x))

  pub alone_mean : (tag name : Text) (gs : List Given)
      → gs ≡ tag_given tag name ∷ map (field_given true a.contract) (effective (flattened_in a.rows) x)
      → has_members (map (member_of a steps) gs) (λ k. not false) v
      ≡ has_tagged a.contract (has a steps) [] tag (effective (flattened_in a.rows) x) false name v
  alone_mean tag name gs is =
      ap (λ (hs : List Given). has_members (map (member_of a steps) hs) (λ k. not false) v) is
      ∙ ap (λ (ms : List Member). has_members (tag_member tag name ∷ ms) (λ k. not false) v)
      (field_members a steps (effective (flattened_in a.rows) x))

  module _ (tags : List Given) (ms : Members) (ns : List ℕ) (object : Some ms ≡ as_object v)
      (enums : ns ≡ flattened_enums (part_enums a.rows) x.flatten) where
    parts_are : matches_of (offers a steps) (map enum_at ns) v ≡ offered a steps x v
    parts_are = ap (λ (ms : List ℕ). matches_of (offers a steps) (map enum_at ms) v) enums

    pub fields_fit : (gs : List Given) (ks : List Text) → true ≡ every_part (matches_of (offers a steps) (map enum_at ns) v)
        → ks ≡ all_claims a steps ns v → gs ≡ tags ++ map (field_given true a.contract) (effective (flattened_in a.rows) x)
        → are_members (map (member_of a steps) gs) (allows x.closed ks) ms ≡ has_fields_of a steps tags x v
    fields_fit gs ks all claimed given =
        (λ i. are_members (map (member_of a steps) (given i)) (λ k. not (not (listed k i) && x.closed)) ms)
        ∙ (ap (λ b. b && are_members members others ms) (all ∙ ap every_part parts_are)
        ∙ ap (λ (o : Option Members). holds o (λ ws. every_part (offered a steps x v) && are_members members others ws)) object)
      where
        members : List Member
        members = map (member_of a steps) (tags ++ map (field_given true a.contract) (effective (flattened_in a.rows) x))

        others : Text → Bool
        others k = not (excludes_key x.closed (offered a steps x v) k)

        listed : (k : Text) → is_listed k ks ≡ is_key_of_match (offered a steps x v) k
        listed k = ap (is_listed k) claimed ∙ (all_listed a steps ns v k
            ∙ ap (λ (cs : List (List VariantMatch)). is_key_of_match cs k) parts_are)
