-- A member of a field in the meaning.
use Rattle.std.proofs.Common.{◌≡◌, ℕ, List, [], ◌∷◌, map, Some, Bool, true, false, refl}
use Rattle.schemars_written.proofs.Words.{if◌then◌else◌, bytes_eq, not, option_map_or, Data, Members, Text, Field, Member, member_named, has_each, field_member, field_named, tag_member}
use Rattle.schemars_types.specs.declared.contract.Contract.TheVariants.{Serialize}

-- it has the values of the field's row
pub member_at : (part : ℕ → Data → Bool) (fs : List Field) (k : Text) (w : Data) (free : Bool)
    → option_map_or (λ (m : Member). m.has w) (member_named (map (field_member Serialize part) fs) k) free
    ≡ option_map_or (λ (f : Field). part f.ty w) (field_named fs k) free
member_at part [] k w free = refl
member_at part (x ∷ xs) k w free = go (bytes_eq x.name k) (member_at part xs k w free)
  where
    go : (b : Bool) → option_map_or (λ (m : Member). m.has w) (member_named (map (field_member Serialize part) xs) k) free
        ≡ option_map_or (λ (f : Field). part f.ty w) (field_named xs k) free
        → option_map_or (λ (m : Member). m.has w)
        (if b then Some (field_member Serialize part x) else member_named (map (field_member Serialize part) xs) k) free
        ≡ option_map_or (λ (f : Field). part f.ty w) (if b then Some x else field_named xs k) free
    go true later = refl
    go false later = later

-- what a member of this name may have, among these fields
abbrev pub field_fits : (ℕ → Data → Bool) → List Field → Bool → Text → Data → Bool
field_fits part fs closed k w = option_map_or (λ (m : Member). m.has w) (member_named (map (field_member Serialize part) fs) k) (not closed)

-- each field that has to be there is
abbrev pub has_each_field : (ℕ → Data → Bool) → List Field → Members → Bool
has_each_field part fs = has_each (map (field_member Serialize part) fs)

-- the same beside a tag
abbrev pub beside_tag_fits : (ℕ → Data → Bool) → List Field → Bool → Text → Text → Text → Data → Bool
beside_tag_fits part fs closed tag name k w =
    option_map_or (λ (m : Member). m.has w) (member_named (tag_member tag name ∷ map (field_member Serialize part) fs) k) (not closed)
