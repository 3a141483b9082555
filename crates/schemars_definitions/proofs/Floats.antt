-- A number that is not whole in an object with its definitions.
use Rattle.std.proofs.Common.{◌≡◌, ◌||◌, Bool, true, false, Some, refl, sym, ap, ◌∙◌}
use Rattle.schemars_definitions.proofs.Words.{bytes_eq, if◌then◌else◌, or_parts, Data, null, boolean, number, string, array, object, Members, no_members, member, get, get_member, has_float, members_have_float, get_member-member, Text, replaced, with_names}

-- what is put in the place of a value without one, and what was there, have none
replaced_whole : (k : Text) (d e : Data) (ms : Members) → get_member k ms ≡ Some e → has_float e ≡ false
    → members_have_float (replaced k d ms) ≡ false → (has_float d ≡ false) × (members_have_float ms ≡ false)
replaced_whole k d e no_members here whole none = cc
replaced_whole k d e (member l f ms) here whole none =
    go (bytes_eq k l) (sym (get_member-member k l f ms) ∙ here) none (replaced_whole k d e ms)
  where
    go : (b : Bool) → (if b then Some f else get_member k ms) ≡ Some e
        → members_have_float (if b then member l d ms else member l f (replaced k d ms)) ≡ false
        → (get_member k ms ≡ Some e → has_float e ≡ false → members_have_float (replaced k d ms) ≡ false
        → (has_float d ≡ false) × (members_have_float ms ≡ false))
        → (has_float d ≡ false) × (has_float f || members_have_float ms ≡ false)
    go true here none later =
        let parts = or_parts (has_float d) (members_have_float ms) none in
        let same : f ≡ e = cc here in
        (parts.0, ap (λ x. has_float x || members_have_float ms) same ∙ (ap (λ b. b || members_have_float ms) whole ∙ parts.1))
    go false here none later =
        let parts = or_parts (has_float f) (members_have_float (replaced k d ms)) none in
        let rest = later here whole parts.1 in
        (rest.0, ap (λ b. b || members_have_float ms) parts.0 ∙ rest.1)

-- definitions in the place of an empty object, and what that was in, have none
pub place_whole : (key : Text) (defs : Members) (own : Data) → get key own ≡ Some (object no_members)
    → has_float (with_names key defs own) ≡ false → (members_have_float defs ≡ false) × (has_float own ≡ false)
place_whole key defs (object ms) empty none = replaced_whole key (object defs) (object no_members) ms empty refl none
place_whole key defs null empty none = cc
place_whole key defs (boolean b) empty none = cc
place_whole key defs (number n) empty none = cc
place_whole key defs (string s) empty none = cc
place_whole key defs (array ds) empty none = cc
