-- The place of a name among members in the order of their names, or the place where it belongs.
use Rattle.std.specs.Prelude.{◌≡◌, ℕ, zero, suc, ⊤}
use Rattle.std.specs.Ordering.{nat_cmp}
use Rattle.std.specs.Cmp.Lexicographic.{slice_cmp}
use Rattle.std.specs.declared.cmp.Ordering.TheVariants.{Less, Equal, Greater}
use Rattle.serde_json.specs.Data.{Members, no_members, member}
use Rattle.schemars_text.specs.Text.{Text}

-- the member at this place has the name, and those before it have names before it
abbrev pub IsFoundAt : Text → Members → ℕ → Type 0
IsFoundAt k no_members i = ⊥
IsFoundAt k (member l d ms) zero = slice_cmp nat_cmp k l ≡ Equal
IsFoundAt k (member l d ms) (suc i) = (slice_cmp nat_cmp k l ≡ Greater) × IsFoundAt k ms i

-- the name is behind those of the members before this place, and before that of the member there
abbrev pub BelongsAt : Text → Members → ℕ → Type 0
BelongsAt k no_members zero = ⊤
BelongsAt k no_members (suc i) = ⊥
BelongsAt k (member l d ms) zero = slice_cmp nat_cmp k l ≡ Less
BelongsAt k (member l d ms) (suc i) = (slice_cmp nat_cmp k l ≡ Greater) × BelongsAt k ms i
