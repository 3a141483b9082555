-- Options as the program holds them, and how they grow.
use Rattle.std.specs.Prelude.{◌≡◌, ◌||◌, ℕ, List, [], ◌∷◌, map, Bool, true, bytes_eq, nat_eq, Option, is_none}
use Rattle.std.specs.List.{list_any}
use Rattle.indexmap.specs.IndexSet.{insert_all}
use Rattle.schemars_schema.specs.Json.{Text}
use Rattle.schemars_types.specs.Rows.{Row}
use Rattle.schemars_types.specs.declared.keys.options.KeyOptions as src
use Rattle.schemars_shapes.specs.Shape.{Variant}
use Rattle.schemars_types.specs.KeyOptions.{KeyOptions, keys, either_integers, all_options, or_any_text, member_options}

abbrev pub options_of : src.KeyOptions → KeyOptions
options_of o = keys o.others (map (λ t. t.now) o.texts.keys) o.integers (map (λ t. t.now) o.patterns.keys)

-- with these too, and no text or pattern that is there
abbrev pub adding : KeyOptions → KeyOptions → KeyOptions
adding (keys a ts i ps) (keys b us j qs) =
    keys (a || b) (insert_all bytes_eq ts us) (either_integers i j) (insert_all bytes_eq ps qs)

abbrev pub AreListed : List Text → List Text → Type 0
AreListed [] ts = Unit {0}
AreListed (u ∷ us) ts = (list_any (bytes_eq u) ts ≡ true) × AreListed us ts

-- these options are among those
abbrev pub AreAmong : KeyOptions → KeyOptions → Type 0
AreAmong (keys b us j qs) (keys a ts i ps) = (a || b ≡ a) × AreListed us ts × (either_integers i j ≡ i) × AreListed qs ps

-- the options of row n
abbrev pub options_at : List Row → ℕ → KeyOptions
options_at rows n = or_any_text (all_options rows n)

-- one of the members of an untagged enum leaves nothing to the others
abbrev pub some_takes_all : (ℕ → Option KeyOptions) → List Variant → Bool
some_takes_all part xs = list_any (λ x. is_none (member_options part x.payload)) xs

-- the options of each of these rows are
pub record HoldsRows (rows : List Row) (met : List ℕ) (o : KeyOptions) : Type 0 where
  pub holds : (m : ℕ) → list_any (nat_eq m) met ≡ true → AreAmong (options_at rows m) o
