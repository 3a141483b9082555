-- What the options of keys say of one key.
use Rattle.std.specs.Prelude.{◌||◌, Bool, true, false, Option, None, option_map}
use Rattle.std.specs.List.{list_any}
use Rattle.std.specs.Option.{option_map_or}
use Rattle.schemars_text.specs.OrderedText.{is_listed}
use Rattle.schemars_schema.specs.Json.{Text}
use Rattle.schemars_schema.specs.Judges.{Patterns, matches}
use Rattle.schemars_shapes.specs.IntegerKeys.{pattern_of}
use Rattle.schemars_shapes.specs.declared.shape.IntegerKeys.{IntegerKeys}
use Rattle.schemars_types.specs.KeyOptions.{KeyOptions, keys, either_integers}
use Rattle.schemars_literals.specs.declared.said.Said as src

-- whether the key is one of the texts, matches one of the patterns or is any other; and which whole numbers are keys
pub record Said : Type 0 where
  pub found : Bool
  pub integers : Option IntegerKeys

abbrev pub said_of : src.Said → Said
said_of s = record { found = s.found; integers = s.integers }

abbrev pub said : Patterns → Text → KeyOptions → Said
said patterns key (keys others texts integers by_pattern) =
    record { found = others || (is_listed key texts || list_any (λ p. matches patterns p key) by_pattern); integers = integers }

abbrev pub either_said : Said → Said → Said
either_said a b = record { found = a.found || b.found; integers = either_integers a.integers b.integers }

abbrev pub any_said : Said
any_said = record { found = true; integers = None }

abbrev pub nothing_said : Said
nothing_said = record { found = false; integers = None }

-- no options say nothing else
abbrev pub said_by : Patterns → Text → Option KeyOptions → Option Said
said_by patterns key o = option_map (said patterns key) o

abbrev pub allowed : Patterns → Text → Said → Bool
allowed patterns key s = s.found || option_map_or (λ i. matches patterns (pattern_of i) key) s.integers false
