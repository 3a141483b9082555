-- What an example value says.
use Rattle.std.specs.Prelude.{ℕ, ℤ, pos, List, [], ◌∷◌, map, Bool, String, string_bytes}
use Rattle.std.specs.Float.{Float}
use Rattle.std.specs.declared.alloc.Global.{Global}
use Rattle.schemars_schema.specs.Json.{Text}
use Rattle.schemars_sample.specs.declared.sample.Sample.{Sample, fold-Sample}
use Rattle.schemars_sample.specs.declared.sample.Sample.TheOpen.{Sample-F}

-- A map is a struct without a name, and a tuple one without names of its parts. The variants of enums have one form each, with
-- their own names.
mutual
  pub data Example : Type 0 where
    truth : Bool → Example
    whole : ℤ → Example
    decimal : Float → Example
    character : ℕ → Example
    text : Text → Example
    bytes : List ℕ → Example
    no_value : Example
    some_value : Example → Example
    unit_struct : Example
    unit_variant : Text → Example
    newtype_struct : Text → Example → Example
    newtype_variant : Text → Example → Example
    seq : Examples → Example
    tuple : Text → Examples → Example
    tuple_variant : Text → Examples → Example
    struct : Text → Entries → Example
    collected_map : Entries → Example
    struct_variant : Text → Entries → Example

  pub data Examples : Type 0 where
    no_examples : Examples
    example : Example → Examples → Examples

  pub data Entries : Type 0 where
    no_entries : Entries
    entry : Text → Example → Entries → Entries

abbrev pub examples_of : List Example → Examples
examples_of [] = no_examples
examples_of (x ∷ xs) = example x (examples_of xs)

abbrev pub entries_of : List (String Global × Example) → Entries
entries_of [] = no_entries
entries_of (x ∷ xs) = entry (string_bytes x.0) x.1 (entries_of xs)

-- one level, with what is inside seen already
abbrev pub example_step : Sample-F Example → Example
example_step (Sample-F.Bool b) = truth b
example_step (Sample-F.Int z) = whole z
example_step (Sample-F.UInt n) = whole (pos n)
example_step (Sample-F.Float x) = decimal x
example_step (Sample-F.Char c) = character c
example_step (Sample-F.Str s) = text (string_bytes s)
example_step (Sample-F.Bytes v) = bytes v.items
example_step (Sample-F.CollectStr s) = text (string_bytes s)
example_step Sample-F.None = no_value
example_step (Sample-F.Some e) = some_value e.value
example_step Sample-F.Unit = no_value
example_step (Sample-F.UnitStruct name) = unit_struct
example_step (Sample-F.UnitVariant name) = unit_variant (string_bytes name)
example_step (Sample-F.NewtypeStruct name e) = newtype_struct (string_bytes name) e.value
example_step (Sample-F.NewtypeVariant name e) = newtype_variant (string_bytes name) e.value
example_step (Sample-F.Seq v) = seq (examples_of v.items)
example_step (Sample-F.Tuple v) = tuple [] (examples_of v.items)
example_step (Sample-F.TupleStruct name v) = tuple (string_bytes name) (examples_of v.items)
example_step (Sample-F.TupleVariant name v) = tuple_variant (string_bytes name) (examples_of v.items)
example_step (Sample-F.Map v) = struct [] (entries_of v.items)
example_step (Sample-F.CollectMap v) = collected_map (entries_of v.items)
example_step (Sample-F.Struct name v) = struct (string_bytes name) (entries_of v.items)
example_step (Sample-F.StructVariant name v) = struct_variant (string_bytes name) (entries_of v.items)

abbrev pub example_of : Sample → Example
example_of = fold-Sample Example example_step

abbrev pub examples_view : List Sample → Examples
examples_view xs = examples_of (map example_of xs)

abbrev pub entries_view : List (String Global × Sample) → Entries
entries_view xs = entries_of (map (λ x. (x.0, example_of x.1)) xs)
