-- Times: structs of seconds and of nanoseconds, and the rows of their numbers.
use Rattle.std.specs.Prelude.{◌≡◌, ℕ, false, List, [], ◌∷◌}
use Rattle.schemars_schema.specs.Json.{Text}
use Rattle.schemars_shapes.specs.declared.shape.IntKind.{IntKind}
use Rattle.schemars_shapes.specs.declared.shape.IntKind.TheVariants.{U32, U64}
use Rattle.schemars_shapes.specs.IntKind.{format_of}
use Rattle.schemars_shapes.specs.Shape.{Entry, Fields, bare_fields, int, struct, needed, in_place, without_notes}
use Rattle.schemars_types.specs.Rows.{Row}
use Rattle.schemars_types.specs.declared.error.TypesError.{TypesError}
use Rattle.schemars_types.specs.Refusals.{Registers, Refuses}

abbrev pub RegistersInt : IntKind → List Row → List Row → ℕ → Type 0
RegistersInt kind = Registers (format_of kind) (format_of kind) (in_place (int kind))

abbrev pub RefusesInt : IntKind → List Row → TypesError → Type 0
RefusesInt kind = Refuses (format_of kind) (in_place (int kind))

-- seconds, of row s, and nanoseconds, of row n
abbrev pub time_fields : Text → Text → ℕ → ℕ → Fields
time_fields seconds nanoseconds s n = bare_fields (needed seconds s ∷ needed nanoseconds n ∷ []) false

-- an open struct of these
abbrev pub time_entry : Text → Text → ℕ → ℕ → Entry
time_entry seconds nanoseconds s n = without_notes false (struct (time_fields seconds nanoseconds s n))

-- The rows of 64-bit and of 32-bit numbers are registered, and then that of the time, which refers to them.
pub record RegistersTime (id name seconds nanoseconds : Text) (old new : List Row) (n : ℕ) : Type 0 where
  pub u64 : ℕ
  pub u32 : ℕ
  pub with_u64 : List Row
  pub with_both : List Row
  pub registers_u64 : RegistersInt U64 old with_u64 u64
  pub registers_u32 : RegistersInt U32 with_u64 with_both u32
  pub registers_time : Registers id name (time_entry seconds nanoseconds u64 u32) with_both new n

-- one of the three is refused, and the rows that were registered before it stay
pub data RefusesTime (id seconds nanoseconds : Text) (old new : List Row) (e : TypesError) : Type 0 where
  refuses_u64 : RefusesInt U64 old e → new ≡ old → RefusesTime id seconds nanoseconds old new e
  refuses_u32 : (u64 : ℕ) → RegistersInt U64 old new u64 → RefusesInt U32 new e → RefusesTime id seconds nanoseconds old new e
  refuses_time : (u64 u32 : ℕ) (with_u64 : List Row) → RegistersInt U64 old with_u64 u64 → RegistersInt U32 with_u64 new u32
      → Refuses id (time_entry seconds nanoseconds u64 u32) new e → RefusesTime id seconds nanoseconds old new e
