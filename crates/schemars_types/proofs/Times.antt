-- The rows of a time's numbers are rows of the table that its own row joins.
use Rattle.std.proofs.Common.{◌≡◌, ◌<◌, ◌≤◌, ℕ, List, [], ◌∷◌, ◌++◌, Bool, true, false, None, length, find, nat_le, is_some, if◌then◌else◌, ap, ◌∙◌, sym, subst, arith, Result, Ok, Err, IfErr, OnErr}
use Rattle.schemars_types.proofs.Words.{Text, Entry, Row, place_of, reserved, unknown_in, Registers, Refuses, RegistersInt, RefusesTime, refuses_time, time_entry}
use Rattle.schemars_shapes.specs.declared.shape.IntKind.TheVariants.{U32, U64}
use Rattle.schemars_types.specs.declared.error.TypesError.{TypesError}
use Rattle.schemars_types.proofs.Registered.{place_of-below, nat_le-above}
use Rattle.schemars_types.proofs.Within.{length-joined, length-defined}

reserved_longer : (id name : Text) (rows : List Row) → length rows ≤ length (reserved id name rows)
reserved_longer id name rows = by (is_some (place_of id rows))
  where
    by : (b : Bool) → length rows ≤ length (if b then rows else rows ++ (record { id = id; name = name; entry = None }) ∷ [])
    by true = omega arith
    by false = length-joined rows (record { id = id; name = name; entry = None })

registered_longer : (id name : Text) (e : Entry) (old new : List Row) (n : ℕ) → Registers id name e old new n → length old ≤ length new
registered_longer id name e old new n r =
    let same : length new ≡ length (reserved id name old) = ap length r.table ∙ length-defined n e (reserved id name old) in
    omega (arith, reserved_longer id name old)

two_known : (len a b : ℕ) → a < len → b < len → find (λ m. nat_le len m) (a ∷ b ∷ []) ≡ None
two_known len a b first second = rw (nat_le-above len a first, nat_le-above len b second)

pub time_known : (seconds nanoseconds : Text) (u64 u32 : ℕ) (old with_u64 with_both : List Row) → RegistersInt U64 old with_u64 u64
    → RegistersInt U32 with_u64 with_both u32 → unknown_in with_both (time_entry seconds nanoseconds u64 u32).shape ≡ None
time_known seconds nanoseconds u64 u32 old with_u64 with_both first second =
    let early : u64 < length with_u64 = place_of-below _ with_u64 u64 first.number in
    let longer : length with_u64 ≤ length with_both = registered_longer _ _ _ with_u64 with_both u32 second in
    let late : u32 < length with_both = place_of-below _ with_both u32 second.number in
    two_known (length with_both) u64 u32 (omega arith) late

-- where the row of a time is refused, those of its numbers stay
pub time_refused : {A : Type 0} (r : Result A TypesError) (id seconds nanoseconds : Text) (old with_u64 with_both new : List Row)
    (u64 u32 : ℕ)
    → RegistersInt U64 old with_u64 u64 → RegistersInt U32 with_u64 with_both u32 → OnErr r (new ≡ with_both)
    → IfErr r (Refuses id (time_entry seconds nanoseconds u64 u32) with_both) → IfErr r (RefusesTime id seconds nanoseconds old new)
time_refused (Ok n) id seconds nanoseconds old with_u64 with_both new u64 u32 first second same refused = tt
time_refused (Err e) id seconds nanoseconds old with_u64 with_both new u64 u32 first second same refused =
    let P : List Row → Type 0 = λ rows. RefusesTime id seconds nanoseconds old rows e in
    subst P (sym same) (refuses_time u64 u32 with_u64 first second refused)
