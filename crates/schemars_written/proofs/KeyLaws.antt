-- The laws of whole numbers as keys, under readings that take each of them for what it is.
use Rattle.std.proofs.Common.{◌≡◌, ℕ, ◌<◌, ◌^◌, ℤ, List, refl, arith}
use Rattle.schemars_written.proofs.Words.{FitsSigned, w8, w16, w32, w64, ints, Logs, integers_of, Row, IsChecked, IsWithin64, TakesWholeNumbers, GivesAsKey, IsKeyUnder, HasShape}
use Rattle.serde.specs.Event as event
use Rattle.schemars_shapes.specs.Shape as shape
use Rattle.schemars_shapes.specs.declared.shape.IntegerKeys.TheVariants.{Unsigned, Signed}
use Rattle.schemars_shapes.specs.declared.shape.IntKind.{IntKind}
use Rattle.schemars_shapes.specs.declared.shape.IntKind.TheVariants.{U8, U16, U32, U64, U128, Usize, I8, I16, I32, I64, I128, Isize}
use Rattle.schemars_written.proofs.Keys.{natural_key_law, integer_key_law, key_under}
use Rattle.schemars_written.proofs.Laws.{within}

taken : (rows : List Row) (n v : ℕ) (kind : IntKind) → IsChecked rows → HasShape rows n (shape.int kind) → integers_of kind ≡ Unsigned
    → v < 2 ^ 64 → GivesAsKey (λ old new. Logs old new (event.unsigned v)) (IsKeyUnder TakesWholeNumbers rows n)
taken rows n v kind checked row unsigned low = key_under (λ old new. Logs old new (event.unsigned v)) rows n
    (λ patterns takes. takes.0 v low) (natural_key_law rows n v kind checked row unsigned)

taken_signed : (rows : List Row) (n : ℕ) (z : ℤ) (kind : IntKind) → IsChecked rows → HasShape rows n (shape.int kind)
    → integers_of kind ≡ Signed → IsWithin64 z
    → GivesAsKey (λ old new. Logs old new (event.signed z)) (IsKeyUnder TakesWholeNumbers rows n)
taken_signed rows n z kind checked row signed low = key_under (λ old new. Logs old new (event.signed z)) rows n
    (λ patterns takes. takes.1 z low) (integer_key_law rows n z kind checked row signed)

abbrev UnsignedKey : IntKind → ℕ → Type 0
UnsignedKey kind bits = (rows : List Row) (n v : ℕ) → IsChecked rows → HasShape rows n (shape.int kind) → v < 2 ^ bits
    → GivesAsKey (λ old new. Logs old new (event.unsigned v)) (IsKeyUnder TakesWholeNumbers rows n)

pub u8_key_law : UnsignedKey U8 8
u8_key_law rows n v checked row valid = taken rows n v U8 checked row refl (omega arith)

pub u16_key_law : UnsignedKey U16 16
u16_key_law rows n v checked row valid = taken rows n v U16 checked row refl (omega arith)

pub u32_key_law : UnsignedKey U32 32
u32_key_law rows n v checked row valid = taken rows n v U32 checked row refl (omega arith)

pub u64_key_law : UnsignedKey U64 64
u64_key_law rows n v checked row valid = taken rows n v U64 checked row refl valid

pub usize_key_law : UnsignedKey Usize 64
usize_key_law rows n v checked row valid = taken rows n v Usize checked row refl valid

pub u128_key_law : UnsignedKey U128 64
u128_key_law rows n v checked row valid = taken rows n v U128 checked row refl valid

abbrev SignedKey : IntKind → (ℤ → Type 0) → Type 0
SignedKey kind Fits = (rows : List Row) (n : ℕ) (z : ℤ) → IsChecked rows → HasShape rows n (shape.int kind) → Fits z
    → GivesAsKey (λ old new. Logs old new (event.signed z)) (IsKeyUnder TakesWholeNumbers rows n)

pub i8_key_law : SignedKey I8 (FitsSigned w8)
i8_key_law rows n z checked row valid = taken_signed rows n z I8 checked row refl (within w8 z valid (omega (arith, ints)))

pub i16_key_law : SignedKey I16 (FitsSigned w16)
i16_key_law rows n z checked row valid = taken_signed rows n z I16 checked row refl (within w16 z valid (omega (arith, ints)))

pub i32_key_law : SignedKey I32 (FitsSigned w32)
i32_key_law rows n z checked row valid = taken_signed rows n z I32 checked row refl (within w32 z valid (omega (arith, ints)))

pub i64_key_law : SignedKey I64 (FitsSigned w64)
i64_key_law rows n z checked row valid = taken_signed rows n z I64 checked row refl (within w64 z valid valid)

pub isize_key_law : SignedKey Isize (FitsSigned w64)
isize_key_law rows n z checked row valid = taken_signed rows n z Isize checked row refl (within w64 z valid valid)

pub i128_key_law : SignedKey I128 IsWithin64
i128_key_law rows n z checked row valid = taken_signed rows n z I128 checked row refl valid
