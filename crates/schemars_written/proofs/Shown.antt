-- What values are read as, and that different values are read as different JSON.
use Rattle.std.proofs.Common.{◌≡◌, ℕ, ◌<◌, ◌^◌, ℤ, pos, negsuc, List, [], ◌∷◌, ◌++◌, Bool, true, false, Some, Ordering, Less, Equal, nat_cmp, is_eq, encode_utf8, refl, sym, ap, ◌∙◌, arith}
use Rattle.schemars_written.proofs.Words.{option_map, bytes_eq, FitsSigned, String, string_bytes, signed_decimal, w8, w16, w32, w64, int_cmp, int_eq, bool_cmp, ordering_reverse, string_cmp, slice_cmp, nat_list_cmp_total, nat_cmp_total, int_cmp_total, tied_itself, common_steps, ints, nat_tests, bytes_eq-Decides, encodes_same, Logs, unsigned, boolean, number, string, of_integer, of_json, alike, json_eq, value_of, of_whole, eq_whole, Row, IsChecked, is_of_kind, Gives, AnyReading, IsWithin64, MeansJust, HasShape}
use Rattle.std.specs.declared.alloc.Global.{Global}
use Rattle.json.specs.Json as json
use Rattle.serde.specs.Event as event
use Rattle.schemars_shapes.specs.Shape as shape
use Rattle.schemars_shapes.specs.declared.shape.IntKind.{IntKind}
use Rattle.schemars_shapes.specs.declared.shape.IntKind.TheVariants.{U8, U16, U32, U64, U128, Usize, I8, I16, I32, I64, I128, Isize}
use Rattle.schemars_written.proofs.Digits.{number_of-decimal, number_of-negative}
use Rattle.schemars_written.proofs.Atoms.{one, step, known, unsigned_gives, signed_gives, natural_means, integer_means, one_character}
use Rattle.schemars_written.proofs.Laws.{within}

-- ---- what is read

pub unsigned_shows : (rows : List Row) (n v : ℕ) (kind : IntKind) → HasShape rows n (shape.int kind) → v < 2 ^ 64
    → is_of_kind kind (pos v) ≡ true
    → Gives (λ old new. Logs old new (event.unsigned v)) (MeansJust rows n (number (unsigned v)))
unsigned_shows rows n v kind is small of_kind = unsigned_gives v (MeansJust rows n (number (unsigned v)))
    (natural_means rows n v kind is small of_kind, ap (option_map number) (number_of-decimal v small))

pub signed_shows : (rows : List Row) (n : ℕ) (z : ℤ) (kind : IntKind) → HasShape rows n (shape.int kind) → IsWithin64 z
    → is_of_kind kind z ≡ true
    → Gives (λ old new. Logs old new (event.signed z)) (MeansJust rows n (number (of_integer z)))
signed_shows rows n z kind is small of_kind = signed_gives z (MeansJust rows n (number (of_integer z)))
    (integer_means rows n z kind is small of_kind, read z small)
  where
    read : (y : ℤ) → IsWithin64 y → of_json (json.number (signed_decimal y)) ≡ Some (number (of_integer y))
    read (pos v) fits = ap (option_map number) (number_of-decimal v fits)
    read (negsuc v) fits = ap (option_map number) (number_of-negative v fits)

pub bool_shows : (rows : List Row) (n : ℕ) (b : Bool) → HasShape rows n shape.bool
    → Gives (λ old new. Logs old new (event.boolean b)) (MeansJust rows n (boolean b))
bool_shows rows n b is = one (event.boolean b) (MeansJust rows n (boolean b)) (λ s mid plain took. (
  json.boolean b,
  (
    known AnyReading rows n (json.boolean b) (boolean b) refl
        (λ patterns. step rows patterns n shape.bool (boolean b) is (λ steps low. refl)),
    refl,
  ),
  grind (arith, common_steps, took),
  grind (arith, common_steps, took),
))

pub text_shows : (rows : List Row) (n : ℕ) (t : List ℕ) → HasShape rows n shape.text
    → Gives (λ old new. Logs old new (event.text t)) (MeansJust rows n (string t))
text_shows rows n t is = one (event.text t) (MeansJust rows n (string t)) (λ s mid plain took. (
  json.string t,
  (
    known AnyReading rows n (json.string t) (string t) refl
        (λ patterns. step rows patterns n shape.text (string t) is (λ steps low. refl)),
    refl,
  ),
  grind (arith, common_steps, took),
  grind (arith, common_steps, took),
))

pub char_shows : (rows : List Row) (n c : ℕ) → HasShape rows n shape.char
    → Gives (λ old new. Logs old new (event.character c)) (MeansJust rows n (string (encode_utf8 c)))
char_shows rows n c is = one (event.character c) (MeansJust rows n (string (encode_utf8 c))) (λ s mid plain took. (
  json.string (encode_utf8 c),
  (
    known AnyReading rows n (json.string (encode_utf8 c)) (string (encode_utf8 c)) refl (λ patterns.
        step rows patterns n shape.char (string (encode_utf8 c)) is (λ steps low. one_character c)),
    refl,
  ),
  grind (arith, common_steps, took),
  grind (arith, common_steps, took),
))

-- ---- of each type

abbrev UnsignedShows : IntKind → ℕ → Type 0
UnsignedShows kind bits = (rows : List Row) (n v : ℕ) → IsChecked rows → HasShape rows n (shape.int kind) → v < 2 ^ bits
    → Gives (λ old new. Logs old new (event.unsigned v)) (MeansJust rows n (number (unsigned v)))

pub u8_shows : UnsignedShows U8 8
u8_shows rows n v checked row valid = unsigned_shows rows n v U8 row (omega arith) (grind (arith, nat_tests))

pub u16_shows : UnsignedShows U16 16
u16_shows rows n v checked row valid = unsigned_shows rows n v U16 row (omega arith) (grind (arith, nat_tests))

pub u32_shows : UnsignedShows U32 32
u32_shows rows n v checked row valid = unsigned_shows rows n v U32 row (omega arith) (grind (arith, nat_tests))

pub u64_shows : UnsignedShows U64 64
u64_shows rows n v checked row valid = unsigned_shows rows n v U64 row valid (grind (arith, nat_tests))

pub usize_shows : UnsignedShows Usize 64
usize_shows rows n v checked row valid = unsigned_shows rows n v Usize row valid (grind (arith, nat_tests))

pub u128_shows : UnsignedShows U128 64
u128_shows rows n v checked row valid = unsigned_shows rows n v U128 row valid (grind (arith, nat_tests))

abbrev SignedShows : IntKind → (ℤ → Type 0) → Type 0
SignedShows kind Fits = (rows : List Row) (n : ℕ) (z : ℤ) → IsChecked rows → HasShape rows n (shape.int kind) → Fits z
    → Gives (λ old new. Logs old new (event.signed z)) (MeansJust rows n (number (of_integer z)))

pub i8_shows : SignedShows I8 (FitsSigned w8)
i8_shows rows n z checked row valid = signed_shows rows n z I8 row (within w8 z valid (omega (arith, ints))) (grind (arith, ints))

pub i16_shows : SignedShows I16 (FitsSigned w16)
i16_shows rows n z checked row valid = signed_shows rows n z I16 row (within w16 z valid (omega (arith, ints))) (grind (arith, ints))

pub i32_shows : SignedShows I32 (FitsSigned w32)
i32_shows rows n z checked row valid = signed_shows rows n z I32 row (within w32 z valid (omega (arith, ints))) refl

pub i64_shows : SignedShows I64 (FitsSigned w64)
i64_shows rows n z checked row valid = signed_shows rows n z I64 row (within w64 z valid valid) refl

pub isize_shows : SignedShows Isize (FitsSigned w64)
isize_shows rows n z checked row valid = signed_shows rows n z Isize row (within w64 z valid valid) refl

pub i128_shows : SignedShows I128 IsWithin64
i128_shows rows n z checked row valid = signed_shows rows n z I128 row valid refl

-- ---- different values are read as different ones

-- what is below another is not it
after : {A : Type 0} (cmp : A → A → Ordering) → ((x : A) → cmp x x ≡ Equal) → (x y : A) → cmp x y ≡ Less → x ≡ y → ⊥
after cmp itself x y less same =
    let other : Equal ≡ Less = sym (itself y) ∙ ap (λ z. cmp z y) (sym same) ∙ less in absurd (cc)

texts_apart : (s t : List ℕ) → (s ≡ t → ⊥) → bytes_eq s t ≡ false
texts_apart s t apart = go (bytes_eq s t) refl
  where
    go : (b : Bool) → bytes_eq s t ≡ b → b ≡ false
    go true is = absurd (apart ((bytes_eq-Decides s t).0 is))
    go false is = refl

value_whole : (z : ℤ) → value_of (of_integer z) ≡ of_whole z
value_whole (pos n) = refl
value_whole (negsuc n) = refl

pub integers_apart : (x y : ℤ) → int_cmp x y ≡ Less → json_eq (number (of_integer y)) (number (of_integer x)) ≡ false
unfolding alike
integers_apart x y less =
    rw (value_whole y, value_whole x) (eq_whole y x ∙ ap is_eq (int_cmp_total.antisymm y x ∙ ap ordering_reverse less))

pub naturals_apart : (x y : ℕ) → nat_cmp x y ≡ Less → json_eq (number (unsigned y)) (number (unsigned x)) ≡ false
unfolding alike
naturals_apart x y less = eq_whole (pos y) (pos x) ∙ apart
  where
    apart : int_eq (pos y) (pos x) ≡ false
    apart = grind (arith, nat_tests, less)

pub bools_apart : (x y : Bool) → bool_cmp x y ≡ Less → json_eq (boolean y) (boolean x) ≡ false
unfolding alike
bools_apart false true less = refl
bools_apart false false less = absurd (cc)
bools_apart true false less = absurd (cc)
bools_apart true true less = absurd (cc)

pub chars_apart : (x y : ℕ) → nat_cmp x y ≡ Less → json_eq (string (encode_utf8 y)) (string (encode_utf8 x)) ≡ false
unfolding alike
chars_apart x y less = texts_apart (encode_utf8 y) (encode_utf8 x) (λ same.
    after nat_cmp (tied_itself nat_cmp_total) x y less (first x y (encodes_same (x ∷ []) (y ∷ []) (alone (sym same)))))
  where
    first : (a b : ℕ) → (a ∷ []) ≡ (b ∷ []) → a ≡ b
    first a b same = cc

    alone : encode_utf8 x ≡ encode_utf8 y → encode_utf8 x ++ [] ≡ encode_utf8 y ++ []
    alone same = ap (λ bs. bs ++ []) same

pub texts_differ : (x y : String Global) → string_cmp x y ≡ Less → json_eq (string (string_bytes y)) (string (string_bytes x)) ≡ false
unfolding alike
texts_differ x y less = texts_apart (string_bytes y) (string_bytes x) (λ same.
    after (slice_cmp nat_cmp) (tied_itself nat_list_cmp_total) (string_bytes x) (string_bytes y) less (sym same))
