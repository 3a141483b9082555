-- The laws of implementations, in the form in which they are cited.
use Rattle.std.proofs.Common.{◌≡◌, inl, inr, ℕ, ◌<◌, ◌^◌, ℤ, pos, negsuc, List, [], ◌∷◌, length, Bool, true, Option, Float, refl, arith}
use Rattle.schemars_written.proofs.Words.{All, FitsSigned, IsTrue, float_is_finite, w8, w16, w32, w64, ints, nat_tests, Log, Logs, WritesEach, WritesSeq, WritesOption, WritesMap, InSeq, Then, number_event, num_of, is_valid, number_view, Text, Patterns, Field, Row, IsChecked, Gives, GivesAsKey, GivesMembers, Done, Struct, NoItems, IsArray, AnyReading, IsWithin64, IsNumberRow, HasShape, IsArrayRow, HasFields, NextField, NextOptional, LastField, MeansUnder, Means, IsKeyUnder, OfSome}
use Rattle.serde.specs.Event as event
use Rattle.serde_json.specs.declared.number.N.{N}
use Rattle.serde_json.specs.declared.number.N.TheVariants as kept
use Rattle.serde_json.specs.declared.number.Number.{Number}
use Rattle.schemars_shapes.specs.Shape as shape
use Rattle.schemars_shapes.specs.declared.shape.IntKind.{IntKind}
use Rattle.schemars_shapes.specs.declared.shape.IntKind.TheVariants.{U8, U16, U32, U64, U128, Usize, I8, I16, I32, I64, I128, Isize}
use Rattle.schemars_written.specs.Gives as gives
use Rattle.schemars_written.proofs.Atoms.{weaker, unsigned_gives, signed_gives, unsigned_agrees, signed_agrees}
use Rattle.schemars_written.proofs.Values.{number_means, double_gives, single_agrees, double_agrees}
use Rattle.schemars_written.proofs.Lists.{no_items_give, option_agrees, seq_agrees, array_agrees, pair_agrees, Of, tuple_means, in_seq_gives, then_give, last_gives}
use Rattle.schemars_written.proofs.Keys.{text_key_law, key_under}
use Rattle.schemars_written.proofs.Maps.{map_agrees}
use Rattle.schemars_written.proofs.Objects.{Matches, struct_agrees, field_gives, field_if_gives, done_gives}

-- ---- whole numbers

abbrev Unsigned : IntKind → ℕ → Type 0
Unsigned kind bits = (rows : List Row) (n v : ℕ) → IsChecked rows → HasShape rows n (shape.int kind) → v < 2 ^ bits
    → Gives (λ old new. Logs old new (event.unsigned v)) (Means rows n)

pub u8_law : Unsigned U8 8
u8_law rows n v checked row valid = unsigned_agrees rows n v U8 row (omega arith) (grind (arith, nat_tests))

pub u16_law : Unsigned U16 16
u16_law rows n v checked row valid = unsigned_agrees rows n v U16 row (omega arith) (grind (arith, nat_tests))

pub u32_law : Unsigned U32 32
u32_law rows n v checked row valid = unsigned_agrees rows n v U32 row (omega arith) (grind (arith, nat_tests))

pub u64_law : Unsigned U64 64
u64_law rows n v checked row valid = unsigned_agrees rows n v U64 row valid (grind (arith, nat_tests))

pub usize_law : Unsigned Usize 64
usize_law rows n v checked row valid = unsigned_agrees rows n v Usize row valid (grind (arith, nat_tests))

pub within : (w : _) (z : ℤ) → FitsSigned w z → FitsSigned w64 z → IsWithin64 z
within w (pos v) fits wide = omega (arith, ints)
within w (negsuc v) fits wide = omega (arith, ints)

pub i8_law : (rows : List Row) (n : ℕ) (z : ℤ) → IsChecked rows → HasShape rows n (shape.int I8) → FitsSigned w8 z
    → Gives (λ old new. Logs old new (event.signed z)) (Means rows n)
i8_law rows n z checked row valid = signed_agrees rows n z I8 row (within w8 z valid (omega (arith, ints))) (grind (arith, ints))

pub i16_law : (rows : List Row) (n : ℕ) (z : ℤ) → IsChecked rows → HasShape rows n (shape.int I16) → FitsSigned w16 z
    → Gives (λ old new. Logs old new (event.signed z)) (Means rows n)
i16_law rows n z checked row valid = signed_agrees rows n z I16 row (within w16 z valid (omega (arith, ints))) (grind (arith, ints))

pub i32_law : (rows : List Row) (n : ℕ) (z : ℤ) → IsChecked rows → HasShape rows n (shape.int I32) → FitsSigned w32 z
    → Gives (λ old new. Logs old new (event.signed z)) (Means rows n)
i32_law rows n z checked row valid = signed_agrees rows n z I32 row (within w32 z valid (omega (arith, ints))) refl

pub i64_law : (rows : List Row) (n : ℕ) (z : ℤ) → IsChecked rows → HasShape rows n (shape.int I64) → FitsSigned w64 z
    → Gives (λ old new. Logs old new (event.signed z)) (Means rows n)
i64_law rows n z checked row valid = signed_agrees rows n z I64 row (within w64 z valid valid) refl

pub isize_law : (rows : List Row) (n : ℕ) (z : ℤ) → IsChecked rows → HasShape rows n (shape.int Isize) → FitsSigned w64 z
    → Gives (λ old new. Logs old new (event.signed z)) (Means rows n)
isize_law rows n z checked row valid = signed_agrees rows n z Isize row (within w64 z valid valid) refl

-- ---- whole numbers of 128 bits

pub u128_law : Unsigned U128 64
u128_law rows n v checked row valid = unsigned_agrees rows n v U128 row valid (grind (arith, nat_tests))

pub i128_law : (rows : List Row) (n : ℕ) (z : ℤ) → IsChecked rows → HasShape rows n (shape.int I128) → IsWithin64 z
    → Gives (λ old new. Logs old new (event.signed z)) (Means rows n)
i128_law rows n z checked row valid = signed_agrees rows n z I128 row valid refl

-- ---- numbers

pub f32_law : (rows : List Row) (n : ℕ) (x : Float) → IsChecked rows → IsNumberRow rows n → IsTrue (float_is_finite x)
    → Gives (λ old new. Logs old new (event.single x)) (Means rows n)
f32_law rows n x checked row valid = single_agrees rows n x row valid

pub f64_law : (rows : List Row) (n : ℕ) (x : Float) → IsChecked rows → IsNumberRow rows n → IsTrue (float_is_finite x)
    → Gives (λ old new. Logs old new (event.double x)) (Means rows n)
f64_law rows n x checked row valid = double_agrees rows n x row valid

-- what a `Number` keeps
number_sent : (rows : List Row) (n : ℕ) → HasShape rows n shape.number → (k : N) → is_valid k ≡ true
    → Gives (λ old new. Logs old new (number_event (num_of k))) (Means rows n)
number_sent rows n row (kept.PosInt v) valid = unsigned_gives v (Means rows n) (number_means rows n row _)
number_sent rows n row (kept.NegInt z) valid = signed_gives z (Means rows n) (number_means rows n row _)
number_sent rows n row (kept.Float x) valid = double_gives x (Means rows n) (number_means rows n row) (λ no. absurd (cc))

pub number_law : (rows : List Row) (n : ℕ) (x : Number) → HasShape rows n shape.number
    → Gives (λ old new. Logs old new (number_event (number_view x))) (Means rows n)
number_law rows n x row = number_sent rows n row x.n x.valid

-- ---- holders

-- `R` says which rows are a part's
abbrev pub Part : {A : Type 0} → (Patterns → Type 0) → List Row → (A → Log → Log → Type 0) → (A → Type 0) → (List Row → ℕ → Type 0) → Type 0
Part {A} reading rows w V R = (m : ℕ) (x : A) → R rows m → V x → Gives (w x) (MeansUnder reading rows m)

pub option_law : {A : Type 0} {reading : Patterns → Type 0} (rows : List Row) → IsChecked rows
    → (n : ℕ) (w : A → Log → Log → Type 0) (V : A → Type 0) (R : List Row → ℕ → Type 0)
    → Part reading rows w V R → (m : ℕ) × HasShape rows n (shape.option m) × R rows m
    → (x : Option A) → OfSome V x → Gives (WritesOption w x) (MeansUnder reading rows n)
option_law {A =
    A} {reading = reading} rows checked n w V R given row x valid = option_agrees reading rows checked n row.0 row.1 w x (inside x valid)
  where
    inside : (y : Option A) → OfSome V y → OfSome (λ a. Gives (w a) (MeansUnder reading rows row.0)) y
    inside Option.None h = tt
    inside (Option.Some a) h = given row.0 a row.2 h

pub vec_law : {A : Type 0} {reading : Patterns → Type 0} (rows : List Row) → IsChecked rows
    → (n : ℕ) (w : A → Log → Log → Type 0) (V : A → Type 0) (R : List Row → ℕ → Type 0)
    → Part reading rows w V R → (m : ℕ) × HasShape rows n (shape.seq m) × R rows m
    → (xs : List A) → All V xs → Gives (WritesSeq w xs) (MeansUnder reading rows n)
vec_law {reading = reading} rows checked n w V R given row xs valid =
    seq_agrees reading rows checked n row.0 row.1 w V (λ x v. given row.0 x row.2 v) xs valid

pub array_law : {A : Type 0} {reading : Patterns → Type 0} (rows : List Row) → IsChecked rows
    → (n len : ℕ) (w : A → Log → Log → Type 0) (V : A → Type 0) (R : List Row → ℕ → Type 0)
    → Part reading rows w V R → (m : ℕ) × HasShape rows n (shape.array m len) × R rows m
    → (xs : List A) → (length xs ≡ len) × All V xs → Gives (WritesSeq w xs) (MeansUnder reading rows n)
array_law {reading = reading} rows checked n len w V R given row xs valid =
    array_agrees reading rows checked n row.0 len row.1 w V (λ x v. given row.0 x row.2 v) xs valid.0 valid.1

pub any_array_law : {A : Type 0} {reading : Patterns → Type 0} (rows : List Row) → IsChecked rows
    → (n len : ℕ) (w : A → Log → Log → Type 0) (V : A → Type 0)
    (R : List Row → ℕ → Type 0) → Part reading rows w V R → IsArrayRow R len rows n
    → (xs : List A) → (length xs ≡ len) × All V xs → Gives (WritesSeq w xs) (MeansUnder reading rows n)
any_array_law {reading = reading} rows checked n len w V R given (inl row) xs valid = array_law rows checked n len w V R given row xs valid
any_array_law {reading = reading} rows checked n len w V R given (inr empty) [] valid =
    weaker (WritesSeq w []) (IsArray (Of reading rows [])) (MeansUnder reading rows n) (tuple_means reading rows checked n [] empty.1)
    (in_seq_gives 0 (WritesEach w []) NoItems no_items_give)
any_array_law {reading = reading} rows checked n len w V R given (inr empty) (x ∷ xs) valid = absurd (omega (arith, valid.0, empty.0))

pub pair_law : {A B : Type 0} {reading : Patterns → Type 0} (rows : List Row) → IsChecked rows
    → (n : ℕ) (v : A → Log → Log → Type 0) (w : B → Log → Log → Type 0)
    (V : A → Type 0) (W : B → Type 0) (R S : List Row → ℕ → Type 0) → Part reading rows v V R → Part reading rows w W S
    → (a b : ℕ) × HasShape rows n (shape.tuple (a ∷ b ∷ [])) × R rows a × S rows b
    → (x : A) (y : B) → V x × W y → Gives (InSeq 2 (Then (v x) (w y))) (MeansUnder reading rows n)
pair_law {reading = reading} rows checked n v w V W R S first second row x y valid =
    pair_agrees reading rows checked n row.0 row.1 row.2 (v x) (w y) (first row.0 x row.3 valid.0) (second row.1 y row.4 valid.1)

-- ---- maps

-- `S` says which rows are the keys'
abbrev pub KeyPart : {K : Type 0} → (Patterns → Type 0) → List Row → (K → Log → Log → Type 0) → (K → Type 0) → (List Row → ℕ → Type 0)
    → Type 0
KeyPart {K} reading rows key U S = (m : ℕ) (x : K) → S rows m → U x → GivesAsKey (key x) (IsKeyUnder reading rows m)

pub keyed_map_law : {K A : Type 0} {reading : Patterns → Type 0} (rows : List Row) → IsChecked rows
    → (n : ℕ) (key : K → Log → Log → Type 0) (w : A → Log → Log → Type 0) (U : K → Type 0) (V : A → Type 0) (S R : List Row → ℕ → Type 0)
    → KeyPart reading rows key U S → Part reading rows w V R
    → (from m : ℕ) × HasShape rows n (shape.map_from from m) × S rows from × R rows m
    → (es : List (K × A)) → All (λ e. U e.0 × V e.1) es → Gives (WritesMap key w es) (MeansUnder reading rows n)
keyed_map_law {reading = reading} rows checked n key w U V S R named given row es valid =
    map_agrees reading rows checked n row.0 row.1 row.2 key w U V (λ x u. named row.0 x row.3 u) (λ x v. given row.1 x row.4 v) es valid

-- of a map with texts as keys, of which nothing is asked
pub map_law : {K A : Type 0} {reading : Patterns → Type 0} (rows : List Row) → IsChecked rows
    → (n : ℕ) (bytes : K → Text) (w : A → Log → Log → Type 0) (V : A → Type 0) (R : List Row → ℕ → Type 0) → Part reading rows w V R
    → (from m : ℕ) × HasShape rows n (shape.map_from from m) × HasShape rows from shape.text × R rows m
    → (es : List (K × A)) → All (λ e. Unit {0} × V e.1) es
    → Gives (WritesMap (λ k old new. Logs old new (event.text (bytes k))) w es) (MeansUnder reading rows n)
map_law rows checked n bytes w V R given row es valid =
    let sends : _ → Log → Log → Type 0 = λ k old new. Logs old new (event.text (bytes k)) in
    keyed_map_law rows checked n sends w (λ k. Unit {0}) V (λ rows m. HasShape rows m shape.text) R
    (λ m k is u. key_under (sends k) rows m (λ p takes. tt) (text_key_law rows m (bytes k) checked is)) given row es valid

-- ---- structs

-- of fields that are these, the struct sends the members that belong to them
pub record FieldsAgreeUnder (reading : Patterns → Type 0) (rows : List Row) (fields : List Field → Type 0)
    (sends : Log → Log → Type 0) : Type 0 where
  pub agree : (list : List Field) → fields list → GivesMembers sends (Matches reading rows list)

-- under each reading of patterns
abbrev pub FieldsAgree : List Row → (List Field → Type 0) → (Log → Log → Type 0) → Type 0
FieldsAgree rows fields sends = FieldsAgreeUnder AnyReading rows fields sends

pub last_field : {reading : Patterns → Type 0} (rows : List Row) → FieldsAgreeUnder reading rows LastField Done
last_field {reading = reading} rows = record { agree = each }
  where
    each : (list : List Field) → LastField list → GivesMembers Done (Matches reading rows list)
    each [] is = done_gives
    each (f ∷ fs) is = absurd is

pub next_field : {reading : Patterns → Type 0} (rows : List Row) (name : Text) (R : ℕ → Type 0) (others : List Field → Type 0)
    (w ws : Log → Log → Type 0) → ((m : ℕ) → R m → Gives w (MeansUnder reading rows m)) → FieldsAgreeUnder reading rows others ws
    → FieldsAgreeUnder reading rows (NextField name R others) (gives.Field name w ws)
next_field {reading = reading} rows name R others w ws value more = record { agree = each }
  where
    each : (list : List Field) → NextField name R others list → GivesMembers (gives.Field name w ws) (Matches reading rows list)
    each [] is = absurd is
    each (f ∷ fs) is = field_gives reading rows name f fs w ws is.0 (value f.ty is.1) (more.agree fs is.2)

-- a field that is written only if b is true
pub next_field_if : {reading : Patterns → Type 0} (rows : List Row) (b : Bool) (name : Text) (R : ℕ → Type 0) (others : List Field → Type 0)
    (w ws : Log → Log → Type 0) → ((m : ℕ) → R m → Gives w (MeansUnder reading rows m)) → FieldsAgreeUnder reading rows others ws
    → FieldsAgreeUnder reading rows (NextOptional name R others) (gives.FieldIf b name w ws)
next_field_if {reading = reading} rows b name R others w ws value more = record { agree = each }
  where
    each : (list : List Field) → NextOptional name R others list → GivesMembers (gives.FieldIf b name w ws) (Matches reading rows list)
    each [] is = absurd is
    each (f ∷ fs) is = field_if_gives reading rows b name f fs w ws is.0 is.2 (value f.ty is.1) (more.agree fs is.3)

pub struct_law : {reading : Patterns → Type 0} (rows : List Row) → IsChecked rows
    → (n count : ℕ) (fields : List Field → Type 0) (w : Log → Log → Type 0)
    → HasFields rows n fields → FieldsAgreeUnder reading rows fields w → Gives (Struct count w) (MeansUnder reading rows n)
struct_law {reading =
    reading} rows checked n count fields w row agree = struct_agrees reading rows checked n row.0 row.1 row.2 count w
    (agree.agree row.0 row.3)

-- ---- other tuples

pub single_law : {A : Type 0} {reading : Patterns → Type 0} (rows : List Row) → IsChecked rows
    → (n : ℕ) (v : A → Log → Log → Type 0) (V : A → Type 0) (R : List Row → ℕ → Type 0)
    → Part reading rows v V R → (a : ℕ) × HasShape rows n (shape.tuple (a ∷ [])) × R rows a → (x : A) → V x
    → Gives (InSeq 1 (v x)) (MeansUnder reading rows n)
single_law {reading = reading} rows checked n v V R first row x valid =
    weaker (InSeq 1 (v x)) (IsArray (Of reading rows (row.0 ∷ []))) (MeansUnder reading rows n)
    (tuple_means reading rows checked n (row.0 ∷ []) row.1)
    (in_seq_gives 1 (v x) (Of reading rows (row.0 ∷ [])) (last_gives (v x) (MeansUnder reading rows row.0) (first row.0 x row.2 valid)))

pub triple_law : {A B C : Type 0} {reading : Patterns → Type 0} (rows : List Row) → IsChecked rows
    → (n : ℕ) (u : A → Log → Log → Type 0) (v : B → Log → Log → Type 0)
    (w : C → Log → Log → Type 0) (U : A → Type 0) (V : B → Type 0) (W : C → Type 0) (Q R S : List Row → ℕ → Type 0)
    → Part reading rows u U Q → Part reading rows v V R → Part reading rows w W S
    → (a b c : ℕ) × HasShape rows n (shape.tuple (a ∷ b ∷ c ∷ [])) × Q rows a × R rows b × S rows c
    → (x : A) (y : B) (z : C) → U x × V y × W z → Gives (InSeq 3 (Then (u x) (Then (v y) (w z)))) (MeansUnder reading rows n)
triple_law {reading = reading} rows checked n u v w U V W Q R S first second third row x y z valid =
    let ns = row.0 ∷ row.1 ∷ row.2 ∷ [] in
    weaker (InSeq 3 (Then (u x) (Then (v y) (w z)))) (IsArray (Of reading rows ns)) (MeansUnder reading rows n)
    (tuple_means reading rows checked n ns row.3)
    (in_seq_gives 3 (Then (u x) (Then (v y) (w z))) (Of reading rows ns)
    (then_give (u x) (Then (v y) (w z)) (MeansUnder reading rows row.0) (Of reading rows (row.1 ∷ row.2 ∷ [])) (first row.0 x row.4 valid.0)
    (then_give (v y) (w z) (MeansUnder reading rows row.1) (Of reading rows (row.2 ∷ [])) (second row.1 y row.5 valid.1)
    (last_gives (w z) (MeansUnder reading rows row.2) (third row.2 z row.6 valid.2)))))

pub quadruple_law : {A B C D : Type 0} {reading : Patterns → Type 0} (rows : List Row) → IsChecked rows
    → (n : ℕ) (t : A → Log → Log → Type 0) (u : B → Log → Log → Type 0)
    (v : C → Log → Log → Type 0) (w : D → Log → Log → Type 0) (T : A → Type 0) (U : B → Type 0) (V : C → Type 0) (W : D → Type 0)
    (P Q R S : List Row → ℕ → Type 0) → Part reading rows t T P → Part reading rows u U Q → Part reading rows v V R
    → Part reading rows w W S
    → (a b c d : ℕ) × HasShape rows n (shape.tuple (a ∷ b ∷ c ∷ d ∷ [])) × P rows a × Q rows b × R rows c × S rows d
    → (k : A) (x : B) (y : C) (z : D) → T k × U x × V y × W z
    → Gives (InSeq 4 (Then (t k) (Then (u x) (Then (v y) (w z))))) (MeansUnder reading rows n)
quadruple_law {reading = reading} rows checked n t u v w T U V W P Q R S first second third fourth row k x y z valid =
    let ns = row.0 ∷ row.1 ∷ row.2 ∷ row.3 ∷ [] in
    weaker (InSeq 4 (Then (t k) (Then (u x) (Then (v y) (w z))))) (IsArray (Of reading rows ns)) (MeansUnder reading rows n)
    (tuple_means reading rows checked n ns row.4)
    (in_seq_gives 4 (Then (t k) (Then (u x) (Then (v y) (w z)))) (Of reading rows ns)
    (then_give (t k) (Then (u x) (Then (v y) (w z))) (MeansUnder reading rows row.0) (Of reading rows (row.1 ∷ row.2 ∷ row.3 ∷ []))
    (first row.0 k row.5 valid.0)
    (then_give (u x) (Then (v y) (w z)) (MeansUnder reading rows row.1) (Of reading rows (row.2 ∷ row.3 ∷ []))
    (second row.1 x row.6 valid.1)
    (then_give (v y) (w z) (MeansUnder reading rows row.2) (Of reading rows (row.3 ∷ [])) (third row.2 y row.7 valid.2)
    (last_gives (w z) (MeansUnder reading rows row.3) (fourth row.3 z row.8 valid.3))))))
