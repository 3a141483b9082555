-- Values that are one event.
use Rattle.std.proofs.Common.{◌≡◌, ℕ, zero, suc, ◌+◌, ◌*◌, ◌<◌, ◌^◌, ℤ, pos, negsuc, List, [], ◌∷◌, ◌++◌, length, Bool, true, false, ◌==◌, Option, Some, None, decimal, encode_utf8, refl, sym, ap, ◌∙◌, subst, arith}
use Rattle.schemars_written.proofs.Words.{option_map_or, option_map, Contains, signed_decimal, common_steps, Json, json_tokens, Event, Log, Logs, Data, depth, number, unsigned, negative, boolean, null, string, of_json, State, Takes, Patterns, code_points, Shape, Entry, numbers_of, same_value_numbers, Row, entry_at, rank, IsChecked, key_options, expanded_shape_in, belongs_within, choices_within, has_shape, is_of_kind, IsPlain, Gives, AnyReading, IsWithin64, Fits, MeansUnder, Means, HasShape}
use Rattle.json.specs.Json as json
use Rattle.serde.specs.Event as event
use Rattle.schemars_written.proofs.Digits.{number_of-decimal, number_of-negative}
use Rattle.schemars_shapes.specs.Shape as shape
use Rattle.schemars_shapes.specs.declared.shape.IntKind.{IntKind}
use Rattle.schemars_types.specs.declared.contract.Contract.TheVariants.{Serialize}
use Rattle.schemars_written.proofs.Characters.{one-character}

-- one event, wherever it is taken, writes one JSON with P
abbrev pub Added : (Json → Type 0) → State → State → Type 0
Added P s mid = (j : Json) × P j × IsPlain mid × (mid.tokens ≡ s.tokens ++ json_tokens j)

pub one : (e : Event) (P : Json → Type 0) → ((s mid : State) → IsPlain s → Takes s e mid → Added P s mid)
    → Gives (λ old new. Logs old new e) P
one e P each es new sent = (
  e ∷ [],
  sent,
  λ rest s last plain run.
      let a = each s run.0 plain run.1 in (run.0, a.0, a.1, a.2, a.3, run.2),
)

pub weaker : (w : Log → Log → Type 0) (P Q : Json → Type 0) → ((j : Json) → P j → Q j) → Gives w P → Gives w Q
weaker w P Q more given es new sent =
    let g = given es new sent in
    (g.0, g.1, λ rest s last plain run. let a = g.2 rest s last plain run in (a.0, a.1, more a.1 a.2, a.3, a.4, a.5))

-- ---- rows

abbrev HasIt : List Row → Patterns → ℕ → Data → Option Entry → Type 0
HasIt rows patterns steps d o =
    elim o [
      | None ↦ false
      | Some e ↦ has_shape Serialize patterns (key_options rows) (choices_within rows Serialize patterns steps)
          (belongs_within rows Serialize patterns steps) (expanded_shape_in rows e.shape) d
    ] ≡ true

one_step : (rows : List Row) (patterns : Patterns) (steps n : ℕ) (d : Data) → HasIt rows patterns steps d (entry_at rows n)
    → belongs_within rows Serialize patterns (suc steps) n d ≡ true
unfolding belongs_within
one_step rows patterns steps n d h = h

-- row n has the value, where its shape does
pub step : (rows : List Row) (patterns : Patterns) (n : ℕ) (sh : Shape) (d : Data) → HasShape rows n sh
    → ((steps : ℕ) → depth d * length rows + rank rows n < suc steps
    → has_shape Serialize patterns (key_options rows) (choices_within rows Serialize patterns steps)
    (belongs_within rows Serialize patterns steps) (expanded_shape_in rows sh) d ≡ true)
    → Fits rows patterns n d
step rows patterns n sh d is each zero low = absurd (omega arith)
step rows patterns n sh d is each (suc steps) low =
    one_step rows patterns steps n d (subst (HasIt rows patterns steps d) (sym is.1) (subst (λ (x : Shape).
    has_shape Serialize patterns (key_options rows) (choices_within rows Serialize patterns steps)
    (belongs_within rows Serialize patterns steps) (expanded_shape_in rows x) d ≡ true) (sym is.2) (each steps low)))

at_row : (rows : List Row) (n m : ℕ) (sh : Shape) (f : Shape → List ℕ) → HasShape rows n sh → Contains (f sh) m
    → Contains (option_map_or (λ e. f e.shape) (entry_at rows n) []) m
at_row rows n m sh f is c =
    subst (λ o. Contains (option_map_or (λ e. f e.shape) o []) m) (sym is.1) (subst (λ x. Contains (f x) m) (sym is.2) c)

-- a part is a row
pub part_low : (rows : List Row) → IsChecked rows → (n m : ℕ) (sh : Shape) → HasShape rows n sh → Contains (numbers_of sh) m
    → m < length rows
part_low rows checked n m sh is c = checked.within.within n m (at_row rows n m sh numbers_of is c)

pub same_lower : (rows : List Row) → IsChecked rows → (n m : ℕ) (sh : Shape) → HasShape rows n sh → Contains (same_value_numbers sh) m
    → m < length rows → rank rows m < rank rows n
same_lower rows checked n m sh is c low = checked.rank_falls n m (at_row rows n m sh same_value_numbers is c, low)

abbrev pub out : {A : Type 0} → A → Option A → A
out a None = a
out a (Some b) = b

pub Some_same : {A : Type 0} (a b : A) → Some a ≡ Some b → a ≡ b
Some_same a b h = ap (out a) h

-- what the JSON is read as
pub known : (reading : Patterns → Type 0) (rows : List Row) (n : ℕ) (j : Json) (d : Data) → of_json j ≡ Some d
    → ((patterns : Patterns) → Fits rows patterns n d) → MeansUnder reading rows n j
known reading rows n j d reads fits patterns takes e other =
    subst (λ x. Fits rows patterns n x) (Some_same d e (sym reads ∙ other)) (fits patterns)

-- what belongs under each of these readings belongs under fewer
pub under : {Q P : Patterns → Type 0} (w : Log → Log → Type 0) (rows : List Row) (n : ℕ) → ((patterns : Patterns) → P patterns → Q patterns)
    → Gives w (MeansUnder Q rows n) → Gives w (MeansUnder P rows n)
under {Q = Q} {P = P} w rows n fewer given =
    weaker w (MeansUnder Q rows n) (MeansUnder P rows n) (λ j means patterns takes. means patterns (fewer patterns takes)) given

-- ---- whole numbers

pub unsigned_gives : (v : ℕ) (P : Json → Type 0) → P (json.number (decimal v)) → Gives (λ old new. Logs old new (event.unsigned v)) P
unsigned_gives v P is = one (event.unsigned v) P (λ s mid plain took.
    (json.number (decimal v), is, grind (arith, common_steps, took.1), grind (arith, common_steps, took.1)))

pub signed_gives : (z : ℤ) (P : Json → Type 0) → P (json.number (signed_decimal z)) → Gives (λ old new. Logs old new (event.signed z)) P
signed_gives z P is = one (event.signed z) P (λ s mid plain took.
    (json.number (signed_decimal z), is, grind (arith, common_steps, took.1), grind (arith, common_steps, took.1)))

pub natural_means : (rows : List Row) (n v : ℕ) (kind : IntKind) → HasShape rows n (shape.int kind) → v < 2 ^ 64
    → is_of_kind kind (pos v) ≡ true
    → Means rows n (json.number (decimal v))
natural_means rows n v kind is small of_kind =
    known AnyReading rows n (json.number (decimal v)) (number (unsigned v)) (ap (option_map number) (number_of-decimal v small))
    (λ patterns. step rows patterns n (shape.int kind) (number (unsigned v)) is (λ steps low. of_kind))

pub unsigned_agrees : (rows : List Row) (n v : ℕ) (kind : IntKind) → HasShape rows n (shape.int kind) → v < 2 ^ 64
    → is_of_kind kind (pos v) ≡ true
    → Gives (λ old new. Logs old new (event.unsigned v)) (Means rows n)
unsigned_agrees rows n v kind is small of_kind = unsigned_gives v (Means rows n) (natural_means rows n v kind is small of_kind)

pub integer_means : (rows : List Row) (n : ℕ) (z : ℤ) (kind : IntKind) → HasShape rows n (shape.int kind) → IsWithin64 z
    → is_of_kind kind z ≡ true
    → Means rows n (json.number (signed_decimal z))
integer_means rows n (pos v) kind is small of_kind = natural_means rows n v kind is small of_kind
integer_means rows n (negsuc v) kind is small of_kind =
    known AnyReading rows n (json.number (signed_decimal (negsuc v))) (number (negative (negsuc v)))
    (ap (option_map number) (number_of-negative v small))
    (λ patterns. step rows patterns n (shape.int kind) (number (negative (negsuc v))) is (λ steps low. of_kind))

pub signed_agrees : (rows : List Row) (n : ℕ) (z : ℤ) (kind : IntKind) → HasShape rows n (shape.int kind) → IsWithin64 z
    → is_of_kind kind z ≡ true
    → Gives (λ old new. Logs old new (event.signed z)) (Means rows n)
signed_agrees rows n z kind is small of_kind = signed_gives z (Means rows n) (integer_means rows n z kind is small of_kind)

-- ---- truth values, null, texts, characters

pub bool_agrees : (rows : List Row) (n : ℕ) (b : Bool) → HasShape rows n shape.bool
    → Gives (λ old new. Logs old new (event.boolean b)) (Means rows n)
bool_agrees rows n b is = one (event.boolean b) (Means rows n) (λ s mid plain took. (
  json.boolean b,
  known AnyReading rows n (json.boolean b) (boolean b) refl
      (λ patterns. step rows patterns n shape.bool (boolean b) is (λ steps low. refl)),
  grind (arith, common_steps, took),
  grind (arith, common_steps, took),
))

pub null_gives : (P : Json → Type 0) → P json.null → Gives (λ old new. Logs old new event.nothing) P
null_gives P is = one event.nothing P (λ s mid plain took.
    (json.null, is, grind (arith, common_steps, took), grind (arith, common_steps, took)))

pub unit_agrees : (rows : List Row) (n : ℕ) → HasShape rows n shape.null → Gives (λ old new. Logs old new event.nothing) (Means rows n)
unit_agrees rows n is = null_gives (Means rows n)
    (known AnyReading rows n json.null null refl (λ patterns. step rows patterns n shape.null null is (λ steps low. refl)))

pub text_agrees : (rows : List Row) (n : ℕ) (t : List ℕ) → HasShape rows n shape.text
    → Gives (λ old new. Logs old new (event.text t)) (Means rows n)
text_agrees rows n t is = one (event.text t) (Means rows n) (λ s mid plain took. (
  json.string t,
  known AnyReading rows n (json.string t) (string t) refl (λ patterns. step rows patterns n shape.text (string t) is (λ steps low. refl)),
  grind (arith, common_steps, took),
  grind (arith, common_steps, took),
))

pub one_character : (c : ℕ) → code_points (encode_utf8 c) == 1 ≡ true
one_character c = rw (one-character c) refl

pub char_agrees : (rows : List Row) (n c : ℕ) → HasShape rows n shape.char
    → Gives (λ old new. Logs old new (event.character c)) (Means rows n)
char_agrees rows n c is = one (event.character c) (Means rows n) (λ s mid plain took. (
  json.string (encode_utf8 c),
  known AnyReading rows n (json.string (encode_utf8 c)) (string (encode_utf8 c)) refl (λ patterns.
      step rows patterns n shape.char (string (encode_utf8 c)) is (λ steps low. one_character c)),
  grind (arith, common_steps, took),
  grind (arith, common_steps, took),
))
