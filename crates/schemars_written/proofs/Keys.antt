-- What is written where a key of a map is due.
use Rattle.std.proofs.Common.{◌≡◌, inl, inr, ℕ, ℤ, List, [], ◌∷◌, ◌++◌, map, Bool, true, false, ◌||◌, Some, None, decimal, encode_utf8, refl, ap, ◌∙◌, subst, arith}
use Rattle.schemars_written.proofs.Words.{bytes_eq, codes, if◌then◌else◌, signed_decimal, list_any, common_steps, Event, Log, Logs, spelled, State, Takes, Text, Patterns, matches, is_listed, Shape, Variant, by_name, no_payload, pattern_of, integers_of, Row, IsChecked, AreListed, KeyOptions, keys, any_text, is_key_allowed, all_options, shape_options, external_options, are_names, distinct_options, or_any_text, once, all_options-shape, listed_own, once_by_joining, AnyReading, TakesNatural, TakesInteger, IsAtKey, GivesAsKey, Named, IsKeyUnder, HasShape, HasVariant, HasUnit}
use Rattle.json.specs.Token as token
use Rattle.serde.specs.Event as event
use Rattle.serde.specs.declared.name.Case.{Case}
use Rattle.serde.specs.declared.name.NameKind.TheVariants as kind
use Rattle.schemars_shapes.specs.Shape as shape
use Rattle.schemars_shapes.specs.declared.shape.IntegerKeys.TheVariants.{Unsigned, Signed}
use Rattle.schemars_shapes.specs.declared.shape.IntegerKeys.{IntegerKeys}
use Rattle.schemars_shapes.specs.declared.shape.IntKind.{IntKind}

-- one event that is this key
one_key : (e : Event) (k : Text) (Q : Text → Type 0) → Q k
    → ((s mid : State) → IsAtKey s → Takes s e mid → IsAtKey mid × (mid.tokens ≡ s.tokens ++ token.key k ∷ []))
    → GivesAsKey (λ old new. Logs old new e) Q
one_key e k Q is each es new sent = (
  e ∷ [],
  sent,
  λ rest s last due run. let a = each s run.0 due run.1 in (run.0, k, is, a.0, a.1, run.2),
)

-- a key under each of these readings is one under fewer
pub key_under : {Q P : Patterns → Type 0} (w : Log → Log → Type 0) (rows : List Row) (n : ℕ)
    → ((patterns : Patterns) → P patterns → Q patterns)
    → GivesAsKey w (IsKeyUnder Q rows n) → GivesAsKey w (IsKeyUnder P rows n)
key_under w rows n fewer given es new sent =
    let g = given es new sent in (
      g.0,
      g.1,
      λ rest s last due run. let a = g.2 rest s last due run in
          (a.0, a.1, λ patterns takes. a.2 patterns (fewer patterns takes), a.3, a.4, a.5),
    )

-- ---- the keys of a row

at_row : (reading : Patterns → Type 0) (rows : List Row) → IsChecked rows → (n : ℕ) (sh : Shape) → HasShape rows n sh
    → (k : Text) (o : KeyOptions)
    → or_any_text (shape_options (all_options rows) sh) ≡ o
    → ((patterns : Patterns) → reading patterns → is_key_allowed patterns (distinct_options o) k ≡ true) → IsKeyUnder reading rows n k
at_row reading rows checked n sh is k o same allowed patterns takes =
    let options = all_options-shape rows checked n is.0 is.1 ∙ ap (shape_options (all_options rows)) is.2 in
    ap (λ q. is_key_allowed patterns (distinct_options (or_any_text q)) k) options
    ∙ ap (λ q. is_key_allowed patterns (distinct_options q) k) same ∙ allowed patterns takes

-- ---- texts, characters and truth values

pub text_key_law : (rows : List Row) (n : ℕ) (t : Text) → IsChecked rows → HasShape rows n shape.text
    → GivesAsKey (λ old new. Logs old new (event.text t)) (IsKeyUnder AnyReading rows n)
text_key_law rows n t checked row = one_key (event.text t) t (IsKeyUnder AnyReading rows n)
    (at_row AnyReading rows checked n shape.text row t any_text refl (λ patterns takes. refl))
    (λ s mid due took. (grind (arith, common_steps, took), grind (arith, common_steps, took)))

pub char_key_law : (rows : List Row) (n c : ℕ) → IsChecked rows → HasShape rows n shape.char
    → GivesAsKey (λ old new. Logs old new (event.character c)) (IsKeyUnder AnyReading rows n)
char_key_law rows n c checked row = one_key (event.character c) (encode_utf8 c) (IsKeyUnder AnyReading rows n)
    (at_row AnyReading rows checked n shape.char row (encode_utf8 c) any_text refl (λ patterns takes. refl))
    (λ s mid due took. (grind (arith, common_steps, took), grind (arith, common_steps, took)))

bool_text : Bool → Text
bool_text b = if b then codes "true" else codes "false"

pub bool_key_law : (rows : List Row) (n : ℕ) (b : Bool) → IsChecked rows → HasShape rows n shape.bool
    → GivesAsKey (λ old new. Logs old new (event.boolean b)) (IsKeyUnder AnyReading rows n)
unfolding bool_text
bool_key_law rows n b checked row = one_key (event.boolean b) (bool_text b) (IsKeyUnder AnyReading rows n)
    (at_row AnyReading rows checked n shape.bool row (bool_text b) any_text refl (λ patterns takes. refl))
    (λ s mid due took. (grind (arith, common_steps, took), grind (arith, common_steps, took)))

-- ---- whole numbers

-- what matches the pattern is a key
number_allowed : (patterns : Patterns) (i : IntegerKeys) (k : Text) → matches patterns (pattern_of i) k ≡ true
    → is_key_allowed patterns (distinct_options (keys false [] (Some i) [])) k ≡ true
number_allowed patterns i k found = ap (λ b. b || false) found

pub natural_key_law : (rows : List Row) (n v : ℕ) (kind : IntKind) → IsChecked rows → HasShape rows n (shape.int kind)
    → integers_of kind ≡ Unsigned → GivesAsKey (λ old new. Logs old new (event.unsigned v)) (IsKeyUnder (TakesNatural v) rows n)
natural_key_law rows n v kind checked row unsigned = one_key (event.unsigned v) (decimal v) (IsKeyUnder (TakesNatural v) rows n)
    (at_row (TakesNatural v) rows checked n (shape.int kind) row (decimal v) (keys false [] (Some Unsigned) [])
    (ap (λ i. keys false [] (Some i) []) unsigned) (λ patterns takes. number_allowed patterns Unsigned (decimal v) takes))
    (λ s mid due took. (grind (arith, common_steps, took.1), grind (arith, common_steps, took.1)))

pub integer_key_law : (rows : List Row) (n : ℕ) (z : ℤ) (kind : IntKind) → IsChecked rows → HasShape rows n (shape.int kind)
    → integers_of kind ≡ Signed → GivesAsKey (λ old new. Logs old new (event.signed z)) (IsKeyUnder (TakesInteger z) rows n)
integer_key_law rows n z kind checked row signed = one_key (event.signed z) (signed_decimal z) (IsKeyUnder (TakesInteger z) rows n)
    (at_row (TakesInteger z) rows checked n (shape.int kind) row (signed_decimal z) (keys false [] (Some Signed) [])
    (ap (λ i. keys false [] (Some i) []) signed) (λ patterns takes. number_allowed patterns Signed (signed_decimal z) takes))
    (λ s mid due took. (grind (arith, common_steps, took.1), grind (arith, common_steps, took.1)))

-- ---- names of variants

listed_any : (k : Text) (ts : List Text) → is_listed k ts ≡ list_any (bytes_eq k) ts
listed_any k [] = refl
listed_any k (t ∷ ts) = ap (λ b. bytes_eq k t || b) (listed_any k ts)

name_listed : (name : Text) (xs : List Variant) (ts : List Text) → HasVariant name no_payload xs → AreListed (map (λ x. x.name) xs) ts
    → list_any (bytes_eq name) ts ≡ true
name_listed name [] ts has all = absurd has
name_listed name (x ∷ xs) ts (inl here) all = subst (λ (t : Text). list_any (bytes_eq t) ts ≡ true) here.0 all.0
name_listed name (x ∷ xs) ts (inr later) all = name_listed name xs ts later all.1

-- a name of the enum is a key, also where a variant is no bare name, and any text is one
name_allowed : (patterns : Patterns) (name : Text) (xs : List Variant) → HasVariant name no_payload xs
    → is_key_allowed patterns (distinct_options (or_any_text (external_options xs))) name ≡ true
name_allowed patterns name [] has = absurd has
name_allowed patterns name (x ∷ xs) has = go (are_names (x ∷ xs))
  where
    names : List Text
    names = map (λ y. y.name) (x ∷ xs)

    listed : is_listed name (once names) ≡ true
    listed = listed_any name (once names)
        ∙ name_listed name (x ∷ xs) (once names) has (subst (AreListed names) (once_by_joining names) (listed_own names []))

    go : (b : Bool) → is_key_allowed patterns
        (distinct_options (if b then keys false (map (λ y. y.name) (x ∷ xs)) None [] else any_text)) name ≡ true
    go true = ap (λ b. b || false) listed
    go false = refl

-- of an enum that is tagged by names
pub unit_key_law : (rows : List Row) → IsChecked rows → (n : ℕ) (name : Text) (case : Case)
    → HasUnit rows n by_name (spelled case kind.Variant name) → GivesAsKey (Named name case) (IsKeyUnder AnyReading rows n)
unit_key_law rows checked n name case row =
    let t = spelled case kind.Variant name in
    one_key (event.unit_variant name case) t (IsKeyUnder AnyReading rows n)
    (at_row AnyReading rows checked n (shape.enum by_name row.0) row.1 t (or_any_text (external_options row.0)) refl
    (λ patterns takes. name_allowed patterns t row.0 row.2))
    (λ s mid due took. (grind (arith, common_steps, took), grind (arith, common_steps, took)))
