-- The content of a string in a text that is UTF-8 is UTF-8.
use Rattle.std.proofs.Common.{◌≡◌, ℕ, ◌+◌, ◌<◌, ◌≤◌, Bool, true, false, cond, ◌&&◌, ◌||◌, ◌==◌, nat_lt, nat_le, List, [], ◌∷◌, ◌++◌, length, drop, get_or, Option, Some, None, option_and_then, inl, inr, refl, sym, ap, ◌∙◌, subst, arith, append_assoc, append-nil, length-append, get_or-append-add, take_at, drop_at, drop-drop, eqb-true, ltb-true, ltb-false, leb-true, leb-false}
use Rattle.schemars_accepted.proofs.Words.{and_cases, and_parts, cases_lt, cond_both, IsUtf8-append, IsUtf8-drop, IsUtf8-encode, IsUtf8-take, IsCharBoundary-after_ascii, IsCharBoundary-before_ascii, encode_ascii, digit_value, encode_utf8, is_digit, IfSome, IsUtf8, low_scalar, scalar, Within, after_backslash, after_high, after_u, code_unit, content, is_high_surrogate, is_low_surrogate, plain, prepend, short_escape, surrogate_pair}

-- a text at an ASCII byte
pub parted : (xs ys : List ℕ) (x : ℕ) → IsUtf8 (xs ++ x ∷ ys) → x < 128 → IsUtf8 xs × IsUtf8 ys
parted xs ys x u small =
    let bs = xs ++ x ∷ ys in
    let n = length xs in
    let within : n < length bs = omega (arith, length-append xs (x ∷ ys)) in
    let at : n + 0 ≡ n = omega arith in
    let here : get_or bs n 0 ≡ x = ap (λ k. get_or bs k 0) (sym at) ∙ get_or-append-add xs (x ∷ ys) 0 0 in
    let before = IsCharBoundary-before_ascii bs n within (omega (arith, here)) in
    let after = IsCharBoundary-after_ascii bs n u within (omega (arith, here)) in (
      subst IsUtf8 (take_at xs (x ∷ ys) n refl) (IsUtf8-take bs n u before),
      subst IsUtf8 (sym (drop-drop 1 n bs) ∙ ap (drop 1) (drop_at xs (x ∷ ys) n refl)) (IsUtf8-drop bs (n + 1) u after),
    )

ascii : (x : ℕ) → x < 128 → IsUtf8 (x ∷ [])
ascii x small = subst IsUtf8 (encode_ascii x small) (IsUtf8-encode x (low_scalar x (omega arith)))

-- ---- escapes

small_digit : (a : ℕ) → is_digit a 16 ≡ true → a < 128
small_digit a is = grind arith

small_value : (a : ℕ) → is_digit a 16 ≡ true → digit_value a < 16
small_value a is = ltb-true (digit_value a) 16 is

record AreHex (a b c d u : ℕ) : Type 0 where
  first : a < 128
  second : b < 128
  third : c < 128
  fourth : d < 128
  unit : u < 65536

hex : (a b c d : ℕ) → IfSome (code_unit a b c d) (AreHex a b c d)
unfolding code_unit
hex a b c d =
    cond_both (is_digit a 16 && is_digit b 16 && is_digit c 16 && is_digit d 16) _ None (λ o. IfSome o (AreHex a b c d)) (λ e.
    let ends = and_parts _ (is_digit d 16) e in
    let middle = and_parts _ (is_digit c 16) ends.0 in
    let begins = and_parts (is_digit a 16) (is_digit b 16) middle.0 in
    let p = small_value a begins.0 in
    let q = small_value b begins.1 in
    let r = small_value c middle.1 in
    let s = small_value d ends.1 in
    record {
      first = small_digit a begins.0;
      second = small_digit b begins.1;
      third = small_digit c middle.1;
      fourth = small_digit d ends.1;
      unit = omega arith;
    }) (λ _. tt)

abbrev AreAscii : ℕ → ℕ → Type 0
AreAscii x c = (x < 128) × (c < 128)

chosen : (x n : ℕ) (b : Bool) (o : Option ℕ) → (b ≡ true → AreAscii x n) → IfSome o (AreAscii x) → IfSome (cond b (Some n) o) (AreAscii x)
chosen x n true o h rest = h refl
chosen x n false o h rest = rest

at_letter : (x y n : ℕ) → y < 128 → n < 128 → (x == y) ≡ true → AreAscii x n
at_letter x y n small escaped e = let same = eqb-true x y e in (omega arith, escaped)

short : (x : ℕ) → IfSome (short_escape x) (AreAscii x)
unfolding short_escape
short x =
    chosen x x ((x == 34) || (x == 92) || (x == 47)) _ (λ e. grind arith)
    (chosen x 8 (x == 98) _ (at_letter x 98 8 (omega arith) (omega arith))
    (chosen x 12 (x == 102) _ (at_letter x 102 12 (omega arith) (omega arith))
    (chosen x 10 (x == 110) _ (at_letter x 110 10 (omega arith) (omega arith))
    (chosen x 13 (x == 114) _ (at_letter x 114 13 (omega arith) (omega arith))
    (chosen x 9 (x == 116) None (at_letter x 116 9 (omega arith) (omega arith)) tt)))))

high_scalar : (u : ℕ) → 57344 ≤ u → u < 1114112 → scalar u ≡ true
high_scalar u low high = grind arith

not_within : (low high u : ℕ) → (nat_le low u && nat_lt u high) ≡ false → (low ≤ u → high ≤ u)
not_within low high u e is = elim (and_cases (nat_le low u) (nat_lt u high) e) [
  | inl not_low ↦ let below = leb-false low u not_low in absurd (omega arith)
  | inr not_high ↦ ltb-false u high not_high
]

no_surrogate : (u : ℕ) → u < 65536 → is_high_surrogate u ≡ false → is_low_surrogate u ≡ false → scalar u ≡ true
no_surrogate u small not_high not_low =
    let first = not_within 55296 56320 u not_high in
    let second = not_within 56320 57344 u not_low in
    elim (cases_lt u 55296) [
      | inl below ↦ low_scalar u below
      | inr above ↦ high_scalar u (second (first above)) (omega arith)
    ]

pair_scalar : (high low : ℕ) → 55296 ≤ high → high < 56320 → is_low_surrogate low ≡ true → scalar (surrogate_pair high low) ≡ true
pair_scalar high low least most is =
    let parts = and_parts (nat_le 56320 low) (nat_lt low 57344) is in
    let first = leb-true 56320 low parts.0 in
    let second = ltb-true low 57344 parts.1 in
    high_scalar (surrogate_pair high low) (omega arith) (omega arith)

-- ---- content

-- what there is is UTF-8 after the bytes before it
abbrev Follows : List ℕ → Option (List ℕ) → Type 0
Follows before o = IfSome o (λ s. IsUtf8 (before ++ s))

prepended : (before bytes : List ℕ) (o : Option (List ℕ)) → Follows (before ++ bytes) o → Follows before (prepend bytes o)
prepended before bytes None h = tt
prepended before bytes (Some s) h = subst IsUtf8 (append_assoc before bytes s) h

moved : (before : List ℕ) (o : Option (List ℕ)) → IsUtf8 before → Follows [] o → Follows before o
moved before None u h = tt
moved before (Some s) u h = IsUtf8-append before s u h

with_char : (u : ℕ) (o : Option (List ℕ)) → scalar u ≡ true → Follows [] o → Follows [] (prepend (encode_utf8 u) o)
with_char u o is h = prepended [] (encode_utf8 u) o (moved (encode_utf8 u) o (IsUtf8-encode u is) h)

next : {A : Type 0} (P : A → Type 0) (f : A → Option (List ℕ)) (o : Option A) → ((a : A) → P a → Follows [] (f a)) → IfSome o P
    → Follows [] (option_and_then f o)
next P f None keeps h = tt
next P f (Some a) keeps h = keeps a h

chosen_of : (before : List ℕ) (b : Bool) (o p : Option (List ℕ)) → (b ≡ true → Follows before o) → (b ≡ false → Follows before p)
    → Follows before (cond b o p)
chosen_of before b o p h k = cond_both b o p (Follows before) h k

-- What there is within a string, in each state, where the text is UTF-8.
-- The plain bytes before it may be the first of a character that ends in it.
abbrev IsRead : Within → List ℕ → Type 0
IsRead plain xs = (before : List ℕ) → IsUtf8 (before ++ xs) → Follows before (content plain xs)
IsRead after_backslash xs = IsUtf8 xs → Follows [] (content after_backslash xs)
IsRead after_u xs = IsUtf8 xs → Follows [] (content after_u xs)
IsRead (after_high h) xs = 55296 ≤ h → h < 56320 → IsUtf8 xs → Follows [] (content (after_high h) xs)

plain_byte : (x : ℕ) (xs : List ℕ) → IsRead plain xs → IsRead after_backslash xs → IsRead plain (x ∷ xs)
unfolding content
plain_byte x xs again escaped before u =
    chosen_of before (x == 34) (Some []) _ (λ e.
    let same = eqb-true x 34 e in
    subst IsUtf8 (sym (append-nil before)) (parted before xs x u (omega arith)).0) (λ _.
    chosen_of before (x == 92) (content after_backslash xs) _ (λ e.
    let same = eqb-true x 92 e in
    let parts = parted before xs x u (omega arith) in
    moved before (content after_backslash xs) parts.0 (escaped parts.1)) (λ _.
    chosen_of before (nat_lt x 32) None (prepend (x ∷ []) (content plain xs)) (λ _. tt) (λ _.
    prepended before (x ∷ []) (content plain xs) (again (before ++ x ∷ []) (subst IsUtf8 (sym (append_assoc before (x ∷ []) xs)) u)))))

escaped_byte : (x : ℕ) (xs : List ℕ) → IsRead plain xs → IsRead after_u xs → IsRead after_backslash (x ∷ xs)
unfolding content
escaped_byte x xs again unicode u =
    chosen_of [] (x == 117) (content after_u xs) _ (λ e.
    let same = eqb-true x 117 e in
    unicode (parted [] xs x u (omega arith)).1) (λ _.
    next (AreAscii x) (λ c. prepend (c ∷ []) (content plain xs)) (short_escape x) (λ c small.
    prepended [] (c ∷ []) (content plain xs) (moved (c ∷ []) (content plain xs) (ascii c small.1) (again [] (parted [] xs x u small.0).1)))
    (short x))

after_hex : (a b c d v : ℕ) (xs : List ℕ) → AreHex a b c d v → IsUtf8 (a ∷ b ∷ c ∷ d ∷ xs) → IsUtf8 xs
after_hex a b c d v xs are u =
    let first = (parted [] (b ∷ c ∷ d ∷ xs) a u are.first).1 in
    let second = (parted [] (c ∷ d ∷ xs) b first are.second).1 in
    let third = (parted [] (d ∷ xs) c second are.third).1 in
    (parted [] xs d third are.fourth).1

unit : (a b c d : ℕ) (xs : List ℕ) → IsRead plain xs → ((h : ℕ) → IsRead (after_high h) xs) → IsRead after_u (a ∷ b ∷ c ∷ d ∷ xs)
unfolding content
unit a b c d xs again paired u =
    next (AreHex a b c d)
    (λ v. cond (is_high_surrogate v) (content (after_high v) xs)
    (cond (is_low_surrogate v) None (prepend (encode_utf8 v) (content plain xs))))
    (code_unit a b c d) (λ v are.
    let rest = after_hex a b c d v xs are u in
    chosen_of [] (is_high_surrogate v) (content (after_high v) xs) _ (λ e.
    let parts = and_parts (nat_le 55296 v) (nat_lt v 56320) e in
    paired v (leb-true 55296 v parts.0) (ltb-true v 56320 parts.1) rest) (λ not_high.
    chosen_of [] (is_low_surrogate v) None _ (λ _. tt) (λ not_low.
    with_char v (content plain xs) (no_surrogate v are.unit not_high not_low) (again [] rest)))) (hex a b c d)

pair : (h s t a b c d : ℕ) (xs : List ℕ) → IsRead plain xs → IsRead (after_high h) (s ∷ t ∷ a ∷ b ∷ c ∷ d ∷ xs)
unfolding content
pair h s t a b c d xs again least most u =
    chosen_of [] ((s == 92) && (t == 117))
    (option_and_then (λ l. cond (is_low_surrogate l) (prepend (encode_utf8 (surrogate_pair h l)) (content plain xs)) None)
    (code_unit a b c d)) None (λ e.
    let parts = and_parts (s == 92) (t == 117) e in
    let first = eqb-true s 92 parts.0 in
    let second = eqb-true t 117 parts.1 in
    let digits = (parted [] (a ∷ b ∷ c ∷ d ∷ xs) t (parted [] (t ∷ a ∷ b ∷ c ∷ d ∷ xs) s u (omega arith)).1 (omega arith)).1 in
    next (AreHex a b c d) (λ l. cond (is_low_surrogate l) (prepend (encode_utf8 (surrogate_pair h l)) (content plain xs)) None)
    (code_unit a b c d) (λ l are.
    chosen_of [] (is_low_surrogate l) _ None (λ is_low.
    with_char (surrogate_pair h l) (content plain xs) (pair_scalar h l least most is_low) (again [] (after_hex a b c d l xs are digits)))
    (λ _. tt)) (hex a b c d)) (λ _. tt)

content_read : (w : Within) (xs : List ℕ) → IsRead w xs
unfolding content
content_read plain [] = λ before u. tt
content_read plain (x ∷ xs) = plain_byte x xs (content_read plain xs) (content_read after_backslash xs)
content_read after_backslash [] = λ u. tt
content_read after_backslash (x ∷ xs) = escaped_byte x xs (content_read plain xs) (content_read after_u xs)
content_read after_u [] = λ u. tt
content_read after_u (a ∷ []) = λ u. tt
content_read after_u (a ∷ b ∷ []) = λ u. tt
content_read after_u (a ∷ b ∷ c ∷ []) = λ u. tt
content_read after_u (a ∷ b ∷ c ∷ d ∷ xs) = unit a b c d xs (content_read plain xs) (λ h. content_read (after_high h) xs)
content_read (after_high h) [] = λ least most u. tt
content_read (after_high h) (s ∷ []) = λ least most u. tt
content_read (after_high h) (s ∷ t ∷ []) = λ least most u. tt
content_read (after_high h) (s ∷ t ∷ a ∷ []) = λ least most u. tt
content_read (after_high h) (s ∷ t ∷ a ∷ b ∷ []) = λ least most u. tt
content_read (after_high h) (s ∷ t ∷ a ∷ b ∷ c ∷ []) = λ least most u. tt
content_read (after_high h) (s ∷ t ∷ a ∷ b ∷ c ∷ d ∷ xs) = pair h s t a b c d xs (content_read plain xs)

-- the content of a string
pub content_is_utf8 : (xs : List ℕ) → IsUtf8 xs → IfSome (content plain xs) IsUtf8
content_is_utf8 xs u = content_read plain xs [] u
