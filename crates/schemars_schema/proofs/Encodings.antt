-- A name is found again under its encoding.
use Rattle.std.proofs.Common.{◌≡◌, ◌≢◌, ℕ, zero, suc, ◌+◌, ◌-◌, ◌*◌, ◌/◌, ◌%◌, ◌<◌, ◌≤◌, List, [], ◌∷◌, ◌++◌, length, Option, Some, None, Bool, true, false, refl, sym, ap, ◌∙◌, arith, true≢false, append_assoc, eqb-true, eq-eqb, take, drop, length-append, option_and_then, cond, get_or, subst, ⊎_elim}
use Rattle.schemars_schema.proofs.Words.{nat_lt, ◌==◌, ◌&&◌, ◌||◌, if◌then◌else◌, option_map, IsUtf8, All, list_all, is_utf8, IsAscii, valid_len_up_to, utf8_valid_len, and_parts, cases_lt, IsAscii-nil, IsAscii-cons, get_or_default_zero, ltb-true, nat_tests, take_all, IsUtf8-append, IsUtf8-encode, IsUtf8-nil, IsUtf8-from_is_utf8, IsUtf8-from_ascii, encode_ascii, utf8_valid_len-IsUtf8, encode, encodes, scalar, scalars, scalar_cases, next, Data, object, Members, unescape, get_member, step, walk, pointer, Lacks, walk_last, Text, is_hex_digit, hex_value, percent_decoded_bytes, text_of_bytes, percent_decoded, begins_escape, has_escape, stays, hex_digit, encoded_byte, encoded, lookup}

-- ---- decoding

pub decoded_plain : (x : ℕ) (xs : List ℕ) → (x == 37) ≡ false → percent_decoded_bytes (x ∷ xs) ≡ x ∷ percent_decoded_bytes xs
unfolding percent_decoded_bytes
decoded_plain x [] h = refl
decoded_plain x (y ∷ []) h = refl
decoded_plain x (y ∷ z ∷ rest) h = rw h

hex_digit_is : (n : ℕ) → n < 16 → is_hex_digit (hex_digit n) ≡ true
hex_digit_is n h = grind (arith, nat_tests)

hex_digit_value : (n : ℕ) → n < 16 → hex_value (hex_digit n) ≡ n
hex_digit_value n h = grind (arith, nat_tests)

decoded_escape : (a b : ℕ) (rest : List ℕ) → a < 16 → b < 16 → percent_decoded_bytes (37 ∷ hex_digit a ∷ hex_digit b ∷ rest)
    ≡ (16 * a + b) ∷ percent_decoded_bytes rest
unfolding percent_decoded_bytes
decoded_escape a b rest h k = rw (hex_digit_is a h, hex_digit_is b k, hex_digit_value a h, hex_digit_value b k)

pub decoded_front : (x : ℕ) (xs : List ℕ) → begins_escape (x ∷ xs) ≡ false → percent_decoded_bytes (x ∷ xs) ≡ x ∷ percent_decoded_bytes xs
unfolding percent_decoded_bytes
decoded_front x [] h = refl
decoded_front x (y ∷ []) h = refl
decoded_front x (y ∷ z ∷ rest) h = rw h

pub escape_first : (bs : List ℕ) → 3 ≤ length bs → get_or bs 0 0 ≡ 37 → is_hex_digit (get_or bs 1 0) ≡ true
    → is_hex_digit (get_or bs 2 0) ≡ true
    → percent_decoded_bytes bs ≡ (16 * hex_value (get_or bs 1 0) + hex_value (get_or bs 2 0))
    ∷ percent_decoded_bytes (take (length bs - 3) (drop 3 bs))
unfolding percent_decoded_bytes
escape_first [] some p q r = absurd (omega arith)
escape_first (x ∷ []) some p q r = absurd (omega arith)
escape_first (x ∷ y ∷ []) some p q r = absurd (omega arith)
escape_first (x ∷ y ∷ z ∷ rest) some p q r =
    let whole : take (length (x ∷ y ∷ z ∷ rest) - 3) rest ≡ rest = take_all _ rest (omega arith) in rw (eq-eqb x 37 p, q, r, whole)

-- no escape goes over a `/`
pub decoded_over_slash : (xs rest : List ℕ) → percent_decoded_bytes (xs ++ 47 ∷ rest)
    ≡ percent_decoded_bytes xs ++ 47 ∷ percent_decoded_bytes rest
unfolding percent_decoded_bytes
decoded_over_slash [] rest = decoded_plain 47 rest refl
decoded_over_slash (x ∷ []) rest = last x rest ∙ ap (λ l. x ∷ l) (decoded_plain 47 rest refl)
  where
    last : (x : ℕ) (rest : List ℕ) → percent_decoded_bytes (x ∷ 47 ∷ rest) ≡ x ∷ percent_decoded_bytes (47 ∷ rest)
    last x [] = refl
    last x (z ∷ rest) = go (x == 37)
      where
        go : (b : Bool) → (if b && (false && is_hex_digit z) then (16 * hex_value 47 + hex_value z) ∷ percent_decoded_bytes rest else
            x ∷ percent_decoded_bytes (47 ∷ z ∷ rest)) ≡ x ∷ percent_decoded_bytes (47 ∷ z ∷ rest)
        go true = refl
        go false = refl
decoded_over_slash (x ∷ y ∷ []) rest = go (x == 37) (is_hex_digit y) ∙ ap (λ l. x ∷ l) (decoded_over_slash (y ∷ []) rest)
  where
    go : (b c : Bool) → (if b && (c && false) then (16 * hex_value y + hex_value 47) ∷ percent_decoded_bytes rest else
        x ∷ percent_decoded_bytes (y ∷ 47 ∷ rest)) ≡ x ∷ percent_decoded_bytes (y ∷ 47 ∷ rest)
    go true true = refl
    go true false = refl
    go false c = refl
decoded_over_slash (x ∷ y ∷ z ∷ xs) rest = go (x == 37 && (is_hex_digit y && is_hex_digit z)) (decoded_over_slash xs rest)
    (decoded_over_slash (y ∷ z ∷ xs) rest)
  where
    go : (b : Bool) → percent_decoded_bytes (xs ++ 47 ∷ rest) ≡ percent_decoded_bytes xs ++ 47 ∷ percent_decoded_bytes rest
        → percent_decoded_bytes (y ∷ z ∷ xs ++ 47 ∷ rest) ≡ percent_decoded_bytes (y ∷ z ∷ xs) ++ 47 ∷ percent_decoded_bytes rest
        → (if b then (16 * hex_value y + hex_value z) ∷ percent_decoded_bytes (xs ++ 47 ∷ rest) else
        x ∷ percent_decoded_bytes (y ∷ z ∷ xs ++ 47 ∷ rest))
        ≡ (if b then (16 * hex_value y + hex_value z) ∷ percent_decoded_bytes xs else x ∷ percent_decoded_bytes (y ∷ z ∷ xs)) ++ 47
        ∷ percent_decoded_bytes rest
    go true e f = ap (λ l. (16 * hex_value y + hex_value z) ∷ l) e
    go false e f = ap (λ l. x ∷ l) f

-- ---- which bytes decoding leaves

pub without_escape : (xs : List ℕ) → has_escape xs ≡ false → percent_decoded_bytes xs ≡ xs
unfolding percent_decoded_bytes
without_escape [] h = refl
without_escape (x ∷ []) h = refl
without_escape (x ∷ y ∷ []) h = refl
without_escape (x ∷ y ∷ z ∷ rest) h = go (x == 37 && (is_hex_digit y && is_hex_digit z)) h (without_escape (y ∷ z ∷ rest))
  where
    go : (b : Bool) → b || has_escape (y ∷ z ∷ rest) ≡ false → (has_escape (y ∷ z ∷ rest) ≡ false
        → percent_decoded_bytes (y ∷ z ∷ rest) ≡ y ∷ z ∷ rest)
        → (if b then (16 * hex_value y + hex_value z) ∷ percent_decoded_bytes rest else x ∷ percent_decoded_bytes (y ∷ z ∷ rest))
        ≡ x ∷ y ∷ z ∷ rest
    go true h later = absurd (true≢false h)
    go false h later = ap (λ l. x ∷ l) (later h)

decoded_length : (xs : List ℕ) → length (percent_decoded_bytes xs) ≤ length xs
unfolding percent_decoded_bytes
decoded_length [] = omega arith
decoded_length (x ∷ []) = omega arith
decoded_length (x ∷ y ∷ []) = omega arith
decoded_length (x ∷ y ∷ z ∷ rest) = go (x == 37 && (is_hex_digit y && is_hex_digit z)) (decoded_length rest) (decoded_length (y ∷ z ∷ rest))
  where
    go : (b : Bool) → length (percent_decoded_bytes rest) ≤ length rest
        → length (percent_decoded_bytes (y ∷ z ∷ rest)) ≤ length (y ∷ z ∷ rest)
        → length (if b then (16 * hex_value y + hex_value z) ∷ percent_decoded_bytes rest else x ∷ percent_decoded_bytes (y ∷ z ∷ rest))
        ≤ length (x ∷ y ∷ z ∷ rest)
    go true e f = omega arith
    go false e f = omega arith

escape_shortens : (xs : List ℕ) → has_escape xs ≡ true → length (percent_decoded_bytes xs) < length xs
unfolding percent_decoded_bytes
escape_shortens [] h = absurd (true≢false (sym h))
escape_shortens (x ∷ []) h = absurd (true≢false (sym h))
escape_shortens (x ∷ y ∷ []) h = absurd (true≢false (sym h))
escape_shortens (x ∷ y ∷ z ∷ rest) h = go (x == 37 && (is_hex_digit y && is_hex_digit z)) h (decoded_length rest)
    (escape_shortens (y ∷ z ∷ rest))
  where
    go : (b : Bool) → b || has_escape (y ∷ z ∷ rest) ≡ true → length (percent_decoded_bytes rest) ≤ length rest
        → (has_escape (y ∷ z ∷ rest) ≡ true → length (percent_decoded_bytes (y ∷ z ∷ rest)) < length (y ∷ z ∷ rest))
        → length (if b then (16 * hex_value y + hex_value z) ∷ percent_decoded_bytes rest else x ∷ percent_decoded_bytes (y ∷ z ∷ rest))
        < length (x ∷ y ∷ z ∷ rest)
    go true h e f = omega arith
    go false h e f = let g = f h in omega arith

pub with_escape : (xs : List ℕ) → has_escape xs ≡ true → percent_decoded_bytes xs ≢ xs
with_escape xs h e = let shorter = escape_shortens xs h in omega (arith, ap length e)

-- ---- encoding

-- a name as a token of a pointer
unfoldable pub escaped : Text → Text
escaped [] = []
escaped (b ∷ bs) = (if b == 126 then 126 ∷ 48 ∷ [] else (if b == 47 then 126 ∷ 49 ∷ [] else b ∷ [])) ++ escaped bs

stays_plain : (b : ℕ) → stays b ≡ true → (b == 37) ≡ false
stays_plain b h = grind (arith, nat_tests)

abbrev pub AreBytes : List ℕ → Type 0
AreBytes [] = Unit {0}
AreBytes (b ∷ bs) = (b < 256) × AreBytes bs

pub decoded-encoded : (bs : Text) → AreBytes bs → percent_decoded_bytes (encoded bs) ≡ escaped bs
unfolding encoded escaped percent_decoded_bytes
decoded-encoded [] h = refl
decoded-encoded (b ∷ bs) h = go (b == 126) (b == 47) (stays b) refl (decoded-encoded bs h.1)
  where
    go : (p q r : Bool) → stays b ≡ r → percent_decoded_bytes (encoded bs) ≡ escaped bs
        → percent_decoded_bytes ((if p then 126 ∷ 48 ∷ [] else (if q then 126 ∷ 49 ∷ [] else
        (if r then b ∷ [] else 37 ∷ hex_digit (b / 16) ∷ hex_digit (b % 16) ∷ []))) ++ encoded bs)
        ≡ (if p then 126 ∷ 48 ∷ [] else (if q then 126 ∷ 49 ∷ [] else b ∷ [])) ++ escaped bs
    go true q r is later = decoded_plain 126 (48 ∷ encoded bs) refl ∙ ap (λ l. 126 ∷ l)
        (decoded_plain 48 (encoded bs) refl ∙ ap (λ l. 48 ∷ l) later)
    go false true r is later = decoded_plain 126 (49 ∷ encoded bs) refl
        ∙ ap (λ l. 126 ∷ l) (decoded_plain 49 (encoded bs) refl ∙ ap (λ l. 49 ∷ l) later)
    go false false true is later = decoded_plain b (encoded bs) (stays_plain b is) ∙ ap (λ l. b ∷ l) later
    go false false false is later =
        let whole : 16 * (b / 16) + b % 16 ≡ b = omega arith in
        let byte : b < 256 = h.0 in
        decoded_escape (b / 16) (b % 16) (encoded bs) (omega arith) (omega arith) ∙ rw (whole, later)

unescape_other : (x : ℕ) (xs : List ℕ) → (x == 126) ≡ false → unescape (x ∷ xs) ≡ x ∷ unescape xs
unfolding unescape
unescape_other x [] h = refl
unescape_other x (y ∷ rest) h = rw h

pub unescape-escaped : (bs : Text) → unescape (escaped bs) ≡ bs
unfolding escaped unescape
unescape-escaped [] = refl
unescape-escaped (b ∷ bs) = go (b == 126) (b == 47) refl refl (unescape-escaped bs)
  where
    go : (p q : Bool) → (b == 126) ≡ p → (b == 47) ≡ q → unescape (escaped bs) ≡ bs
        → unescape ((if p then 126 ∷ 48 ∷ [] else (if q then 126 ∷ 49 ∷ [] else b ∷ [])) ++ escaped bs) ≡ b ∷ bs
    go true q is is_slash later = rw (eqb-true b 126 is, later)
    go false true is is_slash later = rw (eqb-true b 47 is_slash, later)
    go false false is is_slash later = unescape_other b (escaped bs) is ∙ ap (λ l. b ∷ l) later

-- ---- they have no `/`

lacks_append : (xs ys : List ℕ) → Lacks 47 xs → Lacks 47 ys → Lacks 47 (xs ++ ys)
lacks_append [] ys h k i less = k i less
lacks_append (x ∷ xs) ys h k zero less = h 0 (omega arith)
lacks_append (x ∷ xs) ys h k (suc i) less = lacks_append xs ys (λ j small. h (suc j) (omega arith)) k i (omega arith)

lacks_one : (x : ℕ) → x ≢ 47 → Lacks 47 (x ∷ [])
lacks_one x h zero less = h
lacks_one x h (suc i) less = absurd (omega arith)

lacks_two : (x y : ℕ) → x ≢ 47 → y ≢ 47 → Lacks 47 (x ∷ y ∷ [])
lacks_two x y h k = lacks_append (x ∷ []) (y ∷ []) (lacks_one x h) (lacks_one y k)

stays_other : (b : ℕ) → stays b ≡ true → b ≢ 47
stays_other b h e = absurd (true≢false (sym h ∙ ap stays e))

digit_other : (n : ℕ) → hex_digit n ≢ 47
digit_other n = grind (arith, nat_tests)

pub encoded_lacks : (bs : Text) → Lacks 47 (encoded bs)
unfolding encoded
encoded_lacks [] = λ i h. absurd (omega arith)
encoded_lacks (b ∷ bs) = lacks_append (encoded_byte b) (encoded bs) (go (b == 126) (b == 47) (stays b) refl) (encoded_lacks bs)
  where
    go : (p q r : Bool) → stays b ≡ r
        → Lacks 47 (if p then 126 ∷ 48 ∷ [] else (if q then 126 ∷ 49 ∷ [] else
        (if r then b ∷ [] else 37 ∷ hex_digit (b / 16) ∷ hex_digit (b % 16) ∷ [])))
    go true q r is = lacks_two 126 48 (omega arith) (omega arith)
    go false true r is = lacks_two 126 49 (omega arith) (omega arith)
    go false false true is = lacks_one b (stays_other b is)
    go false false false is = lacks_append (37 ∷ []) (hex_digit (b / 16) ∷ hex_digit (b % 16) ∷ []) (lacks_one 37 (omega arith))
        (lacks_two (hex_digit (b / 16)) (hex_digit (b % 16)) (digit_other (b / 16)) (digit_other (b % 16)))

pub escaped_lacks : (bs : Text) → Lacks 47 (escaped bs)
unfolding escaped
escaped_lacks [] = λ i h. absurd (omega arith)
escaped_lacks (b ∷ bs) = lacks_append (if b == 126 then 126 ∷ 48 ∷ [] else (if b == 47 then 126 ∷ 49 ∷ [] else b ∷ [])) (escaped bs)
    (go (b == 126) (b == 47) refl) (escaped_lacks bs)
  where
    go : (p q : Bool) → (b == 47) ≡ q → Lacks 47 (if p then 126 ∷ 48 ∷ [] else (if q then 126 ∷ 49 ∷ [] else b ∷ []))
    go true q is = lacks_two 126 48 (omega arith) (omega arith)
    go false true is = lacks_two 126 49 (omega arith) (omega arith)
    go false false is = lacks_one b (λ e. true≢false (sym (ap (λ x. x == 47) e) ∙ is))

-- ---- which names stay

byte_stays : (b : ℕ) → stays b ≡ true → encoded_byte b ≡ b ∷ []
byte_stays b h =
    let p : (b == 126) ≡ false = grind (arith, nat_tests) in
    let q : (b == 47) ≡ false = grind (arith, nat_tests) in
    rw (p, q, h)

pub all_stay : (bs : Text) → list_all stays bs ≡ true → encoded bs ≡ bs
unfolding encoded
all_stay [] h = refl
all_stay (b ∷ bs) h = let parts = and_parts (stays b) (list_all stays bs) h in rw (byte_stays b parts.0, all_stay bs parts.1)

encoded_byte_length : (b : ℕ) → 1 ≤ length (encoded_byte b)
encoded_byte_length b = go (b == 126) (b == 47) (stays b)
  where
    go : (p q r : Bool) → 1 ≤ length (if p then 126 ∷ 48 ∷ [] else (if q then 126 ∷ 49 ∷ [] else
        (if r then b ∷ [] else 37 ∷ hex_digit (b / 16) ∷ hex_digit (b % 16) ∷ [])))
    go true q r = omega arith
    go false true r = omega arith
    go false false true = omega arith
    go false false false = omega arith

encoded_byte_longer : (b : ℕ) → stays b ≡ false → 2 ≤ length (encoded_byte b)
encoded_byte_longer b h = go (b == 126) (b == 47) (stays b) h
  where
    go : (p q r : Bool) → r ≡ false → 2 ≤ length (if p then 126 ∷ 48 ∷ [] else
        (if q then 126 ∷ 49 ∷ [] else (if r then b ∷ [] else 37 ∷ hex_digit (b / 16) ∷ hex_digit (b % 16) ∷ [])))
    go true q r is = omega arith
    go false true r is = omega arith
    go false false true is = absurd (true≢false is)
    go false false false is = omega arith

encoded_length : (bs : Text) → length bs ≤ length (encoded bs)
unfolding encoded
encoded_length [] = omega arith
encoded_length (b ∷ bs) = omega (arith, length-append (encoded_byte b) (encoded bs), encoded_byte_length b, encoded_length bs)

change_lengthens : (bs : Text) → list_all stays bs ≡ false → length bs < length (encoded bs)
unfolding encoded
change_lengthens [] h = absurd (true≢false h)
change_lengthens (b ∷ bs) h = go (stays b) refl h (change_lengthens bs)
  where
    go : (r : Bool) → stays b ≡ r → r && list_all stays bs ≡ false → (list_all stays bs ≡ false → length bs < length (encoded bs))
        → length (b ∷ bs) < length (encoded_byte b ++ encoded bs)
    go true is h later = let more = later h in omega (arith, length-append (encoded_byte b) (encoded bs), encoded_byte_length b)
    go false is h later = omega (arith, length-append (encoded_byte b) (encoded bs), encoded_byte_longer b is, encoded_length bs)

pub some_change : (bs : Text) → list_all stays bs ≡ false → encoded bs ≢ bs
some_change bs h e = let longer = change_lengthens bs h in omega (arith, ap length e)

-- ---- UTF-8

escaped-append : (xs ys : List ℕ) → escaped (xs ++ ys) ≡ escaped xs ++ escaped ys
unfolding escaped
escaped-append [] ys = refl
escaped-append (x ∷ xs) ys = rw (escaped-append xs ys) (sym (append_assoc
    (if x == 126 then 126 ∷ 48 ∷ [] else (if x == 47 then 126 ∷ 49 ∷ [] else x ∷ [])) (escaped xs) (escaped ys)))

abbrev OnlyAbove : List ℕ → Type 0
OnlyAbove [] = Unit {0}
OnlyAbove (b ∷ bs) = (128 ≤ b) × OnlyAbove bs

escaped_above : (bs : List ℕ) → OnlyAbove bs → escaped bs ≡ bs
unfolding escaped
escaped_above [] h = refl
escaped_above (b ∷ bs) h =
    let above : 128 ≤ b = h.0 in
    let p : (b == 126) ≡ false = grind (arith, nat_tests) in
    let q : (b == 47) ≡ false = grind (arith, nat_tests) in
    rw (p, q) (ap (λ l. b ∷ l) (escaped_above bs h.1))

encode_above : (c : ℕ) → 128 ≤ c → OnlyAbove (encode c)
unfolding encode
encode_above c h = go (nat_lt c 128) (nat_lt c 2048) (nat_lt c 65536) (grind (arith, nat_tests))
  where
    go : (p q r : Bool) → p ≡ false
        → OnlyAbove (cond p (c ∷ []) (cond q ((192 + c / 64) ∷ next c ∷ [])
        (cond r ((224 + c / 4096) ∷ next (c / 64) ∷ next c ∷ []) ((240 + c / 262144) ∷ next (c / 4096) ∷ next (c / 64) ∷ next c ∷ []))))
    go true q r is = absurd (true≢false is)
    go false true r is = (omega arith, (omega arith, tt))
    go false false true is = (omega arith, (omega arith, (omega arith, tt)))
    go false false false is = (omega arith, (omega arith, (omega arith, (omega arith, tt))))

pair_ascii : (x y : ℕ) → x < 128 → y < 128 → IsAscii (x ∷ y ∷ [])
pair_ascii x y h k zero = h
pair_ascii x y h k (suc zero) = k
pair_ascii x y h k (suc (suc i)) = omega arith

escaped_char : (c : ℕ) → scalar c ≡ true → IsUtf8 (escaped (encode c))
unfolding escaped
escaped_char c h =
    ⊎_elim (λ low. let one = encode_ascii c low in rw one (go (c == 126) (c == 47) (rw one at (IsUtf8-encode c h))))
    (λ high. rw (escaped_above (encode c) (encode_above c high)) (IsUtf8-encode c h)) (cases_lt c 128)
  where
    go : (p q : Bool) → IsUtf8 (c ∷ []) → IsUtf8 ((if p then 126 ∷ 48 ∷ [] else (if q then 126 ∷ 49 ∷ [] else c ∷ [])) ++ [])
    go true q is = IsUtf8-from_ascii (126 ∷ 48 ∷ []) (pair_ascii 126 48 (omega arith) (omega arith))
    go false true is = IsUtf8-from_ascii (126 ∷ 49 ∷ []) (pair_ascii 126 49 (omega arith) (omega arith))
    go false false is = is

escaped_chars : (cs : List ℕ) → scalars cs ≡ true → IsUtf8 (escaped (encodes cs))
unfolding escaped
escaped_chars [] h = IsUtf8-nil
escaped_chars (c ∷ cs) h =
    let parts = and_parts (scalar c) (scalars cs) h in
    rw (escaped-append (encode c) (encodes cs)) (IsUtf8-append _ _ (escaped_char c parts.0) (escaped_chars cs parts.1))

pub IsUtf8-escaped : (bs : Text) → IsUtf8 bs → IsUtf8 (escaped bs)
IsUtf8-escaped bs h = let P : List ℕ → Type 0 = λ l. IsUtf8 (escaped l) in subst P h.1.1 (escaped_chars h.0 h.1.0)

slash_ascii : IsAscii (47 ∷ [])
slash_ascii zero = omega arith
slash_ascii (suc i) = omega arith

AreBytes-append : (xs ys : List ℕ) → AreBytes xs → AreBytes ys → AreBytes (xs ++ ys)
AreBytes-append [] ys h k = k
AreBytes-append (x ∷ xs) ys h k = (h.0, AreBytes-append xs ys h.1 k)

scalar_most : (c : ℕ) → scalar c ≡ true → c < 1114112
scalar_most c h = ⊎_elim (λ low. omega arith) (λ high. high.1) (scalar_cases c h)

encode_bytes : (c : ℕ) → scalar c ≡ true → AreBytes (encode c)
unfolding encode
encode_bytes c h = go (nat_lt c 128) (nat_lt c 2048) (nat_lt c 65536) refl refl refl
  where
    go : (p q r : Bool) → nat_lt c 128 ≡ p → nat_lt c 2048 ≡ q → nat_lt c 65536 ≡ r
        → AreBytes (cond p (c ∷ []) (cond q ((192 + c / 64) ∷ next c ∷ [])
        (cond r ((224 + c / 4096) ∷ next (c / 64) ∷ next c ∷ []) ((240 + c / 262144) ∷ next (c / 4096) ∷ next (c / 64) ∷ next c ∷ []))))
    go true q r is is2 is3 = let less = ltb-true _ _ is in (omega arith, tt)
    go false true r is is2 is3 = let less = ltb-true _ _ is2 in (omega arith, (omega arith, tt))
    go false false true is is2 is3 = let less = ltb-true _ _ is3 in (omega arith, (omega arith, (omega arith, tt)))
    go false false false is is2 is3 = let most = scalar_most c h in (omega arith, (omega arith, (omega arith, (omega arith, tt))))

encodes_bytes : (cs : List ℕ) → scalars cs ≡ true → AreBytes (encodes cs)
encodes_bytes [] h = tt
encodes_bytes (c ∷ cs) h = let parts = and_parts (scalar c) (scalars cs) h in
    AreBytes-append (encode c) (encodes cs) (encode_bytes c parts.0) (encodes_bytes cs parts.1)

pub AreBytes-utf8 : (bs : List ℕ) → IsUtf8 bs → AreBytes bs
AreBytes-utf8 bs h = subst AreBytes h.1.1 (encodes_bytes h.0 h.1.0)

-- ---- where a reference leads

pub text_of_utf8 : (bs : List ℕ) → IsUtf8 bs → text_of_bytes bs ≡ Some bs
text_of_utf8 bs h = rw (eq-eqb _ _ (utf8_valid_len-IsUtf8 bs h))

longest_le : (bs : List ℕ) (n : ℕ) → valid_len_up_to bs n ≤ n
longest_le bs zero = omega arith
longest_le bs (suc n) = go (is_utf8 (take (suc n) bs)) (longest_le bs n)
  where
    go : (b : Bool) → valid_len_up_to bs n ≤ n → (if b then suc n else valid_len_up_to bs n) ≤ suc n
    go true h = omega arith
    go false h = omega arith

longest_utf8 : (bs : List ℕ) (n : ℕ) → valid_len_up_to bs n ≡ n → IsUtf8 (take n bs)
longest_utf8 bs zero h = IsUtf8-nil
longest_utf8 bs (suc n) h = go (is_utf8 (take (suc n) bs)) refl h
  where
    go : (b : Bool) → is_utf8 (take (suc n) bs) ≡ b → (if b then suc n else valid_len_up_to bs n) ≡ suc n → IsUtf8 (take (suc n) bs)
    go true is h = IsUtf8-from_is_utf8 (take (suc n) bs) is
    go false is h = absurd (omega (arith, longest_le bs n))

pub valid_whole : (bs : List ℕ) → utf8_valid_len bs ≡ length bs → IsUtf8 bs
unfolding utf8_valid_len
valid_whole bs h = rw (take_all (length bs) bs (omega arith)) at (longest_utf8 bs (length bs) h)

pub text_is_utf8 : (bs t : List ℕ) → text_of_bytes bs ≡ Some t → IsUtf8 bs × (t ≡ bs)
text_is_utf8 bs t h = go (utf8_valid_len bs == length bs) refl h
  where
    go : (b : Bool) → (utf8_valid_len bs == length bs) ≡ b → (if b then Some bs else None) ≡ Some t → IsUtf8 bs × (t ≡ bs)
    go true is h = (valid_whole bs (eqb-true _ _ is), cc)
    go false is h = cc

walk-append : (part xs rest : List ℕ) (d : Data) → walk part (xs ++ 47 ∷ rest) d ≡ option_and_then (walk [] rest) (walk part xs d)
unfolding walk
walk-append part [] rest d = refl
walk-append part (x ∷ xs) rest d = go (x == 47) (λ e. walk-append [] xs rest e) (walk-append (part ++ x ∷ []) xs rest d)
  where
    each : (o : Option Data) → ((e : Data) → walk [] (xs ++ 47 ∷ rest) e ≡ option_and_then (walk [] rest) (walk [] xs e))
        → option_and_then (walk [] (xs ++ 47 ∷ rest)) o ≡ option_and_then (walk [] rest) (option_and_then (walk [] xs) o)
    each None h = refl
    each (Some e) h = h e

    go : (b : Bool) → ((e : Data) → walk [] (xs ++ 47 ∷ rest) e ≡ option_and_then (walk [] rest) (walk [] xs e))
        → walk (part ++ x ∷ []) (xs ++ 47 ∷ rest) d ≡ option_and_then (walk [] rest) (walk (part ++ x ∷ []) xs d)
        → (if b then option_and_then (walk [] (xs ++ 47 ∷ rest)) (step part d) else walk (part ++ x ∷ []) (xs ++ 47 ∷ rest) d)
        ≡ option_and_then (walk [] rest) (if b then option_and_then (walk [] xs) (step part d) else walk (part ++ x ∷ []) xs d)
    go true now later = each (step part d) now
    go false now later = later

-- where a path leads to an object, the path to a member goes on by the member's name
pub pointer-escaped : (path name : Text) (document : Data) (ms : Members) → pointer path document ≡ Some (object ms)
    → pointer (path ++ 47 ∷ escaped name) document ≡ get_member name ms
pointer-escaped [] name document ms h =
    let is : document ≡ object ms = cc in
    rw is (walk_last (escaped name) (object ms) (escaped_lacks name) ∙ ap (λ n. get_member n ms) (unescape-escaped name))
pointer-escaped (x ∷ path) name document ms h = go (x == 47) h
  where
    go : (b : Bool) → (if b then walk [] path document else None) ≡ Some (object ms)
        → (if b then walk [] (path ++ 47 ∷ escaped name) document else None) ≡ get_member name ms
    go true h =
        walk-append [] path (escaped name) document
        ∙ rw h (walk_last (escaped name) (object ms) (escaped_lacks name) ∙ ap (λ n. get_member n ms) (unescape-escaped name))
    go false h = cc

-- and so it is for references
pub lookup-encoded : (reference name : Text) (document : Data) (ms : Members) → IsUtf8 name → lookup reference document ≡ Some (object ms)
    → lookup (reference ++ 47 ∷ encoded name) document ≡ get_member name ms
lookup-encoded [] name document ms text h = cc
lookup-encoded (x ∷ path) name document ms text h = go (x == 35) h
  where
    decoded : (o : Option Text) → text_of_bytes (percent_decoded_bytes path) ≡ o
        → option_and_then (λ p. pointer p document) o ≡ Some (object ms)
        → option_and_then (λ p. pointer p document) (text_of_bytes (percent_decoded_bytes (path ++ 47 ∷ encoded name))) ≡ get_member name ms
    decoded None is h = cc
    decoded (Some t) is h =
        let t_is = text_is_utf8 (percent_decoded_bytes path) t is in
        let e : percent_decoded_bytes (path ++ 47 ∷ encoded name) ≡ t ++ 47 ∷ escaped name =
        decoded_over_slash path (encoded name) ∙ rw (decoded-encoded name (AreBytes-utf8 name text), t_is.1) refl in
        let both : IsUtf8 (t ++ 47 ∷ escaped name) =
        IsUtf8-append t (47 ∷ escaped name) (rw (t_is.1) (t_is.0)) (IsUtf8-append (47 ∷ []) (escaped name)
        (IsUtf8-from_ascii (47 ∷ []) slash_ascii) (IsUtf8-escaped name text)) in
        rw (e, text_of_utf8 (t ++ 47 ∷ escaped name) both) (pointer-escaped t name document ms h)

    go : (b : Bool) → (if b then option_and_then (λ p. pointer p document) (percent_decoded path) else None) ≡ Some (object ms)
        → (if b then option_and_then (λ p. pointer p document) (percent_decoded (path ++ 47 ∷ encoded name)) else None) ≡ get_member name ms
    go true h = unfold percent_decoded in decoded (text_of_bytes (percent_decoded_bytes path)) refl h
    go false h = cc

-- the decoded encoding of a name is the name, escaped
pub percent_decoded-encoded : (name : Text) → IsUtf8 name → option_map unescape (percent_decoded (encoded name)) ≡ Some name
unfolding percent_decoded
percent_decoded-encoded name text = rw (
  decoded-encoded name (AreBytes-utf8 name text),
  text_of_utf8 (escaped name) (IsUtf8-escaped name text),
  unescape-escaped name,
)

-- ---- a decoded text

pub percent_decoded-plain : (t : Text) → IsUtf8 t → has_escape t ≡ false → percent_decoded t ≡ Some t
unfolding percent_decoded
percent_decoded-plain t text plain = rw (without_escape t plain, text_of_utf8 t text)

pub percent_decoded-changed : (t : Text) → has_escape t ≡ true → percent_decoded t ≡ Some t → ⊥
unfolding percent_decoded
percent_decoded-changed t has e = with_escape t has (sym (text_is_utf8 (percent_decoded_bytes t) t e).1)

pub decoded_text : (t bs : Text) → bs ≡ percent_decoded_bytes t → IsUtf8 bs → Some bs ≡ percent_decoded t
unfolding percent_decoded
decoded_text t bs e text = rw (← e, text_of_utf8 bs text)

pub decoded_none : (t bs : Text) → bs ≡ percent_decoded_bytes t → (IsUtf8 bs → ⊥) → None ≡ percent_decoded t
unfolding percent_decoded
decoded_none t bs e faulty = rw (← e) (go (utf8_valid_len bs == length bs) refl)
  where
    go : (b : Bool) → (utf8_valid_len bs == length bs) ≡ b → None ≡ (if b then Some bs else None)
    go true is = absurd (faulty (valid_whole bs (eqb-true _ _ is)))
    go false is = refl

-- a path without an escape leads where it says, behind `#` too
pub lookup-plain : (path : Text) (document : Data) → IsUtf8 path → has_escape path ≡ false
    → lookup (35 ∷ path) document ≡ pointer path document
lookup-plain path document text plain = rw (percent_decoded-plain path text plain)

abbrev pub are_ascii : List ℕ → Bool
are_ascii [] = true
are_ascii (b ∷ bs) = nat_lt b 128 && are_ascii bs

ascii_text : (bs : List ℕ) → are_ascii bs ≡ true → IsAscii bs
ascii_text [] h = IsAscii-nil
ascii_text (b ∷ bs) h = let parts = and_parts (nat_lt b 128) (are_ascii bs) h in
    IsAscii-cons b bs (ltb-true b 128 parts.0) (ascii_text bs parts.1)

-- so it is for a path of ASCII, by computation
pub lookup-ascii : (path : Text) (document : Data) → are_ascii path ≡ true → has_escape path ≡ false
    → lookup (35 ∷ path) document ≡ pointer path document
lookup-ascii path document ascii plain = lookup-plain path document (IsUtf8-from_ascii path (ascii_text path ascii)) plain

-- ---- the laws of a token

pub token_decodes : (name token : Text) → IsUtf8 name → token ≡ encoded name → option_map unescape (percent_decoded token) ≡ Some name
token_decodes name token text e = rw e (percent_decoded-encoded name text)

pub token_leads : (name token : Text) → IsUtf8 name → token ≡ encoded name → (document : Data) (reference : Text) (ms : Members)
    → lookup reference document ≡ Some (object ms)
    → lookup (reference ++ 47 ∷ token) document ≡ get_member name ms
token_leads name token text e document reference ms h = rw e (lookup-encoded reference name document ms text h)

pub token_is_one : (name token : Text) → token ≡ encoded name → All (λ b. b ≢ 47) token
token_is_one name token e = rw e (λ k d h is. encoded_lacks name k h (sym (get_or_default_zero (encoded name) k d h) ∙ is))
