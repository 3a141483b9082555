-- Escaped texts, and what they are without their backslashes.
use Rattle.std.proofs.Common.{◌≡◌, ℕ, zero, suc, ◌<◌, ◌≤◌, List, [], ◌∷◌, ◌++◌, Bool, true, false, refl, sym, ap, ◌∙◌, arith, true≢false, append_assoc, append-nil, get_or, length, ⊎_elim}
use Rattle.schemars_builders.proofs.Words.{◌==◌, nat_lt, if◌then◌else◌, codes, Result, Ok, Err, OnOk, is_ok, encode_utf8, list_any, and_parts, cases_lt, nat_tests, inside_one, encode_ascii, ltb-true, Text, are_ascii, is_special, escaped_byte, escaped, unescaped}

pub escaped-append : (xs ys : Text) → escaped (xs ++ ys) ≡ escaped xs ++ escaped ys
unfolding escaped
escaped-append [] ys = refl
escaped-append (b ∷ xs) ys = rw (escaped-append xs ys) (sym (append_assoc (escaped_byte b) (escaped xs) (escaped ys)))

-- a text that was pushed, where the push succeeded
pub pushed : {T E : Type 0} (r : Result T E) (new old more whole : Text)
    → new ≡ (if is_ok r then old ++ more else old) → old ++ more ≡ whole → OnOk r (new ≡ whole)
pushed (Ok x) new old more whole e same = e ∙ same
pushed (Err x) new old more whole e same = tt

-- ---- the way back

not_backslash : (b : ℕ) → is_special b ≡ false → (b == 92) ≡ false
not_backslash b plain = go (b == 92) refl
  where
    go : (s : Bool) → (b == 92) ≡ s → s ≡ false
    go true is = absurd (true≢false (rw is at plain))
    go false is = refl

unescaped_plain : (b : ℕ) (bs : Text) → (b == 92) ≡ false → unescaped (b ∷ bs) ≡ b ∷ unescaped bs
unfolding unescaped
unescaped_plain b [] h = refl
unescaped_plain b (c ∷ bs) h = rw h

unescaped_byte : (b : ℕ) (bs : Text) → unescaped (escaped_byte b ++ bs) ≡ b ∷ unescaped bs
unfolding unescaped
unescaped_byte b bs = go (is_special b) refl
  where
    go : (s : Bool) → is_special b ≡ s → unescaped ((if s then 92 ∷ b ∷ [] else b ∷ []) ++ bs) ≡ b ∷ unescaped bs
    go true is = refl
    go false is = unescaped_plain b bs (not_backslash b is)

-- an escaped text without its backslashes is the text
pub unescaped-escaped : (t : Text) → unescaped (escaped t) ≡ t
unfolding escaped unescaped
unescaped-escaped [] = refl
unescaped-escaped (b ∷ bs) = unescaped_byte b (escaped bs) ∙ ap (λ l. b ∷ l) (unescaped-escaped bs)

-- ---- the bytes of a character

-- a list has a number, whichever side of the test it is on
pub list_any-either_way : (b : ℕ) (bs : List ℕ) → list_any (λ s. s == b) bs ≡ list_any (λ s. b == s) bs
list_any-either_way b [] = refl
list_any-either_way b (s ∷ bs) =
    let same : (s == b) ≡ (b == s) = grind (arith, nat_tests) in
    rw (same, list_any-either_way b bs) refl

not_among : (b : ℕ) (bs : List ℕ) → 128 ≤ b → are_ascii bs ≡ true → list_any (λ s. b == s) bs ≡ false
not_among b [] above ascii = refl
not_among b (s ∷ bs) above ascii =
    let parts = and_parts (nat_lt s 128) (are_ascii bs) ascii in
    let below : s < 128 = ltb-true s 128 parts.0 in
    let other : (b == s) ≡ false = grind (arith, nat_tests) in
    rw other (not_among b bs above parts.1)

plain_above : (b : ℕ) → 128 ≤ b → is_special b ≡ false
plain_above b above = not_among b (codes "\\.+*?()|[]{}^$#&-~") above refl

escaped_above : (bs : Text) → ((k : ℕ) → k < length bs → 128 ≤ get_or bs k 0) → escaped bs ≡ bs
unfolding escaped
escaped_above [] above = refl
escaped_above (b ∷ bs) above =
    rw (plain_above b (above zero (omega arith)))
    (ap (λ l. b ∷ l) (escaped_above bs (λ k h. above (suc k) (omega arith))))

bytes_above : (c k : ℕ) → 128 ≤ c → k < length (encode_utf8 c) → 128 ≤ get_or (encode_utf8 c) k 0
bytes_above c k above here =
    ⊎_elim
    (λ low. let same = inside_one c [] (encode_utf8 c) k (sym (append-nil (encode_utf8 c))) here low in omega arith)
    (λ high. high) (cases_lt (get_or (encode_utf8 c) k 0) 128)

-- a character's bytes follow a backslash where it is special
pub escaped-special : (c : ℕ) → is_special c ≡ true → escaped (encode_utf8 c) ≡ 92 ∷ encode_utf8 c
unfolding escaped
escaped-special c special =
    ⊎_elim (λ low. rw (encode_ascii c low) (rw special))
    (λ high. absurd (true≢false (sym special ∙ plain_above c high))) (cases_lt c 128)

pub escaped-plain : (c : ℕ) → is_special c ≡ false → escaped (encode_utf8 c) ≡ encode_utf8 c
unfolding escaped
escaped-plain c plain =
    ⊎_elim (λ low. rw (encode_ascii c low) (rw plain))
    (λ high. escaped_above (encode_utf8 c) (λ k h. bytes_above c k high h)) (cases_lt c 128)
