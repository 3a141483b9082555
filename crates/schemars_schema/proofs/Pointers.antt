-- Pointers, a token at a time.
use Rattle.std.proofs.Common.{◌≡◌, ◌≢◌, ℕ, suc, ◌+◌, ◌*◌, ◌<◌, List, [], ◌∷◌, ◌++◌, length, get_or, take, drop, Option, Some, None, Bool, true, false, refl, sym, ap, ◌∙◌, arith, true≢false, option_and_then, append-nil, append_assoc, length-append, ne_eqb, inl, inr, ◌⊎◌}
use Rattle.schemars_schema.proofs.Words.{◌==◌, ◌&&◌, if◌then◌else◌, All, IsUtf8, drop_more, take-append-drop, get_or-take, length-take, get_or_default_zero, IsUtf8-nil, IsUtf8-drop, IsCharBoundary-after_ascii, drop-append_seam, Data, object, Members, unescape, get, get_member, walk, pointer, Lacks, walk_last, walk_part, Text, percent_decoded_bytes, text_of_bytes, percent_decoded, is_hex_digit, hex_value, pointed, pointed_in, is_whole, pointed_inside, pointer_text, IsFirstToken}
use Rattle.schemars_schema.proofs.Encodings.{text_is_utf8, text_of_utf8}

pub plain_text : (p : Text) → ((rest : Text) → p ≢ 35 ∷ rest) → Some p ≡ pointer_text p
plain_text [] h = refl
plain_text (x ∷ rest) h = rw (ne_eqb x 35 (λ e. h rest (ap (λ y. y ∷ rest) e))) refl

pub pointed-text : (p : Text) (d : Data) → pointed p d ≡ option_and_then (λ t. pointer t d) (pointer_text p)
pointed-text [] d = refl
pointed-text (x ∷ rest) d = go (x == 35)
  where
    go : (b : Bool) → (if b then (if b then option_and_then (λ t. pointer t d) (percent_decoded rest) else None) else pointer (x ∷ rest) d)
        ≡ option_and_then (λ t. pointer t d) (if b then percent_decoded rest else Some (x ∷ rest))
    go true = refl
    go false = refl

-- ---- the first token

each_lacks : (xs : List ℕ) → All (λ b. b ≢ 47) xs → Lacks 47 xs
each_lacks xs h i less = h i 0 less

pub first_token_alone : (bs : Text) → Lacks 47 bs → IsFirstToken bs bs []
first_token_alone bs h = record {
  whole = sym (append-nil bs);
  one = λ k d less is. h k less (sym (get_or_default_zero bs k d less) ∙ is);
  next = inl refl;
}

pub first_token_before : (bs token below : Text) (k : ℕ) → k < length bs → get_or bs k 0 ≡ 47 → ((i : ℕ) → i < k → get_or bs i 0 ≢ 47)
    → token ≡ take k bs → below ≡ drop k bs → IsFirstToken bs token below
first_token_before bs token below k less is before first rest = record {
  whole = rw (first, rest) (sym (take-append-drop k bs));
  one = rw first (λ i d small e.
      let sooner : i < k = omega (arith, less, small, length-take k bs) in
      let within : i < length bs = omega (arith, less, sooner) in
      before i sooner (sym (get_or_default_zero bs i d within) ∙ sym (get_or-take k bs i d sooner) ∙ e));
  next = inr (drop (k + 1) bs, rest ∙ drop_more bs k 0 less ∙ ap (λ x. x ∷ drop (k + 1) bs) is);
}

all_found : (o : Option Data) → option_and_then (pointer []) o ≡ o
all_found None = refl
all_found (Some d) = refl

pub pointer-first : (tokens token below : Text) (ms : Members) → IsFirstToken tokens token below
    → pointer (47 ∷ tokens) (object ms) ≡ option_and_then (pointer below) (get_member (unescape token) ms)
pointer-first tokens token below ms h =
    rw (h.whole) (go below h.next)
  where
    go : (below : Text) → (below ≡ []) ⊎ ((rest : Text) × (below ≡ 47 ∷ rest))
        → walk [] (token ++ below) (object ms) ≡ option_and_then (pointer below) (get_member (unescape token) ms)
    go [] next = rw (append-nil token) (walk_last token (object ms) (each_lacks token h.one)
        ∙ sym (all_found (get_member (unescape token) ms)))
    go (x ∷ rest) (inl none) = cc
    go (x ∷ rest) (inr more) = let slash : x ≡ 47 = cc in rw (slash) (walk_part token rest (object ms) (each_lacks token h.one))

-- ---- inside an object

text_some : (bs t : Text) → text_of_bytes bs ≡ Some t → t ≡ bs
text_some bs t e = (text_is_utf8 bs t e).1

some_decoded : (x : ℕ) (xs : List ℕ) → percent_decoded (x ∷ xs) ≢ Some []
unfolding percent_decoded percent_decoded_bytes
some_decoded x [] e = let same = text_some (x ∷ []) [] e in cc
some_decoded x (y ∷ []) e = let same = text_some (x ∷ y ∷ []) [] e in cc
some_decoded x (y ∷ z ∷ rest) e = go (x == 37 && (is_hex_digit y && is_hex_digit z))
    (text_some (percent_decoded_bytes (x ∷ y ∷ z ∷ rest)) [] e)
  where
    go : (b : Bool) → [] ≡ (if b then (16 * hex_value y + hex_value z) ∷ percent_decoded_bytes rest else
        x ∷ percent_decoded_bytes (y ∷ z ∷ rest)) → ⊥
    go true e = cc
    go false e = cc

nothing_decoded : percent_decoded [] ≡ Some []
unfolding percent_decoded percent_decoded_bytes
nothing_decoded = text_of_utf8 [] IsUtf8-nil

-- the whole is what nothing after the `#` points to
whole_text : (p : Text) → is_whole p ≡ true → pointer_text p ≡ Some []
whole_text [] h = refl
whole_text (x ∷ []) h = rw h nothing_decoded
whole_text (x ∷ y ∷ rest) h = absurd (true≢false (sym h))

text_whole : (p : Text) → pointer_text p ≡ Some [] → is_whole p ≡ true
text_whole [] h = refl
text_whole (x ∷ []) h = go (x == 35) refl h
  where
    go : (b : Bool) → (x == 35) ≡ b → (if b then percent_decoded [] else Some (x ∷ [])) ≡ Some [] → (x == 35) ≡ true
    go true is h = is
    go false is h = cc
text_whole (x ∷ y ∷ rest) h = go (x == 35) h
  where
    go : (b : Bool) → (if b then percent_decoded (y ∷ rest) else Some (x ∷ y ∷ rest)) ≡ Some [] → false ≡ true
    go true h = absurd (some_decoded y rest h)
    go false h = cc

none_in : (p : Text) (d : Data) → ((ms : Members) → pointed p (object ms) ≡ None) → pointed_inside p d ≡ None
none_in p d h = go (is_whole p) d
  where
    go : (b : Bool) (d : Data) → (if b then None else pointed_in p d) ≡ None
    go true d = refl
    go false (object ms) = h ms
    go false _ = refl

pub inside-other : (p t : Text) (d : Data) → pointer_text p ≡ Some t → ((rest : Text) → t ≢ 47 ∷ rest) → pointed_inside p d ≡ None
inside-other p [] d h other = rw (text_whole p h) refl
inside-other p (x ∷ t) d h other = none_in p d (λ ms. pointed-text p (object ms)
    ∙ rw (h, ne_eqb x 47 (λ e. other t (ap (λ y. y ∷ t) e))) refl)

pub inside-first : (p tokens token below : Text) (d : Data) → pointer_text p ≡ Some (47 ∷ tokens) → IsFirstToken tokens token below
    → pointed_inside p d ≡ option_and_then (pointer below) (get (unescape token) d)
inside-first p tokens token below d h first = go (is_whole p) refl d
  where
    go : (b : Bool) → is_whole p ≡ b → (d : Data) → (if b then None else pointed_in p d)
        ≡ option_and_then (pointer below) (get (unescape token) d)
    go true is d = let both = sym (whole_text p is) ∙ h in cc
    go false is (object ms) = pointed-text p (object ms) ∙ rw h (pointer-first tokens token below ms first)
    go false is _ = refl

-- ---- unescaping

pub unescape_over : (xs rest : List ℕ) → Lacks 126 xs → unescape (xs ++ 126 ∷ rest) ≡ xs ++ unescape (126 ∷ rest)
unfolding unescape
unescape_over [] rest h = refl
unescape_over (x ∷ []) rest h = rw (ne_eqb x 126 (h 0 (omega arith))) refl
unescape_over (x ∷ y ∷ xs) rest h = rw (ne_eqb x 126 (h 0 (omega arith)))
    (ap (λ l. x ∷ l) (unescape_over (y ∷ xs) rest (λ i less. h (suc i) (omega arith))))

pub unescape_tilde : (rest : List ℕ) → unescape (126 ∷ 48 ∷ rest) ≡ 126 ∷ unescape rest
unfolding unescape
unescape_tilde rest = refl

pub unescape_slash : (rest : List ℕ) → unescape (126 ∷ 49 ∷ rest) ≡ 47 ∷ unescape rest
unfolding unescape
unescape_slash rest = refl

pub unescape_alone : (rest : List ℕ) → ((more : List ℕ) → rest ≢ 48 ∷ more) → ((more : List ℕ) → rest ≢ 49 ∷ more)
    → unescape (126 ∷ rest) ≡ 126 ∷ unescape rest
unfolding unescape
unescape_alone [] h k = refl
unescape_alone (x ∷ rest) h k = rw (ne_eqb x 49 (λ e. k rest (ap (λ y. y ∷ rest) e)), ne_eqb x 48 (λ e. h rest (ap (λ y. y ∷ rest) e))) refl

-- what follows an ASCII byte of a text is a text
pub utf8_after : (xs rest : List ℕ) (x : ℕ) → x < 128 → IsUtf8 (xs ++ x ∷ rest) → IsUtf8 rest
utf8_after xs rest x low text =
    let bs = xs ++ x ∷ rest in
    let at_x : drop (length xs) bs ≡ x ∷ rest = drop-append_seam xs (x ∷ rest) in
    let within : length xs < length bs = omega (arith, length-append xs (x ∷ rest)) in
    let is : get_or bs (length xs) 0 ≡ x = ap (λ l. get_or l 0 0) (sym (drop_more bs (length xs) 0 within) ∙ at_x) in
    let later : drop (length xs + 1) bs ≡ rest = ap (drop 1) (sym (drop_more bs (length xs) 0 within) ∙ at_x) in
    rw later at (IsUtf8-drop bs (length xs + 1) text (IsCharBoundary-after_ascii bs (length xs) text within (omega arith)))

-- the key goes on by the text before a `~` and by what the `~` stands for
pub key_goes_on : (key before one rest tail whole key_2 key_3 : List ℕ) → key_2 ≡ key ++ before → key_3 ≡ key_2 ++ one
    → tail ≡ before ++ (one ++ rest) → key ++ tail ≡ whole → key_3 ++ rest ≡ whole
key_goes_on key before one rest tail whole key_2 key_3 e f g h = rw
    (f, e, append_assoc (key ++ before) one rest, append_assoc key before (one ++ rest), ← g) h
