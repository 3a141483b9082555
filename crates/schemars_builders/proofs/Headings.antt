-- What calls that trim and cut a text give, in the words of contracts.
use Rattle.std.proofs.Common.{◌≡◌, ℕ, suc, ◌+◌, List, [], ◌∷◌, Bool, true, false, refl, sym, ap, ◌∙◌, arith, take, drop, length, eqb-true}
use Rattle.schemars_builders.proofs.Words.{take_all, drop_all, encode_ascii, len_utf8_ascii, trim_ascii_is, drop_at_char, ◌==◌, Option, Some, None, IfSome, slice_index, prefix_len, position_or_len, before_first, after_first, IsTrimAscii, FindsCharPrefix, CutsPrefixes, IsTrimStartMatches, Text, trimmed_start, trimmed, is_mark, ends_line, is_headed, without_marks, title_of, description_of, title_in, description_in}

pub ends_trimmed : (t r : Text) → IsTrimAscii t r → r ≡ trimmed t
ends_trimmed t r is = trim_ascii_is t r (trimmed_start t) refl is

-- ---- marks

without_mark : (t : Text) → without_marks (35 ∷ t) ≡ without_marks t
without_mark t =
    let one : 1 + prefix_len is_mark t ≡ suc (prefix_len is_mark t) = omega arith in
    ap (λ n. drop n (35 ∷ t)) one

mark_cut : (s : Text) (n : ℕ) → FindsCharPrefix 35 s (Some n) → without_marks s ≡ without_marks (drop n s)
mark_cut s n is = ap without_marks (drop_at_char 35 s 0 n is (omega arith)) ∙ without_mark (drop n s)

marks_cut : (s : Text) (ns : List ℕ) (r : Text) → CutsPrefixes (FindsCharPrefix 35) s ns r
    → without_marks s ≡ without_marks r
marks_cut s [] r is = ap without_marks (sym is)
marks_cut s (n ∷ ns) r is = marks_cut s ns is.0 is.1 ∙ (mark_cut is.0 n is.2 ∙ ap without_marks (sym is.3))

unmarked : (r : Text) → FindsCharPrefix 35 r None → without_marks r ≡ r
unmarked [] is = refl
unmarked (b ∷ bs) is = go (b == 35) refl
  where
    go : (m : Bool) → (b == 35) ≡ m → without_marks (b ∷ bs) ≡ b ∷ bs
    go true same = absurd (is bs (rw (encode_ascii 35 (omega arith)) (ap (λ c. c ∷ bs) (eqb-true b 35 same))))
    go false other = rw other

fully_trimmed : (r : Text) (o : Option ℕ) → FindsCharPrefix 35 r o → IfSome o (λ n. n ≡ 0) → without_marks r ≡ r
fully_trimmed r None is nothing = unmarked r is
fully_trimmed r (Some n) is nothing = absurd (omega (arith, is.ends, len_utf8_ascii 35 (omega arith), nothing))

pub marks_trimmed : (s r : Text) → IsTrimStartMatches (FindsCharPrefix 35) s r → r ≡ without_marks s
marks_trimmed s r is = sym (marks_cut s is.0.0 r is.0.1 ∙ fully_trimmed r is.1.0 is.1.1 is.1.2)

-- ---- headings

headed-byte : (t : Text) → is_headed t ≡ (slice_index t 0 == 35)
headed-byte [] = refl
headed-byte (b ∷ bs) = refl

pub headed-test : (t : Text) (test found : Bool) → test ≡ (slice_index t 0 == 35) → test ≡ found → is_headed t ≡ found
headed-test t test found is so = headed-byte t ∙ (sym is ∙ so)

pub no_title : (doc t : Text) → t ≡ trimmed doc → is_headed t ≡ false → [] ≡ title_in doc
no_title doc t text plain = let none : [] ≡ title_of t = rw plain in none ∙ ap title_of text

pub whole_description : (doc t : Text) → t ≡ trimmed doc → is_headed t ≡ false → t ≡ description_in doc
whole_description doc t text plain = let whole : t ≡ description_of t = rw plain in whole ∙ ap description_of text

pub heading_title : (doc t line title : Text) → t ≡ trimmed doc → is_headed t ≡ true → line ≡ before_first ends_line t
    → title ≡ trimmed (without_marks line) → title ≡ title_in doc
heading_title doc t line title text headed first is =
    let of : trimmed (without_marks (before_first ends_line t)) ≡ title_of t = rw headed in
    is ∙ (ap (λ l. trimmed (without_marks l)) first ∙ (of ∙ ap title_of text))

pub rest_description : (doc t rest description : Text) → t ≡ trimmed doc → is_headed t ≡ true
    → rest ≡ after_first ends_line t → description ≡ trimmed rest → description ≡ description_in doc
rest_description doc t rest description text headed after is =
    let of : trimmed (after_first ends_line t) ≡ description_of t = rw headed in
    is ∙ (ap trimmed after ∙ (of ∙ ap description_of text))

-- a text of one line
pub only_line : (t : Text) → position_or_len ends_line t ≡ length t → t ≡ before_first ends_line t
only_line t one = sym (ap (λ n. take n t) one ∙ take_all (length t) t (omega arith))

pub nothing_after : (t : Text) → position_or_len ends_line t ≡ length t → [] ≡ after_first ends_line t
nothing_after t one = sym (drop_all (position_or_len ends_line t + 1) t (omega (arith, one)))
