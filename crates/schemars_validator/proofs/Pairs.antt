-- Which pairs a reading has.
use Rattle.std.proofs.Common.{◌≡◌, ◌++◌, ◌∙◌, List, [], ◌∷◌, map, Bool, true, false, refl, sym, ap}
use Rattle.schemars_validator.proofs.Words.{◌&&◌, ◌||◌, is_some, String, string_bytes, bytes_eq, list_any, Text, Patterns, matches, bytes_eq_comm, find_str, regex_pattern, found_in, answers, pairs_of, some_has}
use Rattle.schemars_validator.specs.declared.reading.Matched.{Matched}
use Rattle.schemars_readable.specs.declared.expressions.Expression.{Expression}
use Rattle.schemars_validator.specs.Asked.{has_pair}

pub matches_append : (xs ys : Patterns) (p t : Text) → matches (xs ++ ys) p t ≡ (matches xs p t || matches ys p t)
matches_append [] ys p t = refl
matches_append (x ∷ xs) ys p t = go (bytes_eq x.0 p && bytes_eq x.1 t) (matches_append xs ys p t)
  where
    go : (b : Bool) → matches (xs ++ ys) p t ≡ (matches xs p t || matches ys p t)
        → (b || matches (xs ++ ys) p t) ≡ ((b || matches xs p t) || matches ys p t)
    go true rest = refl
    go false rest = rest

-- the pairs of a pattern and each of some texts
pub matches_texts : {Y : Type 0} (pattern : Text) (texts : List (String Y)) (p t : Text)
    → matches (map (λ k. (pattern, string_bytes k)) texts) p t
    ≡ (bytes_eq pattern p && list_any (λ k. bytes_eq t (string_bytes k)) texts)
matches_texts pattern [] p t = go (bytes_eq pattern p)
  where
    go : (b : Bool) → false ≡ (b && false)
    go true = refl
    go false = refl
matches_texts pattern (k ∷ ks) p t =
    ap (λ b. (bytes_eq pattern p && b) || matches (map (λ k. (pattern, string_bytes k)) ks) p t)
    (bytes_eq_comm (string_bytes k) t)
    ∙ ap (λ b. (bytes_eq pattern p && bytes_eq t (string_bytes k)) || b) (matches_texts pattern ks p t)
    ∙ go (bytes_eq pattern p) (bytes_eq t (string_bytes k))
  where
    go : (b c : Bool) → ((b && c) || (b && list_any (λ k. bytes_eq t (string_bytes k)) ks))
        ≡ (b && (c || list_any (λ k. bytes_eq t (string_bytes k)) ks))
    go true c = refl
    go false c = refl

-- a reading has the pairs of its expressions
pub some_has_pair : (ms : List Matched) (p t : Text) → some_has ms p t ≡ matches (pairs_of ms) p t
some_has_pair [] p t = refl
some_has_pair (m ∷ ms) p t =
    ap (λ b. has_pair m p t || b) (some_has_pair ms p t)
    ∙ sym (ap (λ b. b || matches (pairs_of ms) p t) (matches_texts (string_bytes m.pattern) m.texts.keys p t))
    ∙ sym (matches_append (map (λ k. (string_bytes m.pattern, string_bytes k)) m.texts.keys) (pairs_of ms) p t)

or_apart : (a b c : Bool) → ((a || b) || c) ≡ (a || (b || c))
or_apart true b c = refl
or_apart false b c = refl

-- one more text was asked about
pub asked_next : (e : Expression) (xs : List Text) (x t : Text) (matches old new all : Bool)
    → matches ≡ is_some (find_str (regex_pattern e.regex) x 0) → new ≡ (old || (bytes_eq t x && matches))
    → (old || found_in e (x ∷ xs) t) ≡ all → (new || found_in e xs t) ≡ all
asked_next e xs x t matches old new all is adds before =
    ap (λ b. b || found_in e xs t) adds
    ∙ or_apart old (bytes_eq t x && matches) (found_in e xs t)
    ∙ ap (λ m. old || ((bytes_eq t x && m) || found_in e xs t)) is
    ∙ before

-- all texts were asked about
pub asked_all : (p q pattern : Text) (a all : Bool) → p ≡ q → (a || false) ≡ all
    → (bytes_eq p pattern && a) ≡ (bytes_eq q pattern && all)
asked_all p q pattern true all same is = ap (λ u. bytes_eq u pattern && true) same ∙ ap (λ b. bytes_eq q pattern && b) is
asked_all p q pattern false all same is = ap (λ u. bytes_eq u pattern && false) same ∙ ap (λ b. bytes_eq q pattern && b) is

-- one more expression was asked
pub some_more : (ms : List Matched) (m : Matched) (p t : Text) → some_has (ms ++ m ∷ []) p t ≡ (some_has ms p t || has_pair m p t)
some_more [] m p t = or_same (has_pair m p t)
  where
    or_same : (b : Bool) → (b || false) ≡ b
    or_same true = refl
    or_same false = refl
some_more (x ∷ xs) m p t =
    ap (λ b. has_pair x p t || b) (some_more xs m p t) ∙ sym (or_apart (has_pair x p t) (some_has xs p t) (has_pair m p t))

pub read_next : (ms : List Matched) (m : Matched) (rest all : Bool) (e : Expression) (texts : List Text) (p t : Text)
    → has_pair m p t ≡ answers e texts p t → (some_has ms p t || (answers e texts p t || rest)) ≡ all
    → (some_has (ms ++ m ∷ []) p t || rest) ≡ all
read_next ms m rest all e texts p t is before =
    ap (λ b. b || rest) (some_more ms m p t)
    ∙ or_apart (some_has ms p t) (has_pair m p t) rest
    ∙ ap (λ b. some_has ms p t || (b || rest)) is
    ∙ before

-- all expressions were asked
pub read_all : (ms : List Matched) (all : Bool) (p t : Text) → (some_has ms p t || false) ≡ all → matches (pairs_of ms) p t ≡ all
read_all ms all p t is = sym (some_has_pair ms p t) ∙ sym (plain (some_has ms p t)) ∙ is
  where
    plain : (b : Bool) → (b || false) ≡ b
    plain true = refl
    plain false = refl
