-- The names that were met before, and the first that is met a second time.
use Rattle.std.proofs.Common.{◌≡◌, ◌<◌, ◌+◌, ◌||◌, ◌∙◌, ℕ, List, [], ◌∷◌, ◌++◌, Bool, true, false, not, cond, Some, Bor, length, map, take, get_or, option_map, Contains, refl, ap, sym, subst}
use Rattle.schemars_shapes.proofs.Words.{slice_cmp, nat_cmp, is_eq, IsDistinct, list_any, bytes_eq, BTreeSet, contains, Updates, nat_list_eq_equiv, take-map, map_more, IsDistinct-push, is_eq-slice_cmp, slice_get-map, slice_get-get_or, or-false, Text, bytes_eq_comm, IsRepeated}
use Rattle.schemars_shapes.proofs.FieldLemmas.{Contains-from_any}

-- among no names
pub none_twice : IsDistinct bytes_eq []
unfolding IsDistinct
none_twice = tt

list_any-push : (test : Text → Bool) (xs : List Text) (y : Text) → list_any test (xs ++ y ∷ []) ≡ list_any test xs || test y
list_any-push test [] y = or-false (test y)
list_any-push test (x ∷ xs) y = further (test x) (list_any-push test xs y)
  where
    further : (b : Bool) → list_any test (xs ++ y ∷ []) ≡ list_any test xs || test y
        → b || list_any test (xs ++ y ∷ []) ≡ (b || list_any test xs) || test y
    further true h = refl
    further false h = h

abbrev pub now_of : Bor (List ℕ) → Text
now_of b = b.now

-- the first names differ, and a set has just these
pub record AreMet (fs : List (Bor (List ℕ))) (i : ℕ) (met : BTreeSet (Bor (List ℕ))) : Type 0 where
  pub differ : IsDistinct bytes_eq (map now_of (take i fs))
  pub same : (q : Bor (List ℕ)) → contains (λ x y. slice_cmp nat_cmp x.now y.now) met q
      ≡ list_any (bytes_eq q.now) (map now_of (take i fs))

pub met_none : (fs : List (Bor (List ℕ))) (met : BTreeSet (Bor (List ℕ))) → met.keys ≡ [] → AreMet fs 0 met
unfolding IsDistinct
met_none fs met empty = record { differ = tt; same = λ q. rw empty refl }

name_more : (fs : List (Bor (List ℕ))) (i : ℕ) (d : Bor (List ℕ)) → i < length fs
    → map now_of (take (i + 1) fs) ≡ map now_of (take i fs) ++ now_of (get_or fs i d) ∷ []
name_more fs i d below = map_more now_of fs i d below

pub met_more : (fs : List (Bor (List ℕ))) (i : ℕ) (d name : Bor (List ℕ)) (old new : BTreeSet (Bor (List ℕ)))
    → i < length fs → name.now ≡ now_of (get_or fs i d) → AreMet fs i old
    → contains (λ x y. slice_cmp nat_cmp x.now y.now) old name ≡ false → Updates (λ x y. slice_cmp nat_cmp x.now y.now) old new name true
    → AreMet fs (i + 1) new
met_more fs i d name old new below is h absent updates =
    let before : List Text = map now_of (take i fs) in
    let grown : map now_of (take (i + 1) fs) ≡ before ++ name.now ∷ [] =
    name_more fs i d below ∙ ap (λ (n : Text). before ++ n ∷ []) (sym is) in
    record {
      differ = subst (λ (ns : List Text). IsDistinct bytes_eq ns) (sym grown)
          (IsDistinct-push nat_list_eq_equiv before name.now h.differ (sym (h.same name) ∙ absent));
      same = λ q.
          updates.0 q ∙ either (is_eq (slice_cmp nat_cmp name.now q.now)) (bytes_eq q.now name.now)
          (contains (λ x y. slice_cmp nat_cmp x.now y.now) old q) (is_eq-slice_cmp name.now q.now ∙ bytes_eq_comm name.now q.now)
          ∙ ap (λ b. b || bytes_eq q.now name.now) (h.same q) ∙ sym (list_any-push (bytes_eq q.now) before name.now)
          ∙ ap (list_any (bytes_eq q.now)) (sym grown);
    }
  where
    either : (a b was : Bool) → a ≡ b → cond a true was ≡ was || b
    either true true true e = refl
    either true true false e = refl
    either true false was e = cc
    either false true was e = cc
    either false false true e = refl
    either false false false e = refl

pub repeated_at : (fs : List (Bor (List ℕ))) (i : ℕ) (d name : Bor (List ℕ)) (met : BTreeSet (Bor (List ℕ)))
    → i < length fs → name.now ≡ now_of (get_or fs i d) → AreMet fs i met
    → contains (λ x y. slice_cmp nat_cmp x.now y.now) met name ≡ true → IsRepeated (map now_of fs) name.now
repeated_at fs i d name met below is h there =
    let front : take i (map now_of fs) ≡ map now_of (take i fs) = take-map now_of i fs in
    record {
      place = i;
      is_there = slice_get-map now_of fs i ∙ ap (option_map now_of) (slice_get-get_or fs i d below) ∙ ap Some (sym is);
      is_before = subst (λ (ns : List Text). Contains ns name.now) (sym front)
          (Contains-from_any name.now (map now_of (take i fs)) (sym (h.same name) ∙ there));
      is_first = subst (λ (ns : List Text). IsDistinct bytes_eq ns) (sym front) h.differ;
    }

-- ---- few names, compared with one another

any_of_texts : (q : Text) (fs : List (Bor (List ℕ))) → list_any (λ f. bytes_eq q f.now) fs ≡ list_any (bytes_eq q) (map now_of fs)
any_of_texts q [] = refl
any_of_texts q (f ∷ fs) = ap (λ b. bytes_eq q f.now || b) (any_of_texts q fs)

pub few_more : (fs : List (Bor (List ℕ))) (i : ℕ) (d name : Bor (List ℕ)) → i < length fs → name.now ≡ now_of (get_or fs i d)
    → IsDistinct bytes_eq (map now_of (take i fs)) → list_any (λ f. bytes_eq name.now f.now) (take i fs) ≡ false
    → IsDistinct bytes_eq (map now_of (take (i + 1) fs))
few_more fs i d name below is differ absent =
    let before : List Text = map now_of (take i fs) in
    let grown : map now_of (take (i + 1) fs) ≡ before ++ name.now ∷ [] =
    name_more fs i d below ∙ ap (λ (n : Text). before ++ n ∷ []) (sym is) in
    subst (λ (ns : List Text). IsDistinct bytes_eq ns) (sym grown)
    (IsDistinct-push nat_list_eq_equiv before name.now differ (sym (any_of_texts name.now (take i fs)) ∙ absent))

pub few_repeated : (fs : List (Bor (List ℕ))) (i : ℕ) (d name : Bor (List ℕ)) → i < length fs → name.now ≡ now_of (get_or fs i d)
    → IsDistinct bytes_eq (map now_of (take i fs)) → list_any (λ f. bytes_eq name.now f.now) (take i fs) ≡ true
    → IsRepeated (map now_of fs) name.now
few_repeated fs i d name below is differ there =
    let front : take i (map now_of fs) ≡ map now_of (take i fs) = take-map now_of i fs in
    record {
      place = i;
      is_there = slice_get-map now_of fs i ∙ ap (option_map now_of) (slice_get-get_or fs i d below) ∙ ap Some (sym is);
      is_before = subst (λ (ns : List Text). Contains ns name.now) (sym front)
          (Contains-from_any name.now (map now_of (take i fs)) (sym (any_of_texts name.now (take i fs)) ∙ there));
      is_first = subst (λ (ns : List Text). IsDistinct bytes_eq ns) (sym front) differ;
    }

pub from_not_false : (a b : Bool) → a ≡ not b → a ≡ false → b ≡ true
from_not_false a true e h = refl
from_not_false a false e h = cc

pub from_not_true : (a b : Bool) → a ≡ not b → a ≡ true → b ≡ false
from_not_true a true e h = cc
from_not_true a false e h = refl
