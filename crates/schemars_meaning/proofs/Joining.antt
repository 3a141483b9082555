-- Keywords put in one after another where both sides may have choices.
use Rattle.std.proofs.Common.{◌≡◌, Option, Some, None, Bool, true, false, refl, sym, ap, ◌∙◌, subst}
use Rattle.schemars_meaning.proofs.Words.{bytes_eq-Decides, codes, bytes_eq, if◌then◌else◌, Data, Members, no_members, member, put, get_member, get_member-put, get_member-put_other, Text, without, get_member-later, differ, flipped, get_member-here, get_member-without, IsSorted, united_option, united_none, IsAbove, above-trans, get_member-above, is_choice, with_united, with_choice, both_choices, with_keyword, united_here, united_beside}
use Rattle.schemars_flatten.specs.Flatten.{with_keywords}
use Rattle.schemars_meaning.proofs.MapKeywords.{lacks-first, lacks-later, sorted-with_keywords}

-- ---- a keyword that is taken out

pub without-here : (k : Text) (ms : Members) → IsSorted ms → get_member k (without k ms) ≡ None
without-here k no_members h = refl
without-here k (member l e ms) h = go (bytes_eq k l) refl (without-here k ms h.1)
  where
    go : (b : Bool) → bytes_eq k l ≡ b → get_member k (without k ms) ≡ None
        → get_member k (if b then ms else member l e (without k ms)) ≡ None
    go true is later = ap (λ x. get_member x ms) ((bytes_eq-Decides k l).0 is) ∙ get_member-above l ms h.0
    go false is later = get_member-later k l e (without k ms) is ∙ later

-- ---- each keyword

one : Text
one = codes "oneOf"

all : Text
all = codes "allOf"

-- two choices leave none
abbrev pub one_left : Option Data → Option Data → Option Data
one_left None b = b
one_left (Some a) None = Some a
one_left (Some a) (Some b) = None

-- and are under `allOf`
abbrev pub with_both : Option Data → Option Data → Option Data → Option Data
with_both None b x = x
with_both (Some a) None x = x
with_both (Some a) (Some b) x = united_option (codes "allOf") x (Some (both_choices (codes "oneOf") a b))

-- no choice of at least one
abbrev pub NoAny : Members → Type 0
NoAny ms = get_member (codes "anyOf") ms ≡ None

is_choice-none : (k : Text) → bytes_eq k (codes "oneOf") ≡ false → bytes_eq k (codes "anyOf") ≡ false → is_choice k ≡ false
is_choice-none k is any = rw (is, any)

-- one keyword
module _ (k : Text) (d : Data) (ms : Members) where
  keyword-plain : bytes_eq k (codes "oneOf") ≡ false → bytes_eq k (codes "anyOf") ≡ false → with_keyword k d ms ≡ with_united k d ms
  keyword-plain no_one no_any = ap (λ b. if b then with_choice k d ms else with_united k d ms) (is_choice-none k no_one no_any)

choice-beside : (q : Text) (d : Data) (ms : Members) → bytes_eq q (codes "oneOf") ≡ false → bytes_eq q (codes "allOf") ≡ false
    → get_member q (with_choice (codes "oneOf") d ms) ≡ get_member q ms
choice-beside q d ms no_one no_all = go (get_member (codes "oneOf") ms)
  where
    go : (o : Option Data) → get_member q (elim o [
      | None ↦ put (codes "oneOf") d ms
      | Some e ↦ with_united (codes "allOf") (both_choices (codes "oneOf") e d) (without (codes "oneOf") ms)
    ]) ≡ get_member q ms
    go None = get_member-put_other q (codes "oneOf") d ms (differ q (codes "oneOf") no_one)
    go (Some e) =
        united_beside q (codes "allOf") (both_choices (codes "oneOf") e d) (without (codes "oneOf") ms) no_all
        ∙ get_member-without q (codes "oneOf") ms no_one

choice-one : (d : Data) (ms : Members) → IsSorted ms → get_member (codes "oneOf") (with_choice (codes "oneOf") d ms)
    ≡ one_left (get_member (codes "oneOf") ms) (Some d)
choice-one d ms h = go (get_member (codes "oneOf") ms)
  where
    go : (o : Option Data) → get_member (codes "oneOf") (elim o [
      | None ↦ put (codes "oneOf") d ms
      | Some e ↦ with_united (codes "allOf") (both_choices (codes "oneOf") e d) (without (codes "oneOf") ms)
    ]) ≡ one_left o (Some d)
    go None = get_member-put (codes "oneOf") d ms
    go (Some e) =
        united_beside (codes "oneOf") (codes "allOf") (both_choices (codes "oneOf") e d) (without (codes "oneOf") ms) refl
        ∙ without-here (codes "oneOf") ms h

choice-all : (d : Data) (ms : Members) → get_member (codes "allOf") (with_choice (codes "oneOf") d ms)
    ≡ with_both (get_member (codes "oneOf") ms) (Some d) (get_member (codes "allOf") ms)
choice-all d ms = go (get_member (codes "oneOf") ms)
  where
    go : (o : Option Data) → get_member (codes "allOf") (elim o [
      | None ↦ put (codes "oneOf") d ms
      | Some e ↦ with_united (codes "allOf") (both_choices (codes "oneOf") e d) (without (codes "oneOf") ms)
    ]) ≡ with_both o (Some d) (get_member (codes "allOf") ms)
    go None = get_member-put_other (codes "allOf") (codes "oneOf") d ms (differ (codes "allOf") (codes "oneOf") refl)
    go (Some e) =
        united_here (codes "allOf") (both_choices (codes "oneOf") e d) (without (codes "oneOf") ms)
        ∙ ap (λ x. united_option (codes "allOf") x (Some (both_choices (codes "oneOf") e d)))
        (get_member-without (codes "allOf") (codes "oneOf") ms refl)

with_both-none : (o x : Option Data) → with_both o None x ≡ x
with_both-none None x = refl
with_both-none (Some a) x = refl

one_left-none : (o : Option Data) → one_left o None ≡ o
one_left-none None = refl
one_left-none (Some a) = refl

-- ---- all keywords

sorted-one : (k : Text) (d : Data) (ns ms : Members) → IsSorted ms → IsSorted (with_keyword k d ms)
sorted-one k d ns ms h = sorted-with_keywords (member k d no_members) ms h

-- what is under each name
pub record Joined (ns ms : Members) : Type 0 where
  pub at_one : get_member (codes "oneOf") (with_keywords ns ms)
      ≡ one_left (get_member (codes "oneOf") ms) (get_member (codes "oneOf") ns)
  pub at_all : get_member (codes "allOf") (with_keywords ns ms)
      ≡ with_both (get_member (codes "oneOf") ms) (get_member (codes "oneOf") ns)
      (united_option (codes "allOf") (get_member (codes "allOf") ms) (get_member (codes "allOf") ns))
  pub beside : (q : Text) → bytes_eq q (codes "oneOf") ≡ false → bytes_eq q (codes "allOf") ≡ false
      → get_member q (with_keywords ns ms) ≡ united_option q (get_member q ms) (get_member q ns)

-- a choice among those of the second side
choice_joined : (d : Data) (ns ms : Members) → IsAbove (codes "oneOf") ns → IsSorted ms → Joined ns (with_choice (codes "oneOf") d ms)
    → Joined (member (codes "oneOf") d ns) ms
choice_joined d ns ms h i later =
    let new : Members = with_choice (codes "oneOf") d ms in
    let gone : get_member (codes "oneOf") ns ≡ None = get_member-above (codes "oneOf") ns h in
    let gone_all : get_member (codes "allOf") ns ≡ None =
    get_member-above (codes "allOf") ns (above-trans (codes "allOf") (codes "oneOf") ns refl h) in
    let here : get_member (codes "oneOf") (member (codes "oneOf") d ns) ≡ Some d = get_member-here (codes "oneOf") d ns in
    let past_all : get_member (codes "allOf") (member (codes "oneOf") d ns) ≡ get_member (codes "allOf") ns =
    get_member-later (codes "allOf") (codes "oneOf") d ns refl in
    record {
      at_one = later.at_one ∙ (ap (one_left (get_member (codes "oneOf") new)) gone ∙ (one_left-none (get_member (codes "oneOf") new)
          ∙ (choice-one d ms i ∙ ap (one_left (get_member (codes "oneOf") ms)) (sym here))));
      at_all = later.at_all
          ∙ ((λ j. with_both (get_member (codes "oneOf") new) (gone j)
          (united_option (codes "allOf") (get_member (codes "allOf") new) (gone_all j)))
          ∙ (with_both-none (get_member (codes "oneOf") new) (united_option (codes "allOf") (get_member (codes "allOf") new) None)
          ∙ (united_none (codes "allOf") (get_member (codes "allOf") new) ∙ (choice-all d ms
          ∙ (λ j. with_both (get_member (codes "oneOf") ms) (sym here j)
          (sym (ap (united_option (codes "allOf") (get_member (codes "allOf") ms)) (past_all ∙ gone_all)
          ∙ united_none (codes "allOf") (get_member (codes "allOf") ms)) j))))));
      beside = λ q no_one no_all. later.beside q no_one no_all
          ∙ (λ j. united_option q (choice-beside q d ms no_one no_all j) (sym (get_member-later q (codes "oneOf") d ns no_one) j));
    }

-- another keyword
plain_joined : (k : Text) (d : Data) (ns ms : Members) → IsAbove k ns → bytes_eq k (codes "oneOf") ≡ false
    → with_keyword k d ms ≡ with_united k d ms → Joined ns (with_keyword k d ms) → Joined (member k d ns) ms
plain_joined k d ns ms h no_one same later = record {
  at_one = later.at_one ∙ (λ j. one_left ((ap (get_member (codes "oneOf")) same
      ∙ united_beside (codes "oneOf") k d ms (flipped k (codes "oneOf") no_one)) j)
      (sym (get_member-later (codes "oneOf") k d ns (flipped k (codes "oneOf") no_one)) j));
  at_all = later.at_all
      ∙ (λ j. with_both ((ap (get_member (codes "oneOf")) same
      ∙ united_beside (codes "oneOf") k d ms (flipped k (codes "oneOf") no_one)) j)
      (sym (get_member-later (codes "oneOf") k d ns (flipped k (codes "oneOf") no_one)) j)
      (at (codes "allOf") (bytes_eq (codes "allOf") k) refl j));
  beside = λ q no_one no_all. later.beside q no_one no_all ∙ at q (bytes_eq q k) refl;
}
  where
    by : (q : Text) (b : Bool) → bytes_eq q k ≡ b
        → united_option q (get_member q (with_united k d ms)) (get_member q ns)
        ≡ united_option q (get_member q ms) (get_member q (member k d ns))
    by q true is =
        let name = (bytes_eq-Decides q k).0 is in
        let gone : get_member q ns ≡ None = ap (λ x. get_member x ns) name ∙ get_member-above k ns h in
        let put_in : get_member q (with_united k d ms) ≡ united_option q (get_member q ms) (Some d) =
        ap (λ x. get_member q (with_united x d ms)) (sym name) ∙ united_here q d ms in
        let here : get_member q (member k d ns) ≡ Some d = ap (λ x. get_member x (member k d ns)) name ∙ get_member-here k d ns in
        ap (united_option q (get_member q (with_united k d ms))) gone
        ∙ (united_none q (get_member q (with_united k d ms)) ∙ (put_in ∙ ap (united_option q (get_member q ms)) (sym here)))
    by q false is =
        ap (λ o. united_option q o (get_member q ns)) (united_beside q k d ms is)
        ∙ ap (united_option q (get_member q ms)) (sym (get_member-later q k d ns is))

    at : (q : Text) (b : Bool) → bytes_eq q k ≡ b
        → united_option q (get_member q (with_keyword k d ms)) (get_member q ns)
        ≡ united_option q (get_member q ms) (get_member q (member k d ns))
    at q b is = ap (λ x. united_option q (get_member q x) (get_member q ns)) same ∙ by q b is

pub joined : (ns ms : Members) → IsSorted ns → IsSorted ms → NoAny ns → Joined ns ms
joined no_members ms h i none = record {
  at_one = sym (one_left-none (get_member (codes "oneOf") ms));
  at_all = sym (with_both-none (get_member (codes "oneOf") ms) (united_option (codes "allOf") (get_member (codes "allOf") ms) None)
      ∙ united_none (codes "allOf") (get_member (codes "allOf") ms));
  beside = λ q no_one no_all. sym (united_none q (get_member q ms));
}
joined (member k d ns) ms h i none =
    go (bytes_eq k (codes "oneOf")) refl
    (joined ns (with_keyword k d ms) h.1 (sorted-one k d ns ms i) (lacks-later (codes "anyOf") k d ns none))
  where
    at_one : (l : Text) → l ≡ codes "oneOf" → IsAbove l ns → Joined ns (with_keyword l d ms) → Joined (member l d ns) ms
    at_one l name =
        subst (λ x. IsAbove x ns → Joined ns (with_keyword x d ms) → Joined (member x d ns) ms) (sym name)
        (λ h later. choice_joined d ns ms h i later)

    go : (b : Bool) → bytes_eq k (codes "oneOf") ≡ b → Joined ns (with_keyword k d ms) → Joined (member k d ns) ms
    go true is later = at_one k ((bytes_eq-Decides k (codes "oneOf")).0 is) h.0 later
    go false is later =
        plain_joined k d ns ms h.0 is
        (keyword-plain k d ms is (lacks-first (codes "anyOf") k d ns none)) later
