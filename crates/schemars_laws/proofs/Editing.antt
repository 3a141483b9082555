-- Changes of keywords that the classes don't ask about.
use Rattle.std.proofs.Common.{◌≡◌, ◌≢◌, ◌⊎◌, inl, inr, Option, Some, None, Bool, true, false, Ordering, Less, Equal, Greater, nat_cmp, codes, is_eq, refl, sym, ap, ◌∙◌, subst}
use Rattle.schemars_laws.proofs.Words.{bytes_eq, if◌then◌else◌, slice_cmp, match_ordering, is_eq-slice_cmp, bytes_eq-Decides, Data, array, Items, no_items, item, Members, no_members, member, put, get_member, get_member-put_other, Text, without, replaced, with_item, with_last, differ, get_member-member, unequal, referring, asked_of_items, asked_of_keywords, IsOnce, is_null_alone, HasNone, of_draft06, IsConstAlone, IsTextWith, Stands, AreSomeTypes, HasSomeTypes, asked}
use Rattle.schemars_schema.proofs.Members.{without-put as put_without}
use Rattle.schemars_laws.proofs.Looked.{without-other}
use Rattle.schemars_laws.proofs.Siblings.{replaced-other, moved_members, get-moved}
use Rattle.schemars_laws.proofs.Plain.{Alike, without-swap}
use Rattle.schemars_laws.proofs.Preserved.{asked-without, asked-put, asked-replaced, asked-get}

-- ---- look-ups

pub without-put : (k l : Text) (d : Data) (ms : Members) → k ≢ l → get_member k (without k (put l d ms)) ≡ get_member k (without k ms)
without-put k l d ms apart = put_without k l d ms (unequal k l apart)

pub alike-put : (k l : Text) (d : Data) (ms : Members) → bytes_eq k l ≡ false → Alike k (put l d ms) ms
alike-put k l d ms is = record { first = get_member-put_other k l d ms (differ k l is); others = without-put k l d ms (differ k l is) }

pub alike-then : (k : Text) (a b c : Members) → Alike k a b → Alike k b c → Alike k a c
alike-then k a b c x y = record { first = x.first ∙ y.first; others = x.others ∙ y.others }

pub alike-same : (k : Text) (ms : Members) → Alike k ms ms
alike-same k ms = record { first = refl; others = refl }

pub without-replaced : (k l : Text) (d : Data) (ms : Members) → k ≢ l
    → get_member k (without k (replaced l d ms)) ≡ get_member k (without k ms)
without-replaced k l d no_members apart = refl
without-replaced k l d (member j e ms) apart = go (bytes_eq l j) refl (bytes_eq k j) refl (without-replaced k l d ms apart)
  where
    go : (b : Bool) → bytes_eq l j ≡ b → (a : Bool) → bytes_eq k j ≡ a
        → get_member k (without k (replaced l d ms)) ≡ get_member k (without k ms)
        → get_member k (without k (if b then member j d ms else member j e (replaced l d ms)))
        ≡ get_member k (if a then ms else member j e (without k ms))
    go true at_l a at_k rest =
        let other : bytes_eq k j ≡ false = unequal k j (λ same. apart (same ∙ sym ((bytes_eq-Decides l j).0 at_l))) in
        ap (λ b. get_member k (if b then ms else member j d (without k ms))) other
        ∙ (get_member-member k j d (without k ms) ∙ (ap (λ b. if b then Some d else get_member k (without k ms)) other
        ∙ sym (ap (λ b. get_member k (if b then ms else member j e (without k ms))) (sym at_k ∙ other)
        ∙ (get_member-member k j e (without k ms) ∙ ap (λ b. if b then Some e else get_member k (without k ms)) other))))
    go false at_l true at_k rest =
        ap (λ b. get_member k (if b then replaced l d ms else member j e (without k (replaced l d ms)))) at_k
        ∙ replaced-other l k d ms apart
    go false at_l false at_k rest =
        ap (λ b. get_member k (if b then replaced l d ms else member j e (without k (replaced l d ms)))) at_k
        ∙ (get_member-member k j e (without k (replaced l d ms))
        ∙ (ap (λ o. if bytes_eq k j then Some e else o) rest ∙ sym (get_member-member k j e (without k ms))))

pub alike-replaced : (k l : Text) (d : Data) (ms : Members) → bytes_eq k l ≡ false → Alike k (replaced l d ms) ms
alike-replaced k l d ms is = record {
  first = replaced-other l k d ms (differ k l is);
  others = without-replaced k l d ms (differ k l is);
}

without-moved : (r : Data) (k : Text) (ms : Members) → k ≢ codes "allOf"
    → get_member k (without k (moved_members r ms)) ≡ get_member k (without k (without (codes "$ref") ms))
without-moved r k ms other = go (get_member (codes "allOf") (without (codes "$ref") ms))
  where
    go : (o : Option Data) → get_member k (without k (elim o [
      | None ↦ put (codes "allOf") (with_last (referring r) (array no_items)) (without (codes "$ref") ms)
      | Some e ↦ replaced (codes "allOf") (with_last (referring r) e) (without (codes "$ref") ms)
    ])) ≡ get_member k (without k (without (codes "$ref") ms))
    go None = without-put k (codes "allOf") (with_last (referring r) (array no_items)) (without (codes "$ref") ms) other
    go (Some e) = without-replaced k (codes "allOf") (with_last (referring r) e) (without (codes "$ref") ms) other

-- keywords beside a reference that moves into `allOf`
pub alike-moved : (r : Data) (k : Text) (ms : Members) → bytes_eq k (codes "allOf") ≡ false → bytes_eq k (codes "$ref") ≡ false
    → Alike k (moved_members r ms) ms
alike-moved r k ms all ref = record {
  first = get-moved r ms k (differ k (codes "allOf") all) ∙ without-other (codes "$ref") k ms (differ k (codes "$ref") ref);
  others = without-moved r k ms (differ k (codes "allOf") all) ∙ without-swap k (codes "$ref") ms (differ k (codes "$ref") ref);
}

-- where a key isn't there, it isn't there twice
pub absent-once : (k : Text) (ms : Members) → get_member k ms ≡ None → IsOnce k ms
absent-once k no_members none = refl
absent-once k (member l d ms) none = go (bytes_eq k l) refl (absent-once k ms)
  where
    found : get_member k (member l d ms) ≡ (if bytes_eq k l then Some d else get_member k ms)
    found = get_member-member k l d ms

    go : (b : Bool) → bytes_eq k l ≡ b → (get_member k ms ≡ None → IsOnce k ms)
        → get_member k (if b then ms else member l d (without k ms)) ≡ None
    go true at later =
        let some : Some d ≡ None = sym (found ∙ ap (λ b. if b then Some d else get_member k ms) at) ∙ none in cc
    go false at later =
        let none_later : get_member k ms ≡ None = sym (found ∙ ap (λ b. if b then Some d else get_member k ms) at) ∙ none in
        get_member-member k l d (without k ms)
        ∙ (ap (λ b. if b then Some d else get_member k (without k ms)) at ∙ later none_later)

-- the reference itself has gone
pub once-moved : (r : Data) (ms : Members) → IsOnce (codes "$ref") ms → IsOnce (codes "$ref") (moved_members r ms)
once-moved r ms once =
    without-moved r (codes "$ref") ms (differ (codes "$ref") (codes "allOf") refl)
    ∙ absent-once (codes "$ref") (without (codes "$ref") ms) once

pub gone-moved : (r : Data) (ms : Members) → IsOnce (codes "$ref") ms → get_member (codes "$ref") (moved_members r ms) ≡ None
gone-moved r ms once = get-moved r ms (codes "$ref") (differ (codes "$ref") (codes "allOf") refl) ∙ once

-- what is put where nothing stood stands once
pub once-put : (k : Text) (d : Data) (ms : Members) → get_member k ms ≡ None → IsOnce k (put k d ms)
once-put k d no_members none = go (bytes_eq k k) refl
  where
    go : (b : Bool) → bytes_eq k k ≡ b → get_member k (if b then no_members else member k d no_members) ≡ None
    go true at = refl
    go false at = let same : bytes_eq k k ≡ true = (bytes_eq-Decides k k).1 refl in cc
once-put k d (member l e ms) none = go (slice_cmp nat_cmp k l) refl (once-put k d ms)
  where
    found : get_member k (member l e ms) ≡ (if bytes_eq k l then Some e else get_member k ms)
    found = get_member-member k l e ms

    other : bytes_eq k l ≡ false
    other = each (bytes_eq k l) refl
      where
        each : (b : Bool) → bytes_eq k l ≡ b → b ≡ false
        each true at =
            let some : Some e ≡ None = sym (get_member-member k l e ms ∙ ap (λ b. if b then Some e else get_member k ms) at) ∙ none in cc
        each false at = refl

    rest : get_member k ms ≡ None
    rest = sym (ap (λ b. if b then Some e else get_member k ms) other) ∙ (sym (get_member-member k l e ms) ∙ none)

    go : (o : Ordering) → slice_cmp nat_cmp k l ≡ o → (get_member k ms ≡ None → IsOnce k (put k d ms))
        → IsOnce k (match_ordering o (member k d (member l e ms)) (member l d ms) (member l e (put k d ms)))
    go Less at later =
        ap (λ b. get_member k (if b then member l e ms else member k d (without k (member l e ms)))) ((bytes_eq-Decides k k).1 refl) ∙ none
    go Equal at later =
        let same : bytes_eq k l ≡ true = sym (is_eq-slice_cmp k l) ∙ ap is_eq at in
        let false_too : true ≡ false = sym same ∙ other in cc
    go Greater at later =
        ap (λ b. get_member k (if b then put k d ms else member l e (without k (put k d ms)))) other
        ∙ (get_member-member k l e (without k (put k d ms))
        ∙ (ap (λ b. if b then Some e else get_member k (without k (put k d ms))) other ∙ later rest))

-- ---- what holds of the schemas inside, once a reference has moved

-- the list with the reference behind it
items-last : (Q : Members → Type 0) (ds : Items) (d : Data) → asked_of_items Q ds → (asked Q d).as_schema
    → asked_of_items Q (with_item ds d)
unfolding asked
items-last Q no_items d a here = (here, tt)
items-last Q (item e ds) d a here = (a.0, items-last Q ds d a.1 here)

module _ (Q : Members → Type 0) (r : Data) (here : (asked Q (referring r)).as_schema) where
  list-longer : (e : Data) → (asked Q e).as_list → (asked Q (with_last (referring r) e)).as_list
  unfolding asked
  list-longer (array ds) a = items-last Q ds (referring r) a here
  list-longer _ a = tt

  pub asked-moved : (ms : Members) → asked_of_keywords Q ms → asked_of_keywords Q (moved_members r ms)
  unfolding asked
  asked-moved ms a = go (get_member (codes "allOf") (without (codes "$ref") ms)) refl
    where
      old : asked_of_keywords Q (without (codes "$ref") ms)
      old = asked-without Q (codes "$ref") ms a

      go : (o : Option Data) → get_member (codes "allOf") (without (codes "$ref") ms) ≡ o → asked_of_keywords Q (elim o [
        | None ↦ put (codes "allOf") (with_last (referring r) (array no_items)) (without (codes "$ref") ms)
        | Some e ↦ replaced (codes "allOf") (with_last (referring r) e) (without (codes "$ref") ms)
      ])
      go None is = asked-put Q (codes "allOf") (with_last (referring r) (array no_items)) (without (codes "$ref") ms) (here, tt) old
      go (Some e) is =
          asked-replaced Q (codes "allOf") (with_last (referring r) e) (without (codes "$ref") ms)
          (list-longer e (asked-get Q (codes "allOf") (without (codes "$ref") ms) e is old)) old

-- ---- groups of keywords

pub type-alike : (ns ms : Members) → Alike (codes "type") ns ms → Alike (codes "nullable") ns ms → Alike (codes "const") ns ms
    → HasSomeTypes ms → HasSomeTypes ns
type-alike ns ms a b c is = (
  subst AreSomeTypes (sym a.first) is.0,
  b.first ∙ is.1,
  either is.2,
)
  where
    either : (is_null_alone (get_member (codes "type") ms) ≡ false) ⊎ (get_member (codes "const") ms ≡ None)
        → (is_null_alone (get_member (codes "type") ns) ≡ false) ⊎ (get_member (codes "const") ns ≡ None)
    either (inl out) = inl (ap is_null_alone a.first ∙ out)
    either (inr out) = inr (c.first ∙ out)

pub values-alike : (ns ms : Members) → Alike (codes "type") ns ms → Alike (codes "enum") ns ms
    → (is_null_alone (get_member (codes "type") ms) ≡ false) ⊎ (get_member (codes "enum") ms ≡ None)
    → (is_null_alone (get_member (codes "type") ns) ≡ false) ⊎ (get_member (codes "enum") ns ≡ None)
values-alike ns ms a b (inl out) = inl (ap is_null_alone a.first ∙ out)
values-alike ns ms a b (inr out) = inr (b.first ∙ out)

pub const-alike : (ns ms : Members) → Alike (codes "const") ns ms → Alike (codes "enum") ns ms → HasNone of_draft06 ns → IsConstAlone ms
    → IsConstAlone ns
const-alike ns ms a b none is = (a.others ∙ is.0, either is.1, none)
  where
    either : (get_member (codes "const") ms ≡ None) ⊎ (get_member (codes "enum") ms ≡ None)
        → (get_member (codes "const") ns ≡ None) ⊎ (get_member (codes "enum") ns ≡ None)
    either (inl out) = inl (a.first ∙ out)
    either (inr out) = inr (b.first ∙ out)

pub stands-alike : (N : Text → Type 0) (P Q : Members → Type 0) (ns ms : Members) → Alike (codes "$ref") ns ms → Q ns → Stands N P ms
    → Stands N Q ns
stands-alike N P Q ns ms a own is = record {
  reference = subst (IsTextWith N) (sym a.first) is.reference;
  once = a.others ∙ is.once;
  own = own;
}
