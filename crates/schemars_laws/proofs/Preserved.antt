-- What holds of every schema object after a rewrite of each.
use Rattle.std.proofs.Common.{◌≡◌, ◌⊎◌, inl, inr, Some, Bool, true, false, Ordering, Less, Equal, Greater, nat_cmp, is_eq, refl, sym, ap, ◌∙◌, subst}
use Rattle.schemars_laws.proofs.Words.{bytes_eq-Decides, is_eq-slice_cmp, slice_cmp, match_ordering, bytes_eq, if◌then◌else◌, Data, boolean, array, object, Items, no_items, item, Members, no_members, member, put, get_member, Text, IsSchema, without, replaced, Place, NoSchemas, OneSchema, SchemaList, SchemaOrList, SchemasByName, place_under, Rules, form_at, in_items, in_names, in_keywords, demanded, asked_of_items, asked_of_members, forms, asked, asked_of_keywords}
use Rattle.schemars_laws.proofs.Kept.{IsTruth}
use Rattle.schemars_laws.proofs.Looked.{change_rules, walked}

-- ---- members taken out, and put in

module _ (Q : Members → Type 0) where
  pub asked-without : (k : Text) (ms : Members) → asked_of_keywords Q ms → asked_of_keywords Q (without k ms)
  unfolding asked_of_keywords
  asked-without k no_members a = tt
  asked-without k (member l d ms) a = go (bytes_eq k l) (asked-without k ms a.1)
    where
      go : (b : Bool) → asked_of_keywords Q (without k ms) → asked_of_keywords Q (if b then ms else member l d (without k ms))
      go true rest = a.1
      go false rest = (a.0, rest)

  pub asked-put : (k : Text) (d : Data) (ms : Members) → demanded (place_under k) (asked Q d) → asked_of_keywords Q ms
      → asked_of_keywords Q (put k d ms)
  unfolding asked_of_keywords
  asked-put k d no_members here a = (here, tt)
  asked-put k d (member l e ms) here a = go (slice_cmp nat_cmp k l) refl (asked-put k d ms here a.1)
    where
      go : (o : Ordering) → slice_cmp nat_cmp k l ≡ o → asked_of_keywords Q (put k d ms)
          → asked_of_keywords Q (match_ordering o (member k d (member l e ms)) (member l d ms) (member l e (put k d ms)))
      go Less is rest = (here, a)
      go Equal is rest =
          (subst (λ x. demanded (place_under x) (asked Q d)) ((bytes_eq-Decides k l).0 (sym (is_eq-slice_cmp k l) ∙ ap is_eq is)) here, a.1)
      go Greater is rest = (a.0, rest)

  pub asked-replaced : (k : Text) (d : Data) (ms : Members) → demanded (place_under k) (asked Q d) → asked_of_keywords Q ms
      → asked_of_keywords Q (replaced k d ms)
  unfolding asked_of_keywords
  asked-replaced k d no_members here a = tt
  asked-replaced k d (member l e ms) here a = go (bytes_eq k l) refl (asked-replaced k d ms here a.1)
    where
      go : (b : Bool) → bytes_eq k l ≡ b → asked_of_keywords Q (replaced k d ms)
          → asked_of_keywords Q (if b then member l d ms else member l e (replaced k d ms))
      go true is rest = (subst (λ x. demanded (place_under x) (asked Q d)) ((bytes_eq-Decides k l).0 is) here, a.1)
      go false is rest = (a.0, rest)

  pub asked-get : (k : Text) (ms : Members) (d : Data) → get_member k ms ≡ Some d → asked_of_keywords Q ms
      → demanded (place_under k) (asked Q d)
  unfolding asked_of_keywords
  asked-get k no_members d is a = cc
  asked-get k (member l e ms) d is a = go (slice_cmp nat_cmp k l) refl is (λ there. asked-get k ms d there a.1)
    where
      some : {x y : Data} → Some x ≡ Some y → x ≡ y
      some e = cc

      go : (o : Ordering) → slice_cmp nat_cmp k l ≡ o → match_ordering o (get_member k ms) (Some e) (get_member k ms) ≡ Some d
          → (get_member k ms ≡ Some d → demanded (place_under k) (asked Q d)) → demanded (place_under k) (asked Q d)
      go Less same is later = later is
      go Equal same is later =
          subst (λ x. demanded (place_under k) (asked Q x)) (some is)
          (subst (λ x. demanded (place_under x) (asked Q e))
          (sym ((bytes_eq-Decides k l).0 (sym (is_eq-slice_cmp k l) ∙ ap is_eq same))) a.0)
      go Greater same is later = later is

  pub schema-no_list : (s : Data) → IsSchema s → (asked Q s).as_list
  unfolding asked
  schema-no_list (boolean b) is = tt
  schema-no_list (object ms) is = tt
  schema-no_list _ is = absurd is

-- ---- what is weaker

weaker-at : (P Q : Members → Type 0) (d : Data) → ((asked P d).as_schema → (asked Q d).as_schema)
    → ((asked P d).as_list → (asked Q d).as_list)
    → ((asked P d).by_name → (asked Q d).by_name) → (p : Place) → demanded p (asked P d) → demanded p (asked Q d)
weaker-at P Q d one list names NoSchemas a = tt
weaker-at P Q d one list names OneSchema a = one a
weaker-at P Q d one list names SchemaList a = list a
weaker-at P Q d one list names SchemaOrList a = (one a.0, list a.1)
weaker-at P Q d one list names SchemasByName a = names a

module _ (P Q : Members → Type 0) (h : (ms : Members) → P ms → Q ms) where
  mutual
    unfolding asked

    pub weaker : (d : Data) → (asked P d).as_schema → (asked Q d).as_schema
    weaker (object ms) a = (h ms a.0, weaker-keywords ms a.1)
    weaker _ a = tt

    weaker-list : (d : Data) → (asked P d).as_list → (asked Q d).as_list
    weaker-list (array ds) a = weaker-items ds a
    weaker-list _ a = tt

    weaker-names : (d : Data) → (asked P d).by_name → (asked Q d).by_name
    weaker-names (object ms) a = weaker-members ms a
    weaker-names _ a = tt

    weaker-items : (ds : Items) → asked_of_items P ds → asked_of_items Q ds
    weaker-items no_items a = tt
    weaker-items (item d ds) a = (weaker d a.0, weaker-items ds a.1)

    weaker-members : (ms : Members) → asked_of_members P ms → asked_of_members Q ms
    weaker-members no_members a = tt
    weaker-members (member k d ms) a = (weaker d a.0, weaker-members ms a.1)

    weaker-keywords : (ms : Members) → asked_of_keywords P ms → asked_of_keywords Q ms
    weaker-keywords no_members a = tt
    weaker-keywords (member k d ms) a =
        (weaker-at P Q d (weaker d) (weaker-list d) (weaker-names d) (place_under k) a.0, weaker-keywords ms a.1)

-- ---- a rewrite of each schema

-- what a rewrite makes of a schema object is as Q says, where the schema was as P says and the schemas inside it now are as Q says
pub record Preserves {R : Type 0} (ρ : Rules R) (P Q : Members → Type 0) : Type 0 where
  pub place : (r : R) (k : Text) (d : Data) → (ρ.place r k d ≡ place_under k) ⊎ ((ρ.place r k d ≡ NoSchemas) × IsTruth d)
  pub schema : (r : R) (s : Data) → IsSchema s → IsSchema (ρ.finish r s)
  pub of_truth : (r : R) (b : Bool) → (asked Q (ρ.finish r (boolean b))).as_schema
  pub of_object : (r : R) (ms : Members) → P ms → asked_of_keywords Q (in_keywords ρ r ms)
      → (asked Q (ρ.finish r (object (in_keywords ρ r ms)))).as_schema

module _ {R : Type 0} (ρ : Rules R) (P Q : Members → Type 0) (h : Preserves ρ P Q) where
  module _ (r : R) (d : Data) (one : (asked P d).as_schema → (asked Q (forms ρ r d).as_schema).as_schema)
      (more : (asked P d).as_list → (asked Q (forms ρ r d).as_list).as_list)
      (named : (asked P d).by_name → (asked Q (forms ρ r d).by_name).by_name) where
    either : (e : Data) → e ≡ d → demanded SchemaOrList (asked P d) → demanded SchemaOrList (asked Q (forms ρ r d).as_either)
    unfolding asked forms
    either (boolean b) is a =
        subst (λ x. demanded SchemaOrList (asked Q (forms ρ r x).as_either)) is (
          h.of_truth (ρ.inside r (boolean b)) b,
          schema-no_list Q (ρ.finish (ρ.inside r (boolean b)) (boolean b)) (h.schema (ρ.inside r (boolean b)) (boolean b) tt),
        )
    either (array ds) is a =
        subst (λ x. demanded SchemaOrList (asked Q (forms ρ r x).as_either)) is
        (tt, subst (λ x. (asked Q (forms ρ r x).as_list).as_list) (sym is) (more a.1))
    either (object ms) is a =
        subst (λ x. demanded SchemaOrList (asked Q (forms ρ r x).as_either)) is (
          subst (λ x. (asked Q (forms ρ r x).as_schema).as_schema) (sym is) (one a.0),
          schema-no_list Q (ρ.finish (ρ.inside r (object ms)) (object (in_keywords ρ (ρ.inside r (object ms)) ms)))
              (h.schema (ρ.inside r (object ms)) (object (in_keywords ρ (ρ.inside r (object ms)) ms)) tt),
        )
    either _ is a = subst (λ x. demanded SchemaOrList (asked Q (forms ρ r x).as_either)) is (tt, tt)

    by_place : (p : Place) → demanded p (asked P d) → demanded p (asked Q (form_at p d (forms ρ r d)))
    by_place NoSchemas a = tt
    by_place OneSchema a = one a
    by_place SchemaList a = more a
    by_place SchemaOrList a = either d refl a
    by_place SchemasByName a = named a

  of_a_truth : (p : Place) (d : Data) → IsTruth d → demanded p (asked Q d)
  unfolding asked
  of_a_truth NoSchemas (boolean b) is = tt
  of_a_truth OneSchema (boolean b) is = tt
  of_a_truth SchemaList (boolean b) is = tt
  of_a_truth SchemaOrList (boolean b) is = (tt, tt)
  of_a_truth SchemasByName (boolean b) is = tt
  of_a_truth p _ is = absurd is

  at : (r : R) (k : Text) (d : Data) → ((asked P d).as_schema → (asked Q (forms ρ r d).as_schema).as_schema)
      → ((asked P d).as_list → (asked Q (forms ρ r d).as_list).as_list)
      → ((asked P d).by_name → (asked Q (forms ρ r d).by_name).by_name)
      → demanded (place_under k) (asked P d) → demanded (place_under k) (asked Q (form_at (ρ.place r k d) d (forms ρ r d)))
  at r k d one more named a = go (h.place r k d)
    where
      go : (ρ.place r k d ≡ place_under k) ⊎ ((ρ.place r k d ≡ NoSchemas) × IsTruth d)
          → demanded (place_under k) (asked Q (form_at (ρ.place r k d) d (forms ρ r d)))
      go (inl is) =
          subst (λ p. demanded (place_under k) (asked Q (form_at p d (forms ρ r d)))) (sym is)
          (by_place r d one more named (place_under k) a)
      go (inr is) =
          subst (λ p. demanded (place_under k) (asked Q (form_at p d (forms ρ r d)))) (sym is.0) (of_a_truth (place_under k) d is.1)

  mutual
    unfolding asked forms

    pub after : (r : R) (d : Data) → (asked P d).as_schema → (asked Q (forms ρ r d).as_schema).as_schema
    after r (boolean b) a = h.of_truth (ρ.inside r (boolean b)) b
    after r (object ms) a = h.of_object (ρ.inside r (object ms)) ms a.0 (keywords (ρ.inside r (object ms)) ms a.1)
    after r _ a = tt

    list : (r : R) (d : Data) → (asked P d).as_list → (asked Q (forms ρ r d).as_list).as_list
    list r (array ds) a = items r ds a
    list r _ a = tt

    names : (r : R) (d : Data) → (asked P d).by_name → (asked Q (forms ρ r d).by_name).by_name
    names r (object ms) a = members r ms a
    names r _ a = tt

    items : (r : R) (ds : Items) → asked_of_items P ds → asked_of_items Q (in_items ρ r ds)
    items r no_items a = tt
    items r (item d ds) a = (after r d a.0, items r ds a.1)

    pub members : (r : R) (ms : Members) → asked_of_members P ms → asked_of_members Q (in_names ρ r ms)
    members r no_members a = tt
    members r (member k d ms) a = (after r d a.0, members r ms a.1)

    keywords : (r : R) (ms : Members) → asked_of_keywords P ms → asked_of_keywords Q (in_keywords ρ r ms)
    keywords r no_members a = tt
    keywords r (member k d ms) a = (at r k d (after r d) (list r d) (names r d) a.0, keywords r ms a.1)

-- a change of every schema alike keeps a class by what it makes of one whose subschemas are done
pub change-preserves : (f : Data → Data) (P Q : Members → Type 0) → ((s : Data) → IsSchema s → IsSchema (f s))
    → ((b : Bool) → (asked Q (f (boolean b))).as_schema)
    → ((ms : Members) → P ms → asked_of_keywords Q (walked f ms) → (asked Q (f (object (walked f ms)))).as_schema)
    → Preserves (change_rules f) P Q
change-preserves f P Q schema truth done = record {
  place = λ r k d. inl refl;
  schema = λ r s is. schema s is;
  of_truth = λ r b. truth b;
  of_object = λ r ms is a. done ms is a;
}
