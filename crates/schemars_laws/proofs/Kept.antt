-- A rewrite of every schema keeps what is said of values, where what it makes of one schema does.
use Rattle.std.proofs.Common.{◌≡◌, ◌⊎◌, inl, inr, Option, Some, None, Bool, true, false, codes, option_map, refl, sym, ap, ◌∙◌, subst, []}
use Rattle.schemars_laws.proofs.Words.{fun_ext, bytes_eq-Decides, bytes_eq, if◌then◌else◌, ◌&&◌, Data, boolean, array, object, Items, no_items, item, Members, no_members, member, get_member, Text, IsSchema, Place, NoSchemas, OneSchema, SchemaList, SchemaOrList, SchemasByName, place_under, Dialect, Context, Raw, Readings, Reading, reads_dependencies, judge, keywords, truth_value, all_named, some_named, read_items, read_members, reading_at, schema-judge, reading_at-members, Rules, form_at, in_items, in_names, in_keywords, keywords_get, demanded, asked_of_items, asked_of_members, asked_of_keywords, IsNoObject, AreNoObjects, HasNoObjects, HasPlainUnevaluated, read_data, forms, asked}
use Rattle.schemars_laws.proofs.Seen.{AgreeOn, seen, seen_under, place_read, at_no_schemas, unread_under, keywords-seen, keywords-unread, keywords-follow}

abbrev pub IsTruth : Data → Type 0
IsTruth (boolean b) = Unit {0}
IsTruth _ = ⊥

-- What is asked of a rewrite: it reaches what a walk does, truth values aside; what it makes of a schema, whose
-- subschemas are done, says after it what the schema said before; and the references lead to what says the same.
pub record Keeps {R : Type 0} (ρ : Rules R) (before after : Context) (P : Members → Type 0) : Type 0 where
  pub place : (r : R) (k : Text) (d : Data) → (ρ.place r k d ≡ place_under k) ⊎ ((ρ.place r k d ≡ NoSchemas) × IsTruth d)
  pub schema : (r : R) (s : Data) → IsSchema s → IsSchema (ρ.finish r s)
  pub of_truth : (r : R) (b : Bool) → judge after (ρ.finish r (boolean b)) ≡ truth_value b
  pub of_object : (r : R) (ms : Members) → P ms → judge after (ρ.finish r (object (in_keywords ρ r ms)))
      ≡ keywords (record before { follow = after.follow }) (λ k. get_member k (in_keywords ρ r ms))
      (reading_at (read_members after (in_keywords ρ r ms)))
  pub unevaluated : (ms : Members) → P ms → HasPlainUnevaluated before.dialect ms
  pub reference : (ms : Members) → P ms → AgreeOn after.follow before.follow (get_member (codes "$ref") ms)

schema-listed : (c : Context) (s : Data) → IsSchema s → (read_data c s).listed ≡ None
unfolding read_data
schema-listed c (boolean b) is = refl
schema-listed c (object ms) is = refl
schema-listed c _ is = absurd is

module _ {R : Type 0} (ρ : Rules R) (before after : Context) (P : Members → Type 0) (h : Keeps ρ before after P) where
  abbrev KeptSchema : Data → Data → Type 0
  KeptSchema e d = (read_data after e).schema ≡ (read_data before d).schema

  abbrev KeptList : Data → Data → Type 0
  KeptList e d = (read_data after e).listed ≡ (read_data before d).listed

  abbrev KeptNames : Data → Data → Type 0
  KeptNames e d = ((read_data after e).named ≡ (read_data before d).named) × ((read_data after e).among ≡ (read_data before d).among)

  by-name : (e d : Data) → KeptNames e d → seen SchemasByName (read_data after e) ≡ seen SchemasByName (read_data before d)
  by-name e d kept =
      ap (λ s. record { schema = None; listed = None; named = s; among = (read_data after e).among }) kept.0
      ∙ ap (λ s. record { schema = None; listed = None; named = (read_data before d).named; among = s }) kept.1

  either-listed : (r : R) (d : Data) → KeptList (forms ρ r d).as_list d → KeptList (forms ρ r d).as_either d
  unfolding forms read_data
  either-listed r (boolean b) e = schema-listed after _ (h.schema (ρ.inside r (boolean b)) (boolean b) tt)
  either-listed r (array ds) e = e
  either-listed r (object ms) e =
      schema-listed after _ (h.schema (ρ.inside r (object ms)) (object (in_keywords ρ (ρ.inside r (object ms)) ms)) tt)
  either-listed r _ e = refl

  either-schema : (r : R) (d : Data) → KeptSchema (forms ρ r d).as_schema d → KeptSchema (forms ρ r d).as_either d
  unfolding forms read_data
  either-schema r (boolean b) e = e
  either-schema r (object ms) e = e
  either-schema r _ e = refl

  unread : (d : Data) → IsNoObject (Some d) → KeptSchema d d
  unfolding read_data
  unread (object ms) is = absurd is
  unread _ is = refl

  unread-members : (ms : Members) → AreNoObjects ms
      → (all_named (read_members after ms) ≡ all_named (read_members before ms))
      × (some_named (read_members after ms) ≡ some_named (read_members before ms))
  unfolding read_data
  unread-members no_members are = (refl, refl)
  unread-members (member k d ms) are =
      let rest = unread-members ms are.1 in
      (rw (unread d are.0, rest.0) refl, rw (unread d are.0, rest.1) refl)

  unnamed : (d : Data) → HasNoObjects (Some d) → KeptNames d d
  unfolding read_data
  unnamed (object ms) are = unread-members ms are
  unnamed _ is = (refl, refl)

  truth-read : (d : Data) → IsTruth d → read_data after d ≡ read_data before d
  unfolding read_data
  truth-read (boolean b) is = refl
  truth-read _ is = absurd is

  module _ (r : R) (d : Data) (one : (asked P d).as_schema → KeptSchema (forms ρ r d).as_schema d)
      (list : (asked P d).as_list → KeptList (forms ρ r d).as_list d)
      (names : (asked P d).by_name → KeptNames (forms ρ r d).by_name d) where
    at-place : (p : Place) → demanded p (asked P d) → seen p (read_data after (form_at p d (forms ρ r d))) ≡ seen p (read_data before d)
    at-place NoSchemas a = refl
    at-place OneSchema a = ap (λ s. record { schema = s; listed = None; named = None; among = [] }) (one a)
    at-place SchemaList a = ap (λ s. record { schema = None; listed = s; named = None; among = [] }) (list a)
    at-place SchemaOrList a =
        ap (λ s. record { schema = s; listed = (read_data after (forms ρ r d).as_either).listed; named = None; among = [] })
        (either-schema r d (one a.0))
        ∙ ap (λ s. record { schema = (read_data before d).schema; listed = s; named = None; among = [] }) (either-listed r d (list a.1))
    at-place SchemasByName a = by-name _ d (names a)

    at-key : (k : Text) → demanded (place_under k) (asked P d)
        → seen (place_under k) (read_data after (form_at (ρ.place r k d) d (forms ρ r d))) ≡ seen (place_under k) (read_data before d)
    at-key k a = go (h.place r k d)
      where
        go : (ρ.place r k d ≡ place_under k) ⊎ ((ρ.place r k d ≡ NoSchemas) × IsTruth d)
            → seen (place_under k) (read_data after (form_at (ρ.place r k d) d (forms ρ r d))) ≡ seen (place_under k) (read_data before d)
        go (inl e) = ap (λ p. seen (place_under k) (read_data after (form_at p d (forms ρ r d)))) e ∙ at-place (place_under k) a
        go (inr e) =
            ap (λ p. seen (place_under k) (read_data after (form_at p d (forms ρ r d)))) e.0 ∙ ap (seen (place_under k)) (truth-read d e.1)

  -- what is read under a keyword of the first member, or of the others
  first : (b : Bool) (p : Place) (x y : Reading) (xs ys : Option Reading) → (b ≡ true → seen p x ≡ seen p y)
      → option_map (seen p) xs ≡ option_map (seen p) ys
      → option_map (seen p) (if b then Some x else xs) ≡ option_map (seen p) (if b then Some y else ys)
  first true p x y xs ys e later = ap Some (e refl)
  first false p x y xs ys e later = later

  -- what stands under a keyword without schemas stays
  raw-place : (r : R) (k : Text) (d : Data) → place_under k ≡ NoSchemas → form_at (ρ.place r k d) d (forms ρ r d) ≡ d
  raw-place r k d none = go (h.place r k d)
    where
      go : (ρ.place r k d ≡ place_under k) ⊎ ((ρ.place r k d ≡ NoSchemas) × IsTruth d) → form_at (ρ.place r k d) d (forms ρ r d) ≡ d
      go (inl e) = ap (λ p. form_at p d (forms ρ r d)) (e ∙ none)
      go (inr e) = ap (λ p. form_at p d (forms ρ r d)) e.0

  raw-kept : (r : R) (ms : Members) (k : Text) → place_under k ≡ NoSchemas → get_member k (in_keywords ρ r ms) ≡ get_member k ms
  raw-kept r ms k none = keywords_get ρ r k ms ∙ go (get_member k ms)
    where
      go : (o : Option Data) → option_map (λ d. form_at (ρ.place r k d) d (forms ρ r d)) o ≡ o
      go None = refl
      go (Some d) = ap Some (raw-place r k d none)

  raw-same : (r : R) (ms : Members) (k : Text)
      → unread_under (λ l. get_member l (in_keywords ρ r ms)) k ≡ unread_under (λ l. get_member l ms) k
  raw-same r ms k = go (place_under k) refl
    where
      go : (p : Place) → place_under k ≡ p → at_no_schemas p (get_member k (in_keywords ρ r ms)) ≡ at_no_schemas p (get_member k ms)
      go NoSchemas is = raw-kept r ms k is
      go OneSchema is = refl
      go SchemaList is = refl
      go SchemaOrList is = refl
      go SchemasByName is = refl

  -- what has no schema objects, under a keyword that a walk does not lead to, is read alike
  plain-read : (Plain : Option Data → Type 0) (r : R) (ms : Members) (k : Text) (p : Place) → place_under k ≡ NoSchemas
      → ((d : Data) → Plain (Some d) → seen p (read_data after d) ≡ seen p (read_data before d)) → Plain (get_member k ms)
      → option_map (seen p) (reading_at (read_members after (in_keywords ρ r ms)) k)
      ≡ option_map (seen p) (reading_at (read_members before ms) k)
  plain-read Plain r ms k p none same plain =
      ap (option_map (seen p)) (reading_at-members after (in_keywords ρ r ms) k ∙ ap (option_map (read_data after)) (raw-kept r ms k none))
      ∙ (go (get_member k ms) plain ∙ sym (ap (option_map (seen p)) (reading_at-members before ms k)))
    where
      go : (o : Option Data) → Plain o
          → option_map (seen p) (option_map (read_data after) o) ≡ option_map (seen p) (option_map (read_data before) o)
      go None is = refl
      go (Some d) is = ap Some (same d is)

  read-kept : (r : R) (ms : Members) → P ms
      → ((k : Text) → option_map (seen (place_under k)) (reading_at (read_members after (in_keywords ρ r ms)) k)
      ≡ option_map (seen (place_under k)) (reading_at (read_members before ms) k))
      → (k : Text)
      → option_map (seen (place_read before.dialect k)) (reading_at (read_members after (in_keywords ρ r ms)) k)
      ≡ option_map (seen (place_read before.dialect k)) (reading_at (read_members before ms) k)
  read-kept r ms p same k =
      one (codes "unevaluatedProperties") _ refl (λ reads. ((h.unevaluated ms p).0 reads).0)
      (one (codes "unevaluatedItems") _ refl (λ reads. ((h.unevaluated ms p).0 reads).1)
      (named (codes "dependentSchemas") _ before.dialect.reads_unevaluated refl (λ reads. ((h.unevaluated ms p).0 reads).2)
      (named (codes "dependencies") _ (reads_dependencies before.dialect) refl (h.unevaluated ms p).1 (same k))))
    where
      Alike : Text → Place → Type 0
      Alike l q = option_map (seen q) (reading_at (read_members after (in_keywords ρ r ms)) l)
          ≡ option_map (seen q) (reading_at (read_members before ms) l)

      -- at a keyword that is read so, and at others
      chosen : (l : Text) (q others : Place) (reads : Bool) → (reads ≡ true → Alike l q) → Alike k others
          → Alike k (if bytes_eq k l && reads then q else others)
      chosen l q others reads here other = go (bytes_eq k l) reads refl here
        where
          go : (b reads : Bool) → bytes_eq k l ≡ b → (reads ≡ true → Alike l q) → Alike k (if b && reads then q else others)
          go true true is here = subst (λ x. Alike x q) (sym ((bytes_eq-Decides k l).0 is)) (here refl)
          go true false is here = other
          go false reads is here = other

      one : (l : Text) (others : Place) → place_under l ≡ NoSchemas
          → (before.dialect.reads_unevaluated ≡ true → IsNoObject (get_member l ms))
          → Alike k others → Alike k (if bytes_eq k l && before.dialect.reads_unevaluated then OneSchema else others)
      one l others none plain other =
          chosen l OneSchema others before.dialect.reads_unevaluated
          (λ reads. plain-read IsNoObject r ms l OneSchema none
          (λ d is. ap (λ s. record { schema = s; listed = None; named = None; among = [] }) (unread d is)) (plain reads)) other

      named : (l : Text) (others : Place) (reads : Bool) → place_under l ≡ NoSchemas → (reads ≡ true → HasNoObjects (get_member l ms))
          → Alike k others → Alike k (if bytes_eq k l && reads then SchemasByName else others)
      named l others reads none plain other =
          chosen l SchemasByName others reads
          (λ is. plain-read HasNoObjects r ms l SchemasByName none (λ d are. by-name d d (unnamed d are)) (plain is)) other

  said : (r : R) (ms : Members) → P ms
      → ((k : Text) → option_map (seen (place_under k)) (reading_at (read_members after (in_keywords ρ r ms)) k)
      ≡ option_map (seen (place_under k)) (reading_at (read_members before ms) k))
      → keywords (record before { follow = after.follow }) (λ k. get_member k (in_keywords ρ r ms))
      (reading_at (read_members after (in_keywords ρ r ms)))
      ≡ keywords before (λ k. get_member k ms) (reading_at (read_members before ms))
  said r ms a same =
      let c : Context = record before { follow = after.follow } in
      let d : Dialect = before.dialect in
      let raw : Raw = λ k. get_member k ms in
      let new : Raw = λ k. get_member k (in_keywords ρ r ms) in
      let read : Readings = reading_at (read_members before ms) in
      let reread : Readings = reading_at (read_members after (in_keywords ρ r ms)) in
      sym (keywords-seen c new reread)
      ∙ (sym (keywords-unread c new (seen_under d reread))
      ∙ (ap (λ g. keywords c g (seen_under d reread)) (fun_ext (raw-same r ms))
      ∙ (ap (keywords c (unread_under raw)) (fun_ext (read-kept r ms a same))
      ∙ (keywords-unread c raw (seen_under d read)
      ∙ (keywords-seen c raw read
      ∙ keywords-follow before after.follow raw read (h.reference ms a))))))

  mutual
    unfolding asked forms read_data

    pub one : (r : R) (d : Data) → (asked P d).as_schema → KeptSchema (forms ρ r d).as_schema d
    one r (boolean b) a =
        schema-judge after _ (h.schema (ρ.inside r (boolean b)) (boolean b) tt) ∙ ap Some (h.of_truth (ρ.inside r (boolean b)) b)
    one r (object ms) a =
        schema-judge after _ (h.schema (ρ.inside r (object ms)) (object (in_keywords ρ (ρ.inside r (object ms)) ms)) tt)
        ∙ ap Some
        (h.of_object (ρ.inside r (object ms)) ms a.0 ∙ said (ρ.inside r (object ms)) ms a.0 (under (ρ.inside r (object ms)) ms a.1))
    one r _ a = refl

    list : (r : R) (d : Data) → (asked P d).as_list → KeptList (forms ρ r d).as_list d
    list r (array ds) a = items r ds a
    list r _ a = refl

    names : (r : R) (d : Data) → (asked P d).by_name → KeptNames (forms ρ r d).by_name d
    names r (object ms) a = members r ms a
    names r _ a = (refl, refl)

    items : (r : R) (ds : Items) → asked_of_items P ds → read_items after (in_items ρ r ds) ≡ read_items before ds
    items r no_items a = refl
    items r (item d ds) a = rw (one r d a.0, items r ds a.1) refl

    members : (r : R) (ms : Members) → asked_of_members P ms
        → (all_named (read_members after (in_names ρ r ms)) ≡ all_named (read_members before ms))
        × (some_named (read_members after (in_names ρ r ms)) ≡ some_named (read_members before ms))
    members r no_members a = (refl, refl)
    members r (member k d ms) a =
        (rw (one r d a.0, (members r ms a.1).0) refl, rw (one r d a.0, (members r ms a.1).1) refl)

    under : (r : R) (ms : Members) → asked_of_keywords P ms → (k : Text)
        → option_map (seen (place_under k)) (reading_at (read_members after (in_keywords ρ r ms)) k)
        ≡ option_map (seen (place_under k)) (reading_at (read_members before ms) k)
    under r no_members a k = refl
    under r (member l d ms) a k =
        first (bytes_eq k l) (place_under k) _ _ _ _
        (λ is. subst
        (λ x. seen (place_under x) (read_data after (form_at (ρ.place r l d) d (forms ρ r d)))
        ≡ seen (place_under x) (read_data before d))
        (sym ((bytes_eq-Decides k l).0 is)) (at-key r d (one r d) (list r d) (names r d) l a.0))
        (under r ms a.1 k)
