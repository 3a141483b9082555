-- The schema of an example accepts the example.
use Rattle.std.proofs.Common.{◌≡◌, ℕ, zero, suc, inl, inr, List, [], ◌∷◌, length, map, Option, Some, None, Bool, true, false, refl, sym, ap, ◌∙◌, subst, arith, option_map, pos, negsuc, true≢false}
use Rattle.schemars_sample.proofs.Words.{or-true, le-leb, leb-true, and_parts, option_and_then_some, same_Some, cond_some, none-some, bytes_eq-Decides, codes, bytes_eq, nat_le, nat_lt, ◌||◌, ⊤, ℤ, encode_utf8, Num, Data, null, boolean, number, unsigned, string, array, object, no_items, item, Members, no_members, put, items_len, get_member, of_integer, of_float, items_of, get_member-put, get_member-put_other, Text, Yes, verdict, IsSchema, members_in, draft2020_12, Patterns, Judge, each_member, is_null, by_position, each_past, judge, read_data, all_keywords, IsSilent, judge-put, IsSorted, sorted-put, allow_null, context2020_12, IsReady, ready-law, ready-allow_null, ready-schema, type_alone, byte_document, with_meta_schema, AcceptsExample, Example, truth, whole, decimal, character, text, bytes, no_value, some_value, unit_struct, unit_variant, newtype_struct, newtype_variant, seq, tuple, tuple_variant, struct, collected_map, struct_variant, Examples, no_examples, example, Entries, no_entries, entry, sample_json, items_json, entries_json, json_array, are_bytes, sample_schema, item_schemas, entry_schemas, value_schemas, one_beside, shared_by, tuple_schema, titled_schema, with_name, with_example, sample_root}
use Rattle.schemars_sample.proofs.Characters.{one-character}
use Rattle.schemars_sample.proofs.Members.{each-put, each-found}
use Rattle.schemars_sample.proofs.Forms.{fits, IsSound, AreSound, AreSoundMembers, AreSoundMembers-put, sound-truth, sound-type, sound-char, sound-byte, sound-list, sound-tuple, sound-struct, sound-map, char-says, byte-says, list-says, tuple-says, struct-says, map-says, property_says, property-says}
use Rattle.schemars_sample.proofs.Listed.{Covers, one_beside-covers, sound-one_beside, shared_by-covers, sound-shared_by}

-- ---- null can be allowed in each

pub ready : (x : Example) → IsReady (sample_schema x)
ready (truth b) = inr (record { alone = refl; type_form = refl; values = inl refl; not_form = inl refl })
ready (decimal x) = inr (record { alone = refl; type_form = refl; values = inl refl; not_form = inl refl })
ready (whole z) = inr (record { alone = refl; type_form = refl; values = inl refl; not_form = inl refl })
ready (character n) = inr (record { alone = refl; type_form = refl; values = inl refl; not_form = inl refl })
ready (text s) = inr (record { alone = refl; type_form = refl; values = inl refl; not_form = inl refl })
ready (bytes bs) = inr (record { alone = refl; type_form = refl; values = inl refl; not_form = inl refl })
ready no_value = tt
ready (some_value x) = ready-allow_null (sample_schema x) (ready x)
ready unit_struct = inr (record { alone = refl; type_form = refl; values = inl refl; not_form = inl refl })
ready (unit_variant variant) = tt
ready (newtype_struct name x) = ready x
ready (newtype_variant variant x) = tt
ready (seq xs) = inr (record { alone = refl; type_form = refl; values = inl refl; not_form = inl refl })
ready (tuple name xs) = inr (record { alone = refl; type_form = refl; values = inl refl; not_form = inl refl })
ready (tuple_variant variant xs) = tt
ready (struct name xs) = inr (record { alone = refl; type_form = refl; values = inl refl; not_form = inl refl })
ready (collected_map xs) = inr (record { alone = refl; type_form = refl; values = inl refl; not_form = inl refl })
ready (struct_variant variant xs) = tt

option_map_some : {A B P : Type 0} (f : A → B) (o : Option A) (y : B) → option_map f o ≡ Some y
    → ((a : A) → o ≡ Some a → f a ≡ y → P) → P
option_map_some f None y h next = cc
option_map_some f (Some a) y h next = next a refl (same_Some (f a) y h)

module _ (patterns : Patterns) (follow : Text → Judge) where
  abbrev Sound : Data → Type 0
  Sound s = IsSound patterns follow s

  abbrev Fits : Data → Data → Type 0
  Fits s v = fits patterns follow s v ≡ Yes

  -- ---- each says yes or no

  sound-nullable : (s : Data) → IsReady s → Sound s → Sound (allow_null s)
  sound-nullable s r h = (
    ready-schema (allow_null s) (ready-allow_null s r),
    λ v. let told = h.1 v in
        (is_null v || told.0, ready-law draft2020_12 (inl refl) s r patterns follow v told.0 told.1),
  )

  mutual
    sound : (x : Example) → Sound (sample_schema x)
    sound (truth b) = sound-type patterns follow (codes "boolean")
    sound (whole z) = sound-type patterns follow (codes "integer")
    sound (decimal x) = sound-type patterns follow (codes "number")
    sound (character n) = sound-char patterns follow
    sound (text s) = sound-type patterns follow (codes "string")
    sound (bytes bs) = sound-list patterns follow byte_document (sound-byte patterns follow)
    sound no_value = sound-truth patterns follow true
    sound (some_value x) = sound-nullable (sample_schema x) (ready x) (sound x)
    sound unit_struct = sound-type patterns follow (codes "null")
    sound (unit_variant variant) = sound-truth patterns follow true
    sound (newtype_struct name x) = sound x
    sound (newtype_variant variant x) = sound-truth patterns follow true
    sound (seq xs) = sound-list patterns follow _ (sound-one_beside patterns follow (item_schemas xs) (sound_items xs))
    sound (tuple name xs) = sound-tuple patterns follow (item_schemas xs) (sound_items xs)
    sound (tuple_variant variant xs) = sound-truth patterns follow true
    sound (struct name xs) = sound-struct patterns follow (entry_schemas xs no_members) (sound_entries xs no_members tt)
    sound (collected_map xs) = sound-map patterns follow _ (sound-shared_by patterns follow (value_schemas xs) (sound_values xs))
    sound (struct_variant variant xs) = sound-truth patterns follow true

    sound_items : (xs : Examples) → AreSound patterns follow (item_schemas xs)
    sound_items no_examples = tt
    sound_items (example x xs) = (sound x, sound_items xs)

    sound_entries : (xs : Entries) (ps : Members) → AreSoundMembers patterns follow ps
        → AreSoundMembers patterns follow (entry_schemas xs ps)
    sound_entries no_entries ps h = h
    sound_entries (entry k x xs) ps h =
        sound_entries xs (put k (sample_schema x) ps) (AreSoundMembers-put patterns follow k (sample_schema x) ps (sound x) h)

    sound_values : (xs : Entries) → AreSound patterns follow (value_schemas xs)
    sound_values no_entries = tt
    sound_values (entry k x xs) = (sound x, sound_values xs)

  -- ---- each accepts its example

  -- each schema accepts the value at its place
  abbrev FitEach : List Data → List Data → Type 0
  FitEach [] [] = ⊤
  FitEach [] (d ∷ ds) = ⊥
  FitEach (s ∷ ss) [] = ⊥
  FitEach (s ∷ ss) (d ∷ ds) = Fits s d × FitEach ss ds

  each_past-covers : (t : Data) (ss ds : List Data) → Covers patterns follow t ss → FitEach ss ds
      → each_past zero (judge (context2020_12 patterns follow) t) (items_of ds) ≡ Yes
  each_past-covers t [] [] covers h = refl
  each_past-covers t [] (d ∷ ds) covers h = absurd h
  each_past-covers t (s ∷ ss) [] covers h = absurd h
  each_past-covers t (s ∷ ss) (d ∷ ds) covers h =
      rw (covers d (inl h.0)) (each_past-covers t ss ds (λ v some. covers v (inr some)) h.1)

  by_position-fits : (ss ds : List Data) → FitEach ss ds
      → (by_position (map (judge (context2020_12 patterns follow)) ss) (items_of ds) ≡ Yes) × (length ss ≡ items_len (items_of ds))
  by_position-fits [] [] h = (refl, refl)
  by_position-fits [] (d ∷ ds) h = absurd h
  by_position-fits (s ∷ ss) [] h = absurd h
  by_position-fits (s ∷ ss) (d ∷ ds) h = let rest = by_position-fits ss ds h.1 in (rw h.0 rest.0, ap suc rest.1)

  tuple-fits : (ss ds : List Data) → AreSound patterns follow ss → FitEach ss ds → Fits (tuple_schema ss) (json_array ds)
  tuple-fits ss ds sound h =
      let parts = by_position-fits ss ds h in
      let least : nat_le (length ss) (items_len (items_of ds)) ≡ true = le-leb _ _ (omega arith) in
      let most : nat_le (items_len (items_of ds)) (length ss) ≡ true = le-leb _ _ (omega arith) in
      rw (tuple-says patterns follow ss sound (items_of ds), least, most) parts.0

  whole-fits : (z : ℤ) → Fits (type_alone (codes "integer")) (number (of_integer z))
  unfolding read_data all_keywords
  whole-fits (pos n) = refl
  whole-fits (negsuc n) = refl

  number-fits : (n : Num) → Fits (type_alone (codes "number")) (number n)
  unfolding read_data all_keywords
  number-fits n = refl

  bytes-fit : (bs : List ℕ) → are_bytes bs ≡ true
      → each_past zero (judge (context2020_12 patterns follow) byte_document) (items_of (map (λ b. number (unsigned b)) bs)) ≡ Yes
  bytes-fit [] h = refl
  bytes-fit (b ∷ bs) h =
      let parts = and_parts (nat_lt b 256) (are_bytes bs) h in
      rw (byte-says patterns follow b (leb-true (suc b) 256 parts.0)) (bytes-fit bs parts.1)

  -- each member has its schema among the properties
  abbrev FitMembers : Members → Members → Type 0
  FitMembers ps ms = (k : Text) (w : Data) → get_member k ms ≡ Some w → (s : Data) × (get_member k ps ≡ Some s) × Fits s w

  fit-put : (k : Text) (s d : Data) (ps ms : Members) → Fits s d → FitMembers ps ms → FitMembers (put k s ps) (put k d ms)
  fit-put k s d ps ms here h l w at = go (bytes_eq l k) refl
    where
      go : (b : Bool) → bytes_eq l k ≡ b → (t : Data) × (get_member l (put k s ps) ≡ Some t) × Fits t w
      go true is =
          let same : l ≡ k = (bytes_eq-Decides l k).0 is in
          let value : d ≡ w = same_Some d w (sym (get_member-put k d ms) ∙ (ap (λ x. get_member x (put k d ms)) (sym same) ∙ at)) in
          (s, ap (λ x. get_member x (put k s ps)) same ∙ get_member-put k s ps, subst (λ x. Fits s x) value here)
      go false is =
          let apart : l ≡ k → ⊥ = λ same. true≢false (sym ((bytes_eq-Decides l k).1 same) ∙ is) in
          let found = h l w (sym (get_member-put_other l k d ms apart) ∙ at) in
          (found.0, get_member-put_other l k s ps apart ∙ found.1, found.2)

  struct-fits : (ps ms : Members) → AreSoundMembers patterns follow ps → IsSorted ms → FitMembers ps ms
      → each_member (property_says patterns follow ps) ms ≡ Yes
  struct-fits ps ms sound sorted h = each-found (property_says patterns follow ps) ms sorted
      (λ k w at. let found = h k w at in property-says patterns follow ps k w found.0 found.1 ∙ found.2)

  mutual
    unfolding read_data all_keywords

    accepted : (x : Example) → (json : Data) → sample_json x ≡ Some json → Fits (sample_schema x) json
    accepted (truth b) json e = subst (λ v. Fits (sample_schema (truth b)) v) (same_Some _ json e) refl
    accepted (whole z) json e = subst (λ v. Fits (sample_schema (whole z)) v) (cond_some _ _ json e).1 (whole-fits z)
    accepted (decimal x) json e =
        option_map_some number (of_float x) json e (λ n is same. subst (λ v. Fits (sample_schema (decimal x)) v) same (number-fits n))
    accepted (character n) json e =
        subst (λ v. Fits (sample_schema (character n)) v) (same_Some _ json e) (char-says patterns follow (encode_utf8 n) (one-character n))
    accepted (text s) json e = subst (λ v. Fits (sample_schema (text s)) v) (same_Some _ json e) refl
    accepted (bytes bs) json e =
        let parts = cond_some (are_bytes bs) (json_array (map (λ b. number (unsigned b)) bs)) json e in
        subst (λ v. Fits (sample_schema (bytes bs)) v) parts.1
        (list-says patterns follow byte_document tt (items_of (map (λ b. number (unsigned b)) bs)) ∙ bytes-fit bs parts.0)
    accepted no_value json e = refl
    accepted (some_value x) json e =
        ready-law draft2020_12 (inl refl) (sample_schema x) (ready x) patterns follow json true
        (accepted x json e) ∙ ap verdict (or-true (is_null json))
    accepted unit_struct json e = subst (λ v. Fits (sample_schema unit_struct) v) (same_Some _ json e) refl
    accepted (unit_variant variant) json e = refl
    accepted (newtype_struct name x) json e = accepted x json e
    accepted (newtype_variant variant x) json e = refl
    accepted (seq xs) json e = option_map_some json_array (items_json xs) json e (λ ds is same.
        let items = item_schemas xs in
        let sound = sound_items xs in
        subst (λ v. Fits (sample_schema (seq xs)) v) same
        (list-says patterns follow (one_beside [] items) (sound-one_beside patterns follow items sound).0 (items_of ds)
        ∙ each_past-covers (one_beside [] items) items ds (one_beside-covers patterns follow items sound) (accepted_items xs ds is)))
    accepted (tuple name xs) json e = option_map_some json_array (items_json xs) json e (λ ds is same.
        subst (λ v. Fits (sample_schema (tuple name xs)) v) same
        (tuple-fits (item_schemas xs) ds (sound_items xs) (accepted_items xs ds is)))
    accepted (tuple_variant variant xs) json e = refl
    accepted (struct name xs) json e = option_map_some object (entries_json xs no_members) json e (λ ms is same.
        let sound = sound_entries xs no_members tt in
        let both = accepted_entries xs no_members no_members ms tt (λ k w at. absurd (none-some w at)) is in
        subst (λ v. Fits (sample_schema (struct name xs)) v) same
        (struct-says patterns follow (entry_schemas xs no_members) sound ms
        ∙ struct-fits (entry_schemas xs no_members) ms sound both.0 both.1))
    accepted (collected_map xs) json e = option_map_some object (entries_json xs no_members) json e (λ ms is same.
        let values = value_schemas xs in
        let sound = sound_values xs in
        subst (λ v. Fits (sample_schema (collected_map xs)) v) same
        (map-says patterns follow (shared_by values) (sound-shared_by patterns follow values sound).0 ms
        ∙ accepted_values (shared_by values) xs (shared_by-covers patterns follow values) no_members ms refl is))
    accepted (struct_variant variant xs) json e = refl

    accepted_items : (xs : Examples) → (ds : List Data) → items_json xs ≡ Some ds → FitEach (item_schemas xs) ds
    accepted_items no_examples ds e = subst (λ x. FitEach [] x) (same_Some [] ds e) tt
    accepted_items (example x xs) ds e = option_and_then_some _ (sample_json x) ds e (λ d is rest.
        option_map_some (λ es. d ∷ es) (items_json xs) ds rest (λ es are same.
        subst (λ y. FitEach (item_schemas (example x xs)) y) same (accepted x d is, accepted_items xs es are)))

    accepted_entries : (xs : Entries) (ps ms js : Members) → IsSorted ms → FitMembers ps ms
        → entries_json xs ms ≡ Some js → IsSorted js × FitMembers (entry_schemas xs ps) js
    accepted_entries no_entries ps ms js sorted fit e =
        subst (λ x. IsSorted x × FitMembers ps x) (same_Some ms js e) (sorted, fit)
    accepted_entries (entry k x xs) ps ms js sorted fit e = option_and_then_some _ (sample_json x) js e (λ d is rest.
        accepted_entries xs (put k (sample_schema x) ps) (put k d ms) js (sorted-put k d ms sorted)
        (fit-put k (sample_schema x) d ps ms (accepted x d is) fit) rest)

    accepted_values : (t : Data) (xs : Entries) → Covers patterns follow t (value_schemas xs) → (ms js : Members)
        → each_member (λ k w. fits patterns follow t w) ms ≡ Yes → entries_json xs ms ≡ Some js
        → each_member (λ k w. fits patterns follow t w) js ≡ Yes
    accepted_values t no_entries covers ms js fit e =
        subst (λ x. each_member (λ k w. fits patterns follow t w) x ≡ Yes) (same_Some ms js e) fit
    accepted_values t (entry k x xs) covers ms js fit e = option_and_then_some _ (sample_json x) js e (λ d is rest.
        accepted_values t xs (λ v some. covers v (inr some)) (put k d ms) js
        (each-put (λ l w. fits patterns follow t w) k d ms (covers d (inl (accepted x d is))) fit) rest)

-- ---- as a root document

judge-members_in : (patterns : Patterns) (follow : Text → Judge) (s v : Data) → IsSchema s
    → fits patterns follow (object (members_in s)) v ≡ fits patterns follow s v
unfolding read_data all_keywords
judge-members_in patterns follow (object ms) v is = refl
judge-members_in patterns follow (boolean true) v is = refl
judge-members_in patterns follow (boolean false) v is = refl
judge-members_in patterns follow _ v is = absurd is

-- what is no keyword says nothing beside others
pub accepts-put : (x : Example) (k : Text) (d : Data) (ms : Members) → IsSilent k → AcceptsExample x (object ms)
    → AcceptsExample x (object (put k d ms))
accepts-put x k d ms silent h patterns follow json e =
    ap (λ j. j.fits json) (judge-put (context2020_12 patterns follow) k d ms silent) ∙ h patterns follow json e

accepts-object : (x : Example) (s : Data) → IsSchema s → AcceptsExample x s → AcceptsExample x (object (members_in s))
accepts-object x s is h patterns follow json e = judge-members_in patterns follow s json is ∙ h patterns follow json e

with_name-schema : (name : Text) (s : Data) → IsSchema s → IsSchema (with_name name s)
with_name-schema [] s is = is
with_name-schema (b ∷ bs) s is = tt

accepts-with_name : (x : Example) (name : Text) (s : Data) → IsSchema s → AcceptsExample x s → AcceptsExample x (with_name name s)
accepts-with_name x [] s is h = h
accepts-with_name x (b ∷ bs) s is h =
    accepts-put x (codes "title") (string (b ∷ bs)) (members_in s) refl (accepts-object x s is h)

accepts-sample : (x : Example) → AcceptsExample x (sample_schema x)
accepts-sample x patterns follow json e = accepted patterns follow x json e

titled-schema : (x : Example) → IsSchema (titled_schema x)
titled-schema (truth b) = tt
titled-schema (whole z) = tt
titled-schema (decimal x) = tt
titled-schema (character n) = tt
titled-schema (text s) = tt
titled-schema (bytes bs) = tt
titled-schema no_value = tt
titled-schema (some_value x) = ready-schema (sample_schema (some_value x)) (ready (some_value x))
titled-schema unit_struct = tt
titled-schema (unit_variant variant) = tt
titled-schema (newtype_struct name x) = with_name-schema name (titled_schema x) (titled-schema x)
titled-schema (newtype_variant variant x) = tt
titled-schema (seq xs) = tt
titled-schema (tuple name xs) = with_name-schema name (sample_schema (tuple name xs)) tt
titled-schema (tuple_variant variant xs) = tt
titled-schema (struct name xs) = with_name-schema name (sample_schema (struct name xs)) tt
titled-schema (collected_map xs) = tt
titled-schema (struct_variant variant xs) = tt

titled-accepts : (x : Example) → AcceptsExample x (titled_schema x)
titled-accepts (newtype_struct name x) =
    accepts-with_name (newtype_struct name x) name (titled_schema x) (titled-schema x) (titled-accepts x)
titled-accepts (tuple name xs) = accepts-with_name (tuple name xs) name _ tt (accepts-sample (tuple name xs))
titled-accepts (struct name xs) = accepts-with_name (struct name xs) name _ tt (accepts-sample (struct name xs))
titled-accepts (truth b) = accepts-sample (truth b)
titled-accepts (whole z) = accepts-sample (whole z)
titled-accepts (decimal x) = accepts-sample (decimal x)
titled-accepts (character n) = accepts-sample (character n)
titled-accepts (text s) = accepts-sample (text s)
titled-accepts (bytes bs) = accepts-sample (bytes bs)
titled-accepts no_value = accepts-sample no_value
titled-accepts (some_value x) = accepts-sample (some_value x)
titled-accepts unit_struct = accepts-sample unit_struct
titled-accepts (unit_variant variant) = accepts-sample (unit_variant variant)
titled-accepts (newtype_variant variant x) = accepts-sample (newtype_variant variant x)
titled-accepts (seq xs) = accepts-sample (seq xs)
titled-accepts (tuple_variant variant xs) = accepts-sample (tuple_variant variant xs)
titled-accepts (collected_map xs) = accepts-sample (collected_map xs)
titled-accepts (struct_variant variant xs) = accepts-sample (struct_variant variant xs)

accepts-with_example : (x : Example) (o : Option Data) (ms : Members) → AcceptsExample x (object ms)
    → AcceptsExample x (object (with_example o ms))
accepts-with_example x None ms h = h
accepts-with_example x (Some d) ms h = accepts-put x (codes "examples") (array (item d no_items)) ms refl h

accepts-with_meta_schema : (x : Example) (o : Option Text) (ms : Members) → AcceptsExample x (object ms)
    → AcceptsExample x (object (with_meta_schema o ms))
accepts-with_meta_schema x None ms h = h
accepts-with_meta_schema x (Some uri) ms h = accepts-put x (codes "$schema") (string uri) ms refl h

pub root_accepts : (meta_schema : Option Text) (x : Example) → AcceptsExample x (sample_root meta_schema x)
root_accepts meta_schema x =
    let schema = titled_schema x in
    accepts-with_meta_schema x meta_schema (with_example (sample_json x) (members_in schema))
    (accepts-with_example x (sample_json x) (members_in schema) (accepts-object x schema (titled-schema x) (titled-accepts x)))
