-- Definitions that the transforms of a draft change one by one, and what is left of the document.
use Rattle.std.proofs.Common.{◌≡◌, List, ◌∷◌, true, Some, None, refl, sym, ap, ◌∙◌, subst}
use Rattle.schemars_generate.proofs.Words.{Data, null, boolean, number, string, array, object, Members, no_members, member, put, get, get_member, get_member-put, get_member-put_other, is_listed, differ, Text, members_in, inserted, replaced, placed_at-defs, placed_at-definitions, are_local, made_by, value_made_by, each_made_by, IsApart, defs_apart, definitions_apart, made_in_parts, parted, HasNoDefinitions, HasPlaceAt, definition_keys, each_made, with_defs_at, with_names, at_each_key, replaced-put, Draft, Draft2020_12, Draft2019_09, Draft07, made_for, with_definitions, key_for, transforms_for, forms}
use Rattle.schemars_transform.specs.declared.gen_transform.GenTransform.{GenTransform}

-- ---- the transforms of a draft

pub local_for : (O : Type 0) (draft : Draft) → are_local {O = O} (transforms_for draft) ≡ true
local_for O Draft2020_12 = refl
local_for O Draft2019_09 = refl
local_for O Draft07 = refl

-- a value that is no schema stays under each of them
value_made_for : (O : Type 0) (draft : Draft) (d : Data) → value_made_by {O = O} (transforms_for draft) d ≡ made_for draft d
unfolding forms
value_made_for O Draft2020_12 null = refl
value_made_for O Draft2020_12 _ = refl
value_made_for O Draft2019_09 null = refl
value_made_for O Draft2019_09 _ = refl
value_made_for O Draft07 null = refl
value_made_for O Draft07 _ = refl

each_made_for : (O : Type 0) (draft : Draft) (made : Data → Data) → ((d : Data) → made d ≡ made_for draft d) → (ms : Members)
    → each_made_by {O = O} (transforms_for draft) ms ≡ each_made made ms
each_made_for O draft made is no_members = refl
each_made_for O draft made is (member k d ms) =
    ap (λ e. member k e (each_made_by {O = O} (transforms_for draft) ms)) (value_made_for O draft d ∙ sym (is d))
    ∙ ap (member k (made d)) (each_made_for O draft made is ms)

-- ---- the keyword that definitions are under

pub listed_for : (draft : Draft) → is_listed (key_for draft) definition_keys ≡ true
listed_for Draft2020_12 = refl
listed_for Draft2019_09 = refl
listed_for Draft07 = refl

apart_for : (draft : Draft) → IsApart (key_for draft)
apart_for Draft2020_12 = defs_apart
apart_for Draft2019_09 = defs_apart
apart_for Draft07 = definitions_apart

apart_at : (k : Text) → is_listed k definition_keys ≡ true → IsApart k
apart_at = at_each_key IsApart defs_apart definitions_apart

none_at : (ms : Members) → HasNoDefinitions (object ms) → (k : Text) → is_listed k definition_keys ≡ true → get_member k ms ≡ None
none_at ms apart = at_each_key (λ k. get_member k ms ≡ None) apart.0 apart.1

-- an object without definitions has a place for them
pub placed_for : (draft : Draft) (ms : Members) (own : Data) → HasNoDefinitions own
    → with_definitions (47 ∷ key_for draft) ms own ≡ Some (with_defs_at (key_for draft) ms own)
placed_for draft no_members own apart = refl
placed_for Draft2020_12 (member k d ms) (object os) apart = placed_at-defs (member k d ms) os apart.0
placed_for Draft2019_09 (member k d ms) (object os) apart = placed_at-defs (member k d ms) os apart.0
placed_for Draft07 (member k d ms) (object os) apart = placed_at-definitions (member k d ms) os apart.1
placed_for draft (member k d ms) null apart = absurd apart
placed_for draft (member k d ms) (boolean b) apart = absurd apart
placed_for draft (member k d ms) (number n) apart = absurd apart
placed_for draft (member k d ms) (string s) apart = absurd apart
placed_for draft (member k d ms) (array ds) apart = absurd apart

-- ---- the document, with an empty object where its definitions go

module _ {O : Type 0} (ts : List (GenTransform O)) (draft : Draft) (is : ts ≡ transforms_for draft) where
  local : are_local ts ≡ true
  local = ap are_local is ∙ local_for O draft

  -- what the transforms make of it
  abbrev pub placed : Members → Data
  placed os = made_by ts (object (put (key_for draft) (object no_members) os))

  pub has_place : (os : Members) → HasNoDefinitions (object os) → HasPlaceAt (key_for draft) (placed os)
  has_place os apart =
      let q = key_for draft in
      let ms = put q (object no_members) os in
      let c = made_in_parts q (apart_for draft) ts local ms in
      record {
        listed = listed_for draft;
        empty = ap (get q) c.here ∙ c.kept no_members (get_member-put q (object no_members) os);
        alone = λ k listed other.
            let b = made_in_parts k (apart_at k listed) ts local ms in
            ap (get k) b.here ∙ b.absent (get_member-put_other k q (object no_members) os (differ k q other) ∙ none_at os apart k listed);
      }

  -- with the definitions put there, each transformed by itself, it is what they make of the whole
  pub whole_made : (made : Data → Data) → ((d : Data) → made d ≡ made_for draft d) → (defs os : Members)
      → made_by ts (object (put (key_for draft) (object defs) os)) ≡ with_names (key_for draft) (each_made made defs) (placed os)
  whole_made made makes defs os =
      let q = key_for draft in
      let same : each_made_by ts defs ≡ each_made made defs =
      ap (λ xs. each_made_by xs defs) is ∙ each_made_for O draft made makes defs in
      parted q (apart_for draft) ts local (put q (object defs) os) defs (get_member-put q (object defs) os)
      ∙ (λ i. object (replaced q (object (same i)) (members_in (made_by ts (object (replaced-put q (object no_members) (object defs) os i))))))

-- ---- any document without definitions

only_objects : (own : Data) → HasNoDefinitions own → HasNoDefinitions (object (members_in own))
only_objects (object os) apart = apart
only_objects null apart = absurd apart
only_objects (boolean b) apart = absurd apart
only_objects (number n) apart = absurd apart
only_objects (string s) apart = absurd apart
only_objects (array ds) apart = absurd apart

-- an empty object is put where the definitions of a draft go
pub place_put : (draft : Draft) (key place : Text) (own first d : Data) → first ≡ inserted place d own → place ≡ key → key ≡ key_for draft
    → d ≡ object no_members → first ≡ object (put (key_for draft) (object no_members) (members_in own))
place_put draft key place own first d is at here empty = is ∙ (λ i. object (put ((at ∙ here) i) (empty i) (members_in own)))

module _ {O : Type 0} (ts : List (GenTransform O)) (draft : Draft) (is : ts ≡ transforms_for draft) (own first last : Data)
    (apart : HasNoDefinitions own) (put_in : first ≡ object (put (key_for draft) (object no_members) (members_in own)))
    (changed : last ≡ made_by ts first) where
  same : last ≡ placed ts draft is (members_in own)
  same = changed ∙ ap (made_by ts) put_in

  pub own_has_place : HasPlaceAt (key_for draft) last
  own_has_place = subst (HasPlaceAt (key_for draft)) (sym same) (has_place ts draft is (members_in own) (only_objects own apart))

  pub own_whole : (made : Data → Data) → ((d : Data) → made d ≡ made_for draft d) → (defs : Members) → (defs ≡ no_members → ⊥)
      → made_by ts (with_defs_at (key_for draft) defs own) ≡ with_names (key_for draft) (each_made made defs) last
  own_whole made makes no_members some = absurd (some refl)
  own_whole made makes (member k d ms) some =
      whole_made ts draft is made makes (member k d ms) (members_in own)
      ∙ ap (with_names (key_for draft) (each_made made (member k d ms))) (sym same)
