-- An enum whose variants have their names as keys, flattened with units among its variants: these become maps behind the others.
use Rattle.std.proofs.Common.{◌≡◌, ℕ, List, [], ◌∷◌, ◌++◌, Option, Some, None, Bool, true, false, map, refl, sym, ap, ◌∙◌, subst}
use Rattle.schemars_meaning.proofs.Words.{bytes_eq-Decides, if◌then◌else◌, bytes_eq, ◌&&◌, ◌||◌, not, codes, option_and_then, Data, string, array, object, Items, item, Members, no_members, member, put, get, get_member, as_str, as_array, items_of, get_member-put, get_member-put_other, Text, IsJson, without, removed, replaced, on_list, is_annotation, AreNotes, verdict, Context, judge, is_null, get_member-later, differ, get_member-without, IsSorted, sorted-put, sorted-without, null_schema, text_items, appended, opened, unit_objects, first_as_objects, list_changed_at, units_as_objects, flattened_part, Variant, exactly_one, none, VariantMatch, claimed_by, member_choice, annotated, option_map, is_text, get_member-replaced, get_member-replaced_other, sorted-replaced, unit_object, with_items, with_units}
use Rattle.schemars_types.specs.declared.contract.Contract.{Contract}
use Rattle.schemars_meaning.proofs.MapKeywords.{noted, noted_by-object, noted-beside, sorted-noted, closed_there, properties_there, required_there}
use Rattle.schemars_meaning.proofs.MapForm.{Keywords, look_up}
use Rattle.schemars_meaning.proofs.Offers.{one_object}
use Rattle.schemars_meaning.proofs.StructForm.{Part, Parts, any_keywords, all_there, one_there}
use Rattle.schemars_meaning.proofs.Joining.{without-here}
use Rattle.schemars_meaning.proofs.Uniting.{IsForm, by_seven, look_up-other}
use Rattle.schemars_meaning.proofs.Opened.{opened_form, opened_parts, Part_form}
use Rattle.schemars_meaning.proofs.Items.{AnyItems, any_append, opened_any, member_item}
use Rattle.schemars_meaning.proofs.StructDocuments.{IsPart}

-- ---- variants in another order

pub none-middle : (xs : List Bool) (b : Bool) (bs : List Bool) → none (xs ++ b ∷ bs) ≡ not b && none (xs ++ bs)
none-middle [] b bs = refl
none-middle (a ∷ xs) b bs = ap (λ x. not a && x) (none-middle xs b bs) ∙ go (not a) (not b) (none (xs ++ bs))
  where
    go : (x y z : Bool) → x && (y && z) ≡ y && (x && z)
    go true true z = refl
    go true false z = refl
    go false true z = refl
    go false false z = refl

pub one-middle : (xs : List Bool) (b : Bool) (bs : List Bool) → exactly_one (xs ++ b ∷ bs) ≡ exactly_one (b ∷ (xs ++ bs))
one-middle [] b bs = refl
one-middle (a ∷ xs) b bs = by a b (none-middle xs b bs) (one-middle xs b bs)
  where
    by : (x y : Bool) → none (xs ++ b ∷ bs) ≡ not y && none (xs ++ bs) → exactly_one (xs ++ b ∷ bs) ≡ exactly_one (y ∷ (xs ++ bs))
        → (if x then none (xs ++ b ∷ bs) else exactly_one (xs ++ b ∷ bs)) ≡ exactly_one (y ∷ x ∷ (xs ++ bs))
    by true true n o = n
    by true false n o = n
    by false true n o = o
    by false false n o = o

abbrev fit : VariantMatch → Bool
fit o = o.fits

map-over : (os : List VariantMatch) (o : VariantMatch) (qs : List VariantMatch) → map fit (os ++ o ∷ qs) ≡ map fit os ++ o.fits ∷ map fit qs
map-over [] o qs = refl
map-over (p ∷ os) o qs = ap (λ bs. p.fits ∷ bs) (map-over os o qs)

map-both : (os qs : List VariantMatch) → map fit (os ++ qs) ≡ map fit os ++ map fit qs
map-both [] qs = refl
map-both (p ∷ os) qs = ap (λ bs. p.fits ∷ bs) (map-both os qs)

claimed-middle : (os : List VariantMatch) (o : VariantMatch) (qs : List VariantMatch) (k : Text)
    → claimed_by (os ++ o ∷ qs) k ≡ claimed_by (o ∷ (os ++ qs)) k
claimed-middle [] o qs k = refl
claimed-middle (p ∷ os) o qs k =
    ap (λ b. (p.fits && p.has_key k) || b) (claimed-middle os o qs k)
    ∙ go (p.fits && p.has_key k) (o.fits && o.has_key k) (claimed_by (os ++ qs) k)
  where
    go : (x y z : Bool) → x || (y || z) ≡ y || (x || z)
    go true true z = refl
    go true false z = refl
    go false true z = refl
    go false false z = refl

-- the same offers, whatever their order
pub record AreSame (os qs : List VariantMatch) : Type 0 where
  pub one : exactly_one (map fit os) ≡ exactly_one (map fit qs)
  pub nobody : none (map fit os) ≡ none (map fit qs)
  pub claimed : (k : Text) → claimed_by os k ≡ claimed_by qs k

same-none : (os : List VariantMatch) → AreSame os os
same-none os = record { one = refl; nobody = refl; claimed = λ k. refl }

same-first : (o : VariantMatch) (os qs : List VariantMatch) → AreSame os qs → AreSame (o ∷ os) (o ∷ qs)
same-first o os qs s = record {
  one = (λ i. if o.fits then s.nobody i else s.one i);
  nobody = ap (λ b. not o.fits && b) s.nobody;
  claimed = λ k. ap (λ b. (o.fits && o.has_key k) || b) (s.claimed k);
}

same-moved : (os : List VariantMatch) (o : VariantMatch) (qs rs : List VariantMatch) → AreSame (os ++ qs) rs → AreSame (os ++ o ∷ qs) (o ∷ rs)
same-moved os o qs rs s = record {
  one = ap exactly_one (map-over os o qs) ∙ (one-middle (map fit os) o.fits (map fit qs)
      ∙ (ap (λ bs. exactly_one (o.fits ∷ bs)) (sym (map-both os qs)) ∙ (λ i. if o.fits then s.nobody i else s.one i)));
  nobody = ap none (map-over os o qs) ∙ (none-middle (map fit os) o.fits (map fit qs)
      ∙ (ap (λ bs. not o.fits && none bs) (sym (map-both os qs)) ∙ ap (λ b. not o.fits && b) s.nobody));
  claimed = λ k. claimed-middle os o qs k ∙ ap (λ b. (o.fits && o.has_key k) || b) (s.claimed k);
}

-- what `bare` says goes behind the others
abbrev pub kept : (Variant → Bool) → List Variant → List Variant
kept bare [] = []
kept bare (x ∷ xs) = if bare x then kept bare xs else x ∷ kept bare xs

abbrev pub moved : (Variant → Bool) → List Variant → List Variant
moved bare [] = []
moved bare (x ∷ xs) = if bare x then x ∷ moved bare xs else moved bare xs

pub same-parted : (bare : Variant → Bool) (f : Variant → VariantMatch) (xs : List Variant)
    → AreSame (map f (kept bare xs) ++ map f (moved bare xs)) (map f xs)
same-parted bare f [] = same-none []
same-parted bare f (x ∷ xs) = go (bare x) (same-parted bare f xs)
  where
    go : (b : Bool) → AreSame (map f (kept bare xs) ++ map f (moved bare xs)) (map f xs)
        → AreSame (map f (if b then kept bare xs else x ∷ kept bare xs) ++ map f (if b then x ∷ moved bare xs else moved bare xs))
        (f x ∷ map f xs)
    go true s = same-moved (map f (kept bare xs)) (f x) (map f (moved bare xs)) (map f xs) s
    go false s = same-first (f x) (map f (kept bare xs) ++ map f (moved bare xs)) (map f xs) s

-- ---- the documents

units_made : (ks : List Text) → unit_objects (text_items ks) ≡ items_of (map unit_object ks)
units_made [] = refl
units_made (k ∷ ks) = ap (item (unit_object k)) (units_made ks)

items_appended : (ts us : List Data) → appended (items_of ts) (items_of us) ≡ items_of (ts ++ us)
items_appended [] us = refl
items_appended (t ∷ ts) us = ap (item t) (items_appended ts us)

-- those units that share an item
abbrev pub units_schema : List Text → Data
units_schema ks = object (member (codes "enum") (array (text_items ks)) (member (codes "type") (string (codes "string")) no_members))

abbrev list_at : List Data → Keywords
list_at ts =
    any_keywords None [] [] (record { all = []; one = Some (record { items = ts; choices = [] }) }) (closed_there false)
    (closed_there false)

module _ (notes : Members) (plain : AreNotes notes) where
  -- beside others
  module _ (k : Text) (ks : List Text) (ts : List Data) where
    abbrev mixed : Members
    mixed = noted (notes ∷ []) (member (codes "oneOf") (array (items_of (units_schema (k ∷ ks) ∷ ts))) no_members)

    abbrev units : List Data
    units = map unit_object (k ∷ ks)

    mixed_at : (q : Text) → is_annotation q ≡ false
        → get_member q mixed ≡ get_member q (member (codes "oneOf") (array (items_of (units_schema (k ∷ ks) ∷ ts))) no_members)
    mixed_at q e = noted-beside q (notes ∷ []) _ e (plain, tt)

    changed : first_as_objects (items_of (units_schema (k ∷ ks) ∷ ts)) ≡ items_of (ts ++ units)
    changed = ap (appended (items_of ts)) (units_made (k ∷ ks)) ∙ items_appended ts units

    mixed_units : units_as_objects (object mixed) ≡ object (replaced (codes "oneOf") (array (items_of (ts ++ units))) mixed)
    mixed_units =
        first (get_member (codes "type") mixed) (mixed_at (codes "type") refl)
        ∙ (second (get_member (codes "oneOf") mixed) (mixed_at (codes "oneOf") refl)
        ∙ ap (λ ds. object (replaced (codes "oneOf") (array ds) mixed)) changed)
      where
        first : (o : Option Data) → o ≡ None
            → elim (if is_text (codes "string") (option_and_then as_str o)
            then option_map unit_objects (option_and_then as_array (get (codes "enum") (object mixed))) else None) as (λ z. Data) [
              | None ↦ list_changed_at (codes "oneOf") first_as_objects (object mixed)
              | Some us ↦ with_units us (removed (codes "type") (removed (codes "enum") (object mixed)))
            ] ≡ list_changed_at (codes "oneOf") first_as_objects (object mixed)
        first None is = refl
        first (Some d) is = cc

        second : (o : Option Data) → o ≡ Some (array (items_of (units_schema (k ∷ ks) ∷ ts)))
            → elim o as (λ z. Data) [
              | None ↦ object mixed
              | Some d ↦ object (replaced (codes "oneOf") (on_list first_as_objects d) mixed)
            ] ≡ object (replaced (codes "oneOf") (array (first_as_objects (items_of (units_schema (k ∷ ks) ∷ ts)))) mixed)
        second o is = ap (λ z. elim z as (λ z. Data) [
          | None ↦ object mixed
          | Some d ↦ object (replaced (codes "oneOf") (on_list first_as_objects d) mixed)
        ]) is

    mixed_form : IsForm (list_at (ts ++ units)) (replaced (codes "oneOf") (array (items_of (ts ++ units))) mixed)
    unfolding closed_there all_there one_there properties_there required_there
    mixed_form = record {
      sorted = sorted-replaced (codes "oneOf") (array (items_of (ts ++ units))) mixed (sorted-noted (notes ∷ []) _ (tt, tt));
      at =
          by_seven (λ q. is_annotation q ≡ false → get_member q (replaced (codes "oneOf") (array (items_of (ts ++ units))) mixed)
          ≡ look_up (list_at (ts ++ units)) q)
          (λ e. beside (codes "type") refl ∙ mixed_at (codes "type") e)
          (λ e. beside (codes "properties") refl ∙ mixed_at (codes "properties") e)
          (λ e. beside (codes "required") refl ∙ mixed_at (codes "required") e)
          (λ e. beside (codes "additionalProperties") refl ∙ mixed_at (codes "additionalProperties") e)
          (λ e. beside (codes "allOf") refl ∙ mixed_at (codes "allOf") e)
          (λ e. get_member-replaced (codes "oneOf") _ (array (items_of (units_schema (k ∷ ks) ∷ ts))) mixed (mixed_at (codes "oneOf") e))
          (λ e. beside (codes "unevaluatedProperties") refl ∙ mixed_at (codes "unevaluatedProperties") e)
          (λ q t p n c a o u e. beside q o ∙ (mixed_at q e ∙ (get_member-later q (codes "oneOf") _ no_members o
          ∙ sym (look_up-other (list_at (ts ++ units)) q t p n c a o u))));
    }
      where
        beside : (q : Text) → bytes_eq q (codes "oneOf") ≡ false
            → get_member q (replaced (codes "oneOf") (array (items_of (ts ++ units))) mixed) ≡ get_member q mixed
        beside q o = get_member-replaced_other q (codes "oneOf") (array (items_of (ts ++ units))) mixed o

  -- alone
  module _ (k : Text) (ks : List Text) where
    abbrev lone : Members
    lone = member (codes "enum") (array (text_items (k ∷ ks))) (member (codes "type") (string (codes "string")) no_members)

    abbrev all_units : Members
    all_units = noted (notes ∷ []) lone

    units_at : (q : Text) → is_annotation q ≡ false → get_member q all_units ≡ get_member q lone
    units_at q e = noted-beside q (notes ∷ []) lone e (plain, tt)

    abbrev left : Members
    left = without (codes "type") (without (codes "enum") all_units)

    abbrev made : Items
    made = items_of (map unit_object (k ∷ ks))

    sorted_units : IsSorted all_units
    sorted_units = sorted-noted (notes ∷ []) lone ((refl, tt), (tt, tt))

    left-none : (q : Text) → is_annotation q ≡ false → get_member q left ≡ None
    left-none q e = go (bytes_eq q (codes "type")) refl (bytes_eq q (codes "enum")) refl
      where
        sorted_left : IsSorted (without (codes "enum") all_units)
        sorted_left = sorted-without (codes "enum") all_units sorted_units

        go : (t : Bool) → bytes_eq q (codes "type") ≡ t → (n : Bool) → bytes_eq q (codes "enum") ≡ n → get_member q left ≡ None
        go true is n is_n =
            subst (λ x. get_member x left ≡ None) (sym ((bytes_eq-Decides q (codes "type")).0 is))
            (without-here (codes "type") (without (codes "enum") all_units) sorted_left)
        go false is true is_n =
            get_member-without q (codes "type") (without (codes "enum") all_units) is
            ∙ subst (λ x. get_member x (without (codes "enum") all_units) ≡ None) (sym ((bytes_eq-Decides q (codes "enum")).0 is_n))
            (without-here (codes "enum") all_units sorted_units)
        go false is false is_n =
            get_member-without q (codes "type") (without (codes "enum") all_units) is
            ∙ (get_member-without q (codes "enum") all_units is_n
            ∙ (units_at q e ∙ (get_member-later q (codes "enum") (array (text_items (k ∷ ks)))
            (member (codes "type") (string (codes "string")) no_members) is_n
            ∙ get_member-later q (codes "type") (string (codes "string")) no_members is)))

    all_units_made : units_as_objects (object all_units) ≡ object (put (codes "oneOf") (array made) left)
    all_units_made =
        first (get_member (codes "type") all_units) (units_at (codes "type") refl) (get_member (codes "enum") all_units)
        (units_at (codes "enum") refl)
        ∙ (second (get_member (codes "oneOf") left) (left-none (codes "oneOf") refl)
        ∙ ap (λ ds. object (put (codes "oneOf") (array ds) left)) (units_made (k ∷ ks)))
      where
        first : (t : Option Data) → t ≡ Some (string (codes "string")) → (n : Option Data) → n ≡ Some (array (text_items (k ∷ ks)))
            → elim (if is_text (codes "string") (option_and_then as_str t) then option_map unit_objects
            (option_and_then as_array n) else None) as (λ z. Data) [
              | None ↦ list_changed_at (codes "oneOf") first_as_objects (object all_units)
              | Some us ↦ with_units us (object left)
            ] ≡ with_units (unit_objects (text_items (k ∷ ks))) (object left)
        first t is n is_n = λ i. elim (if is_text (codes "string") (option_and_then as_str (is i))
            then option_map unit_objects (option_and_then as_array (is_n i)) else None) as (λ z. Data) [
              | None ↦ list_changed_at (codes "oneOf") first_as_objects (object all_units)
              | Some us ↦ with_units us (object left)
            ]

        second : (o : Option Data) → o ≡ None
            → object (elim o as (λ z. Members) [
              | None ↦ put (codes "oneOf") (array (unit_objects (text_items (k ∷ ks)))) left
              | Some d ↦ replaced (codes "oneOf") (with_items (unit_objects (text_items (k ∷ ks))) d) left
            ]) ≡ object (put (codes "oneOf") (array (unit_objects (text_items (k ∷ ks)))) left)
        second None is = refl
        second (Some d) is = cc

    all_units_form : IsForm (list_at (map unit_object (k ∷ ks))) (put (codes "oneOf") (array made) left)
    unfolding closed_there all_there one_there properties_there required_there
    all_units_form = record {
      sorted =
          sorted-put (codes "oneOf") (array made) left
          (sorted-without (codes "type") _ (sorted-without (codes "enum") all_units sorted_units));
      at =
          by_seven (λ q. is_annotation q ≡ false → get_member q (put (codes "oneOf") (array made) left) ≡ look_up
          (list_at (map unit_object (k ∷ ks))) q)
          (λ e. beside (codes "type") refl e) (λ e. beside (codes "properties") refl e) (λ e. beside (codes "required") refl e)
          (λ e. beside (codes "additionalProperties") refl e) (λ e. beside (codes "allOf") refl e)
          (λ e. get_member-put (codes "oneOf") (array made) left) (λ e. beside (codes "unevaluatedProperties") refl e)
          (λ q t p n c a o u e. beside q o e ∙ sym (look_up-other (list_at (map unit_object (k ∷ ks))) q t p n c a o u));
    }
      where
        beside : (q : Text) → bytes_eq q (codes "oneOf") ≡ false → is_annotation q ≡ false
            → get_member q (put (codes "oneOf") (array made) left) ≡ None
        beside q o e = get_member-put_other q (codes "oneOf") (array made) left (differ q (codes "oneOf") o) ∙ left-none q e

-- ---- as parts

module _ (c : Context) (on : c.dialect.reads_unevaluated ≡ true) (contract : Contract) (W : ℕ → Data → Type 0) (v : Data) where
  pub reordered : (os qs : List VariantMatch) (s : Data) → AreSame os qs → IsPart c on contract W v [] (os ∷ []) s
      → IsPart c on contract W v [] (qs ∷ []) s
  reordered os qs s same a = record {
    type = a.type;
    written = a.written;
    are_written = a.are_written;
    parts = a.parts;
    members = a.members;
    is = a.is;
    form = a.form;
    every = a.every ∙ ap (λ b. b && true) same.one;
    claimed = λ k. a.claimed k ∙ ap (λ b. b || false) (same.claimed k);
    choices = a.choices;
    bare = λ e. cc;
  }

  choices_part : (ts : List Data) (os : List VariantMatch) (ms : Members) → IsForm (list_at ts) ms → AnyItems c on ts os v
      → IsPart c on contract W v [] (os ∷ []) (opened (object ms))
  unfolding closed_there all_there one_there properties_there required_there
  choices_part ts os ms form items =
      let p : Part = record { items = ts; choices = os } in
      let ps : Parts = record { all = []; one = Some p } in
      let d : Part_form None [] [] (opened_parts ps) (opened (object ms)) = opened_form None [] [] ps false false ms form in record {
        type = None;
        written = [];
        are_written = refl;
        parts = opened_parts ps;
        members = d.members;
        is = d.is;
        form = d.form;
        every = refl;
        claimed = λ k. refl;
        choices = (tt, opened_any c on ts os v items);
        bare = λ e. cc;
      }

  module _ (json : IsJson v) (null_says : (w : Data) → (judge c null_schema).fits w ≡ verdict (is_null w)) where
    abbrev pub unit_offer : Text → VariantMatch
    unit_offer k = member_choice k is_null v

    unit_items : (ks : List Text) → AnyItems c on (map unit_object ks) (map unit_offer ks) v
    unit_items [] = tt
    unit_items (k ∷ ks) =
        ((false, member_item c on k is_null no_members false null_schema tt tt v json (λ w js less. null_says w)), unit_items ks)

    pub mixed_part : (notes : Members) → AreNotes notes → (k : Text) (ks : List Text) (ts : List Data) (os : List VariantMatch)
        → AnyItems c on ts os v
        → IsPart c on contract W v [] ((os ++ map unit_offer (k ∷ ks)) ∷ [])
        (flattened_part false (annotated notes (one_object (units_schema (k ∷ ks) ∷ ts))))
    mixed_part notes plain k ks ts os items =
        subst (IsPart c on contract W v [] ((os ++ map unit_offer (k ∷ ks)) ∷ []))
        (sym (ap (flattened_part false) (noted_by-object (notes ∷ [])
        (member (codes "oneOf") (array (items_of (units_schema (k ∷ ks) ∷ ts))) no_members))
        ∙ ap opened (mixed_units notes plain k ks ts)))
        (choices_part (ts ++ map unit_object (k ∷ ks)) (os ++ map unit_offer (k ∷ ks)) _ (mixed_form notes plain k ks ts)
        (any_append c on ts (map unit_object (k ∷ ks)) os (map unit_offer (k ∷ ks)) v items (unit_items (k ∷ ks))))

    pub lone_part : (notes : Members) → AreNotes notes → (k : Text) (ks : List Text)
        → IsPart c on contract W v [] (map unit_offer (k ∷ ks) ∷ []) (flattened_part false (annotated notes (units_schema (k ∷ ks))))
    lone_part notes plain k ks =
        subst (IsPart c on contract W v [] (map unit_offer (k ∷ ks) ∷ []))
        (sym (ap (flattened_part false) (noted_by-object (notes ∷ []) (lone notes plain k ks)) ∙ ap opened
        (all_units_made notes plain k ks)))
        (choices_part (map unit_object (k ∷ ks)) (map unit_offer (k ∷ ks)) _ (all_units_form notes plain k ks) (unit_items (k ∷ ks)))
