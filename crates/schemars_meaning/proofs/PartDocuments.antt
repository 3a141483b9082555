-- What rows answer where they are flattened: structs with their enums, and enums whose variants are maps.
use Rattle.std.proofs.Common.{◌≡◌, ℕ, List, [], ◌∷◌, ◌++◌, map, Option, Some, None, Bool, true, false, option_map, refl, sym, ap, ◌∙◌, subst}
use Rattle.schemars_meaning.proofs.Words.{codes, if◌then◌else◌, option_and_then, Data, array, object, string, Members, no_members, member, get, get_member, as_str, as_array, items_of, Text, is_annotation, AreNotes, Context, opened, flattened_part, unit_objects, list_changed_at, Field, annotated, required_names, VariantMatch, every_part, is_key_of_match, without, on_list, removed, replaced, get_member-later, get_member-without, sorted-without, flattened, units_of, first_units, optional, choice_or_anything, with_empty_object, one_or_anything, is_text}
use Rattle.schemars_types.specs.declared.contract.Contract.{Contract}
use Rattle.schemars_meaning.proofs.MapKeywords.{noted, noted_by-object, noted-beside, sorted-noted, closed_there, required_there, properties_there}
use Rattle.schemars_meaning.proofs.MapForm.{look_up}
use Rattle.schemars_meaning.proofs.Offers.{one_object}
use Rattle.schemars_meaning.proofs.StructForm.{Part, Parts, choices_in, any_keywords, struct_keywords, all_there, one_there, additional_there}
use Rattle.schemars_meaning.proofs.Uniting.{IsForm, part_keywords, by_seven, look_up-other}
use Rattle.schemars_meaning.proofs.Opened.{no_parts, opened_form, opened_parts, opened_part, opened_one, Part_form, rest_open}
use Rattle.schemars_meaning.proofs.Items.{IsItem, AnyItems, any_items, opened_any, OneIs, choices_opened}
use Rattle.schemars_meaning.proofs.Spread.{field_keywords, AreWritten}
use Rattle.schemars_meaning.proofs.StructDocuments.{IsStruct, IsPart, HasNoUnits, part_form, units_missing}
use Rattle.schemars_meaning.proofs.Joining.{without-here}

-- where there is no choice, nothing but `required` goes
optional_same : (xs : Members) → get_member (codes "oneOf") xs ≡ None → get_member (codes "anyOf") xs ≡ None
    → list_changed_at (codes "anyOf") with_empty_object (choice_or_anything (object xs)) ≡ object xs
optional_same xs one any =
    ap (λ s. list_changed_at (codes "anyOf") with_empty_object s) (first (get_member (codes "oneOf") xs) one)
    ∙ second (get_member (codes "anyOf") xs) any
  where
    first : (o : Option Data) → o ≡ None → elim o as (λ z. Data) [
      | None ↦ object xs
      | Some choice ↦ flattened (removed (codes "oneOf") (object xs)) (one_or_anything choice)
    ] ≡ object xs
    first None is = refl
    first (Some d) is = cc

    second : (o : Option Data) → o ≡ None → elim o as (λ z. Data) [
      | None ↦ object xs
      | Some d ↦ object (replaced (codes "anyOf") (on_list with_empty_object d) xs)
    ] ≡ object xs
    second None is = refl
    second (Some d) is = cc

module _ (c : Context) (on : c.dialect.reads_unevaluated ≡ true) where
  -- a schema of maps lists no texts
  item_no_units : (closed : Bool) (t : Data) (o : VariantMatch) (v : Data) → IsItem c on closed t o v → units_of t ≡ None
  item_no_units closed t o v i = ap units_of i.is ∙ go (get_member (codes "type") i.members) (i.form.at (codes "type") refl)
    where
      go : (z : Option Data) → z ≡ Some (string (codes "object"))
          → (if is_text (codes "string") (option_and_then as_str z)
          then option_map unit_objects (option_and_then as_array (get (codes "enum") (object i.members))) else None) ≡ None
      go z is = ap (λ y. if is_text (codes "string") (option_and_then as_str y)
          then option_map unit_objects (option_and_then as_array (get (codes "enum") (object i.members))) else None) is

  items_no_units : (ts : List Data) (os : List VariantMatch) (v : Data) → AnyItems c on ts os v → first_units (items_of ts) ≡ None
  items_no_units [] [] v h = refl
  items_no_units [] (o ∷ os) v h = absurd h
  items_no_units (t ∷ ts) [] v h = absurd h
  items_no_units (t ∷ ts) (o ∷ os) v h = item_no_units h.0.0 t o v h.0.1

  no_units : (o : Option Part) (v : Data) → OneIs c on o v → HasNoUnits o
  no_units None v h = tt
  no_units (Some p) v h = items_no_units p.items p.choices v (any_items c on false p.items p.choices v h)

  -- opening keeps what the parts offer
  all_kept : (ps : List Part) → map (λ (p : Part). p.choices) (map opened_part ps) ≡ map (λ (p : Part). p.choices) ps
  all_kept [] = refl
  all_kept (p ∷ ps) = ap (λ xs. p.choices ∷ xs) (all_kept ps)

  choices_kept : (ps : Parts) → choices_in (opened_parts ps) ≡ choices_in ps
  choices_kept ps = (λ i. all_kept ps.all i ++ one_kept ps.one i)
    where
      one_kept : (o : Option Part) → choices_in (record { all = []; one = opened_one o }) ≡ choices_in (record { all = []; one = o })
      one_kept None = refl
      one_kept (Some p) = refl

  module _ (contract : Contract) (W : ℕ → Data → Type 0) (v : Data) where
    -- an open struct, with the enums that it flattens itself
    pub struct_part : (xs : List Field) (os : List (List VariantMatch)) (s : Data) → IsStruct c on contract W v xs os false s
        → IsPart c on contract W v xs os (flattened_part false s)
    unfolding closed_there
    struct_part xs os s a =
        let es = field_keywords xs a.written in
        let t : Option Data = Some (string (codes "object")) in
        let ns = required_names contract xs in
        let rest = rest_open a.parts in
        let form : IsForm (any_keywords t es ns a.parts None None) a.members =
        subst (λ z. IsForm (any_keywords t es ns a.parts z None) a.members) rest.0
        (subst (λ z. IsForm (any_keywords t es ns a.parts (additional_there a.parts false) z) a.members) rest.1 a.form) in
        let d : Part_form t es ns (opened_parts a.parts) (flattened_part false (object a.members)) =
        part_form t es ns a.parts false false a.members form refl (no_units a.parts.one v a.choices.1) in record {
          type = t;
          written = a.written;
          are_written = a.are_written;
          parts = opened_parts a.parts;
          members = d.members;
          is = ap (flattened_part false) a.is ∙ d.is;
          form = d.form;
          every = ap every_part (choices_kept a.parts) ∙ a.every;
          claimed = λ k. ap (λ xs. is_key_of_match xs k) (choices_kept a.parts) ∙ a.claimed k;
          choices = choices_opened c on a.parts v a.choices;
          bare = λ e. ap opened_parts (a.bare e);
        }

    -- a struct without enums that may be missing
    pub optional_part : (xs : List Field) (s : Data) → IsStruct c on contract W v xs [] false s
        → (ys : List Field) → ((ts : List Data) → AreWritten W xs ts → AreWritten W ys ts)
        → ((ts : List Data) → field_keywords ys ts ≡ field_keywords xs ts) → required_names contract ys ≡ []
        → IsPart c on contract W v ys [] (flattened_part true s)
    unfolding closed_there all_there one_there required_there
    optional_part xs s a ys written same none =
        let es = field_keywords xs a.written in
        let t : Option Data = Some (string (codes "object")) in
        let old : IsForm (struct_keywords es (required_names contract xs) no_parts false) a.members =
        subst (λ ps. IsForm (struct_keywords es (required_names contract xs) ps false) a.members) (a.bare refl) a.form in
        let form : IsForm (any_keywords t es [] no_parts None None) (without (codes "required") a.members) = record {
          sorted = sorted-without (codes "required") a.members old.sorted;
          at =
              by_seven (λ q. is_annotation q ≡ false → get_member q (without (codes "required") a.members) ≡ look_up
              (any_keywords t es [] no_parts None None) q)
              (λ e. get_member-without (codes "type") (codes "required") a.members refl ∙ old.at (codes "type") e)
              (λ e. get_member-without (codes "properties") (codes "required") a.members refl ∙ old.at (codes "properties") e)
              (λ e. without-here (codes "required") a.members old.sorted)
              (λ e. get_member-without (codes "additionalProperties") (codes "required") a.members refl ∙ old.at
              (codes "additionalProperties") e)
              (λ e. get_member-without (codes "allOf") (codes "required") a.members refl ∙ old.at (codes "allOf") e)
              (λ e. get_member-without (codes "oneOf") (codes "required") a.members refl ∙ old.at (codes "oneOf") e)
              (λ e. get_member-without (codes "unevaluatedProperties") (codes "required") a.members refl ∙ old.at
              (codes "unevaluatedProperties") e)
              (λ q y p n d k o u e. get_member-without q (codes "required") a.members n ∙ (old.at q e
              ∙ (look_up-other (struct_keywords es (required_names contract xs) no_parts false) q y p n d k o u
              ∙ sym (look_up-other (any_keywords t es [] no_parts None None) q y p n d k o u))));
        } in
        let d : Part_form t es [] (opened_parts no_parts) (flattened_part true (object a.members)) =
        subst (Part_form t es [] (opened_parts no_parts))
        (sym (ap (λ x. opened (optional x)) (units_missing t es (required_names contract xs) no_parts false false a.members old refl tt)
        ∙ ap opened (optional_same (without (codes "required") a.members) (form.at (codes "oneOf") refl) (form.at (codes "anyOf") refl))))
        (opened_form t es [] no_parts false false (without (codes "required") a.members) form) in record {
          type = t;
          written = a.written;
          are_written = written a.written a.are_written;
          parts = no_parts;
          members = d.members;
          is = ap (flattened_part true) a.is ∙ d.is;
          form = subst (λ ns. IsForm (part_keywords t (field_keywords ys a.written) ns no_parts) d.members) (sym none)
              (subst (λ es. IsForm (part_keywords t es [] no_parts) d.members) (sym (same a.written)) d.form);
          every = refl;
          claimed = λ k. refl;
          choices = (tt, tt);
          bare = λ e. refl;
        }

    -- an enum whose variants are maps
    pub enum_part : (notes : Members) (ts : List Data) (os : List VariantMatch) → AreNotes notes → AnyItems c on ts os v
        → IsPart c on contract W v [] (os ∷ []) (flattened_part false (annotated notes (one_object ts)))
    unfolding closed_there all_there one_there properties_there required_there
    enum_part notes ts os plain items =
        let p : Part = record { items = ts; choices = os } in
        let ps : Parts = record { all = []; one = Some p } in
        let ms : Members = noted (notes ∷ []) (member (codes "oneOf") (array (items_of ts)) no_members) in
        let d : Part_form None [] [] (opened_parts ps) (flattened_part false (object ms)) =
        part_form None [] [] ps false false ms form refl (items_no_units ts os v items) in record {
          type = None;
          written = [];
          are_written = refl;
          parts = opened_parts ps;
          members = d.members;
          is = ap (flattened_part false) (noted_by-object (notes ∷ []) (member (codes "oneOf") (array (items_of ts)) no_members)) ∙ d.is;
          form = d.form;
          every = refl;
          claimed = λ k. refl;
          choices = (tt, opened_any c on ts os v items);
          bare = λ e. cc;
        }
      where
        at : (k : Text) → get_member k (member (codes "oneOf") (array (items_of ts)) no_members) ≡ look_up
            (any_keywords None [] [] (record { all = []; one = Some (record { items = ts; choices = os }) }) None None) k
        at = by_seven (λ k. get_member k (member (codes "oneOf") (array (items_of ts)) no_members) ≡ look_up
            (any_keywords None [] []
            (record { all = []; one = Some (record { items = ts; choices = os }) }) None None) k) refl refl refl refl refl refl refl
            (λ k t p n c a o u. get_member-later k (codes "oneOf") (array (items_of ts)) no_members o ∙ sym (look_up-other
            (any_keywords None [] [] (record { all = []; one = Some (record { items = ts; choices = os }) }) None None) k t p n c a o u))

        form : IsForm (any_keywords None [] [] (record { all = []; one = Some (record { items = ts; choices = os }) }) (closed_there false)
            (closed_there false)) (noted (notes ∷ []) (member (codes "oneOf") (array (items_of ts)) no_members))
        form = record {
          sorted = sorted-noted (notes ∷ []) (member (codes "oneOf") (array (items_of ts)) no_members) (tt, tt);
          at = λ k e. noted-beside k (notes ∷ []) (member (codes "oneOf") (array (items_of ts)) no_members) e (plain, tt) ∙ at k;
        }
