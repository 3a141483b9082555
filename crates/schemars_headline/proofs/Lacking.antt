-- Schemas without a key of definitions: it does not come in where they are put together or opened.
use Rattle.std.proofs.Common.{◌≡◌, inl, inr, Option, Some, None, Bool, true, false, Ordering, Less, Equal, Greater, nat_cmp, refl, ◌∙◌}
use Rattle.schemars_headline.proofs.Words.{HasNeither, IsOther, ◌||◌, codes, if◌then◌else◌, bytes_eq, match_ordering, slice_cmp, exact_bytes, Data, null, boolean, number, string, array, object, Items, no_items, Members, no_members, member, put, get_member, get_member-put_other, Text, without, replaced, members_in, flattened, form_at, flattened_part, nat_list_cmp_total, tied_itself, get, removed, changed_at, on_list, contains_key, has_subschema, moved, moved_beside, opened_schema, united, with_united, both_choices, with_choice, is_choice, with_keyword, closes_by, opened_at, opened_here, same_object_place, opening, opened, opened_inside, units_of, with_items, with_units, first_as_objects, list_changed_at, units_as_objects, with_empty_object, one_or_anything, choice_or_anything, optional_where, forms, in_keywords}
use Rattle.schemars_flatten.specs.Flatten as flatten
use Rattle.schemars_flatten.specs.Flatten.{with_keywords}
use Rattle.schemars_headline.proofs.Keys.{IsDefinitionsKey, other_apart}

module _ (key : Text) (is_key : IsDefinitionsKey key) where
  abbrev pub Lacks : Members → Type 0
  Lacks ms = get_member key ms ≡ None

  -- of a schema, once it is an object
  abbrev pub LacksIn : Data → Type 0
  LacksIn s = Lacks (members_in s)

  abbrev IsApart : Text → Type 0
  IsApart k = key ≡ k → ⊥

  apart : (k : Text) → IsOther k → IsApart k
  apart k other = other_apart key k is_key other

  -- where computation shows that the keys differ
  pub lacks_both : (d : Data) → HasNeither d → LacksIn d
  lacks_both d h = go is_key
    where
      go : IsDefinitionsKey key → LacksIn d
      go (inl is) = rw is h.0
      go (inr is) = rw is h.1

  -- what is no object has no keywords but `not`
  none_in : (b : Bool) → LacksIn (boolean b)
  none_in true = refl
  none_in false = lacks_both (boolean false) (refl, refl)

  -- ---- members that are put in, taken out and looked up

  lacks_put_apart : (k : Text) (d : Data) (ms : Members) → IsApart k → Lacks ms → Lacks (put k d ms)
  lacks_put_apart k d ms other h = get_member-put_other key k d ms other ∙ h

  pub lacks-put : (k : Text) (d : Data) (ms : Members) → IsOther k → Lacks ms → Lacks (put k d ms)
  lacks-put k d ms other h = lacks_put_apart k d ms (apart k other) h

  by_order : (o : Ordering) (e : Data) (found : Option Data) → match_ordering o found (Some e) found ≡ None → found ≡ None
  by_order Less e found h = h
  by_order Equal e found h = cc
  by_order Greater e found h = h

  lacks_behind : (k : Text) (d : Data) (ms : Members) → Lacks (member k d ms) → Lacks ms
  lacks_behind k d ms h = by_order (slice_cmp nat_cmp key k) d (get_member key ms) h

  apart_ahead : (k : Text) (d : Data) (ms : Members) → Lacks (member k d ms) → IsApart k
  apart_ahead k d ms h same =
      let found : get_member key (member k d ms) ≡ Some d = rw (← same) (rw (tied_itself nat_list_cmp_total key)) in cc

  lacks_ahead : (k : Text) (d : Data) (ms : Members) → IsApart k → Lacks ms → Lacks (member k d ms)
  lacks_ahead k d ms other h = go (slice_cmp nat_cmp key k) refl
    where
      go : (o : Ordering) → slice_cmp nat_cmp key k ≡ o → match_ordering o (get_member key ms) (Some d) (get_member key ms) ≡ None
      go Less is = h
      go Equal is = absurd (other (exact_bytes key k is))
      go Greater is = h

  pub lacks_without : (k : Text) (ms : Members) → Lacks ms → Lacks (without k ms)
  lacks_without k no_members h = h
  lacks_without k (member l e ms) h = go (bytes_eq k l) (lacks_without k ms (lacks_behind l e ms h))
    where
      go : (b : Bool) → Lacks (without k ms) → Lacks (if b then ms else member l e (without k ms))
      go true later = lacks_behind l e ms h
      go false later = lacks_ahead l e (without k ms) (apart_ahead l e ms h) later

  lacks_replaced : (k : Text) (d : Data) (ms : Members) → Lacks ms → Lacks (replaced k d ms)
  lacks_replaced k d no_members h = h
  lacks_replaced k d (member l e ms) h = go (bytes_eq k l) (lacks_replaced k d ms (lacks_behind l e ms h))
    where
      go : (b : Bool) → Lacks (replaced k d ms) → Lacks (if b then member l d ms else member l e (replaced k d ms))
      go true later = lacks_ahead l d ms (apart_ahead l e ms h) (lacks_behind l e ms h)
      go false later = lacks_ahead l e (replaced k d ms) (apart_ahead l e ms h) later

  lacks_removed : (k : Text) (s : Data) → LacksIn s → LacksIn (removed k s)
  lacks_removed k (object ms) h = lacks_without k ms h
  lacks_removed k _ h = h

  lacks_changed_at : (k : Text) (change : Data → Data) (d : Data) (ms : Members) → IsOther k → Lacks ms → Lacks (changed_at k change d ms)
  lacks_changed_at k change d ms other h = go (get_member k ms)
    where
      go : (o : Option Data) → Lacks (elim o [ None ↦ put k (change d) ms | Some e ↦ replaced k (change e) ms ])
      go None = lacks-put k (change d) ms other h
      go (Some e) = lacks_replaced k (change e) ms h

  -- ---- two schemas in one

  lacks_united : (k : Text) (d : Data) (ms : Members) → IsApart k → Lacks ms → Lacks (with_united k d ms)
  lacks_united k d ms other h = go (get_member k ms)
    where
      go : (o : Option Data) → Lacks (elim o [ None ↦ put k d ms | Some e ↦ replaced k (united k e d) ms ])
      go None = lacks_put_apart k d ms other h
      go (Some e) = lacks_replaced k (united k e d) ms h

  lacks_chosen : (k : Text) (d : Data) (ms : Members) → IsApart k → Lacks ms → Lacks (with_choice k d ms)
  lacks_chosen k d ms other h = go (get_member k ms)
    where
      go : (o : Option Data) → Lacks (elim o [
        | None ↦ put k d ms
        | Some e ↦ with_united (codes "allOf") (both_choices k e d) (without k ms)
      ])
      go None = lacks_put_apart k d ms other h
      go (Some e) = lacks_united (codes "allOf") (both_choices k e d) (without k ms) (apart (codes "allOf") refl) (lacks_without k ms h)

  lacks_keyword : (k : Text) (d : Data) (ms : Members) → IsApart k → Lacks ms → Lacks (with_keyword k d ms)
  lacks_keyword k d ms other h = go (is_choice k)
    where
      go : (b : Bool) → Lacks (if b then with_choice k d ms else with_united k d ms)
      go true = lacks_chosen k d ms other h
      go false = lacks_united k d ms other h

  lacks_keywords : (others ms : Members) → Lacks others → Lacks ms → Lacks (with_keywords others ms)
  lacks_keywords no_members ms new h = h
  lacks_keywords (member k d others) ms new h = lacks_keywords others (with_keyword k d ms) (lacks_behind k d others new)
      (lacks_keyword k d ms (apart_ahead k d others new) h)

  lacks_moved : (ms : Members) → Lacks ms → Lacks (moved ms)
  lacks_moved ms h = go (get_member (codes "additionalProperties") ms)
    where
      go : (o : Option Data) → Lacks (elim o [
        | None ↦ ms
        | Some d ↦ put (codes "unevaluatedProperties") d (without (codes "additionalProperties") ms)
      ])
      go None = h
      go (Some d) = lacks-put (codes "unevaluatedProperties") d (without (codes "additionalProperties") ms) refl
          (lacks_without (codes "additionalProperties") ms h)

  lacks_moved_beside : (others ms : Members) → Lacks ms → Lacks (moved_beside others ms)
  lacks_moved_beside others ms h = go (contains_key (codes "unevaluatedProperties") others || has_subschema others)
    where
      go : (b : Bool) → Lacks (if b then moved ms else ms)
      go true = lacks_moved ms h
      go false = h

  lacks_let_in : (ms : Members) → Lacks ms → Lacks (flatten.opened_keywords ms)
  lacks_let_in ms h =
      go (contains_key (codes "additionalProperties") ms || contains_key (codes "unevaluatedProperties") ms) (has_subschema ms)
    where
      go : (stays combined : Bool) → Lacks (if stays then ms else
          put (if combined then codes "unevaluatedProperties" else codes "additionalProperties") (boolean true) ms)
      go true combined = h
      go false true = lacks-put (codes "unevaluatedProperties") (boolean true) ms refl h
      go false false = lacks-put (codes "additionalProperties") (boolean true) ms refl h

  pub lacks_flattened : (s o : Data) → LacksIn s → LacksIn o → LacksIn (flattened s o)
  lacks_flattened s (object others) h new =
      let beside = moved_beside others (members_in s) in
      let start = lacks_moved_beside others (members_in s) h in
      lacks_keywords (moved_beside beside others) beside (lacks_moved_beside beside others new) start
  lacks_flattened s (boolean true) h new = go s h
    where
      go : (d : Data) → LacksIn d → LacksIn (opened_schema d)
      go (object ms) f = lacks_let_in ms f
      go null f = f
      go (boolean b) f = f
      go (number n) f = f
      go (string t) f = f
      go (array ds) f = f
  lacks_flattened s _ h new = h

  -- ---- opening

  lacks_opened_at : (k : Text) (s : Data) → LacksIn s → LacksIn (opened_at k s)
  lacks_opened_at k s h = go (closes_by k s)
    where
      go : (b : Bool) → LacksIn (if b then removed k s else s)
      go true = lacks_removed k s h
      go false = h

  lacks_opened_here : (s : Data) → LacksIn s → LacksIn (opened_here s)
  lacks_opened_here s h =
      lacks_opened_at (codes "unevaluatedProperties") (opened_at (codes "additionalProperties") s)
      (lacks_opened_at (codes "additionalProperties") s h)

  lacks_in_keywords : (ms : Members) → Lacks ms → Lacks (in_keywords opening tt ms)
  unfolding forms in_keywords
  lacks_in_keywords no_members h = h
  lacks_in_keywords (member k d ms) h =
      lacks_ahead k (form_at (same_object_place k) d (forms opening tt d)) (in_keywords opening tt ms) (apart_ahead k d ms h)
      (lacks_in_keywords ms (lacks_behind k d ms h))

  lacks_opened : (s : Data) → LacksIn s → LacksIn (opened s)
  unfolding forms in_keywords
  lacks_opened (object ms) h = lacks_opened_here (object (in_keywords opening tt ms)) (lacks_in_keywords ms h)
  lacks_opened (boolean b) h = lacks_opened_here (boolean b) h
  lacks_opened _ h = h

  pub lacks_opened_inside : (s : Data) → LacksIn s → LacksIn (opened_inside s)
  lacks_opened_inside (object ms) h = lacks_in_keywords ms h
  lacks_opened_inside _ h = h

  -- ---- units, and parts that may be missing

  lacks_list_changed : (k : Text) (change : Items → Items) (s : Data) → LacksIn s → LacksIn (list_changed_at k change s)
  lacks_list_changed k change s h = go (get k s)
    where
      go : (o : Option Data) → LacksIn (elim o [ None ↦ s | Some d ↦ object (replaced k (on_list change d) (members_in s)) ])
      go None = h
      go (Some d) = lacks_replaced k (on_list change d) (members_in s) h

  lacks_units : (s : Data) → LacksIn s → LacksIn (units_as_objects s)
  lacks_units s h = go (units_of s)
    where
      go : (o : Option Items) → LacksIn (elim o [
        | None ↦ list_changed_at (codes "oneOf") first_as_objects s
        | Some units ↦ with_units units (removed (codes "type") (removed (codes "enum") s))
      ])
      go None = lacks_list_changed (codes "oneOf") first_as_objects s h
      go (Some units) =
          let rest = removed (codes "type") (removed (codes "enum") s) in
          lacks_changed_at (codes "oneOf") (with_items units) (array no_items) (members_in rest) refl
          (lacks_removed (codes "type") (removed (codes "enum") s) (lacks_removed (codes "enum") s h))

  lacks_choice : (s : Data) → LacksIn s → LacksIn (choice_or_anything s)
  lacks_choice s h = go (get (codes "oneOf") s)
    where
      go : (o : Option Data) → LacksIn (elim o [
        | None ↦ s
        | Some choice ↦ flattened (removed (codes "oneOf") s) (one_or_anything choice)
      ])
      go None = h
      go (Some choice) = lacks_flattened (removed (codes "oneOf") s) (one_or_anything choice) (lacks_removed (codes "oneOf") s h)
          (lacks_both (one_or_anything choice) (refl, refl))

  lacks_optional : (b : Bool) (s : Data) → LacksIn s → LacksIn (optional_where b s)
  lacks_optional false s h = h
  lacks_optional true s h = lacks_list_changed (codes "anyOf") with_empty_object (choice_or_anything (removed (codes "required") s))
      (lacks_choice (removed (codes "required") s) (lacks_removed (codes "required") s h))

  pub lacks_flattened_part : (b : Bool) (s : Data) → LacksIn s → LacksIn (flattened_part b s)
  lacks_flattened_part b s h =
      lacks_opened (optional_where b (units_as_objects s)) (lacks_optional b (units_as_objects s) (lacks_units s h))
