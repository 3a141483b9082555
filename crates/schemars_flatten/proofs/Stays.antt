-- Schemas of objects that let further members in stay as they are.
use Rattle.std.proofs.Common.{◌≡◌, Option, Some, None, Bool, true, false, refl, sym, ap, ◌∙◌, true≢false}
use Rattle.schemars_flatten.proofs.Words.{bytes_eq-Decides, and_parts, bytes_eq, codes, option_and_then, Data, null, string, object, Members, no_members, member, get_member, as_str, Text, NoSchemas, is_text, has_keys_once, is_object_keyword, are_object_keywords, is_object_schema, forms, in_keywords, same_object_place, opening, opened_here, opened, opened_inside, has_type, first_as_objects, list_changed_at, units_as_objects, flattened_part}
use Rattle.schemars_flatten.proofs.Lookups.{keyword_at, lacks}
use Rattle.schemars_flatten.proofs.Lists.{no_list}
use Rattle.schemars_flatten.proofs.UnitObjects.{no_units, units_missing}

-- no keyword of objects has this name
other_name : (k t : Text) (d : Data) → is_object_keyword k d ≡ true → is_object_keyword t d ≡ false
    → bytes_eq k t ≡ false
other_name k t d h never = go (bytes_eq k t) refl
  where
    go : (b : Bool) → bytes_eq k t ≡ b → b ≡ false
    go true is =
        absurd (true≢false (sym h ∙ (ap (λ x. is_object_keyword x d) ((bytes_eq-Decides k t).0 is) ∙ never)))
    go false is = refl

no_place : (k : Text) (d : Data) → is_object_keyword k d ≡ true → same_object_place k ≡ NoSchemas
no_place k d h =
    rw (
      other_name k (codes "if") d h refl,
      other_name k (codes "then") d h refl,
      other_name k (codes "else") d h refl,
      other_name k (codes "allOf") d h refl,
      other_name k (codes "anyOf") d h refl,
      other_name k (codes "oneOf") d h refl,
    ) refl

keywords_stay : (ms : Members) → are_object_keywords ms ≡ true → in_keywords opening tt ms ≡ ms
unfolding in_keywords
keywords_stay no_members all = refl
keywords_stay (member k d ms) all =
    let parts = and_parts (is_object_keyword k d) (are_object_keywords ms) all in
    rw (no_place k d parts.0, keywords_stay ms parts.1) refl

here_stays : (ms : Members) → are_object_keywords ms ≡ true → opened_here (object ms) ≡ object ms
here_stays ms all =
    rw (
      lacks (codes "additionalProperties") ms all (λ d. refl),
      lacks (codes "unevaluatedProperties") ms all (λ d. refl),
    ) refl

opened_stays : (ms : Members) → are_object_keywords ms ≡ true → opened (object ms) ≡ object ms
unfolding forms
opened_stays ms all = ap (λ x. opened_here (object x)) (keywords_stay ms all) ∙ here_stays ms all

no_text : (ms : Members) → are_object_keywords ms ≡ true → has_type (codes "string") (object ms) ≡ false
no_text ms all = go (get_member (codes "type") ms) refl
  where
    other : (o : Option Text) → is_text (codes "object") o ≡ true → is_text (codes "string") o ≡ false
    other None is = refl
    other (Some t) is = ap (λ x. bytes_eq x (codes "string")) ((bytes_eq-Decides t (codes "object")).0 is)

    go : (o : Option Data) → get_member (codes "type") ms ≡ o
        → is_text (codes "string") (option_and_then as_str o) ≡ false
    go None is = refl
    go (Some d) is = other (as_str d) (keyword_at (codes "type") ms d all is)

units_stay : (ms : Members) → are_object_keywords ms ≡ true → units_as_objects (object ms) ≡ object ms
units_stay ms all =
    let choice : object ms ≡ list_changed_at (codes "oneOf") first_as_objects (object ms) =
    no_list (codes "oneOf") first_as_objects (object ms) (object ms)
    (sym (lacks (codes "oneOf") ms all (λ d. refl))) refl in
    sym (units_missing (object ms) (object ms) (no_units (object ms) (no_text ms all)) choice)

pub open_object_stays : (s : Data) → is_object_schema s ≡ true → flattened_part false s ≡ s
open_object_stays (object ms) h =
    let all = (and_parts (are_object_keywords ms) (has_keys_once ms) h).0 in
    ap opened (units_stay ms all) ∙ opened_stays ms all
open_object_stays null h = absurd (true≢false (sym h))
open_object_stays _ h = absurd (true≢false (sym h))

pub open_object_stays_inside : (s : Data) → is_object_schema s ≡ true → opened_inside s ≡ s
open_object_stays_inside (object ms) h =
    ap object (keywords_stay ms (and_parts (are_object_keywords ms) (has_keys_once ms) h).0)
open_object_stays_inside null h = absurd (true≢false (sym h))
open_object_stays_inside _ h = absurd (true≢false (sym h))
