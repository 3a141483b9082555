-- What is made of schemas are schemas.
use Rattle.std.proofs.Common.{Option, Some, None, Bool, true, false}
use Rattle.schemars_flatten.proofs.Words.{codes, if◌then◌else◌, Data, null, boolean, number, string, array, object, Items, get, Text, IsSchema, members_in, removed, replaced, on_list, opened_schema, flattened, forms, in_keywords, closes_by, opened_at, opened_here, opening, opened, opened_inside, units_of, with_units, first_as_objects, list_changed_at, units_as_objects, with_empty_object, one_or_anything, choice_or_anything, optional_where, flattened_part}

removed-schema : (k : Text) (s : Data) → IsSchema s → IsSchema (removed k s)
removed-schema k (boolean b) h = tt
removed-schema k (object ms) h = tt
removed-schema k _ h = absurd h

pub flattened-schema : (s o : Data) → IsSchema s → IsSchema (flattened s o)
flattened-schema s (boolean true) h = go s h
  where
    go : (d : Data) → IsSchema d → IsSchema (opened_schema d)
    go (boolean b) f = tt
    go (object ms) f = tt
    go null f = absurd f
    go (number n) f = absurd f
    go (string t) f = absurd f
    go (array ds) f = absurd f
flattened-schema s (object ms) h = tt
flattened-schema s _ h = h

opened_at-schema : (k : Text) (s : Data) → IsSchema s → IsSchema (opened_at k s)
opened_at-schema k s h = go (closes_by k s)
  where
    go : (b : Bool) → IsSchema (if b then removed k s else s)
    go true = removed-schema k s h
    go false = h

opened_here-schema : (s : Data) → IsSchema s → IsSchema (opened_here s)
opened_here-schema s h =
    opened_at-schema (codes "unevaluatedProperties") (opened_at (codes "additionalProperties") s)
    (opened_at-schema (codes "additionalProperties") s h)

opened-schema : (s : Data) → IsSchema s → IsSchema (opened s)
unfolding forms
opened-schema (boolean b) h = opened_here-schema (boolean b) tt
opened-schema (object ms) h = opened_here-schema (object (in_keywords opening tt ms)) tt
opened-schema _ h = absurd h

pub opened_inside-schema : (s : Data) → IsSchema s → IsSchema (opened_inside s)
opened_inside-schema (boolean b) h = tt
opened_inside-schema (object ms) h = tt
opened_inside-schema _ h = absurd h

list_changed-schema : (k : Text) (change : Items → Items) (s : Data) → IsSchema s
    → IsSchema (list_changed_at k change s)
list_changed-schema k change s h = go (get k s)
  where
    go : (o : Option Data)
        → IsSchema (elim o [ None ↦ s | Some d ↦ object (replaced k (on_list change d) (members_in s)) ])
    go None = h
    go (Some d) = tt

units-schema : (s : Data) → IsSchema s → IsSchema (units_as_objects s)
units-schema s h = go (units_of s)
  where
    go : (o : Option Items) → IsSchema (elim o [
      | None ↦ list_changed_at (codes "oneOf") first_as_objects s
      | Some units ↦ with_units units (removed (codes "type") (removed (codes "enum") s))
    ])
    go None = list_changed-schema (codes "oneOf") first_as_objects s h
    go (Some units) = tt

choice-schema : (s : Data) → IsSchema s → IsSchema (choice_or_anything s)
choice-schema s h = go (get (codes "oneOf") s)
  where
    go : (o : Option Data) → IsSchema (elim o [
      | None ↦ s
      | Some choice ↦ flattened (removed (codes "oneOf") s) (one_or_anything choice)
    ])
    go None = h
    go (Some choice) = tt

optional-schema : (b : Bool) (s : Data) → IsSchema s → IsSchema (optional_where b s)
optional-schema false s h = h
optional-schema true s h =
    list_changed-schema (codes "anyOf") with_empty_object (choice_or_anything (removed (codes "required") s))
    (choice-schema (removed (codes "required") s) (removed-schema (codes "required") s h))

pub flattened_part-schema : (b : Bool) (s : Data) → IsSchema s → IsSchema (flattened_part b s)
flattened_part-schema b s h =
    opened-schema (optional_where b (units_as_objects s)) (optional-schema b (units_as_objects s) (units-schema s h))
