-- Where nothing inside a schema refuses further members, opening takes nothing out.
use Rattle.std.proofs.Common.{◌≡◌, Bool, true, false, refl, ap, ◌∙◌}
use Rattle.schemars_flatten.proofs.Words.{or_parts, ◌||◌, codes, if◌then◌else◌, Data, null, array, object, Items, no_items, item, Members, no_members, member, Text, is_listed, NoSchemas, OneSchema, SchemaList, with_same_object, with_same_objects, form_at, forms, in_items, in_keywords, closes_by, closes, opened_at, opened_here, same_object_place, opening, opened, opened_inside, closed_at, closed_in, closed_in_items, closed_in_keywords, closes_inside, has_type, must_be_in_place}

here_unchanged : (s : Data) → closes s ≡ false → opened_here s ≡ s
here_unchanged s h =
    let each =
    or_parts (closes_by (codes "additionalProperties") s) (closes_by (codes "unevaluatedProperties") s) h in
    let first : opened_at (codes "additionalProperties") s ≡ s = rw (each.0) refl in
    let second : opened_at (codes "unevaluatedProperties") s ≡ s = rw (each.1) refl in
    ap (opened_at (codes "unevaluatedProperties")) first ∙ second

-- what stands under a keyword, where a schema there stays, and the schemas of a list
keyword_unchanged : (k : Text) (d : Data) → ((closed_in d).in_schema ≡ false → opened d ≡ d)
    → ((closed_in d).in_list ≡ false → (forms opening tt d).as_list ≡ d) → closed_at k (closed_in d) ≡ false
    → form_at (same_object_place k) d (forms opening tt d) ≡ d
keyword_unchanged k d one each h = go (is_listed k with_same_object) (is_listed k with_same_objects) h
  where
    go : (holds lists : Bool)
        → (if holds then (closed_in d).in_schema else if lists then (closed_in d).in_list else false) ≡ false
        → form_at (if holds then OneSchema else if lists then SchemaList else NoSchemas) d (forms opening tt d) ≡ d
    go true lists h = one h
    go false true h = each h
    go false false h = refl

mutual
  unfolding forms in_items in_keywords closed_in closed_in_items closed_in_keywords

  schema_unchanged : (d : Data) → (closed_in d).in_schema ≡ false → opened d ≡ d
  schema_unchanged (object ms) h =
      let each = or_parts (closes (object ms)) (closed_in_keywords ms) h in
      ap (λ x. opened_here (object x)) (keywords_unchanged ms each.1) ∙ here_unchanged (object ms) each.0
  schema_unchanged _ h = refl

  items_unchanged : (ds : Items) → closed_in_items ds ≡ false → in_items opening tt ds ≡ ds
  items_unchanged no_items h = refl
  items_unchanged (item d ds) h =
      let each = or_parts (closed_in d).in_schema (closed_in_items ds) h in
      rw (schema_unchanged d each.0, items_unchanged ds each.1) refl

  list_unchanged : (d : Data) → (closed_in d).in_list ≡ false → (forms opening tt d).as_list ≡ d
  list_unchanged (array ds) h = ap array (items_unchanged ds h)
  list_unchanged _ h = refl

  keywords_unchanged : (ms : Members) → closed_in_keywords ms ≡ false → in_keywords opening tt ms ≡ ms
  keywords_unchanged no_members h = refl
  keywords_unchanged (member k d ms) h =
      let each = or_parts (closed_at k (closed_in d)) (closed_in_keywords ms) h in
      rw (
        keyword_unchanged k d (λ f. schema_unchanged d f) (λ f. list_unchanged d f) each.0,
        keywords_unchanged ms each.1,
      ) refl

pub inside_unchanged : (s : Data) → closes_inside s ≡ false → opened_inside s ≡ s
inside_unchanged (object ms) h = ap object (keywords_unchanged ms h)
inside_unchanged _ h = refl

-- so a reference may stand for the document
pub reference_unchanged : (inline : Bool) (s : Data) → must_be_in_place inline s ≡ false → opened_inside s ≡ s
reference_unchanged inline s h =
    let rest = (or_parts inline (has_type (codes "null") s || (closes s || closes_inside s)) h).1 in
    let closed = (or_parts (has_type (codes "null") s) (closes s || closes_inside s) rest).1 in
    inside_unchanged s (or_parts (closes s) (closes_inside s) closed).1
