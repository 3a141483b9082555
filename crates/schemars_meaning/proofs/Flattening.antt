-- The documents of maps put into one another, and into the content of a tagged variant.
use Rattle.std.proofs.Common.{◌≡◌, List, [], ◌∷◌, ◌++◌, Option, Some, None, Bool, true, false, refl, sym, ap, ◌∙◌, true≢false}
use Rattle.schemars_meaning.proofs.Words.{◌&&◌, bytes_eq, codes, if◌then◌else◌, option_and_then, Data, string, array, object, no_items, Members, no_members, member, put, get, get_member, as_str, as_array, get_member-put, get_member-put_other, Text, replaced, removed, with_member, with_first, on_list, is_annotation, NoSchemas, differ, IsSorted, sorted-put, with_property, has_null_type, internally_tagged_variant, unit_variant, united_all, flattened, united_option, united_none, opened, unit_objects, first_as_objects, list_changed_at, units_as_objects, flattened_part, Keyword, option_map, is_text, same_members, closed_where, is_joined, is_merged, moved_beside, either_option, same_object_place, opening, opened_here, has_type, with_units, forms, in_keywords}
use Rattle.schemars_builders.specs.Properties.{tagged}
use Rattle.schemars_flatten.specs.Flatten.{with_keywords}
use Rattle.schemars_meaning.proofs.MapDocument.{map_document, noted_by, AllNotes}
use Rattle.schemars_meaning.proofs.MapKeywords.{either_none, put_all-append, by_name, noted, noted_by-object, sorted-noted, noted-at, noted-beside, keywords, properties_there, required_there, closed_there, sorted-keywords, type-at, properties-at, required-at, closed-at, keyword-lacks, value_or, changed_at-here, changed_at-beside, sorted-changed_at, lacks-first, lacks-later, sorted-with_keywords, NoChoice, with_keywords-at, properties-united, required-united}

-- ---- the content of a variant that is tagged by a member of its object

module _ (notes : List Members) (tag name : Text) (es : List Keyword) (r : List Text) (closed : Bool) (all : AllNotes notes) where
  content : Members
  content = noted notes (keywords es r closed)

  with_tag : Members
  with_tag = noted notes (keywords (es ++ (tag, unit_variant name) ∷ []) (tag ∷ r) closed)

  content-at : (q : Text) → is_annotation q ≡ false → get_member q content ≡ get_member q (keywords es r closed)
  unfolding content
  content-at q e = noted-beside q notes (keywords es r closed) e all

  with_tag-at : (q : Text) → is_annotation q ≡ false
      → get_member q with_tag ≡ get_member q (keywords (es ++ (tag, unit_variant name) ∷ []) (tag ∷ r) closed)
  unfolding with_tag
  with_tag-at q e = noted-beside q notes (keywords (es ++ (tag, unit_variant name) ∷ []) (tag ∷ r) closed) e all

  with_type : Members
  with_type = put (codes "type") (string (codes "object")) content

  -- nothing but the tag joins
  tagged-beside : (q : Text) → bytes_eq q (codes "required") ≡ false → bytes_eq q (codes "properties") ≡ false
      → get_member q (tagged tag name content) ≡ get_member q with_type
  unfolding with_type
  tagged-beside q no_required no_properties =
      changed_at-beside q (codes "required") (with_first (string tag)) (array no_items)
      (with_property tag (unit_variant name) with_type) no_required
      ∙ changed_at-beside q (codes "properties") (with_member tag (unit_variant name)) (object no_members) with_type no_properties

  with_type-beside : (q : Text) → bytes_eq q (codes "type") ≡ false → get_member q with_type ≡ get_member q content
  unfolding with_type
  with_type-beside q no_type = get_member-put_other q (codes "type") (string (codes "object")) content (differ q (codes "type") no_type)

  properties-tagged : (es : List Keyword) → Some (with_member tag (unit_variant name) (value_or (object no_members) (properties_there es)))
      ≡ properties_there (es ++ (tag, unit_variant name) ∷ [])
  unfolding value_or properties_there
  properties-tagged [] = refl
  properties-tagged (e ∷ es) = ap (λ ms. Some (object ms)) (sym (put_all-append (e ∷ es) ((tag, unit_variant name) ∷ []) no_members))

  required-tagged : (r : List Text)
      → Some (with_first (string tag) (value_or (array no_items) (required_there r))) ≡ required_there (tag ∷ r)
  unfolding value_or required_there
  required-tagged [] = refl
  required-tagged (k ∷ ks) = refl

  tagged-elsewhere : (q : Text) → bytes_eq q (codes "type") ≡ false → bytes_eq q (codes "properties") ≡ false
      → bytes_eq q (codes "required") ≡ false → bytes_eq q (codes "additionalProperties") ≡ false
      → get_member q (tagged tag name content) ≡ get_member q with_tag
  unfolding content with_tag
  tagged-elsewhere q no_type no_properties no_required no_closed =
      tagged-beside q no_required no_properties ∙ (with_type-beside q no_type ∙ (noted-at q notes (keywords es r closed)
      ∙ (ap (either_option (get_member q (noted notes no_members))) (keyword-lacks q no_type no_properties no_required no_closed es r closed
      ∙ sym (keyword-lacks q no_type no_properties no_required no_closed (es ++ (tag, unit_variant name) ∷ []) (tag ∷ r) closed))
      ∙ sym (noted-at q notes (keywords (es ++ (tag, unit_variant name) ∷ []) (tag ∷ r) closed)))))

  type_put : get_member (codes "type") with_type ≡ Some (string (codes "object"))
  unfolding with_type
  type_put = get_member-put (codes "type") (string (codes "object")) content

  properties_here : get_member (codes "properties") with_type ≡ properties_there es
  properties_here =
      with_type-beside (codes "properties") refl ∙ (content-at (codes "properties") refl ∙ properties-at es r closed)

  properties_put : get_member (codes "properties") (tagged tag name content)
      ≡ properties_there (es ++ (tag, unit_variant name) ∷ [])
  unfolding with_type
  properties_put =
      changed_at-beside (codes "properties") (codes "required") (with_first (string tag)) (array no_items)
      (with_property tag (unit_variant name) with_type) refl
      ∙ (changed_at-here (codes "properties") (with_member tag (unit_variant name)) (object no_members) with_type
      ∙ (ap (λ o. Some (with_member tag (unit_variant name) (value_or (object no_members) o))) properties_here ∙ properties-tagged es))

  required_here : get_member (codes "required") (with_property tag (unit_variant name) with_type) ≡ required_there r
  required_here =
      changed_at-beside (codes "required") (codes "properties") (with_member tag (unit_variant name)) (object no_members) with_type refl
      ∙ (with_type-beside (codes "required") refl ∙ (content-at (codes "required") refl ∙ required-at es r closed))

  required_put : get_member (codes "required") (tagged tag name content) ≡ required_there (tag ∷ r)
  unfolding with_type
  required_put =
      changed_at-here (codes "required") (with_first (string tag)) (array no_items) (with_property tag (unit_variant name) with_type)
      ∙ (ap (λ o. Some (with_first (string tag) (value_or (array no_items) o))) required_here ∙ required-tagged r)

  tagged-at : (q : Text) → get_member q (tagged tag name content) ≡ get_member q with_tag
  tagged-at = by_name (λ q. get_member q (tagged tag name content) ≡ get_member q with_tag)
      (tagged-beside (codes "type") refl refl ∙ (type_put ∙ sym (with_tag-at (codes "type") refl
      ∙ type-at (es ++ (tag, unit_variant name) ∷ []) (tag ∷ r) closed)))
      (properties_put ∙ sym (with_tag-at (codes "properties") refl
      ∙ properties-at (es ++ (tag, unit_variant name) ∷ []) (tag ∷ r) closed))
      (required_put ∙ sym (with_tag-at (codes "required") refl
      ∙ required-at (es ++ (tag, unit_variant name) ∷ []) (tag ∷ r) closed))
      (tagged-beside (codes "additionalProperties") refl refl ∙ (with_type-beside (codes "additionalProperties") refl
      ∙ (content-at (codes "additionalProperties") refl ∙ (closed-at es r closed ∙ sym (with_tag-at (codes "additionalProperties") refl
      ∙ closed-at (es ++ (tag, unit_variant name) ∷ []) (tag ∷ r) closed)))))
      (tagged-elsewhere (codes "allOf") refl refl refl refl)
      (tagged-elsewhere (codes "patternProperties") refl refl refl refl)
      (λ q t p r c a b. tagged-elsewhere q t p r c)

  sorted-content : IsSorted content
  unfolding content
  sorted-content = sorted-noted notes (keywords es r closed) (sorted-keywords es r closed)

  sorted-with_tag : IsSorted with_tag
  unfolding with_tag
  sorted-with_tag = sorted-noted notes (keywords (es ++ (tag, unit_variant name) ∷ []) (tag ∷ r) closed)
      (sorted-keywords (es ++ (tag, unit_variant name) ∷ []) (tag ∷ r) closed)

  tagged-same : tagged tag name content ≡ with_tag
  tagged-same = same_members (tagged tag name content) with_tag
      (sorted-changed_at (codes "required") (with_first (string tag)) (array no_items) _
      (sorted-changed_at (codes "properties") (with_member tag (unit_variant name)) (object no_members) _
      (sorted-put (codes "type") (string (codes "object")) content sorted-content)))
      sorted-with_tag tagged-at

  no_null : (deny : Bool) → deny && has_null_type (object content) ≡ false
  no_null false = refl
  no_null true = rw (content-at (codes "type") refl ∙ type-at es r closed)

-- the fields of a variant that holds a map, with the variant's name under the tag
pub tagged-map : (notes : List Members) (tag name : Text) (deny : Bool) (es : List Keyword) (r : List Text) (closed : Bool)
    → AllNotes notes
    → internally_tagged_variant tag name deny (noted_by notes (map_document es r closed))
    ≡ noted_by notes (map_document (es ++ (tag, unit_variant name) ∷ []) (tag ∷ r) closed)
unfolding content with_tag
tagged-map notes tag name deny es r closed all =
    ap (internally_tagged_variant tag name deny) (noted_by-object notes (keywords es r closed))
    ∙ (ap (λ b. object (closed_where b (tagged tag name (content notes tag name es r closed all))))
    (no_null notes tag name es r closed all deny)
    ∙ (ap object (tagged-same notes tag name es r closed all)
    ∙ sym (noted_by-object notes (keywords (es ++ (tag, unit_variant name) ∷ []) (tag ∷ r) closed))))

-- ---- two documents of maps

-- what no keyword of a map is
noted-lacks : (q : Text) → is_annotation q ≡ false → bytes_eq q (codes "type") ≡ false → bytes_eq q (codes "properties") ≡ false
    → bytes_eq q (codes "required") ≡ false → bytes_eq q (codes "additionalProperties") ≡ false
    → (notes : List Members) (es : List Keyword) (r : List Text) (closed : Bool) → AllNotes notes
    → get_member q (noted notes (keywords es r closed)) ≡ None
noted-lacks q e t p n c notes es r closed all =
    noted-beside q notes (keywords es r closed) e all ∙ keyword-lacks q t p n c es r closed

-- nothing is moved beside the keywords of a map
noted-kept : (notes : List Members) (es : List Keyword) (r : List Text) (closed : Bool) (ms : Members) → AllNotes notes
    → moved_beside (noted notes (keywords es r closed)) ms ≡ ms
noted-kept notes es r closed ms all =
    rw (
      noted-lacks (codes "unevaluatedProperties") refl refl refl refl refl notes es r closed all,
      noted-lacks (codes "if") refl refl refl refl refl notes es r closed all,
      noted-lacks (codes "allOf") refl refl refl refl refl notes es r closed all,
      noted-lacks (codes "anyOf") refl refl refl refl refl notes es r closed all,
      noted-lacks (codes "oneOf") refl refl refl refl refl notes es r closed all,
      noted-lacks (codes "$ref") refl refl refl refl refl notes es r closed all,
    ) refl

-- of most keywords the first stays
first-united : (q : Text) (a b : Option Data) → is_joined q ≡ false → is_merged q ≡ false → united_option q a b ≡ either_option a b
first-united q None b no_joined no_merged = refl
first-united q (Some e) None no_joined no_merged = refl
first-united q (Some e) (Some d) no_joined no_merged = rw (no_joined, no_merged)

module _ (n1 n2 : List Members) (es1 es2 : List Keyword) (r1 r2 : List Text) (closed : Bool) (all1 : AllNotes n1) (all2 : AllNotes n2) where
  first : Members
  first = noted n1 (keywords es1 r1 closed)

  second : Members
  second = noted n2 (keywords es2 r2 false)

  whole : Members
  whole = noted n1 (noted n2 (keywords (es1 ++ es2) (r1 ++ r2) closed))

  first-at : (q : Text) → is_annotation q ≡ false → get_member q first ≡ get_member q (keywords es1 r1 closed)
  unfolding first
  first-at q e = noted-beside q n1 (keywords es1 r1 closed) e all1

  second-at : (q : Text) → is_annotation q ≡ false → get_member q second ≡ get_member q (keywords es2 r2 false)
  unfolding second
  second-at q e = noted-beside q n2 (keywords es2 r2 false) e all2

  whole-at : (q : Text) → is_annotation q ≡ false → get_member q whole ≡ get_member q (keywords (es1 ++ es2) (r1 ++ r2) closed)
  unfolding whole
  whole-at q e = noted-beside q n1 (noted n2 (keywords (es1 ++ es2) (r1 ++ r2) closed)) e all1
      ∙ noted-beside q n2 (keywords (es1 ++ es2) (r1 ++ r2) closed) e all2

  no_choice-second : NoChoice second
  unfolding NoChoice second
  no_choice-second = (
    noted-lacks (codes "oneOf") refl refl refl refl refl n2 es2 r2 false all2,
    noted-lacks (codes "anyOf") refl refl refl refl refl n2 es2 r2 false all2,
  )

  sorted-first : IsSorted first
  unfolding first
  sorted-first = sorted-noted n1 (keywords es1 r1 closed) (sorted-keywords es1 r1 closed)

  sorted-second : IsSorted second
  unfolding second
  sorted-second = sorted-noted n2 (keywords es2 r2 false) (sorted-keywords es2 r2 false)

  sorted-whole : IsSorted whole
  unfolding whole
  sorted-whole = sorted-noted n1 _ (sorted-noted n2 (keywords (es1 ++ es2) (r1 ++ r2) closed)
      (sorted-keywords (es1 ++ es2) (r1 ++ r2) closed))

  united-plain : united_all first second ≡ with_keywords second first
  unfolding first second
  united-plain =
      ap (λ x. with_keywords (moved_beside x second) x) (noted-kept n2 es2 r2 false first all2)
      ∙ ap (λ x. with_keywords x first) (noted-kept n1 es1 r1 closed second all1)

  here : (q : Text) (a b c : Option Data) → is_annotation q ≡ false
      → get_member q (keywords es1 r1 closed) ≡ a → get_member q (keywords es2 r2 false) ≡ b
      → get_member q (keywords (es1 ++ es2) (r1 ++ r2) closed) ≡ c → united_option q a b ≡ c
      → get_member q (with_keywords second first) ≡ get_member q whole
  here q a b c e at_first at_second at_whole same =
      with_keywords-at q second first sorted-second no_choice-second
      ∙ (ap (λ o. united_option q o (get_member q second)) (first-at q e ∙ at_first)
      ∙ (ap (united_option q a) (second-at q e ∙ at_second) ∙ (same ∙ sym (whole-at q e ∙ at_whole))))

  elsewhere : (q : Text) → bytes_eq q (codes "type") ≡ false → bytes_eq q (codes "properties") ≡ false
      → bytes_eq q (codes "required") ≡ false → bytes_eq q (codes "additionalProperties") ≡ false
      → bytes_eq q (codes "allOf") ≡ false → bytes_eq q (codes "patternProperties") ≡ false
      → get_member q (with_keywords second first) ≡ get_member q whole
  unfolding first second whole
  elsewhere q no_type no_properties no_required no_closed no_all no_patterns =
      with_keywords-at q second first sorted-second no_choice-second
      ∙ (first-united q (get_member q first) (get_member q second) (rw (no_required, no_all)) (rw (no_properties, no_patterns))
      ∙ (ap (λ o. either_option o (get_member q second)) (noted-at q n1 (keywords es1 r1 closed)
      ∙ (ap (either_option (get_member q (noted n1 no_members)))
      (keyword-lacks q no_type no_properties no_required no_closed es1 r1 closed) ∙ either_none _))
      ∙ (ap (either_option (get_member q (noted n1 no_members))) (noted-at q n2 (keywords es2 r2 false)
      ∙ (ap (either_option (get_member q (noted n2 no_members))) (keyword-lacks q no_type no_properties no_required no_closed es2 r2 false
      ∙ sym (keyword-lacks q no_type no_properties no_required no_closed (es1 ++ es2) (r1 ++ r2) closed))
      ∙ sym (noted-at q n2 (keywords (es1 ++ es2) (r1 ++ r2) closed))))
      ∙ sym (noted-at q n1 (noted n2 (keywords (es1 ++ es2) (r1 ++ r2) closed))))))

  flattened-at : (q : Text) → get_member q (with_keywords second first) ≡ get_member q whole
  unfolding closed_there
  flattened-at = by_name (λ q. get_member q (with_keywords second first) ≡ get_member q whole)
      (here (codes "type") _ _ _ refl (type-at es1 r1 closed) (type-at es2 r2 false) (type-at (es1 ++ es2) (r1 ++ r2) closed) refl)
      (here (codes "properties") _ _ _ refl (properties-at es1 r1 closed) (properties-at es2 r2 false)
      (properties-at (es1 ++ es2) (r1 ++ r2) closed) (properties-united es1 es2))
      (here (codes "required") _ _ _ refl (required-at es1 r1 closed) (required-at es2 r2 false)
      (required-at (es1 ++ es2) (r1 ++ r2) closed) (required-united r1 r2))
      (here (codes "additionalProperties") _ _ _ refl (closed-at es1 r1 closed) (closed-at es2 r2 false)
      (closed-at (es1 ++ es2) (r1 ++ r2) closed) (united_none (codes "additionalProperties") (closed_there closed)))
      (here (codes "allOf") _ _ _ refl (keyword-lacks (codes "allOf") refl refl refl refl es1 r1 closed)
      (keyword-lacks (codes "allOf") refl refl refl refl es2 r2 false)
      (keyword-lacks (codes "allOf") refl refl refl refl (es1 ++ es2) (r1 ++ r2) closed) refl)
      (here (codes "patternProperties") _ _ _ refl (keyword-lacks (codes "patternProperties") refl refl refl refl es1 r1 closed)
      (keyword-lacks (codes "patternProperties") refl refl refl refl es2 r2 false)
      (keyword-lacks (codes "patternProperties") refl refl refl refl (es1 ++ es2) (r1 ++ r2) closed) refl)
      elsewhere

  united-same : united_all first second ≡ whole
  united-same = united-plain
      ∙ same_members (with_keywords second first) whole (sorted-with_keywords second first sorted-first) sorted-whole flattened-at

-- a map put into a map: the notes of the first win, and the names of both are there
pub flattened-maps : (n1 n2 : List Members) (es1 es2 : List Keyword) (r1 r2 : List Text) (closed : Bool)
    → AllNotes n1 → AllNotes n2
    → flattened (noted_by n1 (map_document es1 r1 closed)) (noted_by n2 (map_document es2 r2 false))
    ≡ noted_by n1 (noted_by n2 (map_document (es1 ++ es2) (r1 ++ r2) closed))
unfolding first second whole
flattened-maps n1 n2 es1 es2 r1 r2 closed all1 all2 =
    ap (λ s. flattened s (noted_by n2 (map_document es2 r2 false))) (noted_by-object n1 (keywords es1 r1 closed))
    ∙ (ap (flattened (object (noted n1 (keywords es1 r1 closed)))) (noted_by-object n2 (keywords es2 r2 false))
    ∙ (ap object (united-same n1 n2 es1 es2 r1 r2 closed all1 all2)
    ∙ sym (ap (noted_by n1) (noted_by-object n2 (keywords (es1 ++ es2) (r1 ++ r2) closed))
    ∙ noted_by-object n1 (noted n2 (keywords (es1 ++ es2) (r1 ++ r2) closed)))))

-- ---- a part that stays

-- nothing inside judges the same object
no_place : (k : Text) (d : Data) (ms : Members) → get_member (codes "if") (member k d ms) ≡ None
    → get_member (codes "then") (member k d ms) ≡ None → get_member (codes "else") (member k d ms) ≡ None
    → get_member (codes "allOf") (member k d ms) ≡ None → get_member (codes "anyOf") (member k d ms) ≡ None
    → get_member (codes "oneOf") (member k d ms) ≡ None → same_object_place k ≡ NoSchemas
no_place k d ms no_if no_then no_else no_all no_any no_one = rw (
  lacks-first (codes "if") k d ms no_if,
  lacks-first (codes "then") k d ms no_then,
  lacks-first (codes "else") k d ms no_else,
  lacks-first (codes "allOf") k d ms no_all,
  lacks-first (codes "anyOf") k d ms no_any,
  lacks-first (codes "oneOf") k d ms no_one,
)

nothing_inside : (ms : Members) → get_member (codes "if") ms ≡ None → get_member (codes "then") ms ≡ None
    → get_member (codes "else") ms ≡ None → get_member (codes "allOf") ms ≡ None → get_member (codes "anyOf") ms ≡ None
    → get_member (codes "oneOf") ms ≡ None → in_keywords opening tt ms ≡ ms
unfolding in_keywords
nothing_inside no_members no_if no_then no_else no_all no_any no_one = refl
nothing_inside (member k d ms) no_if no_then no_else no_all no_any no_one = rw (
  no_place k d ms no_if no_then no_else no_all no_any no_one,
  nothing_inside ms (lacks-later (codes "if") k d ms no_if) (lacks-later (codes "then") k d ms no_then)
      (lacks-later (codes "else") k d ms no_else) (lacks-later (codes "allOf") k d ms no_all)
      (lacks-later (codes "anyOf") k d ms no_any) (lacks-later (codes "oneOf") k d ms no_one),
)

-- a schema of no texts lists none
pub no_texts : (ms : Members) → has_type (codes "string") (object ms) ≡ false
    → units_as_objects (object ms) ≡ list_changed_at (codes "oneOf") first_as_objects (object ms)
no_texts ms = go (has_type (codes "string") (object ms))
  where
    go : (b : Bool) → b ≡ false
        → elim (if b then option_map unit_objects (option_and_then as_array (get (codes "enum") (object ms))) else None) [
          | None ↦ list_changed_at (codes "oneOf") first_as_objects (object ms)
          | Some units ↦ with_units units (removed (codes "type") (removed (codes "enum") (object ms)))
        ] ≡ list_changed_at (codes "oneOf") first_as_objects (object ms)
    go true is = absurd (true≢false is)
    go false is = refl

module _ (notes : List Members) (es : List Keyword) (r : List Text) (all : AllNotes notes) where
  part_members : Members
  part_members = noted notes (keywords es r false)

  part-lacks : (q : Text) → is_annotation q ≡ false → bytes_eq q (codes "type") ≡ false → bytes_eq q (codes "properties") ≡ false
      → bytes_eq q (codes "required") ≡ false → bytes_eq q (codes "additionalProperties") ≡ false → get_member q part_members ≡ None
  unfolding part_members
  part-lacks q e t p n c = noted-lacks q e t p n c notes es r false all

  part-type : get_member (codes "type") part_members ≡ Some (string (codes "object"))
  unfolding part_members
  part-type = noted-beside (codes "type") notes (keywords es r false) refl all ∙ type-at es r false

  part-open : get_member (codes "additionalProperties") part_members ≡ None
  unfolding part_members closed_there
  part-open = noted-beside (codes "additionalProperties") notes (keywords es r false) refl all ∙ closed-at es r false

  no_text : has_type (codes "string") (object part_members) ≡ false
  no_text = ap (λ o. is_text (codes "string") (option_and_then as_str o)) part-type

  -- no texts are listed, and there is no choice
  no_units : units_as_objects (object part_members) ≡ object part_members
  no_units = no_texts part_members no_text
      ∙ choice (get_member (codes "oneOf") part_members) (part-lacks (codes "oneOf") refl refl refl refl refl)
    where
      choice : (o : Option Data) → o ≡ None
          → elim o [
            | None ↦ object part_members
            | Some d ↦ object (replaced (codes "oneOf") (on_list first_as_objects d) part_members)
          ] ≡ object part_members
      choice None is = refl
      choice (Some d) is = cc

  stays-inside : in_keywords opening tt part_members ≡ part_members
  stays-inside = nothing_inside part_members (part-lacks (codes "if") refl refl refl refl refl)
      (part-lacks (codes "then") refl refl refl refl refl) (part-lacks (codes "else") refl refl refl refl refl)
      (part-lacks (codes "allOf") refl refl refl refl refl) (part-lacks (codes "anyOf") refl refl refl refl refl)
      (part-lacks (codes "oneOf") refl refl refl refl refl)

  stays-here : opened_here (object part_members) ≡ object part_members
  stays-here = rw (part-open, part-lacks (codes "unevaluatedProperties") refl refl refl refl refl)

  stays-open : opened (object part_members) ≡ object part_members
  unfolding forms in_keywords
  stays-open = ap (λ ms. opened_here (object ms)) stays-inside ∙ stays-here

-- a map with fields stays as it is where it is a part
pub part-stays : (notes : List Members) (es : List Keyword) (r : List Text) → AllNotes notes
    → flattened_part false (noted_by notes (map_document es r false)) ≡ noted_by notes (map_document es r false)
unfolding part_members
part-stays notes es r all =
    ap (flattened_part false) (noted_by-object notes (keywords es r false))
    ∙ (ap opened (no_units notes es r all) ∙ (stays-open notes es r all ∙ sym (noted_by-object notes (keywords es r false))))
