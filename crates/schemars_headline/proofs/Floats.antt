-- A document has no float but those of its notes.
use Rattle.std.proofs.Common.{◌≡◌, ℕ, List, [], ◌∷◌, map, Option, Some, None, Bool, true, false, refl, subst, Ordering, Less, Equal, Greater, nat_cmp}
use Rattle.schemars_headline.proofs.Words.{codes, is_some, if◌then◌else◌, ◌&&◌, ◌||◌, bytes_eq, option_and_then, match_ordering, slice_cmp, AllByRecursion, Data, null, boolean, number, string, array, object, Items, no_items, item, Members, no_members, member, put, get_member, items_of, has_float, members_have_float, Text, put_members, members_in, put_all, is_null_choice, is_combined, or_null, allow_null, type_with_null, null_in_type, enum_with_null, null_in_enum, const_or_null, null_in_const, null_in_values, is_null, closed_where, has_null_type, internally_tagged_variant, Shape, Entry, Field, Fields, Variant, entry_at, annotated, with_title, with_meta_schema, root_document, Basis, Template, left, keyed, filled, filled_in, struct_template, template_of, entry_template, Describes, without, replaced, holds_text, with_member, with_first, placed_at, Plan, Registry, basis_of_plan, with_definitions, HasKeysOnce, either, left_all, first_all, option_map, items_have_float, is_schema, members_have_float-put, holds_null, unit_variant, first, templates_of, property, members_asked, content_template, title_alone, flattened-whole, flattened_part-whole, opened_inside-whole, fields_have_float, payload_has_float, variants_have_float, shape_has_float, EntryHasNoFloat, HasNoFloat, with_item, changed_at, placed, tokens_of, described_holds, of_each, Law, shape_holds, Keywords, by_value, by_keyword, each, struct_holds, or_parts}
use Rattle.schemars_builders.specs.Properties as properties
use Rattle.schemars_types.specs.declared.contract.Contract.{Contract}
use Rattle.schemars_templates.specs.Template.{asked}
use Rattle.schemars_headline.proofs.Standing.{MayRefer, AllStand}
use Rattle.schemars_headline.proofs.Keys.{AllMembers, all_members}

abbrev pub IsWhole : Data → Type 0
IsWhole s = has_float s ≡ false

whole_put_members : (notes ms : Members) → members_have_float notes ≡ false → members_have_float ms ≡ false
    → members_have_float (put_members notes ms) ≡ false
whole_put_members no_members ms h e = e
whole_put_members (member k d notes) ms h e =
    let parts = or_parts (has_float d) (members_have_float notes) h in
    whole_put_members notes (put k d ms) parts.1 (members_have_float-put k d ms parts.0 e)

pub whole_members_in : (s : Data) → IsWhole s → members_have_float (members_in s) ≡ false
whole_members_in (object ms) h = h
whole_members_in (boolean true) h = refl
whole_members_in _ h = refl

whole_annotated : (notes : Members) (s : Data) → members_have_float notes ≡ false → IsWhole s → IsWhole (annotated notes s)
whole_annotated no_members s h e = e
whole_annotated (member k d notes) s h e = whole_put_members (member k d notes) (members_in s) h (whole_members_in s e)

pub whole_without : (k : Text) (ms : Members) → members_have_float ms ≡ false → members_have_float (without k ms) ≡ false
whole_without k no_members h = refl
whole_without k (member l e ms) h = go (bytes_eq k l) (whole_without k ms parts.1)
  where
    parts : (has_float e ≡ false) × (members_have_float ms ≡ false)
    parts = or_parts (has_float e) (members_have_float ms) h

    go : (b : Bool) → members_have_float (without k ms) ≡ false → members_have_float (if b then ms else member l e (without k ms)) ≡ false
    go true later = parts.1
    go false later = rw (parts.0) later

pub whole_with_item : (ds : Items) (e : Data) → IsWhole e → items_have_float ds ≡ false → items_have_float (with_item ds e) ≡ false
whole_with_item no_items e whole h = rw whole refl
whole_with_item (item d ds) e whole h = let parts = or_parts (has_float d) (items_have_float ds) h in
    rw parts.0 (whole_with_item ds e whole parts.1)

whole_type : (d : Data) → IsWhole d → IsWhole (type_with_null d)
whole_type (string t) h = go (bytes_eq t (codes "null"))
  where
    go : (b : Bool) → IsWhole (if b then string t else array (item (string t) (item (string (codes "null")) no_items)))
    go true = refl
    go false = refl
whole_type (array ds) h = go (holds_text (codes "null") ds)
  where
    go : (b : Bool) → IsWhole (if b then array ds else array (with_item ds (string (codes "null"))))
    go true = h
    go false = whole_with_item ds (string (codes "null")) refl h
whole_type _ h = h

-- what is in an object without floats has none
pub whole_member : (k : Text) (ms : Members) → members_have_float ms ≡ false → (d : Data) → get_member k ms ≡ Some d → has_float d ≡ false
whole_member k no_members h d is = cc
whole_member k (member l e ms) h d is = go (slice_cmp nat_cmp k l) is (whole_member k ms parts.1 d)
  where
    parts : (has_float e ≡ false) × (members_have_float ms ≡ false)
    parts = or_parts (has_float e) (members_have_float ms) h

    go : (o : Ordering) → match_ordering o (get_member k ms) (Some e) (get_member k ms) ≡ Some d → (get_member k ms ≡ Some d → IsWhole d)
        → IsWhole d
    go Less at later = later at
    go Equal at later = let same : e ≡ d = cc in rw (← same) parts.0
    go Greater at later = later at

whole_null_in_type : (o : Option Data) (ms : Members) → ((d : Data) → o ≡ Some d → IsWhole d) → members_have_float ms ≡ false
    → members_have_float (null_in_type o ms) ≡ false
whole_null_in_type None ms h e = e
whole_null_in_type (Some d) ms h e = members_have_float-put (codes "type") (type_with_null d) ms (whole_type d (h d refl)) e

whole_enum : (d : Data) → IsWhole d → IsWhole (enum_with_null d)
whole_enum (array ds) h = go (holds_null ds)
  where
    go : (b : Bool) → IsWhole (if b then array ds else array (with_item ds null))
    go true = h
    go false = whole_with_item ds null refl h
whole_enum _ h = h

whole_null_in_enum : (o : Option Data) (ms : Members) → ((d : Data) → o ≡ Some d → IsWhole d) → members_have_float ms ≡ false
    → members_have_float (null_in_enum o ms) ≡ false
whole_null_in_enum None ms h e = e
whole_null_in_enum (Some d) ms h e = members_have_float-put (codes "enum") (enum_with_null d) ms (whole_enum d (h d refl)) e

whole_null_in_const : (o : Option Data) (ms : Members) → ((d : Data) → o ≡ Some d → IsWhole d) → members_have_float ms ≡ false
    → members_have_float (null_in_const o ms) ≡ false
whole_null_in_const None ms h e = whole_null_in_enum (get_member (codes "enum") ms) ms (whole_member (codes "enum") ms e) e
whole_null_in_const (Some c) ms h e = go (is_null c)
  where
    both : IsWhole (array (item c (item null no_items)))
    both = rw (h c refl) refl

    go : (b : Bool) → members_have_float (if b then ms else const_or_null c ms) ≡ false
    go true = e
    go false = members_have_float-put (codes "enum") (array (item c (item null no_items))) (without (codes "const") ms) both
        (whole_without (codes "const") ms e)

pub whole_allow_null : (s : Data) → IsWhole s → IsWhole (allow_null s)
whole_allow_null (boolean true) h = refl
whole_allow_null (boolean false) h = refl
whole_allow_null (object ms) h = go (is_null_choice (object ms)) (is_combined (object ms))
  where
    typed_template : Members
    typed_template = null_in_type (get_member (codes "type") ms) ms

    whole : members_have_float typed_template ≡ false
    whole = whole_null_in_type (get_member (codes "type") ms) ms (whole_member (codes "type") ms h) h

    go : (stays b : Bool) → IsWhole (if stays then object ms else if b then or_null (object ms) else
        object (null_in_values (null_in_type (get_member (codes "type") ms) ms)))
    go true b = h
    go false true = rw h
    go false false = whole_null_in_const (get_member (codes "const") typed_template) typed_template
        (whole_member (codes "const") typed_template whole) whole
whole_allow_null null h = h
whole_allow_null _ h = h

whole_keyed : (ks : List Text) (ds : List Data) (ms : Members) → AllByRecursion IsWhole ds → members_have_float ms ≡ false
    → members_have_float (put_all (keyed ks ds) ms) ≡ false
whole_keyed [] ds ms h e = e
whole_keyed (k ∷ ks) [] ms h e = e
whole_keyed (k ∷ ks) (d ∷ ds) ms h e = whole_keyed ks ds (put k d ms) h.1 (members_have_float-put k d ms h.0 e)

pub whole_items : (ds : List Data) → AllByRecursion IsWhole ds → items_have_float (items_of ds) ≡ false
whole_items [] h = refl
whole_items (d ∷ ds) h = rw h.0 (whole_items ds h.1)

-- ---- tags

pub whole_replaced : (k : Text) (d : Data) (ms : Members) → has_float d ≡ false → members_have_float ms ≡ false
    → members_have_float (replaced k d ms) ≡ false
whole_replaced k d no_members new h = refl
whole_replaced k d (member l e ms) new h = go (bytes_eq k l) (whole_replaced k d ms new parts.1)
  where
    parts : (has_float e ≡ false) × (members_have_float ms ≡ false)
    parts = or_parts (has_float e) (members_have_float ms) h

    go : (b : Bool) → members_have_float (replaced k d ms) ≡ false → members_have_float
        (if b then member l d ms else member l e (replaced k d ms)) ≡ false
    go true later = rw new parts.1
    go false later = rw (parts.0) later

pub whole_changed_at : (k : Text) (change : Data → Data) (d : Data) (ms : Members)
    → ((e : Data) → IsWhole e → IsWhole (change e)) → IsWhole d
    → members_have_float ms ≡ false → members_have_float (changed_at k change d ms) ≡ false
whole_changed_at k change d ms keeps new h = go (get_member k ms) (whole_member k ms h)
  where
    go : (o : Option Data) → ((e : Data) → o ≡ Some e → IsWhole e) → members_have_float
        (elim o [ None ↦ put k (change d) ms | Some e ↦ replaced k (change e) ms ]) ≡ false
    go None at = members_have_float-put k (change d) ms (keeps d new) h
    go (Some e) at = whole_replaced k (change e) ms (keeps e (at e refl)) h

whole_with_member : (k : Text) (d s : Data) → IsWhole d → IsWhole s → IsWhole (with_member k d s)
whole_with_member k d (object ms) new h = members_have_float-put k d ms new h
whole_with_member k d _ new h = h

whole_with_first : (d s : Data) → IsWhole d → IsWhole s → IsWhole (with_first d s)
whole_with_first d (array ds) new h = rw new h
whole_with_first d _ new h = h

whole_tagged : (tag name : Text) (ms : Members) → members_have_float ms ≡ false → members_have_float (properties.tagged tag name ms) ≡ false
whole_tagged tag name ms h =
    let typed_template = put (codes "type") (string (codes "object")) ms in
    let is_typed : members_have_float typed_template ≡ false = members_have_float-put (codes "type") (string (codes "object")) ms refl h in
    let with_tag = changed_at (codes "properties") (with_member tag (unit_variant name)) (object no_members) typed_template in
    let has_tag : members_have_float with_tag ≡ false =
    whole_changed_at (codes "properties") (with_member tag (unit_variant name)) (object no_members) typed_template
    (λ e. whole_with_member tag (unit_variant name) e refl) refl is_typed in
    whole_changed_at (codes "required") (with_first (string tag)) (array no_items) with_tag (λ e. whole_with_first (string tag) e refl)
    refl has_tag

whole_closed : (closed : Bool) (ms : Members) → members_have_float ms ≡ false → members_have_float (closed_where closed ms) ≡ false
whole_closed false ms h = h
whole_closed true ms h = go (is_some (get_member (codes "additionalProperties") ms))
  where
    go : (b : Bool) → members_have_float (if b then ms else put (codes "additionalProperties") (boolean false) ms) ≡ false
    go true = h
    go false = members_have_float-put (codes "additionalProperties") (boolean false) ms refl h

whole_tagged_variant : (tag name : Text) (closed : Bool) (s : Data) → IsWhole s → IsWhole (internally_tagged_variant tag name closed s)
whole_tagged_variant tag name closed s h =
    whole_closed (closed && has_null_type s) (properties.tagged tag name (members_in s))
    (whole_tagged tag name (members_in s) (whole_members_in s h))

-- ---- filled templates

-- whatever fills it has no float
abbrev Fills : Template → Type 0
Fills t = (ts : List Data) → AllByRecursion IsWhole ts → IsWhole (filled t ts)

fills_in : (us : List Template) → AllByRecursion Fills us → (ts : List Data) → AllByRecursion IsWhole ts
    → AllByRecursion IsWhole (filled_in (templates_of us) ts)
fills_in [] all ts h = tt
fills_in (u ∷ us) all ts h = (all.0 ts h, fills_in us all.1 (left u ts) (left_all IsWhole u ts h))

first_whole : (ts : List Data) → AllByRecursion IsWhole ts → IsWhole (first ts)
first_whole ts h = first_all IsWhole refl ts h

keywords : Keywords (of_each Fills)
keywords =
    by_value Fills (λ d whole ts h. whole)
    (λ us all ts h. whole_items (filled_in (templates_of us) ts) (fills_in us all ts h))
    (λ ks us all ts h. whole_keyed ks (filled_in (templates_of us) ts) no_members (fills_in us all ts h) refl)

properties_whole : (xs : List Field) → fields_have_float xs ≡ false → AllByRecursion (λ e. Fills e.1) (map property xs)
properties_whole [] n = tt
properties_whole (x ∷ xs) n =
    let parts = or_parts (members_have_float x.notes) (fields_have_float xs) n in
    (λ ts h. whole_annotated x.notes (first ts) parts.0 (first_whole ts h), properties_whole xs parts.1)

struct_whole : (contract : Contract) (x : Fields) → fields_have_float x.list ≡ false → Fills (struct_template contract x)
struct_whole contract x n =
    struct_holds (of_each Fills) keywords contract
    (λ t u all more ts h. flattened-whole (filled t ts) (filled u (left t ts)) (all ts h) (more (left t ts) (left_all IsWhole t ts h))) x
    (properties_whole x.list n) tt (each (λ p. Fills (asked (members_asked contract p))) (λ p. first_whole) x.flatten)

-- what holds of variants without decimals holds of the first one and of those after it
variants_whole : (x : Variant) (xs : List Variant) → variants_have_float (x ∷ xs) ≡ false
    → (members_have_float x.notes ≡ false) × (payload_has_float x.payload ≡ false) × (variants_have_float xs ≡ false)
variants_whole x xs h =
    let parts = or_parts (members_have_float x.notes || payload_has_float x.payload) (variants_have_float xs) h in
    let own = or_parts (members_have_float x.notes) (payload_has_float x.payload) parts.0 in
    (own.0, own.1, parts.1)

-- ---- by shape

whole_law : (basis : Basis) → Law basis
whole_law basis = record {
  claim = of_each Fills;
  documents = by_keyword (of_each Fills) keywords;
  of_shape = λ kind. shape_has_float kind ≡ false;
  of_variants = λ tagging xs. variants_have_float xs ≡ false;
  of_payload = λ tagging p. payload_has_float p ≡ false;
  rows = λ kind m n is. first_whole;
  option = λ m all ts h. whole_allow_null (first ts) (all ts h);
  struct = λ x n. struct_whole basis.contract x n;
  variants = λ tagging xs n. n;
  literal = λ d n ts h. either IsWhole (is_schema d) d (boolean true) n refl;
  payload = λ tagging x xs n. (variants_whole x xs n).1;
  notes = λ tagging x xs n t all ts h. whole_annotated x.notes (filled t ts) (variants_whole x xs n).0 (all ts h);
  later = λ tagging x xs n. (variants_whole x xs n).2;
  title = λ name t all ts h. whole_annotated (title_alone name) (filled t ts) refl (all ts h);
  payload_rows = λ tagging p m n is. first_whole;
  payload_struct = λ tagging x n. struct_whole basis.contract x n;
  content_row = λ tag closed m n. first_whole;
  tag = λ tag closed x xs n all ts h.
      let bare = filled (content_template basis.contract x.payload) ts in
      whole_annotated x.notes (internally_tagged_variant tag x.name closed bare) (variants_whole x xs n).0
      (whole_tagged_variant tag x.name closed bare (all ts h));
  beside = λ tag key closed p n. tt;
}

shape_whole : (basis : Basis) (kind : Shape) → shape_has_float kind ≡ false → Fills (template_of basis kind)
unfolding whole_law
shape_whole basis kind n = shape_holds basis (whole_law basis) kind n

-- ---- the document of a row

module _ (basis : Basis) (Refers : ℕ → Text → Type 0) (none : HasNoFloat basis.rows) where
  fills : (n : ℕ) (e : Entry) → entry_at basis.rows n ≡ Some e → (ts : List Data) → AllByRecursion IsWhole ts
      → IsWhole (filled (entry_template basis e) ts)
  fills n e at ts h =
      let here = or_parts (members_have_float e.notes) (shape_has_float e.shape) (subst EntryHasNoFloat at (none n)) in
      whole_annotated e.notes (filled (template_of basis e.shape) ts) here.0 (shape_whole basis e.shape here.1 ts h)

  pub described_whole : (d n : ℕ) (s : Data) → Describes basis Refers d n s → has_float s ≡ false
  described_whole = described_holds IsWhole flattened_part-whole opened_inside-whole basis Refers (λ j r h. refl) fills

whole_with_title : (name : Text) (ms : Members) → members_have_float ms ≡ false → members_have_float (with_title name ms) ≡ false
whole_with_title name ms e = go (is_some (get_member (codes "title") ms))
  where
    go : (b : Bool) → members_have_float (if b then ms else put (codes "title") (string name) ms) ≡ false
    go true = e
    go false = members_have_float-put (codes "title") (string name) ms refl e

pub whole_with_meta_schema : (uri : Option Text) (ms : Members) → members_have_float ms ≡ false
    → members_have_float (with_meta_schema uri ms) ≡ false
whole_with_meta_schema None ms e = e
whole_with_meta_schema (Some uri) ms e = members_have_float-put (codes "$schema") (string uri) ms refl e

pub root_whole : (name : Text) (uri : Option Text) (s : Data) → has_float s ≡ false → has_float (root_document name uri s) ≡ false
root_whole name uri s h = whole_with_meta_schema uri (with_title name (members_in s))
    (whole_with_title name (members_in s) (whole_members_in s h))

-- ---- definitions

members_whole : (ms : Members) → AllMembers IsWhole ms → members_have_float ms ≡ false
members_whole no_members h = refl
members_whole (member k d ms) h = rw (h.0, members_whole ms h.1)

-- members with each key once have no float where none is found
pub found_whole : (ms : Members) → HasKeysOnce ms → ((k : Text) (d : Data) → get_member k ms ≡ Some d → has_float d ≡ false)
    → members_have_float ms ≡ false
found_whole ms once h = members_whole ms (all_members IsWhole ms once h)

-- so the definitions of a table's rows have none
pub definitions_whole : (plan : Plan) (w : Registry) → HasNoFloat plan.rows → AllStand plan w → HasKeysOnce w.definitions
    → members_have_float w.definitions ≡ false
definitions_whole plan w none definitions once =
    found_whole w.definitions once (λ k d found.
    let definition = definitions k d found in
    described_whole (basis_of_plan plan) (MayRefer plan w) none definition.depth definition.row d definition.describes)

-- ---- placed at a path

abbrev IsWholeSome : Option Data → Type 0
IsWholeSome o = (d : Data) → o ≡ Some d → IsWhole d

whole_map_some : (f : Data → Data) (o : Option Data) → ((d : Data) → IsWhole d → IsWhole (f d)) → IsWholeSome o
    → IsWholeSome (option_map f o)
whole_map_some f None keeps h d is = cc
whole_map_some f (Some e) keeps h d is = let same : f e ≡ d = cc in rw (← same) (keeps e (h e refl))

module _ (new : Members) (whole : members_have_float new ≡ false) where
  placed_whole : (tokens : List Text) (old : Option Data) → IsWholeSome old → IsWholeSome (placed tokens new old)
  placed_whole [] None h = λ d is. let same : object new ≡ d = cc in rw (← same) whole
  placed_whole [] (Some (object ms)) h = λ d is. let same : object (put_members new ms) ≡ d = cc in
      rw (← same) (whole_put_members new ms whole (h (object ms) refl))
  placed_whole [] (Some null) h = λ d is. cc
  placed_whole [] (Some (boolean b)) h = λ d is. cc
  placed_whole [] (Some (number n)) h = λ d is. cc
  placed_whole [] (Some (string s)) h = λ d is. cc
  placed_whole [] (Some (array ds)) h = λ d is. cc
  placed_whole (t ∷ ts) None h = whole_map_some (λ d. object (put t d no_members)) (placed ts new None)
      (λ d e. members_have_float-put t d no_members e refl) (placed_whole ts None h)
  placed_whole (t ∷ ts) (Some (object ms)) h = go (get_member t ms) (whole_member t ms (h (object ms) refl)) (λ o at. placed_whole ts o at)
    where
      go : (o : Option Data) → IsWholeSome o → ((o : Option Data) → IsWholeSome o → IsWholeSome (placed ts new o))
          → IsWholeSome (elim o [
            | None ↦ option_map (λ d. object (put t d ms)) (placed ts new None)
            | Some e ↦ option_map
                (λ d. object (replaced t d ms)) (placed ts new (Some e))
          ])
      go None at below = whole_map_some (λ d. object (put t d ms)) (placed ts new None)
          (λ d e. members_have_float-put t d ms e (h (object ms) refl)) (below None at)
      go (Some e) at below = whole_map_some (λ d. object (replaced t d ms)) (placed ts new (Some e))
          (λ d f. whole_replaced t d ms f (h (object ms) refl)) (below (Some e) at)
  placed_whole (t ∷ ts) (Some null) h = λ d is. cc
  placed_whole (t ∷ ts) (Some (boolean b)) h = λ d is. cc
  placed_whole (t ∷ ts) (Some (number n)) h = λ d is. cc
  placed_whole (t ∷ ts) (Some (string s)) h = λ d is. cc
  placed_whole (t ∷ ts) (Some (array ds)) h = λ d is. cc

  pub whole_placed_at : (path : Text) (document made : Data) → has_float document ≡ false → placed_at path new document ≡ Some made
      → has_float made ≡ false
  whole_placed_at path document made h is = go (tokens_of path) is
    where
      go : (o : Option (List Text)) → option_and_then (λ tokens. placed tokens new (Some document)) o ≡ Some made → IsWhole made
      go None is = cc
      go (Some tokens) is = placed_whole tokens (Some document) (λ d e. let same : document ≡ d = cc in rw (← same) h) made is

-- with definitions that have none a document has none still, whatever the path
pub whole_with_definitions : (path : Text) (definitions : Members) (document made : Data) → members_have_float definitions ≡ false
    → has_float document ≡ false
    → with_definitions path definitions document ≡ Some made → has_float made ≡ false
whole_with_definitions path no_members document made none h is = let same : document ≡ made = cc in rw (← same) h
whole_with_definitions path (member k d ms) document made none h is = whole_placed_at (member k d ms) none path document made h is
