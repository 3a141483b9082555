-- Built-in transforms leave the numbers of a document whole.
use Rattle.std.proofs.Common.{◌≡◌, List, [], ◌∷◌, Option, Some, None, Bool, true, false, refl}
use Rattle.schemars_headline.proofs.Words.{bytes_eq, codes, is_some, option_and_then, if◌then◌else◌, Data, null, boolean, number, string, array, object, Items, no_items, item, Members, no_members, member, put, get_member, has_float, members_have_float, Text, members_in, holds_text, Place, NoSchemas, OneSchema, SchemaList, SchemaOrList, SchemasByName, form_at, reference_moved, without_siblings, old_items_moved, prefix_moved, prefix_as_items, closed_by, unevaluated_as_additional, as_str, get, items_have_float, inserted, removed, put_missing, with_last, has_one_member, members_have_float-put, Rules, Forms, rewritten, everywhere, all_changed, bool_rules, referring, first_as_example, with_single_example, value_as_enum, const_as_enum, all_null, is_null_name, without_null, one_or_list, type_without_null, null_taken_out, null_alone, null_among, nullable_by, with_nullable, nulls_in, with_names, object_with_names, properties_made, properties_named, property_names, with_properties, format_rules, format_stays, function_of, made_by, value_made_by, each_made_by, or_parts, forms, in_items, in_names, in_keywords}
use Rattle.schemars_transform.specs.declared.gen_transform.GenTransform.{GenTransform}
use Rattle.schemars_transform.specs.declared.gen_transform.GenTransform.TheVariants.{ReplaceBoolSchemas, RemoveRefSiblings, SetSingleExample, ReplaceConstValue, ReplacePrefixItems, AddNullable, ReplaceUnevaluatedProperties, RestrictFormats, Own}
use Rattle.schemars_transform.specs.declared.built_in.nullable.AddNullable as options
use Rattle.schemars_headline.proofs.Floats.{IsWhole, whole_members_in, whole_without, whole_with_item, whole_member, whole_replaced, whole_changed_at}

-- ---- a rewrite whose change leaves numbers whole

abbrev AreWholeForms : Forms → Type 0
AreWholeForms f = IsWhole f.as_schema × IsWhole f.as_list × IsWhole f.as_either × IsWhole f.by_name

whole_form : (p : Place) (d : Data) (f : Forms) → IsWhole d → AreWholeForms f → IsWhole (form_at p d f)
whole_form NoSchemas d f h w = h
whole_form OneSchema d f h w = w.0
whole_form SchemaList d f h w = w.1
whole_form SchemaOrList d f h w = w.2
whole_form SchemasByName d f h w = w.3

module _ {R : Type 0} (ρ : Rules R) (keeps : (r : R) (d : Data) → IsWhole d → IsWhole (ρ.finish r d)) where
  mutual
    unfolding forms in_items in_names in_keywords

    whole_forms : (r : R) (d : Data) → IsWhole d → AreWholeForms (forms ρ r d)
    whole_forms r (boolean b) h = (keeps (ρ.inside r (boolean b)) (boolean b) h, h, keeps (ρ.inside r (boolean b)) (boolean b) h, h)
    whole_forms r (array ds) h = (h, whole_in_items r ds h, whole_in_items r ds h, h)
    whole_forms r (object ms) h =
        let s = ρ.inside r (object ms) in
        let inner = keeps s (object (in_keywords ρ s ms)) (whole_in_keywords s ms h) in
        (inner, h, inner, whole_in_names r ms h)
    whole_forms r _ h = (h, h, h, h)

    whole_in_items : (r : R) (ds : Items) → items_have_float ds ≡ false → items_have_float (in_items ρ r ds) ≡ false
    whole_in_items r no_items h = refl
    whole_in_items r (item d ds) h =
        let parts = or_parts (has_float d) (items_have_float ds) h in
        rw (whole_forms r d parts.0).0 (whole_in_items r ds parts.1)

    whole_in_names : (r : R) (ms : Members) → members_have_float ms ≡ false → members_have_float (in_names ρ r ms) ≡ false
    whole_in_names r no_members h = refl
    whole_in_names r (member k d ms) h =
        let parts = or_parts (has_float d) (members_have_float ms) h in
        rw (whole_forms r d parts.0).0 (whole_in_names r ms parts.1)

    whole_in_keywords : (r : R) (ms : Members) → members_have_float ms ≡ false → members_have_float (in_keywords ρ r ms) ≡ false
    whole_in_keywords r no_members h = refl
    whole_in_keywords r (member k d ms) h =
        let parts = or_parts (has_float d) (members_have_float ms) h in
        rw (whole_form (ρ.place r k d) d (forms ρ r d) parts.0 (whole_forms r d parts.0)) (whole_in_keywords r ms parts.1)

  whole_rewritten : (r : R) (d : Data) → IsWhole d → IsWhole (rewritten ρ r d)
  whole_rewritten r d h = (whole_forms r d h).0

whole_changed : (change : Data → Data) → ((d : Data) → IsWhole d → IsWhole (change d)) → (d : Data) → IsWhole d
    → IsWhole (all_changed change d)
whole_changed change keeps = whole_rewritten {R = Unit {0}} (everywhere (λ r s. change s)) (λ r. keeps) tt

-- ---- edits

whole_inserted : (k : Text) (d s : Data) → IsWhole d → IsWhole s → IsWhole (inserted k d s)
whole_inserted k d s new h = members_have_float-put k d (members_in s) new (whole_members_in s h)

whole_removed : (k : Text) (s : Data) → IsWhole s → IsWhole (removed k s)
whole_removed k (object ms) h = whole_without k ms h
whole_removed k _ h = h

whole_get : (k : Text) (s : Data) → IsWhole s → (d : Data) → get k s ≡ Some d → IsWhole d
whole_get k (object ms) h d is = whole_member k ms h d is
whole_get k _ h d is = cc

whole_if : (b : Bool) (s t : Data) → IsWhole s → IsWhole t → IsWhole (if b then s else t)
whole_if true s t one other = one
whole_if false s t one other = other

-- where a change is of the value of a keyword
module _ (change : Option Data → Data → Data)
    (keeps : (o : Option Data) (s : Data) → ((d : Data) → o ≡ Some d → IsWhole d) → IsWhole s → IsWhole (change o s)) where
  whole_taken : (k : Text) (s : Data) → IsWhole s → IsWhole (change (get k s) (removed k s))
  whole_taken k s h = keeps (get k s) (removed k s) (whole_get k s h) (whole_removed k s h)

-- ---- the change of each transform

whole_with_last : (d s : Data) → IsWhole d → IsWhole s → IsWhole (with_last d s)
whole_with_last d (array ds) new h = whole_with_item ds d new h
whole_with_last d _ new h = h

whole_moved : (o : Option Data) (s : Data) → ((d : Data) → o ≡ Some d → IsWhole d) → IsWhole s → IsWhole (reference_moved o s)
whole_moved None s at h = h
whole_moved (Some r) s at h =
    let new : IsWhole (referring r) = rw (at r refl) refl in
    whole_changed_at (codes "allOf") (with_last (referring r)) (array no_items) (members_in s)
    (λ e w. whole_with_last (referring r) e new w) refl (whole_members_in s h)

whole_siblings : (s : Data) → IsWhole s → IsWhole (without_siblings s)
whole_siblings s h = whole_if (has_one_member s) s _ h (whole_taken reference_moved whole_moved (codes "$ref") s h)

whole_first : (o : Option Data) (s : Data) → ((d : Data) → o ≡ Some d → IsWhole d) → IsWhole s → IsWhole (first_as_example o s)
whole_first None s at h = h
whole_first (Some null) s at h = h
whole_first (Some (boolean b)) s at h = h
whole_first (Some (number n)) s at h = h
whole_first (Some (string t)) s at h = h
whole_first (Some (array no_items)) s at h = h
whole_first (Some (array (item d ds))) s at h =
    whole_inserted (codes "example") d s (or_parts (has_float d) (items_have_float ds) (at (array (item d ds)) refl)).0 h
whole_first (Some (object ms)) s at h = h

whole_enum : (o : Option Data) (s : Data) → ((d : Data) → o ≡ Some d → IsWhole d) → IsWhole s → IsWhole (value_as_enum o s)
whole_enum None s at h = h
whole_enum (Some c) s at h =
    let new : IsWhole (array (item c no_items)) = rw (at c refl) refl in
    whole_inserted (codes "enum") (array (item c no_items)) s new h

whole_old_items : (o : Option Data) (s : Data) → ((d : Data) → o ≡ Some d → IsWhole d) → IsWhole s → IsWhole (old_items_moved o s)
whole_old_items None s at h = h
whole_old_items (Some items) s at h = whole_inserted (codes "additionalItems") items s (at items refl) h

whole_prefix : (o : Option Data) (s : Data) → ((d : Data) → o ≡ Some d → IsWhole d) → IsWhole s → IsWhole (prefix_moved o s)
whole_prefix None s at h = h
whole_prefix (Some prefix) s at h = whole_old_items (get (codes "items") s) (inserted (codes "items") prefix s)
    (whole_get (codes "items") s h) (whole_inserted (codes "items") prefix s (at prefix refl) h)

whole_without_null : (ds : Items) → items_have_float ds ≡ false → items_have_float (without_null ds) ≡ false
whole_without_null no_items h = refl
whole_without_null (item d ds) h = go (is_null_name d) (whole_without_null ds parts.1)
  where
    parts : (has_float d ≡ false) × (items_have_float ds ≡ false)
    parts = or_parts (has_float d) (items_have_float ds) h

    go : (b : Bool) → items_have_float (without_null ds) ≡ false
        → items_have_float (if b then without_null ds else item d (without_null ds)) ≡ false
    go true later = later
    go false later = rw (parts.0) later

whole_one_or_list : (ds : Items) → items_have_float ds ≡ false → IsWhole (one_or_list ds)
whole_one_or_list no_items h = refl
whole_one_or_list (item d no_items) h = (or_parts (has_float d) false h).0
whole_one_or_list (item d (item e ds)) h = h

whole_type : (d : Data) → IsWhole d → IsWhole (type_without_null d)
whole_type (array ds) h = whole_one_or_list (without_null ds) (whole_without_null ds h)
whole_type _ h = h

whole_taken_out : (o : Option Data) (s : Data) → ((d : Data) → o ≡ Some d → IsWhole d) → IsWhole s → IsWhole (null_taken_out o s)
whole_taken_out None s at h = h
whole_taken_out (Some type) s at h =
    whole_replaced (codes "type") (type_without_null type) (members_in s) (whole_type type (at type refl)) (whole_members_in s h)

whole_null_alone : (t : options.AddNullable) (s : Data) → IsWhole s → IsWhole (null_alone t s)
whole_null_alone t s h =
    let const = inserted (codes "const") null s in
    let whole_const = whole_inserted (codes "const") null s refl h in
    whole_if t.add_const_null _ _
    (whole_if t.remove_null_type (removed (codes "type") const) const (whole_removed (codes "type") const whole_const) whole_const)
    (whole_if t.remove_null_type (inserted (codes "type") (array no_items) s) s (whole_inserted (codes "type") (array no_items) s refl h) h)

whole_null_among : (t : options.AddNullable) (s : Data) → IsWhole s → IsWhole (null_among t s)
whole_null_among t s h =
    whole_if t.remove_null_type _ s (whole_taken_out (get (codes "type") s) s (whole_get (codes "type") s h) h) h

-- a type that is null alone, and one of which null is a part
abbrev null_type : Option Data
null_type = Some (string (codes "null"))

abbrev null_among_types : Option Data
null_among_types = Some (array (item (string (codes "null")) (item null no_items)))

whole_nullable : (t : options.AddNullable) (s : Data) → IsWhole s → IsWhole (with_nullable t s)
whole_nullable t s h = by (get (codes "type") s)
  where
    marked : IsWhole (inserted (codes "nullable") (boolean true) s)
    marked = whole_inserted (codes "nullable") (boolean true) s refl h

    of_alone : IsWhole (nullable_by t (nulls_in null_type) s)
    of_alone = whole_null_alone t (inserted (codes "nullable") (boolean true) s) marked

    of_among : IsWhole (nullable_by t (nulls_in null_among_types) s)
    of_among = whole_null_among t (inserted (codes "nullable") (boolean true) s) marked

    text : (b : Bool) → IsWhole (nullable_by t (if b then nulls_in null_type else nulls_in None) s)
    text true = of_alone
    text false = h

    list : (some all : Bool)
        → IsWhole (nullable_by t (if some then if all then nulls_in null_type else nulls_in null_among_types else nulls_in None) s)
    list true true = of_alone
    list true false = of_among
    list false all = h

    by : (o : Option Data) → IsWhole (nullable_by t (nulls_in o) s)
    by None = h
    by (Some null) = h
    by (Some (boolean b)) = h
    by (Some (number n)) = h
    by (Some (string x)) = text (bytes_eq x (codes "null"))
    by (Some (array ds)) = list (holds_text (codes "null") ds) (all_null ds)
    by (Some (object ms)) = h

whole_with_names : (ks : List Text) (ms : Members) → members_have_float ms ≡ false → members_have_float (with_names ks ms) ≡ false
whole_with_names [] ms h = h
whole_with_names (k ∷ ks) ms h = whole_with_names ks (put_missing k (boolean true) ms) (go (is_some (get_member k ms)))
  where
    go : (b : Bool) → members_have_float (if b then ms else put k (boolean true) ms) ≡ false
    go true = h
    go false = members_have_float-put k (boolean true) ms refl h

whole_named : (ks : List Text) (d : Data) → IsWhole d → IsWhole (object_with_names ks d)
whole_named ks (object ms) h = whole_with_names ks ms h
whole_named ks _ h = h

whole_made : (ms : Members) (s : Data) → members_have_float ms ≡ false → IsWhole s → IsWhole (properties_made ms s)
whole_made no_members s new h = h
whole_made (member k d ms) s new h = whole_inserted (codes "properties") (object (member k d ms)) s new h

whole_properties : (ks : List Text) (o : Option Data) (s : Data) → ((d : Data) → o ≡ Some d → IsWhole d) → IsWhole s
    → IsWhole (properties_named ks o s)
whole_properties ks None s at h = whole_made (with_names ks no_members) s (whole_with_names ks no_members refl) h
whole_properties ks (Some properties) s at h =
    whole_inserted (codes "properties") (object_with_names ks properties) s (whole_named ks properties (at properties refl)) h

whole_with_properties : (s : Data) → IsWhole s → IsWhole (with_properties s)
whole_with_properties s h =
    whole_taken (properties_named (property_names (removed (codes "properties") s)))
    (whole_properties (property_names (removed (codes "properties") s))) (codes "properties") s h

whole_closed_by : (o : Option Data) (s : Data) → ((d : Data) → o ≡ Some d → IsWhole d) → IsWhole s → IsWhole (closed_by o s)
whole_closed_by None s at h = h
whole_closed_by (Some rest) s at h =
    whole_with_properties (inserted (codes "additionalProperties") rest s)
    (whole_inserted (codes "additionalProperties") rest s (at rest refl) h)

-- ---- each transform, and several

pub whole_function : {O : Type 0} (t : GenTransform O) (d : Data) → IsWhole d → IsWhole (function_of t d)
whole_function (ReplaceBoolSchemas t) d h = whole_rewritten bool_rules (λ r s w. whole_members_in s w) t d h
whole_function (RemoveRefSiblings t) d h = whole_changed without_siblings whole_siblings d h
whole_function (SetSingleExample t) d h =
    whole_changed with_single_example (λ s w. whole_taken first_as_example whole_first (codes "examples") s w) d h
whole_function (ReplaceConstValue t) d h =
    whole_changed const_as_enum (λ s w. whole_taken value_as_enum whole_enum (codes "const") s w) d h
whole_function (ReplacePrefixItems t) d h =
    whole_changed prefix_as_items (λ s w. whole_taken prefix_moved whole_prefix (codes "prefixItems") s w) d h
whole_function (AddNullable t) d h = whole_changed (with_nullable t) (whole_nullable t) d h
whole_function (ReplaceUnevaluatedProperties t) d h =
    whole_changed unevaluated_as_additional (λ s w. whole_taken closed_by whole_closed_by (codes "unevaluatedProperties") s w) d h
whole_function (RestrictFormats t) d h =
    whole_rewritten (format_rules t.allowed_formats) (λ r s w. whole_if
    (format_stays r t.allowed_formats (option_and_then as_str (get (codes "format") s))) s (removed (codes "format") s) w
    (whole_removed (codes "format") s w)) _ d h
whole_function (Own t) d h = h

pub whole_by : {O : Type 0} (ts : List (GenTransform O)) (d : Data) → IsWhole d → IsWhole (made_by ts d)
whole_by [] d h = h
whole_by (t ∷ ts) d h = whole_by ts (function_of t d) (whole_function t d h)

whole_value : {O : Type 0} (ts : List (GenTransform O)) (d : Data) → IsWhole d → IsWhole (value_made_by ts d)
whole_value ts (boolean b) h = whole_by ts (boolean b) h
whole_value ts (object ms) h = whole_by ts (object ms) h
whole_value ts _ h = h

pub whole_each_by : {O : Type 0} (ts : List (GenTransform O)) (ms : Members) → members_have_float ms ≡ false
    → members_have_float (each_made_by ts ms) ≡ false
whole_each_by ts no_members h = refl
whole_each_by ts (member k d ms) h =
    let parts = or_parts (has_float d) (members_have_float ms) h in
    rw (whole_value ts d parts.0) (whole_each_by ts ms parts.1)
