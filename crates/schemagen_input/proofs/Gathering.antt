-- What is said of a field, a struct, a variant, an enum, a row and one member, with one member more.
use Rattle.std.proofs.Common.{◌≡◌, List, [], ◌∷◌, ◌++◌, map, Bor, true, false, ◌&&◌, Option, Some, None, option_map, option_and_then, codes, string_bytes, refl, ap, ◌∙◌, sym, subst, true≢false, Ordering, Less, Equal, Greater, is_eq, nat_cmp}
use Rattle.schemagen_input.proofs.Words.{slice_cmp, option_map_or, match_ordering, bytes_eq, nat_list_cmp_total, tied_itself, is_eq-slice_cmp, bytes_eq-Decides, Data, no_items, Members, no_members, member, object, put, as_array, as_bool, as_object, as_str, get, items_of, members_view, Text, field_of, flattened_of, no_payload, payload_of, required_of, shape_of, is_listed, adjacent_names, field_in, field_names, flattened_from, internal_names, number_in, optional_member, payload_in, read_each, read_list, required, required_in, variant_keys, AreOfField, AreOfStruct, AreOfVariant, AreOfEnum, AreOfTagged, AreOfRow, AreSeveral, can_be_lone, row_names, shape_in, listed, with_last}
use Rattle.schemagen_input.specs.declared.tokens.enums.EnumMembers.{EnumMembers}
use Rattle.schemagen_input.specs.declared.tokens.field.FieldMembers.{FieldMembers}
use Rattle.schemagen_input.specs.declared.tokens.fields.StructMembers.{StructMembers}
use Rattle.schemagen_input.specs.declared.tokens.row.RowMembers.{RowMembers}
use Rattle.schemagen_input.specs.declared.tokens.tagged.TaggedMembers.{TaggedMembers}
use Rattle.schemagen_input.specs.declared.tokens.tagged.TaggedMembers.TheVariants.{Empty, Lone, Several}
use Rattle.schemagen_input.specs.declared.tokens.variant.VariantMembers.{VariantMembers}
use Rattle.schemagen_input.proofs.OneMember.{Follows, needed_follows, optional_follows, only_follows, other_name, stays}

-- a list that is missing is empty
list_is : {T : Type 0} (says : Data → Option T) (key : Text) (d : Data) → read_list says key d ≡ optional_member [] (listed says) key d
list_is {T = T} says key d = by (get key d)
  where
    by : (o : Option Data) → option_and_then (read_each says) (option_map_or as_array o (Some no_items)) ≡ option_map_or (listed says) o (Some [])
    by None = refl
    by (Some e) = refl

-- what the items so far say, with one more
pub each_more : {T : Type 0} (says : Data → Option T) (ds : List Data) (d : Data)
    → read_each says (items_of (ds ++ d ∷ [])) ≡ with_last (read_each says (items_of ds)) (says d)
each_more {T = T} says [] d = by (says d)
  where
    by : (o : Option T) → option_and_then (λ x. option_map (λ xs. x ∷ xs) (Some [])) o ≡ option_map (λ x. x ∷ []) o
    by None = refl
    by (Some x) = refl
each_more {T = T} says (c ∷ ds) d = by (says c) (read_each says (items_of ds)) (says d) _ (each_more says ds d)
  where
    by : (first : Option T) (later : Option (List T)) (last : Option T) (all : Option (List T)) → all ≡ with_last later last
        → option_and_then (λ x. option_map (λ xs. x ∷ xs) all) first ≡ with_last (option_and_then (λ x. option_map (λ xs. x ∷ xs) later) first) last
    by None later last all is = refl
    by (Some x) None last all is = ap (option_map (λ xs. x ∷ xs)) is
    by (Some x) (Some xs) None all is = ap (option_map (λ xs. x ∷ xs)) is
    by (Some x) (Some xs) (Some y) all is = ap (option_map (λ xs. x ∷ xs)) is

module _ (k : Text) (d : Data) (ms : Members) where
  pub field_follows : (old new : FieldMembers) → AreOfField old (object ms)
      → new.only ≡ is_listed k field_names && old.only
      → Follows (codes "name") as_str k d (option_map string_bytes old.name) (option_map string_bytes new.name)
      → Follows (codes "type") number_in k d old.ty new.ty
      → Follows (codes "required") required_in k d (option_map required_of old.required) (option_map required_of new.required)
      → Follows (codes "notes") as_object k d (option_map (λ n. members_view n.entries) old.notes) (option_map (λ n. members_view n.entries) new.notes)
      → AreOfField new (object (put k d ms))
  field_follows old new were only name ty need notes = record {
    only = only_follows field_names k d ms old.only new.only were.only only;
    name = needed_follows as_str (codes "name") k d ms _ _ were.name name;
    ty = needed_follows number_in (codes "type") k d ms _ _ were.ty ty;
    need = optional_follows required_in (codes "required") k d ms _ _ (required true true) were.need need;
    notes = optional_follows as_object (codes "notes") k d ms _ _ no_members were.notes notes;
  }

  pub field_stays : (old : FieldMembers) → bytes_eq k (codes "name") ≡ false → bytes_eq k (codes "type") ≡ false
      → bytes_eq k (codes "required") ≡ false → bytes_eq k (codes "notes") ≡ false → AreOfField old (object ms)
      → AreOfField (record old { only = false }) (object (put k d ms))
  field_stays old name type required notes were =
      let unknown : is_listed k field_names ≡ false = rw (name, type, required, notes) refl in
      field_follows old (record old { only = false }) were (sym (ap (λ b. b && old.only) unknown))
      (stays (codes "name") as_str k d (option_map string_bytes old.name) name)
      (stays (codes "type") number_in k d old.ty type)
      (stays (codes "required") required_in k d (option_map required_of old.required) required)
      (stays (codes "notes") as_object k d (option_map (λ n. members_view n.entries) old.notes) notes)

  pub struct_follows : (old new : StructMembers) → AreOfStruct old (object ms)
      → new.only ≡ is_listed k (codes "fields" ∷ codes "flatten" ∷ codes "closed" ∷ []) && old.only
      → Follows (codes "fields") (listed field_in) k d (option_map (λ v. map field_of v.items) old.list) (option_map (λ v. map field_of v.items) new.list)
      → Follows (codes "flatten") (listed flattened_from) k d (option_map (λ v. map flattened_of v.items) old.flatten)
      (option_map (λ v. map flattened_of v.items) new.flatten)
      → Follows (codes "closed") as_bool k d old.closed new.closed
      → AreOfStruct new (object (put k d ms))
  struct_follows old new were only list flatten closed = record {
    only = only_follows (codes "fields" ∷ codes "flatten" ∷ codes "closed" ∷ []) k d ms old.only new.only were.only only;
    list = optional_follows (listed field_in) (codes "fields") k d ms _ _ [] (were.list ∙ list_is field_in (codes "fields") (object ms)) list
        ∙ sym (list_is field_in (codes "fields") (object (put k d ms)));
    flatten = optional_follows (listed flattened_from) (codes "flatten") k d ms _ _ []
        (were.flatten ∙ list_is flattened_from (codes "flatten") (object ms)) flatten
        ∙ sym (list_is flattened_from (codes "flatten") (object (put k d ms)));
    closed = optional_follows as_bool (codes "closed") k d ms _ _ false were.closed closed;
  }

  pub struct_stays : (old : StructMembers) → bytes_eq k (codes "fields") ≡ false → bytes_eq k (codes "flatten") ≡ false
      → bytes_eq k (codes "closed") ≡ false → AreOfStruct old (object ms) → AreOfStruct (record old { only = false }) (object (put k d ms))
  struct_stays old fields flatten closed were =
      let unknown : is_listed k (codes "fields" ∷ codes "flatten" ∷ codes "closed" ∷ []) ≡ false = rw (fields, flatten, closed) refl in
      struct_follows old (record old { only = false }) were (sym (ap (λ b. b && old.only) unknown))
      (stays (codes "fields") (listed field_in) k d (option_map (λ v. map field_of v.items) old.list) fields)
      (stays (codes "flatten") (listed flattened_from) k d (option_map (λ v. map flattened_of v.items) old.flatten) flatten)
      (stays (codes "closed") as_bool k d old.closed closed)

  pub variant_follows : (old new : VariantMembers) → AreOfVariant old (object ms)
      → new.only ≡ is_listed k variant_keys && old.only
      → Follows (codes "name") as_str k d (option_map string_bytes old.name) (option_map string_bytes new.name)
      → Follows (codes "notes") as_object k d (option_map (λ n. members_view n.entries) old.notes) (option_map (λ n. members_view n.entries) new.notes)
      → Follows (codes "payload") payload_in k d (option_map payload_of old.payload) (option_map payload_of new.payload)
      → AreOfVariant new (object (put k d ms))
  variant_follows old new were only name notes payload = record {
    only = only_follows variant_keys k d ms old.only new.only were.only only;
    name = needed_follows as_str (codes "name") k d ms _ _ were.name name;
    notes = optional_follows as_object (codes "notes") k d ms _ _ no_members were.notes notes;
    payload = optional_follows payload_in (codes "payload") k d ms _ _ no_payload were.payload payload;
  }

  pub variant_stays : (old : VariantMembers) → bytes_eq k (codes "name") ≡ false → bytes_eq k (codes "notes") ≡ false
      → bytes_eq k (codes "payload") ≡ false → AreOfVariant old (object ms) → AreOfVariant (record old { only = false }) (object (put k d ms))
  variant_stays old name notes payload were =
      let unknown : is_listed k variant_keys ≡ false = rw (name, notes, payload) refl in
      variant_follows old (record old { only = false }) were (sym (ap (λ b. b && old.only) unknown))
      (stays (codes "name") as_str k d (option_map string_bytes old.name) name)
      (stays (codes "notes") as_object k d (option_map (λ n. members_view n.entries) old.notes) notes)
      (stays (codes "payload") payload_in k d (option_map payload_of old.payload) payload)

  pub row_follows : (old new : RowMembers) → AreOfRow old (object ms)
      → new.only ≡ is_listed k row_names && old.only
      → Follows (codes "id") as_str k d (option_map string_bytes old.id) (option_map string_bytes new.id)
      → Follows (codes "name") as_str k d (option_map string_bytes old.name) (option_map string_bytes new.name)
      → Follows (codes "inline") as_bool k d old.inline new.inline
      → Follows (codes "notes") as_object k d (option_map (λ n. members_view n.entries) old.notes) (option_map (λ n. members_view n.entries) new.notes)
      → Follows (codes "shape") shape_in k d (option_map shape_of old.shape) (option_map shape_of new.shape)
      → AreOfRow new (object (put k d ms))
  row_follows old new were only id name inline notes shape = record {
    only = only_follows row_names k d ms old.only new.only were.only only;
    id = needed_follows as_str (codes "id") k d ms _ _ were.id id;
    name = needed_follows as_str (codes "name") k d ms _ _ were.name name;
    inline = optional_follows as_bool (codes "inline") k d ms _ _ false were.inline inline;
    notes = optional_follows as_object (codes "notes") k d ms _ _ no_members were.notes notes;
    shape = needed_follows shape_in (codes "shape") k d ms _ _ were.shape shape;
  }

  pub row_stays : (old : RowMembers) → bytes_eq k (codes "id") ≡ false → bytes_eq k (codes "name") ≡ false
      → bytes_eq k (codes "inline") ≡ false → bytes_eq k (codes "notes") ≡ false → bytes_eq k (codes "shape") ≡ false
      → AreOfRow old (object ms) → AreOfRow (record old { only = false }) (object (put k d ms))
  row_stays old id name inline notes shape were =
      let unknown : is_listed k row_names ≡ false = rw (id, name, inline, notes, shape) refl in
      row_follows old (record old { only = false }) were (sym (ap (λ b. b && old.only) unknown))
      (stays (codes "id") as_str k d (option_map string_bytes old.id) id)
      (stays (codes "name") as_str k d (option_map string_bytes old.name) name)
      (stays (codes "inline") as_bool k d old.inline inline)
      (stays (codes "notes") as_object k d (option_map (λ n. members_view n.entries) old.notes) notes)
      (stays (codes "shape") shape_in k d (option_map shape_of old.shape) shape)

module _ {V W : Type 0} (variant_of : V → W) (says : Data → Option W) (k : Text) (d : Data) (ms : Members) where
  pub enum_follows : (old new : EnumMembers V) → AreOfEnum variant_of says old (object ms)
      → new.adjacent ≡ is_listed k adjacent_names && old.adjacent
      → new.internal ≡ is_listed k internal_names && old.internal
      → new.plain ≡ is_listed k (codes "variants" ∷ []) && old.plain
      → Follows (codes "tag") as_str k d (option_map string_bytes old.tag) (option_map string_bytes new.tag)
      → Follows (codes "content") as_str k d (option_map string_bytes old.content) (option_map string_bytes new.content)
      → Follows (codes "closed") as_bool k d old.closed new.closed
      → Follows (codes "variants") (listed says) k d (option_map (λ v. map variant_of v.items) old.variants)
      (option_map (λ v. map variant_of v.items) new.variants)
      → AreOfEnum variant_of says new (object (put k d ms))
  enum_follows old new were adjacent internal plain tag content closed variants = record {
    adjacent = only_follows adjacent_names k d ms old.adjacent new.adjacent were.adjacent adjacent;
    internal = only_follows internal_names k d ms old.internal new.internal were.internal internal;
    plain = only_follows (codes "variants" ∷ []) k d ms old.plain new.plain were.plain plain;
    tag = needed_follows as_str (codes "tag") k d ms _ _ were.tag tag;
    content = needed_follows as_str (codes "content") k d ms _ _ were.content content;
    closed = optional_follows as_bool (codes "closed") k d ms _ _ false were.closed closed;
    variants = optional_follows (listed says) (codes "variants") k d ms _ _ [] (were.variants ∙ list_is says (codes "variants") (object ms)) variants
        ∙ sym (list_is says (codes "variants") (object (put k d ms)));
  }

  pub enum_stays : (old : EnumMembers V) → bytes_eq k (codes "tag") ≡ false → bytes_eq k (codes "content") ≡ false
      → bytes_eq k (codes "closed") ≡ false → bytes_eq k (codes "variants") ≡ false → AreOfEnum variant_of says old (object ms)
      → AreOfEnum variant_of says (record old { adjacent = false; internal = false; plain = false }) (object (put k d ms))
  enum_stays old tag content closed variants were =
      let not_adjacent : is_listed k adjacent_names ≡ false = rw (tag, content, closed, variants) refl in
      let not_internal : is_listed k internal_names ≡ false = rw (tag, closed, variants) refl in
      let not_plain : is_listed k (codes "variants" ∷ []) ≡ false = rw variants refl in
      enum_follows old (record old { adjacent = false; internal = false; plain = false }) were
      (sym (ap (λ b. b && old.adjacent) not_adjacent))
      (sym (ap (λ b. b && old.internal) not_internal))
      (sym (ap (λ b. b && old.plain) not_plain))
      (stays (codes "tag") as_str k d (option_map string_bytes old.tag) tag)
      (stays (codes "content") as_str k d (option_map string_bytes old.content) content)
      (stays (codes "closed") as_bool k d old.closed closed)
      (stays (codes "variants") (listed says) k d (option_map (λ v. map variant_of v.items) old.variants) variants)

-- ---- one member

equal_texts : (k l : Text) → slice_cmp nat_cmp k l ≡ Equal → k ≡ l
equal_texts k l is = (bytes_eq-Decides k l).0 (sym (is_eq-slice_cmp k l) ∙ ap is_eq is)

put_some : (k : Text) (d : Data) (l : Text) (e : Data) (ms : Members) (j : Text) (f : Data) → AreSeveral (member j f (put k d (member l e ms)))
put_some k d l e ms j f = by (slice_cmp nat_cmp k l)
  where
    by : (o : Ordering) → AreSeveral (member j f (match_ordering o (member k d (member l e ms)) (member l d ms) (member l e (put k d ms))))
    by Less = tt
    by Equal = tt
    by Greater = tt

several_more : (k : Text) (d : Data) (ms : Members) → AreSeveral ms → AreSeveral (put k d ms)
several_more k d no_members several = absurd several
several_more k d (member l e no_members) several = absurd several
several_more k d (member l e (member m f ms)) several = by (slice_cmp nat_cmp k l) (put_some k d m f ms l e)
  where
    by : (o : Ordering) → AreSeveral (member l e (put k d (member m f ms)))
        → AreSeveral (match_ordering o (member k d (member l e (member m f ms))) (member l d (member m f ms)) (member l e (put k d (member m f ms))))
    by Less more = tt
    by Equal more = tt
    by Greater more = more

two_names : (k l : Text) (d e : Data) → bytes_eq l k ≡ false → AreSeveral (put k d (member l e no_members))
two_names k l d e apart = by (slice_cmp nat_cmp k l) refl
  where
    by : (o : Ordering) → slice_cmp nat_cmp k l ≡ o → AreSeveral (match_ordering o (member k d (member l e no_members)) (member l d no_members) (member l e (member k d no_members)))
    by Less is = tt
    by Equal is = absurd (other_name l k apart (equal_texts k l is))
    by Greater is = tt

module _ {T V : Type 0} (value_of : T → V) (says : Text → Data → Option V) (name : Bor Text) (d : Data) (ms : Members) where
  pub lone_follows : (old : TaggedMembers T) (said : Option T) → can_be_lone name.now old ≡ true → AreOfTagged value_of says old ms
      → option_map value_of said ≡ says name.now d → AreOfTagged value_of says (Lone name said) (put name.now d ms)
  lone_follows Empty said may were is = (d, ap (put name.now d) were, is)
  lone_follows (Lone lone before) said may were is =
      let same : lone.now ≡ name.now = (bytes_eq-Decides lone.now name.now).0 may in (
        d,
        ap (put name.now d) were.1 ∙ ap (λ l. put name.now d (member l were.0 no_members)) same ∙ rw (tied_itself nat_list_cmp_total name.now),
        is,
      )
  lone_follows Several said may were is = absurd (true≢false (sym may))

  pub several_follow : (old : TaggedMembers T) → can_be_lone name.now old ≡ false → AreOfTagged value_of says old ms → AreSeveral (put name.now d ms)
  several_follow Empty may were = absurd (true≢false may)
  several_follow (Lone lone before) may were = subst (λ found. AreSeveral (put name.now d found)) (sym were.1) (two_names name.now lone.now d were.0 may)
  several_follow Several may were = several_more name.now d ms were
