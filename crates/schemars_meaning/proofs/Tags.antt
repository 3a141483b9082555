-- A tag among the properties of a struct, with or without enums.
use Rattle.std.proofs.Common.{◌≡◌, ℕ, ◌<◌, List, [], ◌∷◌, ◌++◌, map, Option, Some, None, Bool, true, false, refl, sym, ap, ◌∙◌, subst, true≢false}
use Rattle.schemars_meaning.proofs.Words.{codes, bytes_eq, if◌then◌else◌, is_some, ◌&&◌, ◌||◌, option_and_then, bytes_eq-Decides, Data, string, array, object, no_items, Members, no_members, put, depth, get_member, as_str, get_member-put, get_member-put_other, Text, IsJson, IsSchema, put_all, is_annotation, AreNotes, verdict, Context, judge, have_all, differ, sorted-put, with_member, with_first, unit_variant, with_property, has_null_type, internally_tagged_variant, Field, field_named, VariantMatch, has_tagged, AreDistinct, AreNoted, Keyword, annotated, required_names, type_alone, closed_where, Member, member_named, has_each, tag_member, field_member}
use Rattle.schemars_schema.specs.Edits.{is_text as is_name}
use Rattle.schemars_builders.specs.Properties.{tagged}
use Rattle.schemars_types.specs.declared.contract.Contract.{Contract}
use Rattle.schemars_types.specs.Meaning.{is_text}
use Rattle.schemars_meaning.proofs.MapDocument.{map_document}
use Rattle.schemars_meaning.proofs.MapKeywords.{put_all-append, properties_there, required_there, value_or, changed_at-here, changed_at-beside, sorted-changed_at, noted, noted_by-object, noted-beside, sorted-noted, keywords}
use Rattle.schemars_meaning.proofs.Named.{AreEntries}
use Rattle.schemars_meaning.proofs.MapForm.{look_up}
use Rattle.schemars_meaning.proofs.StructForm.{Parts, choices_in, struct_keywords}
use Rattle.schemars_meaning.proofs.StructMeans.{IsFound, value_means, field_is_found}
use Rattle.schemars_meaning.proofs.Uniting.{IsForm, form-keywords, by_seven, look_up-other}
use Rattle.schemars_meaning.proofs.Opened.{no_parts, map_form}
use Rattle.schemars_meaning.proofs.Items.{IsItem, choices_say}
use Rattle.schemars_meaning.proofs.StructDocuments.{IsStruct, parts_alike}
use Rattle.schemars_meaning.proofs.Spread.{field_keywords, AreWritten}
use Rattle.schemars_meaning.proofs.Fields.{field_found, entries, required_same}

-- the document of a map without keys
pub no_keys : (c : Context) (on : c.dialect.reads_unevaluated ≡ true) (contract : Contract) (W : ℕ → Data → Type 0) (v : Data)
    (closed : Bool) → IsStruct c on contract W v [] [] closed (map_document [] [] closed)
no_keys c on contract W v closed = record {
  written = [];
  are_written = refl;
  parts = no_parts;
  members = keywords [] [] closed;
  is = refl;
  form = map_form [] [] [] closed tt;
  every = refl;
  claimed = λ k. refl;
  choices = (tt, tt);
  bare = λ e. refl;
}

-- with a tag it is that of null with the tag
pub null_tagged : (tag name : Text) (b : Bool) → internally_tagged_variant tag name b (map_document [] [] b)
    ≡ internally_tagged_variant tag name b (type_alone (codes "null"))
null_tagged tag name false = refl
null_tagged tag name true = refl

put_all-last : (k : Text) (d : Data) (es : List Keyword) (ms : Members) → put_all (es ++ (k, d) ∷ []) ms ≡ put k d (put_all es ms)
put_all-last k d [] ms = refl
put_all-last k d (e ∷ es) ms = put_all-last k d es (put e.0 e.1 ms)

entries_with_tag : (tag : Text) (d : Data) (es : List Keyword) → IsSchema d → AreEntries es → AreEntries (es ++ (tag, d) ∷ [])
entries_with_tag tag d [] is are = (is, tt)
entries_with_tag tag d (e ∷ es) is are = (are.0, entries_with_tag tag d es is are.1)

-- ---- the tag among the keywords

module _ (tag name : Text) where
  abbrev pub tag_keyword : List Keyword
  tag_keyword = (tag, unit_variant name) ∷ []

  properties_tagged : (es : List Keyword) → Some (with_member tag (unit_variant name) (value_or (object no_members) (properties_there es)))
      ≡ properties_there (es ++ tag_keyword)
  unfolding value_or properties_there
  properties_tagged [] = refl
  properties_tagged (e ∷ es) = ap (λ ms. Some (object ms)) (sym (put_all-append (e ∷ es) tag_keyword no_members))

  required_tagged : (r : List Text) → Some (with_first (string tag) (value_or (array no_items) (required_there r)))
      ≡ required_there (tag ∷ r)
  unfolding value_or required_there
  required_tagged [] = refl
  required_tagged (k ∷ ks) = refl

  module _ (es : List Keyword) (ns : List Text) (ps : Parts) (closed : Bool) (ms : Members)
      (form : IsForm (struct_keywords es ns ps closed) ms) where
    abbrev with_type : Members
    with_type = put (codes "type") (string (codes "object")) ms

    abbrev with_tags : Members
    with_tags = with_property tag (unit_variant name) with_type

    type_beside : (q : Text) → bytes_eq q (codes "type") ≡ false → is_annotation q ≡ false
        → get_member q with_type ≡ look_up (struct_keywords es ns ps closed) q
    type_beside q t e = get_member-put_other q (codes "type") (string (codes "object")) ms (differ q (codes "type") t) ∙ form.at q e

    beside : (q : Text) → bytes_eq q (codes "properties") ≡ false → bytes_eq q (codes "required") ≡ false
        → get_member q (tagged tag name ms) ≡ get_member q with_type
    beside q p r =
        changed_at-beside q (codes "required") (with_first (string tag)) (array no_items) with_tags r
        ∙ changed_at-beside q (codes "properties") (with_member tag (unit_variant name)) (object no_members) with_type p

    abbrev At : Text → Type 0
    At q =
        is_annotation q ≡ false → get_member q (tagged tag name ms) ≡ look_up (struct_keywords (es ++ tag_keyword) (tag ∷ ns) ps closed) q

    pub tagged_form : IsForm (struct_keywords (es ++ tag_keyword) (tag ∷ ns) ps closed) (tagged tag name ms)
    tagged_form = record {
      sorted = sorted-changed_at (codes "required") (with_first (string tag)) (array no_items) with_tags
          (sorted-changed_at (codes "properties") (with_member tag (unit_variant name)) (object no_members) with_type
          (sorted-put (codes "type") (string (codes "object")) ms form.sorted));
      at = by_seven At
          (λ e. beside (codes "type") refl refl ∙ get_member-put (codes "type") (string (codes "object")) ms)
          (λ e. changed_at-beside (codes "properties") (codes "required") (with_first (string tag)) (array no_items) with_tags refl
          ∙ (changed_at-here (codes "properties") (with_member tag (unit_variant name)) (object no_members) with_type
          ∙ (ap (λ o. Some (with_member tag (unit_variant name) (value_or (object no_members) o))) (type_beside (codes "properties") refl e)
          ∙ properties_tagged es)))
          (λ e. changed_at-here (codes "required") (with_first (string tag)) (array no_items) with_tags
          ∙ (ap (λ o. Some (with_first (string tag) (value_or (array no_items) o)))
          (changed_at-beside (codes "required") (codes "properties") (with_member tag (unit_variant name))
          (object no_members) with_type refl
          ∙ type_beside (codes "required") refl e) ∙ required_tagged ns))
          (λ e. beside (codes "additionalProperties") refl refl ∙ type_beside (codes "additionalProperties") refl e)
          (λ e. beside (codes "allOf") refl refl ∙ type_beside (codes "allOf") refl e)
          (λ e. beside (codes "oneOf") refl refl ∙ type_beside (codes "oneOf") refl e)
          (λ e. beside (codes "unevaluatedProperties") refl refl ∙ type_beside (codes "unevaluatedProperties") refl e)
          (λ q t p r c a o u e. beside q p r ∙ (type_beside q t e ∙ (look_up-other (struct_keywords es ns ps closed) q t p r c a o u
          ∙ sym (look_up-other (struct_keywords (es ++ tag_keyword) (tag ∷ ns) ps closed) q t p r c a o u))));
    }

    no_null : (deny : Bool) → deny && has_null_type (object ms) ≡ false
    no_null false = refl
    no_null true = ap (λ o. is_name (codes "null") (option_and_then as_str o)) (form.at (codes "type") refl)

    pub tagged_same : (deny : Bool) → internally_tagged_variant tag name deny (object ms) ≡ object (tagged tag name ms)
    tagged_same deny = ap (λ b. object (closed_where b (tagged tag name ms))) (no_null deny)

-- ---- against the meaning

module _ (c : Context) (on : c.dialect.reads_unevaluated ≡ true) (contract : Contract) (W : ℕ → Data → Type 0) (M : ℕ → Data → Bool)
    (schemas : (j : ℕ) (t : Data) → W j t → IsSchema t) (v : Data) (json : IsJson v)
    (agree : (j : ℕ) (t w : Data) → W j t → IsJson w → depth w < depth v → (judge c t).fits w ≡ verdict (M j w))
    (tells : (name : Text) (w : Data) → (judge c (unit_variant name)).fits w ≡ verdict (is_text name w)) where
  -- the tag, and the fields beside it
  abbrev with_tag : Text → Text → List Field → List Member
  with_tag tag name xs = tag_member tag name ∷ map (field_member contract M) xs

  names_with_tag : (tag name : Text) (xs : List Field) (ms : Members)
      → have_all (tag ∷ required_names contract xs) ms ≡ has_each (with_tag tag name xs) ms
  names_with_tag tag name xs ms = ap (λ b. is_some (get_member tag ms) && b) (required_same contract M xs ms)

  -- the name is at the tag, and a field's schema at its own name elsewhere
  found_with_tag : (tag name : Text) (xs : List Field) (ts : List Data) → AreDistinct xs → AreNoted xs → AreWritten W xs ts → (k : Text)
      → IsFound c on v (member_named (with_tag tag name xs) k)
      (get_member k (put_all (field_keywords xs ts ++ (tag, unit_variant name) ∷ []) no_members))
  found_with_tag tag name xs ts apart noted written k =
      let P : Members → Type 0 = λ ms. IsFound c on v (member_named (with_tag tag name xs) k) (get_member k ms) in
      subst P (sym (put_all-last tag (unit_variant name) (field_keywords xs ts) no_members)) (go (bytes_eq tag k) refl)
    where
      others : Members
      others = put_all (field_keywords xs ts) no_members

      own : IsFound c on v (member_named (map (field_member contract M) xs) k) (get_member k others)
      own = field_is_found c on contract W M schemas v agree xs k (get_member k others)
          (field_found W k xs ts no_members apart noted written)

      elsewhere : bytes_eq tag k ≡ false → k ≡ tag → ⊥
      elsewhere other same = true≢false (sym ((bytes_eq-Decides tag k).1 (sym same)) ∙ other)

      go : (b : Bool) → bytes_eq tag k ≡ b
          → IsFound c on v (if b then Some (tag_member tag name) else member_named (map (field_member contract M) xs) k)
          (get_member k (put tag (unit_variant name) others))
      go true here = (
        unit_variant name,
        rw (← (bytes_eq-Decides tag k).0 here) (get_member-put tag (unit_variant name) others),
        λ w is less. tells name w,
      )
      go false other =
          let R : Option Data → Type 0 = λ o. IsFound c on v (member_named (map (field_member contract M) xs) k) o in
          subst R (sym (get_member-put_other k tag (unit_variant name) others (elsewhere other))) own

  module _ (tag name : Text) (deny : Bool) (xs : List Field) (os : List (List VariantMatch)) (closed : Bool) (s : Data)
      (apart : AreDistinct xs) (notes : AreNoted xs) (a : IsStruct c on contract W v xs os closed s) where
    abbrev es : List Keyword
    es = field_keywords xs a.written

    are : AreEntries (es ++ tag_keyword tag name)
    are = entries_with_tag tag (unit_variant name) es tt (entries W schemas xs a.written a.are_written)

    -- a variant of an enum that is not flattened
    pub tagged_means : (judge c (internally_tagged_variant tag name deny s)).fits v
        ≡ verdict (has_tagged contract M os tag xs closed name v)
    tagged_means =
        ap (λ t. (judge c t).fits v) (ap (internally_tagged_variant tag name deny) a.is
        ∙ tagged_same tag name es (required_names contract xs) a.parts closed a.members a.form deny)
        ∙ (value_means c on (with_tag tag name xs) (es ++ tag_keyword tag name) (tag ∷ required_names contract xs) a.parts closed
        (tagged tag name a.members)
        (form-keywords _ _ (tagged_form tag name es (required_names contract xs) a.parts closed a.members a.form)) are v
        (found_with_tag tag name xs a.written apart notes a.are_written) (names_with_tag tag name xs) json
        (choices_say c on a.parts v a.choices)
        ∙ ap verdict (parts_alike (choices_in a.parts) os (with_tag tag name xs) closed a.every a.claimed v))

  -- a unit
  pub null_means : (tag name : Text) (deny : Bool)
      → (judge c (internally_tagged_variant tag name deny (type_alone (codes "null")))).fits v
      ≡ verdict (has_tagged contract M [] tag [] deny name v)
  null_means tag name deny =
      ap (λ t. (judge c t).fits v) (sym (null_tagged tag name deny))
      ∙ tagged_means tag name deny [] [] deny (map_document [] [] deny) tt tt (no_keys c on contract W v deny)

  found_some : (m : Option Member) (g : Option Data) → IsFound c on v m g → is_some g ≡ is_some m
  found_some None g h = ap is_some h
  found_some (Some m) g h = ap is_some h.1

  name_with_tag : (tag name : Text) (xs : List Field) (k : Text) → is_some (member_named (with_tag tag name xs) k)
      ≡ bytes_eq tag k || is_some (field_named xs k)
  name_with_tag tag name xs k = go (bytes_eq tag k)
    where
      same : (ys : List Field) → is_some (member_named (map (field_member contract M) ys) k) ≡ is_some (field_named ys k)
      same [] = refl
      same (y ∷ ys) = by (bytes_eq y.name k) (same ys)
        where
          by : (b : Bool) → is_some (member_named (map (field_member contract M) ys) k) ≡ is_some (field_named ys k)
              → is_some (if b then Some (field_member contract M y) else member_named (map (field_member contract M) ys) k)
              ≡ is_some (if b then Some y else field_named ys k)
          by true later = refl
          by false later = later

      go : (b : Bool) → is_some (if b then Some (tag_member tag name) else member_named (map (field_member contract M) xs) k)
          ≡ b || is_some (field_named xs k)
      go true = refl
      go false = same xs

  -- a variant of a flattened enum: a struct without enums
  pub tagged_item : (tag name : Text) (deny : Bool) (notes : Members) (xs : List Field) (closed : Bool) (s : Data) → AreNotes notes
      → AreDistinct xs → AreNoted xs → IsStruct c on contract W v xs [] closed s
      → IsItem c on closed (annotated notes (internally_tagged_variant tag name deny s))
      (record { fits = has_tagged contract M [] tag xs false name v; has_key = λ k. bytes_eq tag k || is_some (field_named xs k) }) v
  tagged_item tag name deny notes xs closed s plain apart noted_fields a =
      let es = field_keywords xs a.written in
      let ns = required_names contract xs in
      let old : IsForm (struct_keywords es ns no_parts closed) a.members =
      subst (λ ps. IsForm (struct_keywords es ns ps closed) a.members) (a.bare refl) a.form in
      let new = tagged_form tag name es ns no_parts closed a.members old in
      let are = entries_with_tag tag (unit_variant name) es tt (entries W schemas xs a.written a.are_written) in
      let finds = found_with_tag tag name xs a.written apart noted_fields a.are_written in record {
        es = es ++ tag_keyword tag name;
        ns = tag ∷ ns;
        members = noted (notes ∷ []) (tagged tag name a.members);
        is =
            ap (annotated notes) (ap (internally_tagged_variant tag name deny) a.is
            ∙ tagged_same tag name es ns no_parts closed a.members old deny)
            ∙ noted_by-object (notes ∷ []) (tagged tag name a.members);
        form = record {
          sorted = sorted-noted (notes ∷ []) (tagged tag name a.members) new.sorted;
          at = λ k e. noted-beside k (notes ∷ []) (tagged tag name a.members) e (plain, tt) ∙ new.at k e;
        };
        are = are;
        says = λ ms has. value_means c on (with_tag tag name xs) (es ++ tag_keyword tag name) (tag ∷ ns) no_parts false ms has are v finds
            (names_with_tag tag name xs) json (tt, tt);
        keys = λ k. found_some (member_named (with_tag tag name xs) k) (get_member k (put_all (es ++ tag_keyword tag name) no_members))
            (finds k)
            ∙ name_with_tag tag name xs k;
      }

  -- and a unit
  pub tagged_unit : (tag name : Text) (deny : Bool) (notes : Members) → AreNotes notes
      → IsItem c on deny (annotated notes (internally_tagged_variant tag name deny (type_alone (codes "null"))))
      (record { fits = has_tagged contract M [] tag [] false name v; has_key = λ k. bytes_eq tag k || is_some (field_named [] k) }) v
  tagged_unit tag name deny notes plain =
      subst (λ t. IsItem c on deny (annotated notes t)
      (record { fits = has_tagged contract M [] tag [] false name v; has_key = λ k. bytes_eq tag k || is_some (field_named [] k) }) v)
      (null_tagged tag name deny)
      (tagged_item tag name deny notes [] deny (map_document [] [] deny) plain tt tt (no_keys c on contract W v deny))
