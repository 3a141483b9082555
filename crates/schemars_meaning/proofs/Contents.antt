-- A struct beside the tag of a variant: what it means, and what its document says, which is in place or a reference.
use Rattle.std.proofs.Common.{◌≡◌, ℕ, ◌<◌, List, [], ◌∷◌, map, Some, None, Bool, true, false, refl, sym, ap, ◌∙◌, subst, true≢false}
use Rattle.schemars_meaning.proofs.Words.{bytes_eq, if◌then◌else◌, is_some, not, ◌&&◌, ◌||◌, and-true, and_assoc, and_comm, or-true, codes, bytes_eq-Decides, Data, null, object, Members, no_members, member, depth, get_member, get_member-without, Text, IsJson, IsSchema, AreJsonMembers, is_annotation, without, verdict, both, both-verdict, both-yes, required_names, Judge, Patterns, Context, judge, context2020_12, read_data, all_keywords, reference, type_alone, internally_tagged_variant, option_map_or, Field, IsNoName, Member, member_named, has_each, every_member, field_member, has_fields, has_content, has_tagged, holds, tag_member, AreDistinct, AreNoted, opened_inside, opening, forms, form_at, in_keywords, same_object_place, must_be_in_place, has_type, NoSchemas, IsSorted}
use Rattle.schemars_types.specs.declared.contract.Contract.{Contract}
use Rattle.schemars_types.specs.Meaning.{is_text}
use Rattle.schemars_text.proofs.Members.{get_member-member}
use Rattle.schemars_schema.specs.References.{with_same_object, with_same_objects}
use Rattle.schemars_schema.proofs.Objects.{annotation-not_listed}
use Rattle.schemars_flatten.specs.Opening.{closes_by, closes_inside, is_false}
use Rattle.schemars_meaning.proofs.Joining.{without-here}
use Rattle.schemars_meaning.proofs.MapKeywords.{closed_there}
use Rattle.schemars_meaning.proofs.MapForm.{look_up}
use Rattle.schemars_meaning.proofs.StructForm.{struct_keywords, all_there, one_there}
use Rattle.schemars_meaning.proofs.Uniting.{IsForm, by_seven, look_up-other}
use Rattle.schemars_meaning.proofs.Opened.{no_parts}
use Rattle.schemars_meaning.proofs.StructDocuments.{IsStruct}
use Rattle.schemars_meaning.proofs.Spread.{field_keywords}
use Rattle.schemars_meaning.proofs.Choices.{unit_says}
use Rattle.schemars_meaning.proofs.Tags.{tagged_means, null_means}

-- ---- what it means: that of a variant with the struct's fields

-- a member that passes whatever it is may be left out
every_without : (p : Text → Data → Bool) (k : Text) → ((w : Data) → p k w ≡ true) → (ms : Members)
    → every_member p (without k ms) ≡ every_member p ms
every_without p k passes no_members = refl
every_without p k passes (member l w ms) = go (bytes_eq k l) refl (every_without p k passes ms)
  where
    go : (b : Bool) → bytes_eq k l ≡ b → every_member p (without k ms) ≡ every_member p ms
        → every_member p (if b then ms else member l w (without k ms)) ≡ p l w && every_member p ms
    go true same later = sym (ap (λ c. c && every_member p ms) (ap (λ t. p t w) (sym ((bytes_eq-Decides k l).0 same)) ∙ passes w))
    go false other later = ap (λ c. p l w && c) later

none_later : (k l : Text) (d : Data) (ms : Members) → bytes_eq k l ≡ false → get_member k (member l d ms) ≡ None → get_member k ms ≡ None
none_later k l d ms other none = sym (get_member-member k l d ms ∙ ap (λ b. if b then Some d else get_member k ms) other) ∙ none

none_here : (k l : Text) (d : Data) (ms : Members) → get_member k (member l d ms) ≡ None → bytes_eq k l ≡ false
none_here k l d ms none = go (bytes_eq k l) refl
  where
    go : (b : Bool) → bytes_eq k l ≡ b → b ≡ false
    go false other = refl
    go true same =
        absurd (true≢false (ap is_some (sym (get_member-member k l d ms ∙ ap (λ c. if c then Some d else get_member k ms) same) ∙ none)))

and_first : (a b c : Bool) → a && (b && c) ≡ b && (a && c)
and_first true b c = refl
and_first false true c = refl
and_first false false c = refl

abbrev passes : List Member → Bool → Text → Data → Bool
passes list closed k w = option_map_or (λ (m : Member). m.has w) (member_named list k) (not closed)

module _ (tag name : Text) (list : List Member) (closed : Bool) where
  abbrev with_tag : List Member
  with_tag = tag_member tag name ∷ list

  -- beside other keys than the tag
  past_tag : (ms : Members) → get_member tag ms ≡ None → every_member (passes with_tag closed) ms ≡ every_member (passes list closed) ms
  past_tag no_members none = refl
  past_tag (member l w ms) none =
      let other = none_here tag l w ms none in
      ap (λ b. option_map_or (λ (m : Member). m.has w) (if b then Some (tag_member tag name) else member_named list l) (not closed)
      && every_member (passes with_tag closed) ms) other
      ∙ ap (λ c. passes list closed l w && c) (past_tag ms (none_later tag l w ms other none))

  tag_apart : (ms : Members) → get_member tag (without tag ms) ≡ None
      → every_member (passes with_tag closed) ms && is_some (get_member tag ms)
      ≡ holds (get_member tag ms) (is_text name) && every_member (passes list closed) (without tag ms)
  tag_apart no_members none = refl
  tag_apart (member l w ms) none =
      ap (λ g. every_member (passes with_tag closed) (member l w ms) && is_some g) (get_member-member tag l w ms)
      ∙ (go (bytes_eq tag l) refl none (tag_apart ms)
      ∙ ap (λ g. holds g (is_text name) && every_member (passes list closed) (without tag (member l w ms)))
      (sym (get_member-member tag l w ms)))
    where
      go : (b : Bool) → bytes_eq tag l ≡ b → get_member tag (if b then ms else member l w (without tag ms)) ≡ None
          → (get_member tag (without tag ms) ≡ None → every_member (passes with_tag closed) ms && is_some (get_member tag ms)
          ≡ holds (get_member tag ms) (is_text name) && every_member (passes list closed) (without tag ms))
          → (option_map_or (λ (m : Member). m.has w) (if b then Some (tag_member tag name) else member_named list l) (not closed)
          && every_member (passes with_tag closed) ms) && is_some (if b then Some w else get_member tag ms)
          ≡ holds (if b then Some w else get_member tag ms) (is_text name)
          && every_member (passes list closed) (if b then ms else member l w (without tag ms))
      go true same nowhere later =
          and-true (is_text name w && every_member (passes with_tag closed) ms) ∙ ap (λ c. is_text name w && c) (past_tag ms nowhere)
      go false other nowhere later =
          and_assoc (passes list closed l w) (every_member (passes with_tag closed) ms) (is_some (get_member tag ms))
          ∙ (ap (λ c. passes list closed l w && c) (later (none_later tag l w (without tag ms) other nowhere))
          ∙ and_first (passes list closed l w) (holds (get_member tag ms) (is_text name)) (every_member (passes list closed) (without tag ms)))

json_sorted : (ms : Members) → AreJsonMembers ms → IsSorted ms
json_sorted no_members h = tt
json_sorted (member k d ms) h = (h.2, json_sorted ms h.3)

module _ (contract : Contract) (part : ℕ → Data → Bool) (tag : Text) where
  abbrev members : List Field → List Member
  members list = map (field_member contract part) list

  unnamed : (list : List Field) → IsNoName tag list → member_named (members list) tag ≡ None
  unnamed [] apart = refl
  unnamed (x ∷ xs) apart =
      ap (λ b. if b then Some (field_member contract part x) else member_named (members xs) tag) apart.0 ∙ unnamed xs apart.1

  each_without : (list : List Field) → IsNoName tag list → (ms : Members) → has_each (members list) (without tag ms)
      ≡ has_each (members list) ms
  each_without [] apart ms = refl
  each_without (x ∷ xs) apart ms =
      ap (λ o. (not (field_member contract part x).required || is_some o) && has_each (members xs) (without tag ms))
      (get_member-without x.name tag ms apart.0)
      ∙ ap (λ b. (not (field_member contract part x).required || is_some (get_member x.name ms)) && b) (each_without xs apart.1 ms)

  -- an open struct passes over the tag
  tag_passes : (list : List Field) → IsNoName tag list → (ms : Members)
      → has_fields contract part [] list false (object (without tag ms)) ≡ has_fields contract part [] list false (object ms)
  tag_passes list apart ms =
      ap (λ b. b && has_each (members list) (without tag ms))
      (every_without (passes (members list) false) tag
      (λ w. ap (λ o. option_map_or (λ (m : Member). m.has w) o true) (unnamed list apart)) ms)
      ∙ ap (λ b. every_member (passes (members list) false) ms && b) (each_without list apart ms)

  object_means : (list : List Field) → IsNoName tag list → (closed : Bool) (name : Text) (ms : Members) → AreJsonMembers ms
      → has_tagged contract part [] tag list closed name (object ms)
      ≡ has_content (has_fields contract part [] list closed) tag name (object ms)
  object_means list apart closed name ms json =
      sym (and_assoc (every_member (passes (tag_member tag name ∷ members list) closed) ms) (is_some (get_member tag ms))
      (has_each (members list) ms))
      ∙ (ap (λ c. c && has_each (members list) ms)
      (tag_apart tag name (members list) closed ms (without-here tag ms (json_sorted ms json)))
      ∙ (and_assoc (holds (get_member tag ms) (is_text name)) (every_member (passes (members list) closed) (without tag ms))
      (has_each (members list) ms)
      ∙ ap (λ c. holds (get_member tag ms) (is_text name) && (every_member (passes (members list) closed) (without tag ms) && c))
      (sym (each_without list apart ms))))

  -- beside the tag a struct, closed or not, means what a variant with its fields means
  pub content_means : (list : List Field) → IsNoName tag list → (closed : Bool) (name : Text) (v : Data) → IsJson v
      → has_tagged contract part [] tag list closed name v ≡ has_content (has_fields contract part [] list closed) tag name v
  content_means list apart closed name (object ms) json = object_means list apart closed name ms json
  content_means list apart closed name null json = refl
  content_means list apart closed name _ json = refl

  every_true : (ms : Members) → every_member (passes [] false) ms ≡ true
  every_true no_members = refl
  every_true (member k w ms) = every_true ms

  -- the tag alone, and an open struct that has the whole
  pub both_mean : (list : List Field) → IsNoName tag list → (name : Text) (v : Data) → IsJson v
      → has_fields contract part [] list false v && has_tagged contract part [] tag [] false name v
      ≡ has_content (has_fields contract part [] list false) tag name v
  both_mean list apart name (object ms) json =
      let b = holds (get_member tag ms) (is_text name) in
      ap (λ c. has_fields contract part [] list false (object ms) && c) (object_means [] tt false name ms json
      ∙ (ap (λ c. b && (c && true)) (every_true (without tag ms)) ∙ and-true b))
      ∙ (and_comm (has_fields contract part [] list false (object ms)) b ∙ ap (λ c. b && c) (sym (tag_passes list apart ms)))
  both_mean list apart name null json = refl
  both_mean list apart name _ json = refl

-- ---- its document

-- a keyword of a map without parts holds no schema that judges the same object
no_schemas : (es : List (Text × Data)) (ns : List Text) (closed : Bool) (k : Text) (d : Data)
    → look_up (struct_keywords es ns no_parts closed) k ≡ Some d → same_object_place k ≡ NoSchemas
unfolding all_there one_there
no_schemas es ns closed k d = by_seven (λ q. look_up (struct_keywords es ns no_parts closed) q ≡ Some d → same_object_place q ≡ NoSchemas)
    (λ is. refl) (λ is. refl) (λ is. refl) (λ is. refl) (λ is. cc) (λ is. cc) (λ is. cc)
    (λ q t p r c a o u is. let none = look_up-other (struct_keywords es ns no_parts closed) q t p r c a o u in cc) k

-- where no keyword holds such a schema, opening changes nothing
stays : (ms : Members) → ((k : Text) (d : Data) → get_member k ms ≡ Some d → same_object_place k ≡ NoSchemas)
    → in_keywords opening tt ms ≡ ms
unfolding in_keywords
stays no_members none = refl
stays (member l e ms) none =
    (λ i. member l (form_at (here i) e (forms opening tt e)) (in_keywords opening tt ms)) ∙ ap (member l e) (stays ms later)
  where
    here : same_object_place l ≡ NoSchemas
    here = none l e (get_member-member l l e ms ∙ ap (λ b. if b then Some e else get_member l ms) ((bytes_eq-Decides l l).1 refl))

    later : (k : Text) (d : Data) → get_member k ms ≡ Some d → same_object_place k ≡ NoSchemas
    later k d is = go (bytes_eq k l) refl
      where
        go : (b : Bool) → bytes_eq k l ≡ b → same_object_place k ≡ NoSchemas
        go true same = subst (λ q. same_object_place q ≡ NoSchemas) (sym ((bytes_eq-Decides k l).0 same)) here
        go false other = none k d (get_member-member k l e ms ∙ (ap (λ b. if b then Some e else get_member k ms) other ∙ is))

module _ (patterns : Patterns) (f : Text → Judge) (contract : Contract) (W : ℕ → Data → Type 0) (v : Data) (xs : List Field) where
  abbrev c : Context
  c = context2020_12 patterns f

  module _ (closed : Bool) (s : Data) (a : IsStruct c refl contract W v xs [] closed s) where
    abbrev bare_form : IsForm (struct_keywords (field_keywords xs a.written) (required_names contract xs) no_parts closed) a.members
    bare_form = subst (λ ps. IsForm (struct_keywords (field_keywords xs a.written) (required_names contract xs) ps closed) a.members)
        (a.bare refl) a.form

    each_place : (k : Text) (d : Data) → get_member k a.members ≡ Some d → same_object_place k ≡ NoSchemas
    each_place k d is = go (is_annotation k) refl
      where
        go : (b : Bool) → is_annotation k ≡ b → same_object_place k ≡ NoSchemas
        go true note = rw (annotation-not_listed k with_same_object refl note, annotation-not_listed k with_same_objects refl note) refl
        go false other =
            no_schemas (field_keywords xs a.written) (required_names contract xs) closed k d (sym (bare_form.at k other) ∙ is)

    -- nothing inside the document of a struct is to be opened
    pub struct_stays : opened_inside s ≡ s
    unfolding forms
    struct_stays = ap opened_inside a.is ∙ (ap object (stays a.members each_place) ∙ sym a.is)

    -- where the document may be a reference, the struct is open
    pub struct_open : (b : Bool) → must_be_in_place b s ≡ false → closed ≡ false
    unfolding closed_there
    struct_open b is = go closed refl
      where
        rest : Data → Bool
        rest t = closes_by (codes "unevaluatedProperties") t

        must : closed ≡ true → must_be_in_place b (object a.members) ≡ true
        must shut =
            ap (λ o. b || (has_type (codes "null") (object a.members) || ((is_false o || rest (object a.members)) || closes_inside (object a.members))))
            (bare_form.at (codes "additionalProperties") refl ∙ ap closed_there shut)
            ∙ (ap (λ z. b || z) (or-true (has_type (codes "null") (object a.members))) ∙ or-true b)

        go : (o : Bool) → closed ≡ o → o ≡ false
        go false opened = refl
        go true shut = absurd (true≢false (sym (must shut) ∙ (ap (must_be_in_place b) (sym a.is) ∙ is)))

  -- ---- beside the tag

  tagged_reference : (tag name r : Text) (deny : Bool)
      → (judge c (internally_tagged_variant tag name deny (reference r))).fits v
      ≡ both ((f r).fits v) ((judge c (internally_tagged_variant tag name false (type_alone (codes "null")))).fits v)
  unfolding read_data all_keywords
  tagged_reference tag name r false = refl
  tagged_reference tag name r true = refl

  reference_alone : (r : Text) → (judge c (reference r)).fits v ≡ (f r).fits v
  unfolding read_data all_keywords
  reference_alone r = both-yes ((f r).fits v)

  module _ (M : ℕ → Data → Bool) (schemas : (j : ℕ) (t : Data) → W j t → IsSchema t) (json : IsJson v)
      (agree : (j : ℕ) (t w : Data) → W j t → IsJson w → depth w < depth v → (judge c t).fits w ≡ verdict (M j w))
      (tag name : Text) (deny : Bool) (own : IsNoName tag xs) where
    abbrev Beside : Bool → Data → Type 0
    Beside closed s = (judge c (internally_tagged_variant tag name deny s)).fits v
        ≡ verdict (has_content (has_fields contract M [] xs closed) tag name v)

    -- the document of the struct
    pub struct_beside : (closed : Bool) (s : Data) → AreDistinct xs → AreNoted xs → IsStruct c refl contract W v xs [] closed s
        → Beside closed s
    struct_beside closed s apart notes a =
        tagged_means c refl contract W M schemas v json agree (unit_says patterns f) tag name deny xs [] closed s apart notes a
        ∙ ap verdict (content_means contract M tag xs own closed name v json)

    -- a reference that says what an open struct means
    pub reference_beside : (r : Text) → (judge c (reference r)).fits v ≡ verdict (has_fields contract M [] xs false v)
        → Beside false (reference r)
    reference_beside r says =
        tagged_reference tag name r deny
        ∙ ((λ i. both ((sym (reference_alone r) ∙ says) i)
        (null_means c refl contract W M schemas v json agree (unit_says patterns f) tag name false i))
        ∙ (both-verdict (has_fields contract M [] xs false v) (has_tagged contract M [] tag [] false name v)
        ∙ ap verdict (both_mean contract M tag xs own name v json)))
