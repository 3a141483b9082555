-- The documents of structs with flattened enums, put into one another, and what they mean.
use Rattle.std.proofs.Common.{◌≡◌, ℕ, ◌<◌, List, [], ◌∷◌, ◌++◌, Option, Some, None, Bool, true, false, refl, sym, ap, ◌∙◌, subst, map}
use Rattle.schemars_meaning.proofs.Words.{codes, bytes_eq, if◌then◌else◌, ◌&&◌, ◌||◌, not, option_and_then, Data, null, array, object, Items, Members, no_members, member, depth, get_member, as_str, items_of, Text, IsJson, IsSchema, replaced, on_list, AreNotes, verdict, Context, judge, get_member-later, get_member-here, bytes_eq-Decides, flattened, united_all, appended, opened, flattened_part, first_as_objects, list_changed_at, units_as_objects, Field, every_member, VariantMatch, every_part, is_key_of_match, excludes_key, has_fields, AreDistinct, AreNoted, Keyword, annotated, required_names, option_map_or, is_text, has_type, first_units, behind_first, Member, member_named, has_each, has_members_with, field_member}
use Rattle.schemars_types.specs.declared.contract.Contract.{Contract}
use Rattle.schemars_meaning.proofs.MapKeywords.{noted, noted_by-object, noted-beside, sorted-noted, closed_there}
use Rattle.schemars_meaning.proofs.Flattening.{no_texts}
use Rattle.schemars_meaning.proofs.StructForm.{Part, Parts, choices_in, any_keywords, struct_keywords, one_there, every_part-append, claims-append}
use Rattle.schemars_meaning.proofs.StructMeans.{fields_mean}
use Rattle.schemars_meaning.proofs.Uniting.{IsForm, form-keywords, part_keywords, join, join_every, join_claims, united_form}
use Rattle.schemars_meaning.proofs.Opened.{no_parts, opened_form, opened_parts, Part_form}
use Rattle.schemars_meaning.proofs.Items.{ChoicesAre, choices_say, choices_join}
use Rattle.schemars_meaning.proofs.Spread.{field_keywords, AreWritten}
use Rattle.schemars_meaning.proofs.Flattened.{AreWritten-append, field_keywords-append, required_names-append}
use Rattle.schemars_meaning.proofs.Fields.{field_found, entries, required_same}

-- ---- meanings that differ in the order of enums alone

pub every_alike : (p q : Text → Data → Bool) → ((k : Text) (w : Data) → p k w ≡ q k w) → (ms : Members) → every_member p ms
    ≡ every_member q ms
every_alike p q h no_members = refl
every_alike p q h (member k w ms) = λ i. h k w i && every_alike p q h ms i

pub parts_alike : (ps qs : List (List VariantMatch)) (xs : List Member) (closed : Bool)
    → every_part ps ≡ every_part qs → ((k : Text) → is_key_of_match ps k ≡ is_key_of_match qs k) → (v : Data)
    → has_members_with ps xs closed v ≡ has_members_with qs xs closed v
parts_alike ps qs xs closed every claim (object ms) =
    λ i. every i && (every_alike (λ k w. option_map_or (λ m. m.has w) (member_named xs k) (not (excludes_key closed ps k)))
    (λ k w. option_map_or (λ m. m.has w) (member_named xs k) (not (excludes_key closed qs k)))
    (λ k w. ap (λ b. option_map_or (λ m. m.has w) (member_named xs k) (not (not b && closed))) (claim k)) ms i && has_each xs ms)
parts_alike ps qs xs closed every claim null = refl
parts_alike ps qs xs closed every claim _ = refl

pub both_empty : {A : Type 0} (xs ys : List A) → xs ++ ys ≡ [] → (xs ≡ []) × (ys ≡ [])
both_empty [] ys e = (refl, e)
both_empty (x ∷ xs) ys e = cc

module _ (c : Context) (on : c.dialect.reads_unevaluated ≡ true) (contract : Contract) (W : ℕ → Data → Type 0) (v : Data) where
  -- s is the document of a map with these fields and enums, of which the enums offer this of v
  pub record IsStruct (list : List Field) (matches_of : List (List VariantMatch)) (closed : Bool) (s : Data) : Type 0 where
    pub written : List Data
    pub are_written : AreWritten W list written
    pub parts : Parts
    pub members : Members
    pub is : s ≡ object members
    pub form : IsForm (struct_keywords (field_keywords list written) (required_names contract list) parts closed) members
    pub every : every_part (choices_in parts) ≡ every_part matches_of
    pub claimed : (k : Text) → is_key_of_match (choices_in parts) k ≡ is_key_of_match matches_of k
    pub choices : ChoicesAre c on parts v
    pub bare : matches_of ≡ [] → parts ≡ no_parts

  -- the same where it is a part
  pub record IsPart (list : List Field) (matches_of : List (List VariantMatch)) (s : Data) : Type 0 where
    pub type : Option Data
    pub written : List Data
    pub are_written : AreWritten W list written
    pub parts : Parts
    pub members : Members
    pub is : s ≡ object members
    pub form : IsForm (part_keywords type (field_keywords list written) (required_names contract list) parts) members
    pub every : every_part (choices_in parts) ≡ every_part matches_of
    pub claimed : (k : Text) → is_key_of_match (choices_in parts) k ≡ is_key_of_match matches_of k
    pub choices : ChoicesAre c on parts v
    pub bare : matches_of ≡ [] → parts ≡ no_parts

  -- a part put into a struct
  pub flattened_struct : (xs ys : List Field) (os qs : List (List VariantMatch)) (closed : Bool) (s u : Data) → IsStruct xs os closed s
      → IsPart ys qs u → IsStruct (xs ++ ys) (os ++ qs) closed (flattened s u)
  flattened_struct xs ys os qs closed s u a b =
      let form = united_form (field_keywords xs a.written) (required_names contract xs) a.parts closed a.members a.form b.type
      (field_keywords ys b.written) (required_names contract ys) b.parts b.members b.form in record {
        written = a.written ++ b.written;
        are_written = AreWritten-append W xs ys a.written b.written a.are_written b.are_written;
        parts = join a.parts b.parts;
        members = united_all a.members b.members;
        is = λ i. flattened (a.is i) (b.is i);
        form =
            subst (λ es. IsForm (struct_keywords es (required_names contract (xs ++ ys)) (join a.parts b.parts) closed)
            (united_all a.members b.members))
            (sym (field_keywords-append W xs ys a.written b.written a.are_written))
            (subst (λ ns. IsForm (struct_keywords (field_keywords xs a.written ++ field_keywords ys b.written) ns
            (join a.parts b.parts) closed) (united_all a.members b.members)) (sym (required_names-append contract xs ys)) form);
        every = join_every a.parts b.parts ∙ ((λ i. a.every i && b.every i) ∙ sym (every_part-append os qs));
        claimed = λ k. join_claims a.parts b.parts k ∙ ((λ i. a.claimed k i || b.claimed k i) ∙ sym (claims-append os qs k));
        choices = choices_join c on a.parts b.parts v a.choices b.choices;
        bare = λ e. let each = both_empty os qs e in λ i. join (a.bare each.0 i) (b.bare each.1 i);
      }

  -- with notes
  pub noted_struct : (notes : Members) (xs : List Field) (os : List (List VariantMatch)) (closed : Bool) (s : Data) → AreNotes notes
      → IsStruct xs os closed s → IsStruct xs os closed (annotated notes s)
  noted_struct notes xs os closed s plain a = record {
    written = a.written;
    are_written = a.are_written;
    parts = a.parts;
    members = noted (notes ∷ []) a.members;
    is = ap (annotated notes) a.is ∙ noted_by-object (notes ∷ []) a.members;
    form = record {
      sorted = sorted-noted (notes ∷ []) a.members a.form.sorted;
      at = λ k e. noted-beside k (notes ∷ []) a.members e (plain, tt) ∙ a.form.at k e;
    };
    every = a.every;
    claimed = a.claimed;
    choices = a.choices;
    bare = a.bare;
  }

  -- ---- it means what the struct means

  module _ (M : ℕ → Data → Bool) (schemas : (j : ℕ) (t : Data) → W j t → IsSchema t) where
    pub means : (xs : List Field) (os : List (List VariantMatch)) (closed : Bool) (s : Data) → AreDistinct xs → AreNoted xs
        → IsStruct xs os closed s → IsJson v
        → ((j : ℕ) (t w : Data) → W j t → IsJson w → depth w < depth v → (judge c t).fits w ≡ verdict (M j w))
        → (judge c s).fits v ≡ verdict (has_fields contract M os xs closed v)
    means xs os closed s apart notes a json agree =
        ap (λ t. (judge c t).fits v) a.is
        ∙ (fields_mean c on contract W M schemas v agree xs (field_keywords xs a.written) (required_names contract xs) a.parts closed a.members
        (form-keywords _ a.members a.form) (entries W schemas xs a.written a.are_written)
        (λ k. field_found W k xs a.written no_members apart notes a.are_written) (required_same contract M xs) json
        (choices_say c on a.parts v a.choices)
        ∙ ap verdict (parts_alike (choices_in a.parts) os (map (field_member contract M) xs) closed a.every a.claimed v))

-- ---- what becomes of documents where they are parts

replaced-same : (k : Text) (d : Data) (ms : Members) → get_member k ms ≡ Some d → replaced k d ms ≡ ms
replaced-same k d no_members h = refl
replaced-same k d (member l e ms) h = go (bytes_eq k l) refl (replaced-same k d ms)
  where
    go : (b : Bool) → bytes_eq k l ≡ b → (get_member k ms ≡ Some d → replaced k d ms ≡ ms)
        → (if b then member l d ms else member l e (replaced k d ms)) ≡ member l e ms
    go true is later =
        let name : k ≡ l = (bytes_eq-Decides k l).0 is in
        let here : Some e ≡ Some d = sym (get_member-here l e ms) ∙ (ap (λ x. get_member x (member l e ms)) (sym name) ∙ h) in
        let same : d ≡ e = cc in
        ap (λ x. member l x ms) same
    go false is later = ap (member l e) (later (sym (get_member-later k l e ms is) ∙ h))

-- a type that is no text's
abbrev pub IsNoText : Option Data → Type 0
IsNoText o = is_text (codes "string") (option_and_then as_str o) ≡ false

-- the first schema lists no texts
abbrev pub HasNoUnits : Option Part → Type 0
HasNoUnits None = Unit {0}
HasNoUnits (Some p) = first_units (items_of p.items) ≡ None

module _ (t : Option Data) (es : List Keyword) (ns : List Text) (ps : Parts) (a u : Bool) (ms : Members)
    (form : IsForm (any_keywords t es ns ps (closed_there a) (closed_there u)) ms) (no_text : IsNoText t) where
  pub units_missing : HasNoUnits ps.one → units_as_objects (object ms) ≡ object ms
  unfolding one_there
  units_missing units = no_texts ms typed ∙ choice ps.one units (form.at (codes "oneOf") refl)
    where
      typed : has_type (codes "string") (object ms) ≡ false
      typed = ap (λ o. is_text (codes "string") (option_and_then as_str o)) (form.at (codes "type") refl) ∙ no_text

      changed : (o : Option Data) → get_member (codes "oneOf") ms ≡ o
          → list_changed_at (codes "oneOf") first_as_objects (object ms) ≡ elim o [
            | None ↦ object ms
            | Some d ↦ object (replaced (codes "oneOf") (on_list first_as_objects d) ms)
          ]
      changed o is = ap (λ z. elim z [
        | None ↦ object ms
        | Some d ↦ object (replaced (codes "oneOf") (on_list first_as_objects d) ms)
      ]) is

      first_stays : (ds : Items) → first_units ds ≡ None → first_as_objects ds ≡ ds
      first_stays ds lacks = go (first_units ds) lacks
        where
          go : (o : Option Items) → o ≡ None → elim o [ None ↦ ds | Some us ↦ appended (behind_first ds) us ] ≡ ds
          go None is = refl
          go (Some us) is = cc

      choice : (o : Option Part) → HasNoUnits o → get_member (codes "oneOf") ms ≡ one_there o
          → list_changed_at (codes "oneOf") first_as_objects (object ms) ≡ object ms
      choice None lacks is = changed None is
      choice (Some p) lacks is =
          changed (Some (array (items_of p.items))) is
          ∙ (ap (λ ds. object (replaced (codes "oneOf") (array ds) ms)) (first_stays (items_of p.items) lacks)
          ∙ ap object (replaced-same (codes "oneOf") (array (items_of p.items)) ms is))

  pub part_form : HasNoUnits ps.one → Part_form t es ns (opened_parts ps) (flattened_part false (object ms))
  part_form units =
      subst (Part_form t es ns (opened_parts ps)) (sym (ap opened (units_missing units))) (opened_form t es ns ps a u ms form)
