-- The document of a struct with flattened enums says what the struct means.
use Rattle.std.proofs.Common.{◌∷◌, ◌≡◌, ℕ, ◌<◌, ◌≤◌, List, [], Option, Some, None, Bool, true, false, option_map, refl, sym, ap, ◌∙◌, arith, subst, map}
use Rattle.schemars_meaning.proofs.Words.{or-false, if◌then◌else◌, is_some, ◌&&◌, ◌||◌, not, option_map_or, Data, null, boolean, number, string, array, object, Members, no_members, member, depth, get_member, Text, IsJson, IsSchema, put_all, Verdict, Yes, No, both, verdict, all_of, one_of, Context, Judge, judge, read_data, each_member, each_says, where_some, have_all, schema_named, both-yes, both-verdict, silent, Field, field_named, every_member, every_part, excludes_key, has_fields, Keyword, annotated, bytes_eq, members_depth, key, AreJsonMembers, both-swap, both-assoc, both-middle, Member, member_named, has_each, has_members_with, field_member}
use Rattle.schemars_types.specs.declared.contract.Contract.{Contract}
use Rattle.schemars_meaning.proofs.Notes.{annotated_fits}
use Rattle.schemars_meaning.proofs.MapKeywords.{closed_there}
use Rattle.schemars_meaning.proofs.Named.{schema_named-judges_in, AreEntries, IsNoMap}
use Rattle.schemars_meaning.proofs.MapForm.{Keywords, HasKeywords, object-says, says-fits, says-judges, object_type, form_fits}
use Rattle.schemars_meaning.proofs.StructForm.{Parts, choices_in, all_in, one_in, all_there, one_there, struct_keywords, ChoicesSay, judges_of, named_says, rest_says, object_says, all_fits, one_fit, covered_by}
use Rattle.schemars_meaning.proofs.Fields.{Finds}

-- what is required, what the names have, the parts and what is left
grouped : (h p m : Bool) (x y : Verdict) → both x y ≡ verdict m → both (verdict h) (both x (both (verdict p) y)) ≡ verdict (p && (m && h))
grouped h p m x y is =
    ap (both (verdict h)) (sym (both-assoc x (verdict p) y) ∙ (ap (λ z. both z y) (both-swap x (verdict p))
    ∙ (both-assoc (verdict p) x y ∙ (ap (both (verdict p)) is ∙ both-verdict p m))))
    ∙ (both-verdict h (p && m) ∙ ap verdict (go h p m))
  where
    go : (a b d : Bool) → a && (b && d) ≡ b && (d && a)
    go true true true = refl
    go true true false = refl
    go true false d = refl
    go false true true = refl
    go false true false = refl
    go false false d = refl

-- ---- against the meaning

module _ (c : Context) (on : c.dialect.reads_unevaluated ≡ true) where
  -- what is found for a member of a value: a schema that says of what is inside the value whether the member may have it
  abbrev pub IsFound : Data → Option Member → Option Data → Type 0
  IsFound v None g = g ≡ None
  IsFound v (Some m) g = (t : Data) × (g ≡ Some t)
      × ((w : Data) → IsJson w → depth w < depth v → (judge c t).fits w ≡ verdict (m.has w))

  -- the value of a name tests as the member does
  abbrev Tested : Option Member → Option Judge → Data → Type 0
  Tested None o w = o ≡ None
  Tested (Some m) o w = (p : Judge) × (o ≡ Some p) × (p.fits w ≡ verdict (m.has w))

  one_member : (excludes : Bool) (m : Option Member) (o : Option Judge) (w : Data) → Tested m o w
      → both (where_some o (λ s. s.fits w)) (if is_some o || not excludes then Yes else No)
      ≡ verdict (option_map_or (λ m. m.has w) m (not excludes))
  one_member true None o w h = rw h
  one_member false None o w h = rw h
  one_member excludes (Some m) o w h = rw h.1 (both-yes _ ∙ h.2)

  members : (excludes : Text → Bool) (xs : List Member) (ss : List (Text × Judge)) (ms : Members) → AreJsonMembers ms
      → ((k : Text) (w : Data) → IsJson w → depth w ≤ members_depth ms → Tested (member_named xs k) (schema_named k ss) w)
      → both (each_member (named_says c on ss) ms) (each_member (rest_says c on excludes ss) ms)
      ≡ verdict (every_member (λ k w. option_map_or (λ m. m.has w) (member_named xs k) (not (excludes k))) ms)
  members excludes xs ss no_members are tested = refl
  members excludes xs ss (member k w ms) are tested =
      both-middle (named_says c on ss k w) (each_member (named_says c on ss) ms) (rest_says c on excludes ss k w)
      (each_member (rest_says c on excludes ss) ms)
      ∙ ((λ i. both (one_member (excludes k) (member_named xs k) (schema_named k ss) w (tested k w are.1 (omega arith)) i)
      (members excludes xs ss ms are.3 (λ l u is less. tested l u is (omega arith)) i))
      ∙ both-verdict _ _)

  tested_at : (v : Data) (m : Option Member) (g : Option Data) (w : Data) → IsJson w → depth w < depth v → IsFound v m g
      → Tested m (option_map (judge c) g) w
  tested_at v None g w is less h = rw h
  tested_at v (Some m) g w is less h = (judge c h.0, rw h.1, h.2 w is less)

  -- what is no map does not fit
  module _ (es : List Keyword) (ns : List Text) (ps : Parts) (closed : Bool) where
    x : Keywords
    x = struct_keywords es ns ps closed

    refused : (a b : Bool) → both No (both (verdict a) (both (verdict b) Yes)) ≡ No
    refused true true = refl
    refused true false = refl
    refused false true = refl
    refused false false = refl

    abbrev Silent : Data → Type 0
    Silent v = form_fits c x v ≡ both No (both (each_says all_of (option_map (read_data c) (all_there ps.all)) v)
        (both (each_says one_of (option_map (read_data c) (one_there ps.one)) v) Yes))

    other_form : (v : Data) → IsNoMap v → Silent v
    unfolding x
    other_form (object ms) h = absurd h
    other_form _ h = simp silent

    pub other_says : (s : Members) → HasKeywords (struct_keywords es ns ps closed) s → (v : Data) → IsNoMap v → ChoicesSay c on ps v
        → (judge c (object s)).fits v ≡ No
    unfolding x
    other_says s has v none say =
        ap (λ (j : Judge). j.fits v) (object-says c x s has)
        ∙ (says-fits c x on object_type v
        ∙ (other_form v none
        ∙ ((λ i. both No (both (all_fits c on ps.all v say.0 i) (both (one_fit c on ps.one v say.1 i) Yes)))
        ∙ refused (every_part (all_in ps.all)) (every_part (one_in ps.one)))))

  -- an object whose properties are those of members, and whose required names are those of required members
  object_means : (xs : List Member) (es : List Keyword) (ns : List Text) (ps : Parts) (closed : Bool) (s : Members)
      → HasKeywords (struct_keywords es ns ps closed) s → AreEntries es → (ms : Members)
      → ((k : Text) → IsFound (object ms) (member_named xs k) (get_member k (put_all es no_members)))
      → have_all ns ms ≡ has_each xs ms → IsJson (object ms) → ChoicesSay c on ps (object ms)
      → (judge c (object s)).fits (object ms) ≡ verdict (has_members_with (choices_in ps) xs closed (object ms))
  object_means xs es ns ps closed s has are ms finds required json say =
      ap (λ (j : Judge). j.fits (object ms)) (object-says c (struct_keywords es ns ps closed) s has)
      ∙ (object_says c on es ns closed are ps ms say
      ∙ (ap (λ b. both (verdict b) (both (each_member (named_says c on (judges_of c on es)) ms)
      (both (verdict (every_part (choices_in ps))) (each_member (rest_says c on (excludes_key closed (choices_in ps)) (judges_of c on es)) ms))))
      required
      ∙ grouped (has_each xs ms) (every_part (choices_in ps)) _ _ _
      (members (excludes_key closed (choices_in ps)) xs (judges_of c on es) ms json
      (λ k w is less. subst (λ o. Tested (member_named xs k) o w) (sym (schema_named-judges_in c (put_all es no_members) k))
      (tested_at (object ms) (member_named xs k) (get_member k (put_all es no_members)) w is (omega arith) (finds k))))))

  -- and so of any value
  pub value_means : (xs : List Member) (es : List Keyword) (ns : List Text) (ps : Parts) (closed : Bool) (s : Members)
      → HasKeywords (struct_keywords es ns ps closed) s → AreEntries es → (v : Data)
      → ((k : Text) → IsFound v (member_named xs k) (get_member k (put_all es no_members)))
      → ((ms : Members) → have_all ns ms ≡ has_each xs ms) → IsJson v → ChoicesSay c on ps v
      → (judge c (object s)).fits v ≡ verdict (has_members_with (choices_in ps) xs closed v)
  value_means xs es ns ps closed s has are (object ms) finds required json say =
      object_means xs es ns ps closed s has are ms finds (required ms) json say
  value_means xs es ns ps closed s has are null finds required json say = other_says es ns ps closed s has null tt say
  value_means xs es ns ps closed s has are (boolean b) finds required json say = other_says es ns ps closed s has (boolean b) tt say
  value_means xs es ns ps closed s has are (number n) finds required json say = other_says es ns ps closed s has (number n) tt say
  value_means xs es ns ps closed s has are (string t) finds required json say = other_says es ns ps closed s has (string t) tt say
  value_means xs es ns ps closed s has are (array vs) finds required json say = other_says es ns ps closed s has (array vs) tt say

  -- ---- which members a map without choices judges: those that it has properties for

  abbrev no_parts : Parts
  no_parts = record { all = []; one = None }

  pub open_judges : (es : List Keyword) (ns : List Text) (s : Members) → HasKeywords (struct_keywords es ns no_parts false) s
      → AreEntries es
      → (v : Data) (k : Text) → (judge c (object s)).judges v (key k) ≡ is_some (schema_named k (judges_of c on es))
  unfolding all_there one_there closed_there
  open_judges es ns s has are v k =
      ap (λ (j : Judge). j.judges v (key k)) (object-says c (struct_keywords es ns no_parts false) s has)
      ∙ (says-judges c (struct_keywords es ns no_parts false) on v k ∙ (or-false _ ∙ (or-false _ ∙ (or-false _ ∙ covered_by c on es are k))))

  pub names_judged : (es : List Keyword) (k : Text)
      → is_some (schema_named k (judges_of c on es)) ≡ is_some (get_member k (put_all es no_members))
  names_judged es k = ap is_some (schema_named-judges_in c (put_all es no_members) k) ∙ go (get_member k (put_all es no_members))
    where
      go : (o : Option Data) → is_some (option_map (judge c) o) ≡ is_some o
      go None = refl
      go (Some d) = refl

-- ---- the members that fields are

module _ (c : Context) (on : c.dialect.reads_unevaluated ≡ true) (contract : Contract) (W : ℕ → Data → Type 0) (M : ℕ → Data → Bool)
    (schemas : (j : ℕ) (t : Data) → W j t → IsSchema t) (v : Data)
    (agree : (j : ℕ) (t w : Data) → W j t → IsJson w → depth w < depth v → (judge c t).fits w ≡ verdict (M j w)) where
  pub field_is_found : (xs : List Field) (k : Text) (g : Option Data) → Finds W (field_named xs k) g None
      → IsFound c on v (member_named (map (field_member contract M) xs) k) g
  field_is_found [] k g h = h
  field_is_found (x ∷ xs) k g h = go (bytes_eq x.name k) (field_is_found xs k g) h
    where
      go : (b : Bool) → (Finds W (field_named xs k) g None → IsFound c on v (member_named (map (field_member contract M) xs) k) g)
          → Finds W (if b then Some x else field_named xs k) g None
          → IsFound c on v (if b then Some (field_member contract M x) else member_named (map (field_member contract M) xs) k) g
      go true later h = (
        annotated x.notes h.0,
        h.3,
        λ w is less. annotated_fits c x.notes h.0 w h.2 (schemas x.ty h.0 h.1) ∙ agree x.ty h.0 w h.1 is less,
      )
      go false later h = later h

  -- a struct whose properties are found by the fields' names
  pub fields_mean : (xs : List Field) (es : List Keyword) (ns : List Text) (ps : Parts) (closed : Bool) (s : Members)
      → HasKeywords (struct_keywords es ns ps closed) s → AreEntries es
      → ((k : Text) → Finds W (field_named xs k) (get_member k (put_all es no_members)) None)
      → ((ms : Members) → have_all ns ms ≡ has_each (map (field_member contract M) xs) ms) → IsJson v → ChoicesSay c on ps v
      → (judge c (object s)).fits v ≡ verdict (has_fields contract M (choices_in ps) xs closed v)
  fields_mean xs es ns ps closed s has are finds required json say =
      value_means c on (map (field_member contract M) xs) es ns ps closed s has are v
      (λ k. field_is_found xs k (get_member k (put_all es no_members)) (finds k)) required json say
