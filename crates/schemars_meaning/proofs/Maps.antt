-- What the document of a map with named members says under 2020-12.
use Rattle.std.proofs.Common.{◌≡◌, List, [], ◌∷◌, Option, Some, None, Bool, true, false, refl, sym, ap}
use Rattle.schemars_meaning.proofs.Words.{if◌then◌else◌, is_some, Data, boolean, array, object, Members, no_members, Verdict, Yes, No, verdict, Text, object_of, put_all, Patterns, Judge, Context, Reading, schema_named, each_member, where_some, have_all, required_says, properties_say, additional_properties_say, is_covered, each_agree, context2020_12, text_items, or-false, Keyword, read_data, texts_in-text_items}
use Rattle.schemars_meaning.proofs.Named.{judges_in, all_named-schemas, AreEntries, AreSchemas-put_all, each_yes}

-- ---- the keywords that are there or not

required_value : List Text → Option Data
required_value [] = None
required_value (n ∷ ns) = Some (array (text_items (n ∷ ns)))

unfoldable pub properties_value : Context → List Keyword → Option Reading
properties_value c [] = None
properties_value c (e ∷ es) = Some (read_data c (object_of (e ∷ es)))

unfoldable pub closed_value : Context → Bool → Option Reading
closed_value c false = None
closed_value c true = Some (read_data c (boolean false))

module _ (patterns : Patterns) (f : Text → Judge) where
  abbrev c : Context
  c = context2020_12 patterns f

  abbrev pub judges_of : List Keyword → List (Text × Judge)
  judges_of es = judges_in c (put_all es no_members)

  -- a member that has a schema under its name fits it
  abbrev pub named_says : List (Text × Judge) → Text → Data → Verdict
  named_says ss k w = where_some (schema_named k ss) (λ s. s.fits w)

  abbrev pub other_says : Bool → List (Text × Judge) → Text → Data → Verdict
  other_says false ss k w = Yes
  other_says true ss k w = if is_some (schema_named k ss) then Yes else No

  required_part : (ns : List Text) (ms : Members) → required_says (required_value ns) (object ms) ≡ verdict (have_all ns ms)
  unfolding required_value
  required_part [] ms = refl
  required_part (n ∷ ns) ms = rw (texts_in-text_items ns)

  pub named_part : (es : List Keyword) → AreEntries es → (ms : Members) → properties_say (properties_value c es) (object ms)
      ≡ each_member (named_says (judges_of es)) ms
  unfolding properties_value read_data judges_in
  named_part [] h ms = sym (each_yes ms)
  named_part (e ∷ es) h ms = rw (all_named-schemas c (put_all (e ∷ es) no_members) (AreSchemas-put_all (e ∷ es) no_members h tt))

  covered : (e : Keyword) (es : List Keyword) → AreEntries (e ∷ es) → (k : Text)
      → is_covered patterns (properties_value c (e ∷ es)) None k ≡ is_some (schema_named k (judges_of (e ∷ es)))
  unfolding properties_value read_data judges_in
  covered e es h k = rw (all_named-schemas c (put_all (e ∷ es) no_members) (AreSchemas-put_all (e ∷ es) no_members h tt)) (or-false _)

  other_part : (es : List Keyword) (closed : Bool) → AreEntries es → (ms : Members)
      → additional_properties_say (is_covered patterns (properties_value c es) None) (closed_value c closed) (object ms)
      ≡ each_member (other_says closed (judges_of es)) ms
  unfolding properties_value closed_value read_data judges_in
  other_part es false h ms = sym (each_yes ms)
  other_part [] true h ms = refl
  other_part (e ∷ es) true h ms = each_agree _ _ (λ k w. ap (λ b. if b then Yes else No) (covered e es h k)) ms
