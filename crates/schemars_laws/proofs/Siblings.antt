-- A reference at the end of `allOf` in place of one beside other keywords, for readers that pass over those.
use Rattle.std.proofs.Common.{◌≡◌, ◌≢◌, ℕ, suc, arith, List, [], ◌∷◌, Option, Some, None, Bool, true, false, codes, option_map, map, refl, sym, ap, ◌∙◌, subst, true≢false}
use Rattle.schemars_laws.proofs.Words.{fun_ext, bytes_eq-Decides, nat_tests, and-false, or-false, or_assoc, bytes_eq, if◌then◌else◌, ◌||◌, ◌&&◌, ◌++◌, ◌==◌, Data, null, boolean, number, string, array, object, Items, no_items, item, Members, no_members, member, put, get_member, members_len, get_member-put, get_member-put_other, Text, is_listed, IsSchema, without, replaced, with_item, with_last, changed_at, Verdict, Yes, No, Open, both, all_of, is_yes, Dialect, Context, Raw, Readings, Judge, judge, keywords, reference_alone, is_reference, truth_value, read_items, read_members, reading_at, judged_by_reference, judged_by, judged_by_list, judged_by_some, judged_beside, judged_itself, judges_rest, Part, position, both_some, reference_says, each_says, judged_by_condition, judged_by_dependents, schema-judge, reading_at-members, judge-agree, referring, reference_moved, without_siblings, IsOnce, IsText, IsSchemaList, HasPlainReference, alone_by, beside_by, both-yes, both-assoc, items_none, const_none, unevaluated_none, differ, get_member-member, unequal, get_member-replaced, get_member-replaced_other, all_keywords, read_data}
use Rattle.schemars_schema.specs.Judges.{key as member_key}
use Rattle.schemars_laws.proofs.Keywords.{before_say, last_say, fits-all, left_out, AgreeOutside, left_out-agree}
use Rattle.schemars_laws.proofs.Seen.{judge_ext}
use Rattle.schemars_laws.proofs.Looked.{without-other, walked, raw-walked, once-walked, list-walked, Change}
use Rattle.schemars_laws.proofs.Apart.{pulled, look_up}
use Rattle.schemars_laws.proofs.PrefixItems.{some-list}
use Rattle.schemars_laws.proofs.BoolSchemas.{places_none}

-- ---- `$ref` and `allOf` apart from the other keywords

-- which parts the other keywords judge, and those of a list and of a reference
judged_say : Context → Readings → Data → Part → Bool → Bool → Bool
judged_say c read v p listed referred =
    judged_itself c read v p
    || (listed || (judged_by_list (read (codes "anyOf")) v p || (judged_by_list (read (codes "oneOf")) v p
    || (judged_by_condition c.dialect.reads_const (read (codes "if")) (read (codes "then")) (read (codes "else")) v p
    || (judged_by_dependents c.dialect.reads_unevaluated (read (codes "dependentSchemas")) v p || referred)))))

judges_say : Context → Readings → Data → Part → Bool → Bool → Bool
judges_say c read v p listed referred = judged_say c read v p listed referred || (c.dialect.reads_unevaluated && judges_rest read p)

-- what all keywords say, by what the list and the reference say
whole_say : Context → Raw → Readings → Data → Verdict → Verdict → (Part → Bool) → (Part → Bool) → Verdict
whole_say c raw read v list ref listed referred =
    both ref (both list (all_of (before_say c raw read v ++ last_say c raw read (λ p. judged_say c read v p (listed p) (referred p)) v)))

fits-whole : (c : Context) (raw : Raw) (read : Readings) (v : Data) → (all_keywords c raw read).fits v
    ≡ whole_say c raw read v (each_says all_of (read (codes "allOf")) v) (reference_says c.follow (raw (codes "$ref")) v)
    (judged_by_list (read (codes "allOf")) v) (judged_by_reference c.follow (raw (codes "$ref")) v)
unfolding whole_say judged_say
fits-whole c raw read v =
    fits-all c raw read v
    ∙ ap (both (reference_says c.follow (raw (codes "$ref")) v))
    (pulled (before_say c raw read v) (each_says all_of (read (codes "allOf")) v) (last_say c raw read (judged_beside c raw read v) v))

judges-whole : (c : Context) (raw : Raw) (read : Readings) (v : Data) (p : Part) → (all_keywords c raw read).judges v p
    ≡ judges_say c read v p (judged_by_list (read (codes "allOf")) v p) (judged_by_reference c.follow (raw (codes "$ref")) v p)
unfolding all_keywords judges_say judged_say
judges-whole c raw read v p = refl

abbrev two : List Text
two = codes "$ref" ∷ codes "allOf" ∷ []

whole-left_out : (c : Context) (raw : Raw) (read : Readings) (v : Data) (list ref : Verdict) (listed referred : Part → Bool)
    → whole_say c (left_out two raw) (left_out two read) v list ref listed referred ≡ whole_say c raw read v list ref listed referred
unfolding whole_say judged_say
whole-left_out c raw read v list ref listed referred = refl

judges-left_out : (c : Context) (read : Readings) (v : Data) (p : Part) (listed referred : Bool)
    → judges_say c (left_out two read) v p listed referred ≡ judges_say c read v p listed referred
unfolding judges_say judged_say
judges-left_out c read v p listed referred = refl

whole-agree : (c : Context) (f g : Raw) (read reread : Readings) (v : Data) (list ref : Verdict) (listed referred : Part → Bool)
    → AgreeOutside two f g → AgreeOutside two read reread
    → whole_say c f read v list ref listed referred ≡ whole_say c g reread v list ref listed referred
whole-agree c f g read reread v list ref listed referred e h =
    sym (whole-left_out c f read v list ref listed referred)
    ∙ (ap (λ raw. whole_say c raw (left_out two read) v list ref listed referred) (fun_ext (left_out-agree two f g e))
    ∙ (ap (λ x. whole_say c (left_out two g) x v list ref listed referred) (fun_ext (left_out-agree two read reread h))
    ∙ whole-left_out c g reread v list ref listed referred))

judges-agree : (c : Context) (read reread : Readings) (v : Data) (p : Part) (listed referred : Bool) → AgreeOutside two read reread
    → judges_say c read v p listed referred ≡ judges_say c reread v p listed referred
judges-agree c read reread v p listed referred h =
    sym (judges-left_out c read v p listed referred)
    ∙ (ap (λ x. judges_say c x v p listed referred) (fun_ext (left_out-agree two read reread h))
    ∙ judges-left_out c reread v p listed referred)

-- a verdict of the list that holds the reference is one of both
with_reference : (a r x : Verdict) → both Yes (both (both a r) x) ≡ both r (both a x)
with_reference Yes r x = refl
with_reference Open Yes x = refl
with_reference Open No x = refl
with_reference Open Open x = refl
with_reference No Yes x = refl
with_reference No Open x = refl
with_reference No No Yes = refl
with_reference No No No = refl
with_reference No No Open = refl

-- so is what they judge
judged_with : (a b m n i j r : Bool) → a || ((b || r) || (m || (n || (i || (j || false))))) ≡ a || (b || (m || (n || (i || (j || r)))))
judged_with true b m n i j r = refl
judged_with false true m n i j r = refl
judged_with false false m n i j false = refl
judged_with false false true n i j true = refl
judged_with false false false true i j true = refl
judged_with false false false false true j true = refl
judged_with false false false false false true true = refl
judged_with false false false false false false true = refl

-- ---- the members of one schema

pub replaced-other : (k q : Text) (d : Data) (ms : Members) → q ≢ k → get_member q (replaced k d ms) ≡ get_member q ms
replaced-other k q d ms apart = get_member-replaced_other q k d ms (unequal q k apart)

abbrev pub list_with : Option Data → Data → Data
list_with None d = array (item d no_items)
list_with (Some e) d = with_last d e

module _ (r : Data) (ms : Members) where
  abbrev pub moved_members : Members
  moved_members = changed_at (codes "allOf") (with_last (referring r)) (array no_items) (without (codes "$ref") ms)

  all_of-before : get_member (codes "allOf") (without (codes "$ref") ms) ≡ get_member (codes "allOf") ms
  all_of-before = without-other (codes "$ref") (codes "allOf") ms (differ (codes "allOf") (codes "$ref") refl)

  pub get-moved : (k : Text) → k ≢ codes "allOf" → get_member k moved_members ≡ get_member k (without (codes "$ref") ms)
  get-moved k other = go (get_member (codes "allOf") (without (codes "$ref") ms))
    where
      go : (o : Option Data) → get_member k (elim o [
        | None ↦ put (codes "allOf") (with_last (referring r) (array no_items)) (without (codes "$ref") ms)
        | Some e ↦ replaced (codes "allOf") (with_last (referring r) e) (without (codes "$ref") ms)
      ]) ≡ get_member k (without (codes "$ref") ms)
      go None = get_member-put_other k (codes "allOf") (with_last (referring r) (array no_items)) (without (codes "$ref") ms) other
      go (Some e) = replaced-other (codes "allOf") k (with_last (referring r) e) (without (codes "$ref") ms) other

  pub all_of-moved : get_member (codes "allOf") moved_members ≡ Some (list_with (get_member (codes "allOf") ms) (referring r))
  all_of-moved =
      go (get_member (codes "allOf") (without (codes "$ref") ms)) refl
      ∙ ap (λ o. Some (list_with o (referring r))) all_of-before
    where
      go : (o : Option Data) → get_member (codes "allOf") (without (codes "$ref") ms) ≡ o → get_member (codes "allOf") (elim o [
        | None ↦ put (codes "allOf") (with_last (referring r) (array no_items)) (without (codes "$ref") ms)
        | Some e ↦ replaced (codes "allOf") (with_last (referring r) e) (without (codes "$ref") ms)
      ]) ≡ Some (list_with o (referring r))
      go None is = get_member-put (codes "allOf") (with_last (referring r) (array no_items)) (without (codes "$ref") ms)
      go (Some e) is = get_member-replaced (codes "allOf") (with_last (referring r) e) e (without (codes "$ref") ms) is

  get-rest : (k : Text) → is_listed k two ≡ false → get_member k moved_members ≡ get_member k ms
  get-rest k out =
      get-moved k (apart k (codes "allOf") out refl) ∙ without-other (codes "$ref") k ms (apart k (codes "$ref") out refl)
    where
      apart : (k l : Text) → is_listed k two ≡ false → is_listed l two ≡ true → k ≢ l
      apart k l out there same = true≢false (sym there ∙ (ap (λ x. is_listed x two) (sym same) ∙ out))

-- ---- a list of schemas with one more

all_of-last : (ss : List Judge) (j : Judge) (v : Data)
    → all_of (map (λ s. s.fits v) (ss ++ j ∷ [])) ≡ both (all_of (map (λ s. s.fits v) ss)) (j.fits v)
all_of-last [] j v = both-yes (j.fits v)
all_of-last (s ∷ ss) j v =
    ap (both (s.fits v)) (all_of-last ss j v) ∙ sym (both-assoc (s.fits v) (all_of (map (λ s. s.fits v) ss)) (j.fits v))

judged-last : (ss : List Judge) (j : Judge) (v : Data) (p : Part)
    → judged_by_some (ss ++ j ∷ []) v p ≡ judged_by_some ss v p || judged_by j v p
judged-last [] j v p = or-false (judged_by j v p)
judged-last (s ∷ ss) j v p =
    ap (λ b. judged_by s v p || b) (judged-last ss j v p) ∙ sym (or_assoc (judged_by s v p) (judged_by_some ss v p) (judged_by j v p))

read-last : (c : Context) (ds : Items) (d : Data) (ss : List Judge) → read_items c ds ≡ Some ss → IsSchema d
    → read_items c (with_item ds d) ≡ Some (ss ++ judge c d ∷ [])
unfolding read_data
read-last c no_items d ss is schema = let none : [] ≡ ss = cc in rw (schema-judge c d schema, ← none) refl
read-last c (item e ds) d ss is schema = go (read_data c e).schema (read_items c ds) is refl (λ ts there. read-last c ds d ts there schema)
  where
    go : (s : Option Judge) (o : Option (List Judge)) → both_some (λ j js. j ∷ js) s o ≡ Some ss → o ≡ read_items c ds
        → ((ts : List Judge) → read_items c ds ≡ Some ts → read_items c (with_item ds d) ≡ Some (ts ++ judge c d ∷ []))
        → both_some (λ j js. j ∷ js) s (read_items c (with_item ds d)) ≡ Some (ss ++ judge c d ∷ [])
    go None o is there later = cc
    go (Some j) None is there later = cc
    go (Some j) (Some ts) is there later =
        let same : j ∷ ts ≡ ss = cc in
        ap (both_some (λ j js. j ∷ js) (Some j)) (later ts (sym there)) ∙ ap (λ js. Some (js ++ judge c d ∷ [])) same

-- ---- what one schema says

-- the judges of a list that may be missing, and that there is one more behind it
record Longer (c : Context) (o : Option Data) (d : Data) : Type 0 where
  ss : List Judge
  fit : (v : Data) → each_says all_of (option_map (read_data c) o) v ≡ all_of (map (λ s. s.fits v) ss)
  judged : (v : Data) (p : Part) → judged_by_list (option_map (read_data c) o) v p ≡ judged_by_some ss v p
  longer : (read_data c (list_with o d)).listed ≡ Some (ss ++ judge c d ∷ [])

longer-list : (c : Context) (o : Option Data) (d : Data) → IsSchemaList o → IsSchema d → Longer c o d
unfolding read_data
longer-list c None d is schema = record { ss = []; fit = λ v. refl; judged = λ v p. refl; longer = rw (schema-judge c d schema) refl }
longer-list c (Some (array ds)) d is schema =
    let list = some-list c ds is in
    record {
      ss = list.0;
      fit = λ v. rw list.1 refl;
      judged = λ v p. rw list.1 refl;
      longer = read-last c ds d list.0 list.1 schema;
    }
longer-list c (Some null) d is schema = absurd is
longer-list c (Some (boolean b)) d is schema = absurd is
longer-list c (Some (number n)) d is schema = absurd is
longer-list c (Some (string s)) d is schema = absurd is
longer-list c (Some (object ms)) d is schema = absurd is

each-longer : (c : Context) (o : Option Data) (d : Data) (l : Longer c o d) (v : Data)
    → each_says all_of (option_map (read_data c) (Some (list_with o d))) v
    ≡ both (each_says all_of (option_map (read_data c) o) v) ((judge c d).fits v)
each-longer c o d l v =
    ap (λ ss. each_says all_of (Some (record { schema = None; listed = ss; named = None; among = [] })) v) l.longer
    ∙ (all_of-last l.ss (judge c d) v ∙ ap (λ x. both x ((judge c d).fits v)) (sym (l.fit v)))

judged-longer : (c : Context) (o : Option Data) (d : Data) (l : Longer c o d) (v : Data) (p : Part)
    → judged_by_list (option_map (read_data c) (Some (list_with o d))) v p
    ≡ judged_by_list (option_map (read_data c) o) v p || judged_by (judge c d) v p
judged-longer c o d l v p =
    ap (λ ss. judged_by_list (Some (record { schema = None; listed = ss; named = None; among = [] })) v p) l.longer
    ∙ (judged-last l.ss (judge c d) v p ∙ ap (λ b. b || judged_by (judge c d) v p) (sym (l.judged v p)))

and-twice : (v : Verdict) (b : Bool) → is_yes v && (is_yes v && b) ≡ is_yes v && b
and-twice Yes b = refl
and-twice No b = refl
and-twice Open b = refl

-- what is left of a whole, without the first two
module _ (c : Context) (raw : Raw) (read : Readings) (v : Data) (listed referred : Part → Bool) where
  regrouped : (p : Part) → judged_say c read v p (listed p || referred p) false ≡ judged_say c read v p (listed p) (referred p)
  unfolding judged_say
  regrouped p =
      judged_with (judged_itself c read v p) (listed p) (judged_by_list (read (codes "anyOf")) v p)
      (judged_by_list (read (codes "oneOf")) v p)
      (judged_by_condition c.dialect.reads_const (read (codes "if")) (read (codes "then")) (read (codes "else")) v p)
      (judged_by_dependents c.dialect.reads_unevaluated (read (codes "dependentSchemas")) v p) (referred p)

  whole-moved : (a r : Verdict) → whole_say c raw read v (both a r) Yes (λ p. listed p || referred p) (λ p. false)
      ≡ whole_say c raw read v a r listed referred
  unfolding whole_say
  whole-moved a r =
      ap (λ f. both Yes (both (both a r) (all_of (before_say c raw read v ++ last_say c raw read f v)))) (fun_ext regrouped)
      ∙ with_reference a r
      (all_of (before_say c raw read v ++ last_say c raw read (λ p. judged_say c read v p (listed p) (referred p)) v))

  judges-moved : (p : Part) → judges_say c read v p (listed p || referred p) false ≡ judges_say c read v p (listed p) (referred p)
  unfolding judges_say
  judges-moved p = ap (λ b. b || (c.dialect.reads_unevaluated && judges_rest read p)) (regrouped p)

-- in a dialect that passes over siblings
module _ (c : Context) (d : Dialect) where
  abbrev now : Context
  now = record c { dialect = alone_by d }

  abbrev was : Context
  was = record c { dialect = beside_by d }

  -- a reference alone
  judge-reference : (t : Text) → judge now (referring (string t)) ≡ reference_alone now (λ k. Some (string t))
  unfolding read_data
  judge-reference t = refl

  keywords-plain : (raw : Raw) (read : Readings) → is_reference (raw (codes "$ref")) ≡ false → keywords now raw read ≡ keywords was raw read
  unfolding all_keywords
  keywords-plain raw read is = ap (λ b. if b then reference_alone now raw else all_keywords now raw read) is

  module _ (t : Text) (ms : Members) (once : IsOnce (codes "$ref") ms) (here : get_member (codes "$ref") ms ≡ Some (string t))
      (plain : IsSchemaList (get_member (codes "allOf") ms)) where
    rs : Members
    rs = moved_members (string t) ms

    read : Readings
    read = reading_at (read_members now ms)

    reread : Readings
    reread = reading_at (read_members now rs)

    o : Option Data
    o = get_member (codes "allOf") ms

    list : Longer now o (referring (string t))
    unfolding o
    list = longer-list now o (referring (string t)) plain tt

    ref-gone : get_member (codes "$ref") rs ≡ None
    unfolding rs
    ref-gone = get-moved (string t) ms (codes "$ref") (differ (codes "$ref") (codes "allOf") refl) ∙ once

    read-list : read (codes "allOf") ≡ option_map (read_data now) o
    unfolding read o
    read-list = reading_at-members now ms (codes "allOf")

    reread-list : reread (codes "allOf") ≡ option_map (read_data now) (Some (list_with o (referring (string t))))
    unfolding reread rs o
    reread-list = reading_at-members now rs (codes "allOf") ∙ ap (option_map (read_data now)) (all_of-moved (string t) ms)

    raw-same : AgreeOutside two (look_up rs) (look_up ms)
    unfolding rs
    raw-same k out = get-rest (string t) ms k out

    read-same : AgreeOutside two reread read
    unfolding reread read rs
    read-same k out =
        reading_at-members now rs k ∙ (ap (option_map (read_data now)) (get-rest (string t) ms k out) ∙ sym (reading_at-members now ms k))

    abbrev target : Judge
    target = c.follow t

    said-list : (v : Data) → each_says all_of (reread (codes "allOf")) v ≡ both (each_says all_of (read (codes "allOf")) v) (target.fits v)
    said-list v =
        ap (λ x. each_says all_of x v) reread-list
        ∙ (each-longer now o (referring (string t)) list v
        ∙ (ap (λ j. both (each_says all_of (option_map (read_data now) o) v) (j.fits v)) (judge-reference t)
        ∙ ap (λ x. both (each_says all_of x v) (target.fits v)) (sym read-list)))

    judged-list : (v : Data) (p : Part)
        → judged_by_list (reread (codes "allOf")) v p ≡ judged_by_list (read (codes "allOf")) v p || judged_by target v p
    judged-list v p =
        ap (λ x. judged_by_list x v p) reread-list
        ∙ (judged-longer now o (referring (string t)) list v p
        ∙ (ap (λ j. judged_by_list (option_map (read_data now) o) v p || judged_by j v p) (judge-reference t)
        ∙ (ap (λ b. judged_by_list (option_map (read_data now) o) v p || b) (and-twice (target.fits v) (target.judges v p))
        ∙ ap (λ x. judged_by_list x v p || judged_by target v p) (sym read-list))))

    fits-moved : (v : Data) → (all_keywords now (look_up rs) reread).fits v ≡ (all_keywords now (look_up ms) read).fits v
    fits-moved v =
        fits-whole now (look_up rs) reread v
        ∙ (ap (λ x. whole_say now (look_up rs) reread v x (reference_says now.follow (get_member (codes "$ref") rs) v)
        (judged_by_list (reread (codes "allOf")) v) (judged_by_reference now.follow (get_member (codes "$ref") rs) v)) (said-list v)
        ∙ (ap (λ g. whole_say now (look_up rs) reread v (both (each_says all_of (read (codes "allOf")) v) (target.fits v))
        (reference_says now.follow (get_member (codes "$ref") rs) v) g (judged_by_reference now.follow (get_member (codes "$ref") rs) v))
        (fun_ext (judged-list v))
        ∙ (ap (λ x. whole_say now (look_up rs) reread v (both (each_says all_of (read (codes "allOf")) v) (target.fits v))
        (reference_says now.follow x v) (λ p. judged_by_list (read (codes "allOf")) v p || judged_by target v p)
        (judged_by_reference now.follow x v)) ref-gone
        ∙ (whole-agree now (look_up rs) (look_up ms) reread read v (both (each_says all_of (read (codes "allOf")) v) (target.fits v)) Yes
        (λ p. judged_by_list (read (codes "allOf")) v p || judged_by target v p) (λ p. false) raw-same read-same
        ∙ (whole-moved now (look_up ms) read v (judged_by_list (read (codes "allOf")) v) (judged_by target v)
        (each_says all_of (read (codes "allOf")) v) (target.fits v)
        ∙ (ap (λ x. whole_say now (look_up ms) read v (each_says all_of (read (codes "allOf")) v) (reference_says now.follow x v)
        (judged_by_list (read (codes "allOf")) v) (judged_by_reference now.follow x v)) (sym here)
        ∙ sym (fits-whole now (look_up ms) read v)))))))

    judges-same : (v : Data) (p : Part)
        → (all_keywords now (look_up rs) reread).judges v p ≡ (all_keywords now (look_up ms) read).judges v p
    judges-same v p =
        judges-whole now (look_up rs) reread v p
        ∙ (ap (λ b. judges_say now reread v p b (judged_by_reference now.follow (get_member (codes "$ref") rs) v p)) (judged-list v p)
        ∙ (ap (λ x. judges_say now reread v p (judged_by_list (read (codes "allOf")) v p || judged_by target v p)
        (judged_by_reference now.follow x v p)) ref-gone
        ∙ (judges-agree now reread read v p (judged_by_list (read (codes "allOf")) v p || judged_by target v p) false read-same
        ∙ (judges-moved now (look_up ms) read v (judged_by_list (read (codes "allOf")) v) (judged_by target v) p
        ∙ (ap (λ x. judges_say now read v p (judged_by_list (read (codes "allOf")) v p) (judged_by_reference now.follow x v p)) (sym here)
        ∙ sym (judges-whole now (look_up ms) read v p))))))

    judge-moved : judge now (object (moved_members (string t) ms)) ≡ keywords was (look_up ms) (reading_at (read_members now ms))
    unfolding read_data all_keywords rs read reread
    judge-moved =
        ap (λ x. if is_reference x then reference_alone now (look_up rs) else all_keywords now (look_up rs) reread) ref-gone
        ∙ judge_ext _ _ fits-moved judges-same

-- ---- a reference alone says the same in both

abbrev single : Text → Members
single t = member (codes "$ref") (string t) no_members

module _ (c : Context) (d : Dialect) (t : Text) where
  single-read : Readings
  single-read = reading_at (read_members (now c d) (single t))

  single-fits : (v : Data) → (all_keywords (was c d) (look_up (single t)) single-read).fits v ≡ (c.follow t).fits v
  unfolding all_keywords single-read read_data
  single-fits v =
      rw (
        items_none d.reads_prefix_items v,
        const_none d.reads_const v,
        unevaluated_none d.reads_unevaluated _ v,
      ) (both-yes ((c.follow t).fits v))

  single-judges : (v : Data) (p : Part) → (all_keywords (was c d) (look_up (single t)) single-read).judges v p ≡ judged_by (c.follow t) v p
  unfolding all_keywords single-read read_data
  single-judges v (member_key k) = rw (and-false d.reads_unevaluated) (or-false (judged_by (c.follow t) v (member_key k)))
  single-judges v (position n) =
      rw (places_none d.reads_prefix_items n, and-false d.reads_unevaluated) (or-false (judged_by (c.follow t) v (position n)))

  single-same : keywords (now c d) (look_up (single t)) (reading_at (read_members (now c d) (single t)))
      ≡ keywords (was c d) (look_up (single t)) (reading_at (read_members (now c d) (single t)))
  unfolding single-read read_data all_keywords
  single-same = sym (judge_ext _ (reference_alone (now c d) (look_up (single t))) single-fits single-judges)

one_member : (t : Text) (ms : Members) → (members_len ms == 1) ≡ true → get_member (codes "$ref") ms ≡ Some (string t) → ms ≡ single t
one_member t no_members one here = cc
one_member t (member k e no_members) one here =
    go (bytes_eq (codes "$ref") k) refl (sym (get_member-member (codes "$ref") k e no_members) ∙ here)
  where
    go : (b : Bool) → bytes_eq (codes "$ref") k ≡ b → (if b then Some e else None) ≡ Some (string t) → member k e no_members ≡ single t
    go true is there =
        let same : e ≡ string t = cc in
        ap (λ x. member x e no_members) (sym ((bytes_eq-Decides (codes "$ref") k).0 is)) ∙ ap (λ x. member (codes "$ref") x no_members) same
    go false is there = cc
one_member t (member k e (member l x ms)) one here = absurd (many (members_len ms) one)
  where
    many : (n : ℕ) → (suc (suc n) == 1) ≡ true → ⊥
    many n is = grind (arith, nat_tests)

module _ (c : Context) (d : Dialect) where
  same-single : (t : Text) (ms : Members) → (members_len ms == 1) ≡ true → get_member (codes "$ref") ms ≡ Some (string t)
      → judge (now c d) (object ms) ≡ keywords (was c d) (look_up ms) (reading_at (read_members (now c d) ms))
  unfolding read_data
  same-single t ms one here =
      subst (λ ns. keywords (now c d) (look_up ns) (reading_at (read_members (now c d) ns))
      ≡ keywords (was c d) (look_up ns) (reading_at (read_members (now c d) ns)))
      (sym (one_member t ms one here)) (single-same c d t)

  same-plain : (ms : Members) → is_reference (get_member (codes "$ref") ms) ≡ false
      → judge (now c d) (object ms) ≡ keywords (was c d) (look_up ms) (reading_at (read_members (now c d) ms))
  unfolding read_data
  same-plain ms none = keywords-plain c d (look_up ms) (reading_at (read_members (now c d) ms)) none

  without-nothing : (ms : Members) → IsOnce (codes "$ref") ms → get_member (codes "$ref") ms ≡ None
      → judge (now c d) (object (without (codes "$ref") ms)) ≡ judge (now c d) (object ms)
  without-nothing ms once none = judge-agree (now c d) (without (codes "$ref") ms) ms (λ k key. at k (bytes_eq k (codes "$ref")) refl)
    where
      at : (k : Text) (b : Bool) → bytes_eq k (codes "$ref") ≡ b → get_member k (without (codes "$ref") ms) ≡ get_member k ms
      at k true is =
          let same : k ≡ codes "$ref" = (bytes_eq-Decides k (codes "$ref")).0 is in
          subst (λ l. get_member l (without (codes "$ref") ms) ≡ get_member l ms) (sym same) (once ∙ sym none)
      at k false is = without-other (codes "$ref") k ms (differ k (codes "$ref") is)

  judge-siblings : (ms : Members) → HasPlainReference ms
      → judge (now c d) (without_siblings (object ms)) ≡ keywords (was c d) (look_up ms) (reading_at (read_members (now c d) ms))
  judge-siblings ms plain = go (members_len ms == 1) refl (get_member (codes "$ref") ms) refl plain.1
    where
      go : (b : Bool) → (members_len ms == 1) ≡ b → (o : Option Data) → get_member (codes "$ref") ms ≡ o → IsText o
          → judge (now c d) (if b then object ms else reference_moved (get_member (codes "$ref") ms) (object (without (codes "$ref") ms)))
          ≡ keywords (was c d) (look_up ms) (reading_at (read_members (now c d) ms))
      go true one (Some (string t)) here text = same-single t ms one here
      go true one None here text = same-plain ms (ap is_reference here)
      go false one (Some (string t)) here text =
          ap (λ o. judge (now c d) (reference_moved o (object (without (codes "$ref") ms)))) here
          ∙ judge-moved c d t ms plain.0 here plain.2
      go false one None here text =
          ap (λ o. judge (now c d) (reference_moved o (object (without (codes "$ref") ms)))) here
          ∙ (without-nothing ms plain.0 here ∙ same-plain ms (ap is_reference here))
      go b one (Some null) here text = absurd text
      go b one (Some (boolean x)) here text = absurd text
      go b one (Some (number x)) here text = absurd text
      go b one (Some (array x)) here text = absurd text
      go b one (Some (object x)) here text = absurd text

-- ---- with the subschemas done

pub schema-siblings : (s : Data) → IsSchema s → IsSchema (without_siblings s)
schema-siblings (boolean b) is = tt
schema-siblings (object ms) is = kept (members_len ms == 1) (get_member (codes "$ref") ms)
  where
    kept : (b : Bool) (o : Option Data) → IsSchema (if b then object ms else reference_moved o (object (without (codes "$ref") ms)))
    kept true o = tt
    kept false None = tt
    kept false (Some r) = tt
schema-siblings _ is = absurd is

truth-siblings : (c : Context) (b : Bool) → judge c (without_siblings (boolean b)) ≡ truth_value b
unfolding read_data
truth-siblings c b = refl

plain-walked : (ms : Members) → HasPlainReference ms → HasPlainReference (walked without_siblings ms)
plain-walked ms plain = (
  once-walked without_siblings (codes "$ref") ms plain.0,
  subst IsText (sym (raw-walked without_siblings (codes "$ref") ms refl)) plain.1,
  list-walked without_siblings schema-siblings (codes "allOf") ms refl plain.2,
)

pub definitions-stay : (key : Text) (ms : Members) → key ≢ codes "$ref" → key ≢ codes "allOf"
    → (ns : Members) × (without_siblings (object ms) ≡ object ns) × (get_member key ns ≡ get_member key ms)
definitions-stay key ms ref all = go (members_len ms == 1) (get_member (codes "$ref") ms)
  where
    go : (b : Bool) (o : Option Data) → (ns : Members)
        × ((if b then object ms else reference_moved o (object (without (codes "$ref") ms))) ≡ object ns)
        × (get_member key ns ≡ get_member key ms)
    go true o = (ms, refl, refl)
    go false None = (without (codes "$ref") ms, refl, without-other (codes "$ref") key ms ref)
    go false (Some r) = (moved_members r ms, refl, get-moved r ms key all ∙ without-other (codes "$ref") key ms ref)

pub ref_siblings : (key : Text) (d : Dialect) → key ≢ codes "$ref" → key ≢ codes "allOf"
    → Change without_siblings key (beside_by d) (alone_by d) HasPlainReference
ref_siblings key d ref all = record {
  schema = schema-siblings;
  of_truth = λ c b is. truth-siblings c b;
  of_object = λ c ms is plain. in_dialect c (walked without_siblings ms) is (plain-walked ms plain);
  definitions = λ ms. definitions-stay key ms ref all;
}
  where
    in_dialect : (c : Context) (ms : Members) → c.dialect ≡ alone_by d → HasPlainReference ms
        → judge c (without_siblings (object ms))
        ≡ keywords (record c { dialect = beside_by d }) (look_up ms) (reading_at (read_members c ms))
    in_dialect c ms is plain =
        subst (λ e. judge (record c { dialect = e }) (without_siblings (object ms))
        ≡ keywords (record c { dialect = beside_by d }) (look_up ms) (reading_at (read_members (record c { dialect = e }) ms)))
        (sym is) (judge-siblings c d ms plain)
