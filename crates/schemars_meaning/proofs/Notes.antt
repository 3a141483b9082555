-- Notes say nothing of a value, and leave a schema one to which null can be added.
use Rattle.std.proofs.Common.{◌≡◌, inl, inr, List, [], ◌∷◌, Option, Some, None, Bool, true, false, refl, sym, ap, ◌∙◌, true≢false}
use Rattle.schemars_meaning.proofs.Words.{codes, is_some, bytes_eq, option_and_then, if◌then◌else◌, bytes_eq-Decides, Data, boolean, string, object, Members, no_members, member, put, get_member, as_str, get_member-put, Text, put_members, IsSchema, members_in, Context, Patterns, Judge, judge, verdict, is_annotation, AreNotes, without, context2020_12, IsReady, annotated, Part, key, position, judge-put, judge-put_members, without-put, Yes, No, items_none, const_none, unevaluated_none, is_text, is_null_choice, HasPlainValues, choice_key, with_title, with_meta_schema, root_document, read_data, all_keywords}
use Rattle.schemars_meaning.proofs.MapDocument.{noted_by, AllNotes}
use Rattle.schemars_meaning.proofs.MapKeywords.{put_members-beside}

pub annotated-schema : (notes : Members) (s : Data) → IsSchema s → IsSchema (annotated notes s)
annotated-schema no_members s is = is
annotated-schema (member k d notes) s is = tt

module _ (patterns : Patterns) (f : Text → Judge) where
  abbrev c : Context
  c = context2020_12 patterns f

  -- the object that a truth value becomes judges no part of a value
  judges_nothing : (b : Bool) (v : Data) (p : Part) → (judge c (object (members_in (boolean b)))).judges v p ≡ false
  unfolding read_data all_keywords
  judges_nothing true v (key k) = refl
  judges_nothing true v (position n) = refl
  judges_nothing false v (key k) = refl
  judges_nothing false v (position n) = refl

  -- a truth value and the object that it becomes say the same
  judge-members_in : (s : Data) → IsSchema s → judge c (object (members_in s)) ≡ judge c s
  unfolding read_data all_keywords
  judge-members_in (boolean true) is = λ i. record { fits = λ v. Yes; judges = λ v p. judges_nothing true v p i }
  judge-members_in (boolean false) is = λ i. record { fits = λ v. No; judges = λ v p. judges_nothing false v p i }
  judge-members_in (object ms) is = refl
  judge-members_in _ is = absurd is

  pub judge-annotated : (notes : Members) (s : Data) → AreNotes notes → IsSchema s → judge c (annotated notes s) ≡ judge c s
  judge-annotated no_members s h is = refl
  judge-annotated (member k d notes) s h is = judge-put_members c (member k d notes) (members_in s) h
      ∙ judge-members_in s is

  judge-with_title : (name : Text) (ms : Members) → judge c (object (with_title name ms)) ≡ judge c (object ms)
  judge-with_title name ms = go (is_some (get_member (codes "title") ms))
    where
      go : (b : Bool) → judge c (object (if b then ms else put (codes "title") (string name) ms)) ≡ judge c (object ms)
      go true = refl
      go false = judge-put c (codes "title") (string name) ms refl

  judge-with_meta_schema : (uri : Option Text) (ms : Members) → judge c (object (with_meta_schema uri ms)) ≡ judge c (object ms)
  judge-with_meta_schema None ms = refl
  judge-with_meta_schema (Some uri) ms = judge-put c (codes "$schema") (string uri) ms refl

  pub judge-root : (name : Text) (uri : Option Text) (s : Data) → IsSchema s → judge c (root_document name uri s) ≡ judge c s
  judge-root name uri s is = judge-with_meta_schema uri _ ∙ (judge-with_title name (members_in s) ∙ judge-members_in s is)

-- ---- null can be allowed beside notes

-- a note is present, so that no keyword is alone
abbrev HasNote : Members → Type 0
HasNote ms = (k : Text) × (d : Data) × (is_annotation k ≡ true) × (get_member k ms ≡ Some d)

put_members-noted : (notes ms : Members) → AreNotes notes → HasNote ms → HasNote (put_members notes ms)
put_members-noted no_members ms h noted = noted
put_members-noted (member k d notes) ms h noted = put_members-noted notes (put k d ms) h.1 (k, d, h.0, get_member-put k d ms)

noted-not_choice : (ms : Members) → HasNote ms → is_null_choice (object ms) ≡ true → ⊥
noted-not_choice ms noted stays = true≢false (sym noted.2 ∙ ap is_annotation (choice_key ms stays noted.0 noted.1 noted.3))

-- notes change nothing of whether a keyword is present
once_still : (l : Text) (notes ms : Members) → is_annotation l ≡ false → AreNotes notes
    → get_member l (without l (put_members notes ms)) ≡ get_member l (without l ms)
once_still l no_members ms e h = refl
once_still l (member k d notes) ms e h = once_still l notes (put k d ms) e h.1
    ∙ without-put l k d ms (go (bytes_eq l k) refl)
  where
    go : (b : Bool) → bytes_eq l k ≡ b → b ≡ false
    go true same = absurd (true≢false (sym h.0 ∙ (ap is_annotation (sym ((bytes_eq-Decides l k).0 same)) ∙ e)))
    go false same = refl

values-agree : (ms ns : Members) → ((l : Text) → is_annotation l ≡ false → get_member l ms ≡ get_member l ns)
    → get_member (codes "const") (without (codes "const") ms) ≡ get_member (codes "const") (without (codes "const") ns)
    → HasPlainValues ns → HasPlainValues ms
values-agree ms ns e once (inl none) = inl (e (codes "const") refl ∙ none)
values-agree ms ns e once (inr one) = inr (e (codes "enum") refl ∙ one.0, once ∙ one.1)

ready-agree : (ms ns : Members) → HasNote ms → ((l : Text) → is_annotation l ≡ false → get_member l ms ≡ get_member l ns)
    → get_member (codes "const") (without (codes "const") ms) ≡ get_member (codes "const") (without (codes "const") ns)
    → IsReady (object ns) → IsReady (object ms)
ready-agree ms ns noted e once (inl p) = inl (
  λ dialect draft. record {
    combined = rw (
      e (codes "if") refl,
      e (codes "allOf") refl,
      e (codes "anyOf") refl,
      e (codes "oneOf") refl,
      e (codes "$ref") refl,
      e (codes "not") refl,
    ) (p.0 dialect draft).combined;
    offers = λ stays. absurd (noted-not_choice ms noted stays);
  },
  ap (λ o. is_text (codes "null") (option_and_then as_str o)) (e (codes "type") refl) ∙ p.1,
)
ready-agree ms ns noted e once (inr p) = inr (record {
  alone = rw (
    e (codes "if") refl,
    e (codes "allOf") refl,
    e (codes "anyOf") refl,
    e (codes "oneOf") refl,
    e (codes "$ref") refl,
    e (codes "not") refl,
  ) p.alone;
  type_form = rw (e (codes "type") refl) p.type_form;
  values = values-agree ms ns e once p.values;
  not_form = rw (e (codes "not") refl) p.not_form;
})

ready-members_in : (s : Data) → IsReady s → IsReady (object (members_in s))
ready-members_in (boolean true) r =
    inr (record { alone = refl; type_form = tt; values = inl refl; not_form = inl refl })
ready-members_in (boolean false) r =
    inl (λ dialect draft. record { combined = refl; offers = λ stays. absurd (true≢false (sym stays)) }, refl)
ready-members_in (object ms) r = r
ready-members_in _ r = absurd r

pub ready-annotated : (notes : Members) (s : Data) → AreNotes notes → IsReady s → IsReady (annotated notes s)
ready-annotated no_members s h r = r
ready-annotated (member k d notes) s h r =
    let noted : HasNote (put_members (member k d notes) (members_in s)) =
    put_members-noted notes (put k d (members_in s)) h.1 (k, d, h.0, get_member-put k d (members_in s)) in
    ready-agree (put_members (member k d notes) (members_in s)) (members_in s) noted
    (λ l e. put_members-beside l (member k d notes) (members_in s) e h)
    (once_still (codes "const") (member k d notes) (members_in s) refl h) (ready-members_in s r)

pub ready-noted_by : (notes : List Members) (s : Data) → AllNotes notes → IsReady s → IsReady (noted_by notes s)
ready-noted_by [] s h r = r
ready-noted_by (notes ∷ more) s h r = ready-annotated notes (noted_by more s) h.0 (ready-noted_by more s h.1 r)

-- ---- in each dialect

truth_fits : (patterns : Patterns) (f : Text → Judge) (v : Data) (p q r t u b : Bool)
    → (judge (record {
      dialect = record { judges_siblings = p; reads_prefix_items = q; reads_nullable = r; reads_const = t; reads_unevaluated = u };
      patterns = patterns;
      follow = f;
    }) (object (members_in (boolean b)))).fits v ≡ verdict b
unfolding read_data all_keywords
truth_fits patterns f v true q r t u true = rw (items_none q v, const_none t v, unevaluated_none u _ v)
truth_fits patterns f v true q r t u false = rw (items_none q v, const_none t v, unevaluated_none u _ v)
truth_fits patterns f v false q r t u true = rw (items_none q v, const_none t v, unevaluated_none u _ v)
truth_fits patterns f v false q r t u false = rw (items_none q v, const_none t v, unevaluated_none u _ v)

members_fit : (c : Context) (s v : Data) → IsSchema s → (judge c (object (members_in s))).fits v ≡ (judge c s).fits v
unfolding read_data
members_fit c (object ms) v is = refl
members_fit c (boolean b) v is = truth_fits c.patterns c.follow v c.dialect.judges_siblings c.dialect.reads_prefix_items
    c.dialect.reads_nullable c.dialect.reads_const c.dialect.reads_unevaluated b
members_fit c _ v is = absurd is

pub annotated_fits : (c : Context) (notes : Members) (s v : Data) → AreNotes notes → IsSchema s
    → (judge c (annotated notes s)).fits v ≡ (judge c s).fits v
annotated_fits c no_members s v h is = refl
annotated_fits c (member k d notes) s v h is =
    ap (λ (j : Judge). j.fits v) (judge-put_members c (member k d notes) (members_in s) h) ∙ members_fit c s v is
