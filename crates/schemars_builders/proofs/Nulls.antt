-- Schemas that null can be allowed in, once and again.
use Rattle.std.proofs.Common.{◌≡◌, ◌⊎◌, inl, inr, List, [], ◌∷◌, ◌++◌, Option, Some, None, Bool, true, false, refl, sym, ap, ◌∙◌, arith, true≢false}
use Rattle.schemars_builders.proofs.Words.{and_parts, codes, bytes_eq, ◌||◌, if◌then◌else◌, IsTrue, length, option_and_then, Data, null, boolean, number, string, array, object, no_items, item, Members, get_member, as_str, items_of, members_view, accepts_everything, null_schema, is_combined, is_null_choice, const_admits_null, enum_admits_null, is_null_schema, holds_null_schema, const_or_null, or_null, allow_null, Entry, Text, IsSchema, Dialect, draft2020_12, Context, Raw, is_null, without, holds_text, with_item, is_text, judge-object, says-agree, IsDraft, AcceptsNull, SomeAcceptsNull, IsChoice, HasTypeForm, HasPlainValues, IsPlain, IsNullable, AcceptsNullToo}
use Rattle.schemars_builders.proofs.NullKeywords.{are_names_append, const_plus, enum_plus, type_plus, values_plus, with_item-text_items}
use Rattle.schemars_builders.proofs.NullMembers.{agree-none, allow_null-says, alone_parts, at_type, c, const_or_null-const, each_draft, null_says, nulled, of_null, one_form, same_text, type_once, with_const, with_null, with_null-agree, with_null_type}

-- ---- null can be allowed again

type_plus-form : (d : Option Data) → HasTypeForm d → HasTypeForm (type_plus d)
unfolding type_plus
type_plus-form None h = tt
type_plus-form (Some (string t)) h = go (bytes_eq t (codes "null"))
  where
    go : (b : Bool) → HasTypeForm (Some (if b then string t else array (item (string t) (item (string (codes "null")) no_items))))
    go true = h
    go false = (t ∷ codes "null" ∷ [], refl, rw h refl)
type_plus-form (Some (array ds)) h = go (holds_text (codes "null") ds)
  where
    go : (b : Bool) → HasTypeForm (Some (if b then array ds else array (with_item ds (string (codes "null")))))
    go true = h
    go false = (
      h.0 ++ codes "null" ∷ [],
      ap (λ x. with_item x (string (codes "null"))) h.1 ∙ with_item-text_items (codes "null") h.0,
      are_names_append h.0 h.2,
    )
type_plus-form (Some null) h = absurd h
type_plus-form (Some (boolean b)) h = absurd h
type_plus-form (Some (number n)) h = absurd h
type_plus-form (Some (object ms)) h = absurd h

at_other : (ms : Members) → HasPlainValues ms → (k : Text) → bytes_eq k (codes "type") ≡ false
    → bytes_eq k (codes "const") ≡ false → bytes_eq k (codes "enum") ≡ false
    → get_member k (with_null ms) ≡ get_member k ms
at_other ms values k e f h = with_null-agree ms values k ∙ rw (e, f, h) refl

values-with_null : (ms : Members) → HasPlainValues ms → HasPlainValues (with_null ms)
unfolding const_plus values_plus
values-with_null ms values = go (get_member (codes "const") ms) refl values
  where
    of_const : (c : Data) (b : Bool) → is_null c ≡ b → get_member (codes "const") ms ≡ Some c
        → get_member (codes "enum") ms ≡ None
        → get_member (codes "const") (without (codes "const") ms) ≡ None
        → HasPlainValues (if b then with_null_type ms else const_or_null c (with_null_type ms))
    of_const c true is some no_enum once = inr (at_type ms (codes "enum") refl ∙ no_enum, type_once ms once)
    of_const c false is some no_enum once = inl (const_or_null-const c (with_null_type ms) (type_once ms once))

    go : (o : Option Data) → get_member (codes "const") ms ≡ o → HasPlainValues ms → HasPlainValues (with_null ms)
    go None is values = inl (agree-none ms is (codes "const"))
    go (Some c) is (inl none) = let never : Some c ≡ None = sym is ∙ none in cc
    go (Some c) is (inr one) = rw (with_const ms c is) (of_const c (is_null c) refl is one.0 one.1)

plain-with_null : (ms : Members) → IsPlain ms → IsPlain (with_null ms)
plain-with_null ms p =
    let at : (k : Text) → bytes_eq k (codes "type") ≡ false → bytes_eq k (codes "const") ≡ false
    → bytes_eq k (codes "enum") ≡ false
    → get_member k (with_null ms) ≡ get_member k ms = at_other ms p.values in
    record {
      alone = rw (
        at (codes "if") refl refl refl,
        at (codes "allOf") refl refl refl,
        at (codes "anyOf") refl refl refl,
        at (codes "oneOf") refl refl refl,
        at (codes "$ref") refl refl refl,
        at (codes "not") refl refl refl,
      ) p.alone;
      type_form = rw (with_null-agree ms p.values (codes "type")) (type_plus-form _ p.type_form);
      values = values-with_null ms p.values;
      not_form = rw (at (codes "not") refl refl refl) p.not_form;
    }

-- a schema to which null can be added under each draft: it combines schemas, and its type is not null, or it is plain
abbrev pub IsReady : Data → Type 0
IsReady (boolean b) = Unit {0}
IsReady (object ms) =
    (((dialect : Dialect) → IsDraft dialect → IsChoice dialect ms)
    × (is_text (codes "null") (option_and_then as_str (get_member (codes "type") ms)) ≡ false)) ⊎ IsPlain ms
IsReady _ = ⊥

ready_nullable : (dialect : Dialect) → IsDraft dialect → (t : Data) → IsReady t → IsNullable dialect t
ready_nullable dialect draft (boolean b) r = tt
ready_nullable dialect draft (object ms) (inl choice) = inl (choice.0 dialect draft)
ready_nullable dialect draft (object ms) (inr p) = inr p
ready_nullable dialect draft _ r = absurd r

null_fits : (dialect : Dialect) → IsDraft dialect → AcceptsNull dialect null_schema
null_fits = each_draft (λ d. AcceptsNull d null_schema)
    (λ siblings prefix unevaluated patterns follow. of_null siblings prefix unevaluated patterns follow null)

pub ready-allow_null : (t : Data) → IsReady t → IsReady (allow_null t)
ready-allow_null (boolean true) r = tt
ready-allow_null (boolean false) r =
    inr (record { alone = refl; type_form = refl; values = inl refl; not_form = inl refl })
ready-allow_null (object ms) r = go (is_null_choice (object ms)) (is_combined (object ms)) refl r
  where
    go : (s o : Bool) → is_combined (object ms) ≡ o → IsReady (object ms)
        → IsReady (if s then object ms else if o then or_null (object ms) else object (with_null ms))
    go true o is h = h
    go false true is h = inl (
      λ dialect draft. record {
        combined = refl;
        offers = λ stays. inr (inl (null_fits dialect draft));
      },
      refl,
    )
    go false false is (inl p) = absurd (true≢false (sym (p.0 draft2020_12 (inl refl)).combined ∙ is))
    go false false is (inr p) = inr (plain-with_null ms p)
ready-allow_null _ r = absurd r

kept_type : (d : Option Data) → is_text (codes "null") (option_and_then as_str d) ≡ true → type_plus d ≡ d
unfolding type_plus
kept_type (Some (string t)) h = rw h refl
kept_type None h = absurd (true≢false (sym h))
kept_type (Some null) h = absurd (true≢false (sym h))
kept_type (Some (boolean b)) h = absurd (true≢false (sym h))
kept_type (Some (number n)) h = absurd (true≢false (sym h))
kept_type (Some (array ds)) h = absurd (true≢false (sym h))
kept_type (Some (object ms)) h = absurd (true≢false (sym h))

kept_enum : (d : Option Data) → enum_admits_null d ≡ true → enum_plus d ≡ d
unfolding enum_plus
kept_enum (Some (array ds)) h = rw h refl
kept_enum None h = refl
kept_enum (Some null) h = refl
kept_enum (Some (boolean b)) h = refl
kept_enum (Some (number n)) h = refl
kept_enum (Some (string t)) h = refl
kept_enum (Some (object ms)) h = refl

kept_const : (o : Option Data) → const_admits_null o ≡ true → const_plus o ≡ o
unfolding const_plus
kept_const None h = refl
kept_const (Some c) h = rw h refl

kept_values : (o values : Option Data) → const_admits_null o ≡ true → enum_admits_null values ≡ true
    → values_plus o values ≡ values
unfolding values_plus
kept_values None values h e = kept_enum values e
kept_values (Some c) values h e = rw h refl

-- where the type and the values admit null already, nothing changes
kept : (g : Raw) → is_text (codes "null") (option_and_then as_str (g (codes "type"))) ≡ true
    → const_admits_null (g (codes "const")) ≡ true
    → enum_admits_null (g (codes "enum")) ≡ true → (k : Text) → g k ≡ nulled g k
kept g typed admits_const admits k =
    go (bytes_eq k (codes "type")) (bytes_eq k (codes "const")) (bytes_eq k (codes "enum")) refl refl refl
  where
    go : (a b d : Bool) → bytes_eq k (codes "type") ≡ a → bytes_eq k (codes "const") ≡ b → bytes_eq k (codes "enum") ≡ d
        → g k ≡ (if a then type_plus (g (codes "type")) else if b then const_plus (g (codes "const"))
        else if d then values_plus (g (codes "const")) (g (codes "enum")) else g k)
    go true b d p q r = ap g (same_text k (codes "type") p) ∙ sym (kept_type (g (codes "type")) typed)
    go false true d p q r = ap g (same_text k (codes "const") q) ∙ sym (kept_const (g (codes "const")) admits_const)
    go false false true p q r = ap g (same_text k (codes "enum") r)
        ∙ sym (kept_values (g (codes "const")) (g (codes "enum")) admits_const admits)
    go false false false p q r = refl

-- a plain schema whose type is null, and whose values admit it, accepts it
plain_null : (ms : Members) → IsPlain ms → is_null_schema (object ms) ≡ true
    → (dialect : Dialect) → IsDraft dialect → AcceptsNull dialect (object ms)
plain_null ms p is = each_draft (λ d. AcceptsNull d (object ms)) (λ siblings prefix unevaluated patterns f.
    let at : Context = c siblings prefix unevaluated patterns f in
    let g : Raw = λ k. get_member k ms in
    let parts = alone_parts ms p.alone in
    let said = and_parts _ _ is in
    let values = and_parts _ _ said.1 in
    ap (λ j. j.fits null) (judge-object at ms ∙ says-agree at g (nulled g) (λ k key. kept g said.0 values.0 values.1 k))
    ∙ null_says siblings prefix unevaluated patterns f g p.type_form (one_form ms p.values) p.not_form
    parts.0 parts.1 parts.2 parts.3 parts.4)

ready_null : (dialect : Dialect) → IsDraft dialect → (t : Data) → IsReady t → is_null_schema t ≡ true
    → AcceptsNull dialect t
ready_null dialect draft (boolean b) r is = absurd (true≢false (sym is))
ready_null dialect draft (object ms) (inl choice) is =
    let typed : is_text (codes "null") (option_and_then as_str (get_member (codes "type") ms)) ≡ true = (and_parts _ _ is).0 in
    absurd (true≢false (sym typed ∙ choice.1))
ready_null dialect draft (object ms) (inr p) is = plain_null ms p is dialect draft
ready_null dialect draft _ r is = absurd r

-- one of such schemas accepts null where one of them is the schema of null
abbrev pub AreReady : List Data → Type 0
AreReady [] = Unit {0}
AreReady (t ∷ ts) = IsReady t × AreReady ts

pub some_accepts_null : (dialect : Dialect) → IsDraft dialect → (ts : List Data) → AreReady ts
    → holds_null_schema (items_of ts) ≡ true → SomeAcceptsNull dialect (items_of ts)
some_accepts_null dialect draft [] r is = absurd (true≢false (sym is))
some_accepts_null dialect draft (t ∷ ts) r is = go (is_null_schema t) refl is (some_accepts_null dialect draft ts r.1)
  where
    go : (b : Bool) → is_null_schema t ≡ b → b || holds_null_schema (items_of ts) ≡ true
        → (holds_null_schema (items_of ts) ≡ true → SomeAcceptsNull dialect (items_of ts))
        → AcceptsNull dialect t ⊎ SomeAcceptsNull dialect (items_of ts)
    go true e h later = inl (ready_null dialect draft t r.0 e)
    go false e h later = inr (later h)

pub ready-schema : (t : Data) → IsReady t → IsSchema t
ready-schema (boolean b) r = tt
ready-schema (object ms) r = tt
ready-schema _ r = absurd r

-- ---- the law

pub allow_null-law : (old new : Data) → new ≡ allow_null old
    → (dialect : Dialect) → IsDraft dialect → IsNullable dialect old → AcceptsNullToo dialect old new
allow_null-law old new e dialect draft r patterns follow v b h =
    rw e (allow_null-says dialect draft patterns follow old r v b h)

pub ready-law : (dialect : Dialect) → IsDraft dialect → (t : Data) → IsReady t → AcceptsNullToo dialect t (allow_null t)
ready-law dialect draft t r = allow_null-law t (allow_null t) refl dialect draft (ready_nullable dialect draft t r)

-- ---- for the code

pub empty_accepts : (b : Bool) (es : List Entry) → (IsTrue b → length es ≡ 0) → (length es ≡ 0 → IsTrue b)
    → b ≡ accepts_everything (Some (object (members_view es)))
empty_accepts b [] none all = all refl
empty_accepts true (e ∷ es) none all = absurd (omega (arith, none refl))
empty_accepts false (e ∷ es) none all = refl
