-- Null can be added to a plain literal.
use Rattle.std.proofs.Common.{◌≡◌, ℕ, inl, inr, List, [], ◌∷◌, Option, Some, None, Bool, true, false, refl, sym, ap, ◌∙◌, true≢false}
use Rattle.schemars_builders.proofs.Words.{codes, bytes_eq, ◌||◌, ◌&&◌, if◌then◌else◌, is_some, option_and_then, option_map, bytes_eq-Decides, and_parts, Data, boolean, string, array, object, Items, no_items, item, Members, no_members, member, get_member, as_str, Text, is_listed, verdict, Dialect, Patterns, when, is_null, types_in, texts_in, are_type_names, type_names, accepts, context, follow, without, ArePlainMembers, IsPlainLiteral, has_literal, plain_at, plain_absent, literal_judged, get_member-later, allow_null, text_items, HasTypeForm, HasPlainValues, IsDraft}
use Rattle.schemars_builders.proofs.NullMembers.{drafted, each_draft}
use Rattle.schemars_builders.proofs.Nulls.{IsReady, ready-law}

-- ---- the type has the right form

texts_form : (ds : Items) (ts : List Text) → texts_in ds ≡ Some ts → ds ≡ text_items ts
texts_form no_items [] is = refl
texts_form no_items (t ∷ ts) is = cc
texts_form (item d ds) ts is = go (as_str d) (texts_in ds) refl refl is (texts_form ds)
  where
    text_form : (e : Data) (s : Text) → as_str e ≡ Some s → e ≡ string s
    text_form (string t) s e = cc
    text_form _ s e = cc

    go : (s : Option Text) (o : Option (List Text)) → as_str d ≡ s → texts_in ds ≡ o
        → option_and_then (λ t. option_map (λ us. t ∷ us) o) s ≡ Some ts
        → ((us : List Text) → texts_in ds ≡ Some us → ds ≡ text_items us) → item d ds ≡ text_items ts
    go None o at rest is later = cc
    go (Some s) None at rest is later = cc
    go (Some s) (Some us) at rest is later =
        let same : s ∷ us ≡ ts = cc in
        (λ i. item (text_form d s at i) (later us rest i)) ∙ ap text_items same

names_form : (ts : List Text) (b : Bool) → is_some (when b ts) ≡ true → b ≡ true
names_form ts true h = refl
names_form ts false h = absurd (true≢false (sym h))

type_form : (d : Data) → is_some (types_in d) ≡ true → HasTypeForm (Some d)
type_form (string t) h = names_form (t ∷ []) (is_listed t type_names) h
type_form (array ds) h = go (texts_in ds) refl h
  where
    go : (o : Option (List Text)) → texts_in ds ≡ o
        → is_some (option_and_then (λ ts. when (are_type_names ts) ts) o) ≡ true
        → HasTypeForm (Some (array ds))
    go None is h = absurd (true≢false (sym h))
    go (Some ts) is h = (ts, texts_form ds ts is, names_form ts (are_type_names ts) h)
type_form _ h = absurd (true≢false (sym h))

literal_type : (ms : Members) → ArePlainMembers ms → HasTypeForm (get_member (codes "type") ms)
literal_type ms plain = go (get_member (codes "type") ms) refl
  where
    go : (o : Option Data) → get_member (codes "type") ms ≡ o → HasTypeForm o
    go None is = tt
    go (Some d) is = type_form d (and_parts (is_some (types_in d)) _ (plain_at (codes "type") ms d plain is)).0

-- ---- a key occurs once

key_once : (k : Text) (ms : Members) → ArePlainMembers ms → get_member k (without k ms) ≡ None
key_once k no_members plain = refl
key_once k (member l d ms) plain = go (bytes_eq k l) refl (key_once k ms plain.2)
  where
    go : (b : Bool) → bytes_eq k l ≡ b → get_member k (without k ms) ≡ None
        → get_member k (if b then ms else member l d (without k ms)) ≡ None
    go true is later = ap (λ x. get_member x ms) ((bytes_eq-Decides k l).0 is) ∙ plain.1
    go false is later = get_member-later k l d (without k ms) is ∙ later

literal_values : (ms : Members) → ArePlainMembers ms
    → is_some (get_member (codes "enum") ms) && is_some (get_member (codes "const") ms) ≡ false → HasPlainValues ms
literal_values ms plain not_both = go (get_member (codes "const") ms) (get_member (codes "enum") ms) refl refl not_both
  where
    go : (o values : Option Data) → get_member (codes "const") ms ≡ o → get_member (codes "enum") ms ≡ values
        → is_some values && is_some o ≡ false → HasPlainValues ms
    go None values is at not_both = inl is
    go (Some c) None is at not_both = inr (at, key_once (codes "const") ms plain)
    go (Some c) (Some x) is at not_both = absurd (true≢false not_both)

-- ---- the law

pub literal_ready : (l : Data) → IsPlainLiteral l → IsReady l
literal_ready (boolean b) plain = tt
literal_ready (object ms) plain =
    inr (record {
      alone = rw (
        plain_absent (codes "if") ms plain.members (λ d. refl),
        plain_absent (codes "allOf") ms plain.members (λ d. refl),
        plain_absent (codes "anyOf") ms plain.members (λ d. refl),
        plain_absent (codes "oneOf") ms plain.members (λ d. refl),
        plain_absent (codes "$ref") ms plain.members (λ d. refl),
        plain_absent (codes "not") ms plain.members (λ d. refl),
      ) refl;
      type_form = literal_type ms plain.members;
      values = literal_values ms plain.members plain.not_both;
      not_form = inl (plain_absent (codes "not") ms plain.members (λ d. refl));
    })
literal_ready _ plain = absurd plain

-- with null added it accepts what it accepted, and null
pub literal_or_null : (dialect : Dialect) → IsDraft dialect → (document : Data) (patterns : Patterns) (n : ℕ) (l v : Data)
    → IsPlainLiteral l
    → accepts dialect document patterns n (allow_null l) v ≡ verdict (is_null v || has_literal patterns l v)
literal_or_null dialect draft document patterns n l v plain =
    ready-law dialect draft l (literal_ready l plain) patterns (follow dialect document patterns n) v (has_literal patterns l v)
    (each_draft (λ d. accepts d document patterns n l v ≡ verdict (has_literal patterns l v))
    (λ siblings prefix unevaluated. literal_judged (context (drafted siblings prefix unevaluated) document patterns n) refl refl l v plain)
    dialect draft)
