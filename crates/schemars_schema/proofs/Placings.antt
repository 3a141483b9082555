-- Members put into an object at a pointer, a token at a time.
use Rattle.std.proofs.Common.{◌≡◌, ◌≢◌, ◌<◌, List, [], ◌∷◌, ◌++◌, length, map, Option, Some, None, option_map, Bool, true, false, refl, ap, ◌∙◌, arith, append-nil, length-append, ne_eqb, inl, inr, ◌⊎◌}
use Rattle.schemars_schema.proofs.Words.{◌==◌, All, if◌then◌else◌, codes, IsUtf8, Result, Ok, Err, IfOk, slice_split, slice_split_none, slice_split_at, Data, null, boolean, number, string, array, object, Members, no_members, member, put, members_len, unescape, get_member, as_object, pointer, serde_json_on_literals, Text, replaced, IsSchema, count_of_definitions, has_escape, encoded, lookup, IsFirstToken, schema_only, resolved, tokens_in, tokens_of, tokens_below, placed, placed_at}
use Rattle.std.specs.declared.alloc.AllocError.{AllocError}
use Rattle.schemars_schema.proofs.Encodings.{are_ascii, lookup-ascii, lookup-encoded}

-- ---- the tokens

pub below_nothing : (p : Text) → ((rest : Text) → p ≢ 47 ∷ rest) → tokens_below p ≡ []
below_nothing [] other = refl
below_nothing (x ∷ rest) other = rw (ne_eqb x 47 (λ e. other rest (ap (λ y. y ∷ rest) e))) refl

no_slashes : (xs : Text) → All (λ b. b ≢ 47) xs → All (λ b. (b == 47) ≡ false) xs
no_slashes xs h = λ k d less. ne_eqb _ 47 (h k d less)

pub below_first : (p tokens token below : Text) → p ≡ 47 ∷ tokens → IsFirstToken tokens token below
    → tokens_below p ≡ unescape token ∷ tokens_below below
below_first p tokens token below is h = rw (is, h.whole) (go below h.next)
  where
    cut : Text → List Text
    cut xs = slice_split (λ b. b == 47) xs

    go : (below : Text) → (below ≡ []) ⊎ ((rest : Text) × (below ≡ 47 ∷ rest))
        → tokens_in (token ++ below) ≡ unescape token ∷ tokens_below below
    go [] next = rw (append-nil token) (ap (map unescape) (slice_split_none (λ b. b == 47) token (no_slashes token h.one)))
    go (x ∷ rest) (inl none) = cc
    go (x ∷ rest) (inr more) =
        let slash : x ≡ 47 = cc in
        rw slash (ap (map unescape) (slice_split_at (λ b. b == 47) token 47 rest (no_slashes token h.one) refl))

pub below_is_shorter : (p tokens token below : Text) → p ≡ 47 ∷ tokens → IsFirstToken tokens token below → length below < length p
below_is_shorter p tokens token below is h = omega (arith, ap length is, ap length h.whole, length-append token below)

-- ---- a token

-- what becomes of an object, by the value at a token
abbrev pub onward : List Text → Text → Members → Members → Option Data → Option Data
onward ts t new ms None = option_map (λ d. object (put t d ms)) (placed ts new None)
onward ts t new ms (Some e) = option_map (λ d. object (replaced t d ms)) (placed ts new (Some e))

pub placed_nested : (all ts : List Text) (t : Text) (new : Members) (d : Data) → all ≡ t ∷ ts → placed ts new None ≡ Some d
    → placed all new None ≡ Some (object (put t d no_members))
placed_nested all ts t new d is made = rw (is, made) refl

pub placed_missing : (all ts : List Text) (t : Text) (new ms : Members) (d : Data) → all ≡ t ∷ ts → get_member t ms ≡ None
    → placed ts new None ≡ Some d → placed all new (Some (object ms)) ≡ Some (object (put t d ms))
placed_missing all ts t new ms d is missing made = rw is (go (get_member t ms) missing)
  where
    go : (o : Option Data) → o ≡ None → onward ts t new ms o ≡ Some (object (put t d ms))
    go None e = rw made refl
    go (Some x) e = cc

pub placed_other : (ts : List Text) (new : Members) (d : Data) → as_object d ≡ None → placed ts new (Some d) ≡ None
placed_other [] new (object ms) h = cc
placed_other (t ∷ ts) new null h = refl
placed_other (t ∷ ts) new (boolean b) h = refl
placed_other (t ∷ ts) new (number n) h = refl
placed_other (t ∷ ts) new (string s) h = refl
placed_other (t ∷ ts) new (array ds) h = refl
placed_other (t ∷ ts) new (object ms) h = cc
placed_other [] new _ h = refl

pub placed_refused : (all ts : List Text) (t : Text) (new ms : Members) (d : Data) → all ≡ t ∷ ts → get_member t ms ≡ Some d
    → as_object d ≡ None → placed all new (Some (object ms)) ≡ None
placed_refused all ts t new ms d is found other = rw is (go (get_member t ms) found)
  where
    go : (o : Option Data) → o ≡ Some d → onward ts t new ms o ≡ None
    go None e = cc
    go (Some x) e = let same : x ≡ d = cc in rw (same, placed_other ts new d other) refl

pub placed_inside : (r : Result Bool AllocError) (all ts : List Text) (t : Text) (new ms inner after now : Members) → all ≡ t ∷ ts
    → get_member t ms ≡ Some (object inner) → now ≡ replaced t (object after) ms
    → IfOk r (λ done. placed ts new (Some (object inner)) ≡ (if done then Some (object after) else None))
    → IfOk r (λ done. placed all new (Some (object ms)) ≡ (if done then Some (object now) else None))
placed_inside r all ts t new ms inner after now is found write h = rw is (go r (get_member t ms) found h)
  where
    go : (r : Result Bool AllocError) (o : Option Data) → o ≡ Some (object inner)
        → IfOk r (λ done. placed ts new (Some (object inner)) ≡ (if done then Some (object after) else None))
        → IfOk r (λ done. onward ts t new ms o ≡ (if done then Some (object now) else None))
    go r None e h = cc
    go (Err x) (Some d) e h = h
    go (Ok true) (Some d) e h = let same : d ≡ object inner = cc in rw (same, h, write) refl
    go (Ok false) (Some d) e h = let same : d ≡ object inner = cc in rw (same, h) refl

-- ---- the place of the definitions

tokens-defs : tokens_of (codes "/$defs") ≡ Some (codes "$defs" ∷ [])
unfolding serde_json_on_literals
tokens-defs = refl

tokens-definitions : tokens_of (codes "/definitions") ≡ Some (codes "definitions" ∷ [])
unfolding serde_json_on_literals
tokens-definitions = refl

tokens-components : tokens_of (codes "/components/schemas") ≡ Some (codes "components" ∷ codes "schemas" ∷ [])
unfolding serde_json_on_literals
tokens-components = refl

placed_at-one : (p key : Text) (new ms : Members) → tokens_of p ≡ Some (key ∷ []) → get_member key ms ≡ None
    → placed_at p new (object ms) ≡ Some (object (put key (object new) ms))
placed_at-one p key new ms is missing = rw is (placed_missing (key ∷ []) [] key new ms (object new) refl missing refl)

placed_at-two : (p key below : Text) (new ms : Members) → tokens_of p ≡ Some (key ∷ below ∷ []) → get_member key ms ≡ None
    → placed_at p new (object ms) ≡ Some (object (put key (object (member below (object new) no_members)) ms))
placed_at-two p key below new ms is missing = rw is (placed_missing (key ∷ below ∷ []) (below ∷ []) key new ms
    (object (member below (object new) no_members)) refl missing refl)

-- members put where there are no definitions yet
pub placed_at-defs : (new ms : Members) → get_member (codes "$defs") ms ≡ None
    → placed_at (codes "/$defs") new (object ms) ≡ Some (object (put (codes "$defs") (object new) ms))
placed_at-defs new ms missing = placed_at-one (codes "/$defs") (codes "$defs") new ms tokens-defs missing

pub placed_at-definitions : (new ms : Members) → get_member (codes "definitions") ms ≡ None
    → placed_at (codes "/definitions") new (object ms) ≡ Some (object (put (codes "definitions") (object new) ms))
placed_at-definitions new ms missing = placed_at-one (codes "/definitions") (codes "definitions") new ms tokens-definitions missing

pub placed_at-components : (new ms : Members) → get_member (codes "components") ms ≡ None
    → placed_at (codes "/components/schemas") new (object ms) ≡ Some (object
    (put (codes "components") (object (member (codes "schemas") (object new) no_members)) ms))
placed_at-components new ms missing = placed_at-two (codes "/components/schemas") (codes "components") (codes "schemas") new ms
    tokens-components missing

-- and in an object without members
pub placed_at-defs_alone : (new : Members) → placed_at (codes "/$defs") new (object no_members)
    ≡ Some (object (member (codes "$defs") (object new) no_members))
placed_at-defs_alone new = placed_at-defs new no_members refl

pub placed_at-definitions_alone : (new : Members) → placed_at (codes "/definitions") new (object no_members)
    ≡ Some (object (member (codes "definitions") (object new) no_members))
placed_at-definitions_alone new = placed_at-definitions new no_members refl

pub placed_at-components_alone : (new : Members)
    → placed_at (codes "/components/schemas") new (object no_members)
    ≡ Some (object (member (codes "components") (object (member (codes "schemas") (object new) no_members)) no_members))
placed_at-components_alone new = placed_at-components new no_members refl

-- what the pointers lead to
pub pointer-defs : (ms : Members) (d : Data) → get_member (codes "$defs") ms ≡ Some d → pointer (codes "/$defs") (object ms) ≡ Some d
unfolding serde_json_on_literals
pointer-defs ms d is = is

pub pointer-definitions : (ms : Members) (d : Data) → get_member (codes "definitions") ms ≡ Some d
    → pointer (codes "/definitions") (object ms) ≡ Some d
unfolding serde_json_on_literals
pointer-definitions ms d is = is

pub pointer-components : (ms parts : Members) (d : Data) → get_member (codes "components") ms ≡ Some (object parts)
    → get_member (codes "schemas") parts ≡ Some d → pointer (codes "/components/schemas") (object ms) ≡ Some d
unfolding serde_json_on_literals
pointer-components ms parts d outer inner = rw outer inner

-- a pointer that is in a reference as it is
pub record IsPlain (p : Text) : Type 0 where
  pub ascii : are_ascii p ≡ true
  pub no_escape : has_escape p ≡ false

pub plain-defs : IsPlain (codes "/$defs")
plain-defs = record { ascii = refl; no_escape = refl }

pub plain-definitions : IsPlain (codes "/definitions")
plain-definitions = record { ascii = refl; no_escape = refl }

pub plain-components : IsPlain (codes "/components/schemas")
plain-components = record { ascii = refl; no_escape = refl }

-- ---- where references to definitions lead

pub lookup-of_pointer : (p : Text) (document : Data) → IsPlain p → lookup (35 ∷ p) document ≡ pointer p document
lookup-of_pointer p document plain = lookup-ascii p document plain.ascii plain.no_escape

pub lookup-place : (p : Text) (document : Data) (new : Members) → IsPlain p → pointer p document ≡ Some (object new)
    → lookup (35 ∷ p) document ≡ Some (object new)
lookup-place p document new plain is = lookup-of_pointer p document plain ∙ is

pub count-place : (p : Text) (document : Data) (new : Members) → pointer p document ≡ Some (object new)
    → count_of_definitions p document ≡ members_len new
count-place p document new is = rw (is, count_of_definitions) refl

pub lookup-definition : (p name : Text) (document : Data) (new : Members) → IsPlain p → pointer p document ≡ Some (object new)
    → IsUtf8 name → lookup (35 ∷ p ++ 47 ∷ encoded name) document ≡ get_member name new
lookup-definition p name document new plain is text = lookup-encoded (35 ∷ p) name document new text (lookup-place p document new plain is)

pub schema_only-schema : (d : Data) → IsSchema d → schema_only d ≡ Some d
schema_only-schema (boolean b) is = refl
schema_only-schema (object ms) is = refl
schema_only-schema _ is = absurd is

pub resolved-definition : (p name : Text) (document d : Data) (new : Members) → IsPlain p → pointer p document ≡ Some (object new)
    → IsUtf8 name → get_member name new ≡ Some d → IsSchema d
    → resolved document (35 ∷ p ++ 47 ∷ encoded name) ≡ Some d
unfolding resolved
resolved-definition p name document d new plain is text found schema =
    rw (lookup-definition p name document new plain is text, found) (schema_only-schema d schema)

pub lookup-whole : (document : Data) → lookup (codes "#") document ≡ Some document
lookup-whole document = lookup-ascii [] document refl refl

pub resolved-whole : (ms : Members) → resolved (object ms) (codes "#") ≡ Some (object ms)
unfolding resolved
resolved-whole ms = rw (lookup-whole (object ms)) refl
