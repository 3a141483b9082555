-- The kinds of schema objects that laws speak of are kept by a walk, and by changes of other keywords.
use Rattle.std.proofs.Common.{◌≡◌, ◌≢◌, List, [], ◌∷◌, None, Some, Bool, true, false, codes, refl, sym, ap, ◌∙◌, subst, true≢false}
use Rattle.schemars_laws.proofs.Words.{bytes_eq-Decides, or-true, bytes_eq, ◌||◌, if◌then◌else◌, option_and_then, Data, Members, no_members, member, get_member, as_str, Text, is_listed, IsSchema, without, NoSchemas, place_under, Dialect, reads_dependencies, differ, get_member-member, unequal, Rules, in_keywords, IsNamedBy, HasNameOf, IsNoObject, HasNoObjects, HasPlainUnevaluated, HasNone, of_draft06, of_draft2019_09, IsConstAlone, IsText, IsSchemaList, IsNoList, HasPlainItems, HasPlainReference, HasNoUnevaluated}
use Rattle.schemars_laws.proofs.Walking.{without-walked, raw-walked as raw-walked_by}
use Rattle.schemars_laws.proofs.Looked.{without-other, walked, raw-walked, once-walked, list-walked}

-- ---- keywords that a walk does not lead to: they are not there, or not read

-- one of these keywords
pub none-at : (ks : List Text) (k : Text) (ms : Members) → is_listed k ks ≡ true → HasNone ks ms → get_member k ms ≡ None
none-at [] k ms there none = absurd (true≢false (sym there))
none-at (l ∷ ls) k ms there none = go (bytes_eq k l) refl there (λ later. none-at ls k ms later none.1)
  where
    go : (b : Bool) → bytes_eq k l ≡ b → b || is_listed k ls ≡ true → (is_listed k ls ≡ true → get_member k ms ≡ None)
        → get_member k ms ≡ None
    go true same there later = ap (λ x. get_member x ms) ((bytes_eq-Decides k l).0 same) ∙ none.0
    go false same there later = later there

pub all-none : (ks : List Text) (ms : Members) → ((k : Text) → is_listed k ks ≡ true → get_member k ms ≡ None) → HasNone ks ms
all-none [] ms none = tt
all-none (k ∷ ks) ms none = (
  none k (ap (λ b. b || is_listed k ks) ((bytes_eq-Decides k k).1 refl)),
  all-none ks ms (λ l there. none l (ap (λ b. bytes_eq l k || b) there ∙ or-true (bytes_eq l k))),
)

pub none-plain : (d : Dialect) (ms : Members) → HasNoUnevaluated ms → HasPlainUnevaluated d ms
none-plain d ms none = (
  λ reads. (
    subst IsNoObject (sym none.1) tt,
    subst IsNoObject (sym (gone (codes "unevaluatedItems") refl)) tt,
    subst HasNoObjects (sym (gone (codes "dependentSchemas") refl)) tt,
  ),
  λ reads. subst HasNoObjects (sym (gone (codes "dependencies") refl)) tt,
)
  where
    gone : (k : Text) → is_listed k of_draft2019_09 ≡ true → get_member k ms ≡ None
    gone k there = none-at of_draft2019_09 k ms there none.2

pub unread-plain : (d : Dialect) (ms : Members) → d.reads_unevaluated ≡ false → HasNoObjects (get_member (codes "dependencies") ms)
    → HasPlainUnevaluated d ms
unread-plain d ms unread plain = (λ reads. absurd (true≢false (sym reads ∙ unread)), λ reads. plain)

pub const-plain : (d : Dialect) (ms : Members) → d.reads_unevaluated ≡ false → IsConstAlone ms → HasPlainUnevaluated d ms
const-plain d ms unread alone =
    unread-plain d ms unread (subst HasNoObjects (sym (none-at of_draft06 (codes "dependencies") ms refl alone.2)) tt)

pub neither-plain : (d : Dialect) (ms : Members) → d.reads_unevaluated ≡ false → reads_dependencies d ≡ false → HasPlainUnevaluated d ms
neither-plain d ms unread none = (λ reads. absurd (true≢false (sym reads ∙ unread)), λ reads. absurd (true≢false (sym reads ∙ none)))

-- ---- by a walk

pub named-walked : (f : Data → Data) (N : Text → Type 0) (ms : Members) → HasNameOf N ms → HasNameOf N (walked f ms)
named-walked f N ms is = subst (λ o. IsNamedBy N (option_and_then as_str o)) (sym (raw-walked f (codes "$ref") ms refl)) is

module _ (f : Data → Data) (schema : (s : Data) → IsSchema s → IsSchema (f s)) where
  pub reference-walked : (ms : Members) → HasPlainReference ms → HasPlainReference (walked f ms)
  reference-walked ms plain = (
    once-walked f (codes "$ref") ms plain.0,
    subst IsText (sym (raw-walked f (codes "$ref") ms refl)) plain.1,
    list-walked f schema (codes "allOf") ms refl plain.2,
  )

-- ---- by look-ups

-- the members at k, and those behind the first of them, are the same
pub record Alike (k : Text) (ns ms : Members) : Type 0 where
  pub first : get_member k ns ≡ get_member k ms
  pub others : get_member k (without k ns) ≡ get_member k (without k ms)

pub name-alike : (N : Text → Type 0) (ns ms : Members) → Alike (codes "$ref") ns ms → HasNameOf N ms → HasNameOf N ns
name-alike N ns ms a is = subst (λ o. IsNamedBy N (option_and_then as_str o)) (sym a.first) is

pub reference-alike : (ns ms : Members) → Alike (codes "$ref") ns ms → Alike (codes "allOf") ns ms → HasPlainReference ms
    → HasPlainReference ns
reference-alike ns ms a b plain = (a.others ∙ plain.0, subst IsText (sym a.first) plain.1, subst IsSchemaList (sym b.first) plain.2)

pub items-alike : (ns ms : Members) → Alike (codes "prefixItems") ns ms → Alike (codes "items") ns ms
    → Alike (codes "additionalItems") ns ms → Alike (codes "contains") ns ms
    → HasPlainItems ms → HasPlainItems ns
items-alike ns ms a b c d plain = (
  a.others ∙ plain.0,
  subst IsSchemaList (sym a.first) plain.1,
  subst IsNoList (sym b.first) plain.2,
  c.first ∙ plain.3,
  d.first ∙ plain.4,
)

pub without-swap : (k l : Text) (ms : Members) → k ≢ l → get_member k (without k (without l ms)) ≡ get_member k (without k ms)
without-swap k l no_members apart = refl
without-swap k l (member j d ms) apart = go (bytes_eq l j) refl (bytes_eq k j) refl (without-swap k l ms apart)
  where
    go : (b : Bool) → bytes_eq l j ≡ b → (a : Bool) → bytes_eq k j ≡ a
        → get_member k (without k (without l ms)) ≡ get_member k (without k ms)
        → get_member k (without k (if b then ms else member j d (without l ms)))
        ≡ get_member k (if a then ms else member j d (without k ms))
    go true at_l a at_k rest =
        let other : bytes_eq k j ≡ false = unequal k j (λ same. apart (same ∙ sym ((bytes_eq-Decides l j).0 at_l))) in
        sym (ap (λ b. get_member k (if b then ms else member j d (without k ms))) (sym at_k ∙ other)
        ∙ (get_member-member k j d (without k ms) ∙ ap (λ b. if b then Some d else get_member k (without k ms)) other))
    go false at_l true at_k rest =
        ap (λ b. get_member k (if b then without l ms else member j d (without k (without l ms)))) at_k ∙ without-other l k ms apart
    go false at_l false at_k rest =
        ap (λ b. get_member k (if b then without l ms else member j d (without k (without l ms)))) at_k
        ∙ (get_member-member k j d (without k (without l ms))
        ∙ (ap (λ o. if bytes_eq k j then Some d else o) rest ∙ sym (get_member-member k j d (without k ms))))

-- a key that is listed is no other
pub unlisted : (k l : Text) (ks : List Text) → is_listed k ks ≡ true → is_listed l ks ≡ false → bytes_eq k l ≡ false
unlisted k l ks there out = unequal k l (λ same. true≢false (sym there ∙ (ap (λ x. is_listed x ks) same ∙ out)))

-- none of these keywords is there, where look-ups of them agree
pub none-alike : (ks : List Text) (ns ms : Members) → ((k : Text) → is_listed k ks ≡ true → get_member k ns ≡ get_member k ms)
    → HasNone ks ms → HasNone ks ns
none-alike ks ns ms agree none = all-none ks ns (λ k there. agree k there ∙ none-at ks k ms there none)

-- keywords without schemas that a walk goes down under
pub alike-walked : {R : Type 0} (ρ : Rules R) (Enters : Text → Type 0)
    → ((r : R) (k : Text) (d : Data) → Enters k → ρ.place r k d ≡ place_under k)
    → (r : R) (k : Text) (ms : Members) → Enters k → place_under k ≡ NoSchemas → Alike k (in_keywords ρ r ms) ms
alike-walked ρ Enters place r k ms enters none = record {
  first = raw-walked_by ρ Enters place r k ms enters none;
  others = ap (get_member k) (without-walked ρ Enters place r k ms) ∙ raw-walked_by ρ Enters place r k (without k ms) enters none;
}

pub alike-without : (k l : Text) (ms : Members) → bytes_eq k l ≡ false → Alike k (without l ms) ms
alike-without k l ms is = record { first = without-other l k ms (differ k l is); others = without-swap k l ms (differ k l is) }
