-- The references of root documents pass a test after the transforms of the older drafts, such as that they resolve.
use Rattle.std.proofs.Common.{◌≡◌, List, [], ◌∷◌, ◌++◌, Some, None, Bool, true, false, codes, refl, sym, ap, ◌∙◌, subst, true≢false}
use Rattle.schemars_headline.proofs.Words.{bytes_eq, if◌then◌else◌, bytes_eq-Decides, Data, string, array, object, Items, no_items, item, Members, no_members, member, get_member, Text, without, Place, NoSchemas, OneSchema, SchemaList, SchemaOrList, SchemasByName, place_under, references, resolves, all_resolve, Everywhere, demanded, asked_of_items, asked_of_members, asked_of_keywords, IsTextWith, at_place, found_in, found_in_items, found_in_members, found_in_keywords, asked, and_parts}
use Rattle.schemars_text.proofs.Members.{get_member-member as get_member-first}
use Rattle.schemars_headline.proofs.Resolving.{all_pass, all_pass-resolve}
use Rattle.schemars_headline.proofs.ReferencesKept.{RefersOnce}

-- ---- each reference, where those that are there once are as R says

module _ (R : Text → Type 0) (test : Data → Bool) (leads : (t : Text) → R t → test (string t) ≡ true) where
  abbrev Resolve : List Data → Type 0
  Resolve xs = all_pass test xs ≡ true

  resolve-append : (xs ys : List Data) → Resolve xs → Resolve ys → Resolve (xs ++ ys)
  resolve-append [] ys h g = g
  resolve-append (x ∷ xs) ys h g =
      let parts = and_parts (test x) (all_pass test xs) h in rw (parts.0, resolve-append xs ys parts.1 g) refl

  abbrev P : Members → Type 0
  P = RefersOnce R

  -- each member at `$ref`
  abbrev EachRefers : Members → Type 0
  EachRefers no_members = Unit {0}
  EachRefers (member k d ms) = (bytes_eq k (codes "$ref") ≡ true → IsTextWith R (Some d)) × EachRefers ms

  none-refers : (ms : Members) → get_member (codes "$ref") ms ≡ None → EachRefers ms
  none-refers no_members none = tt
  none-refers (member k d ms) none = (λ at. absurd (never at), none-refers ms (later (bytes_eq (codes "$ref") k) first))
    where
      first : (if bytes_eq (codes "$ref") k then Some d else get_member (codes "$ref") ms) ≡ None
      first = sym (get_member-first (codes "$ref") k d ms) ∙ none

      later : (b : Bool) → (if b then Some d else get_member (codes "$ref") ms) ≡ None → get_member (codes "$ref") ms ≡ None
      later true is = cc
      later false is = is

      never : bytes_eq k (codes "$ref") ≡ true → ⊥
      never at =
          let same : bytes_eq (codes "$ref") k ≡ true =
          (bytes_eq-Decides (codes "$ref") k).1 (sym ((bytes_eq-Decides k (codes "$ref")).0 at)) in
          let some : Some d ≡ None = sym (ap (λ b. if b then Some d else get_member (codes "$ref") ms) same) ∙ first in cc

  each-refers : (ms : Members) → P ms → EachRefers ms
  each-refers no_members is = tt
  each-refers (member k d ms) is = go (bytes_eq (codes "$ref") k) refl (each-refers ms)
    where
      found : (b : Bool) → bytes_eq (codes "$ref") k ≡ b
          → get_member (codes "$ref") (member k d ms) ≡ (if b then Some d else get_member (codes "$ref") ms)
      found b at = get_member-first (codes "$ref") k d ms ∙ ap (λ x. if x then Some d else get_member (codes "$ref") ms) at

      others : (b : Bool) → bytes_eq (codes "$ref") k ≡ b
          → get_member (codes "$ref") (if b then ms else member k d (without (codes "$ref") ms)) ≡ None
      others b at = sym (ap (λ x. get_member (codes "$ref") (if x then ms else member k d (without (codes "$ref") ms))) at) ∙ is.1

      go : (b : Bool) → bytes_eq (codes "$ref") k ≡ b → (P ms → EachRefers ms) → EachRefers (member k d ms)
      go true at later = (λ same. subst (IsTextWith R) (found true at) is.0, none-refers ms (others true at))
      go false at later = (
        λ same. absurd (true≢false
            (sym ((bytes_eq-Decides (codes "$ref") k).1 (sym ((bytes_eq-Decides k (codes "$ref")).0 same))) ∙ at)),
        later (
          subst (IsTextWith R) (found false at) is.0,
          sym (get_member-first (codes "$ref") k d (without (codes "$ref") ms)
              ∙ ap (λ x. if x then Some d else get_member (codes "$ref") (without (codes "$ref") ms)) at) ∙ others false at,
        ),
      )

  referring-leads : (d : Data) → IsTextWith R (Some d) → test d ≡ true
  referring-leads (string t) is = leads t is
  referring-leads _ is = absurd is

  at : (p : Place) (d : Data) → ((asked P d).as_schema → Resolve (references d))
      → ((asked P d).as_list → Resolve (found_in d).in_list)
      → ((asked P d).by_name → Resolve (found_in d).by_name) → demanded p (asked P d) → Resolve (at_place p (found_in d))
  at NoSchemas d one list names a = refl
  at OneSchema d one list names a = one a
  at SchemaList d one list names a = list a
  at SchemaOrList d one list names a = resolve-append (references d) (found_in d).in_list (one a.0) (list a.1)
  at SchemasByName d one list names a = names a

  under : (k : Text) (d : Data) → (bytes_eq k (codes "$ref") ≡ true → IsTextWith R (Some d))
      → Resolve (at_place (place_under k) (found_in d))
      → Resolve (if bytes_eq k (codes "$ref") then d ∷ [] else at_place (place_under k) (found_in d))
  under k d here inside = go (bytes_eq k (codes "$ref")) here
    where
      go : (b : Bool) → (b ≡ true → IsTextWith R (Some d))
          → Resolve (if b then d ∷ [] else at_place (place_under k) (found_in d))
      go true here = rw (referring-leads d (here refl)) refl
      go false here = inside

  mutual
    unfolding asked found_in

    pub each-passes : (d : Data) → (asked P d).as_schema → Resolve (references d)
    each-passes (object ms) a = keywords-resolve ms (each-refers ms a.0) a.1
    each-passes _ a = refl

    list-resolves : (d : Data) → (asked P d).as_list → Resolve (found_in d).in_list
    list-resolves (array ds) a = items-resolve ds a
    list-resolves _ a = refl

    names-resolve : (d : Data) → (asked P d).by_name → Resolve (found_in d).by_name
    names-resolve (object ms) a = members-resolve ms a
    names-resolve _ a = refl

    items-resolve : (ds : Items) → asked_of_items P ds → Resolve (found_in_items ds)
    items-resolve no_items a = refl
    items-resolve (item d ds) a = resolve-append (references d) (found_in_items ds) (each-passes d a.0) (items-resolve ds a.1)

    members-resolve : (ms : Members) → asked_of_members P ms → Resolve (found_in_members ms)
    members-resolve no_members a = refl
    members-resolve (member k d ms) a = resolve-append (references d) (found_in_members ms) (each-passes d a.0)
        (members-resolve ms a.1)

    keywords-resolve : (ms : Members) → EachRefers ms → asked_of_keywords P ms → Resolve (found_in_keywords ms)
    keywords-resolve no_members each a = refl
    keywords-resolve (member k d ms) each a =
        resolve-append (if bytes_eq k (codes "$ref") then d ∷ [] else at_place (place_under k) (found_in d))
        (found_in_keywords ms)
        (under k d each.0 (at (place_under k) d (each-passes d) (list-resolves d) (names-resolve d) a.0))
        (keywords-resolve ms each.1 a.1)

-- they resolve, where those do of which R holds
pub each-resolves : (R : Text → Type 0) (document : Data) → ((t : Text) → R t → resolves document (string t) ≡ true) → (d : Data)
    → Everywhere (RefersOnce R) d → all_resolve document (references d) ≡ true
each-resolves R document leads d is =
    sym (all_pass-resolve document (references d)) ∙ each-passes R (resolves document) leads d is
