-- What holds of the references of schemas holds of those of an object that they are put into.
use Rattle.std.proofs.Common.{◌≡◌, List, [], ◌∷◌, ◌++◌, Bool, true, false, Option, Some, None, Ordering, Less, Equal, Greater, nat_cmp, refl, sym, subst}
use Rattle.schemars_meaning.proofs.Words.{All, ◌&&◌, codes, bytes_eq, is_some, if◌then◌else◌, match_ordering, slice_cmp, All-nil, All-cons, All-append, exact_bytes, bytes_eq-Decides, Data, boolean, string, array, object, no_items, Members, no_members, member, put, get_member, Text, members_in, replaced, with_member, with_first, found_in_members, found_in_keywords, references, found_under, unit_variant, with_property, has_null_type, internally_tagged_variant, All-head, All-tail, put_missing, changed_at, found_in}
use Rattle.schemars_builders.specs.Properties.{tagged}
use Rattle.schemars_meaning.proofs.ReferencesKept.{references-members_in}

module _ (P : Data → Type 0) where
  nothing : All P []
  nothing = All-nil P

  halves : (xs ys : List Data) → All P (xs ++ ys) → All P xs × All P ys
  halves [] ys h = (nothing, h)
  halves (x ∷ xs) ys h =
      let rest = halves xs ys (All-tail P x (xs ++ ys) h) in
      (All-cons P x xs (All-head P x (xs ++ ys) h) rest.0, rest.1)

  -- ---- keywords

  pub refers-put : (k : Text) (d : Data) (ms : Members) → All P (found_under k d) → All P (found_in_keywords ms)
      → All P (found_in_keywords (put k d ms))
  unfolding found_in
  refers-put k d no_members here all = All-append P (found_under k d) [] here nothing
  refers-put k d (member l e ms) here all = go (slice_cmp nat_cmp k l) refl (refers-put k d ms here parts.1)
    where
      parts : All P (found_under l e) × All P (found_in_keywords ms)
      parts = halves (found_under l e) (found_in_keywords ms) all

      go : (o : Ordering) → slice_cmp nat_cmp k l ≡ o → All P (found_in_keywords (put k d ms))
          → All P (found_in_keywords (match_ordering o (member k d (member l e ms)) (member l d ms) (member l e (put k d ms))))
      go Less is later = All-append P (found_under k d) (found_in_keywords (member l e ms)) here all
      go Equal is later =
          let Q : Text → Type 0 = λ x. All P (found_under x d) in
          All-append P (found_under l d) (found_in_keywords ms) (subst Q (exact_bytes k l is) here) parts.1
      go Greater is later = All-append P (found_under l e) (found_in_keywords (put k d ms)) parts.0 later

  refers-replaced : (k : Text) (d : Data) (ms : Members) → All P (found_under k d) → All P (found_in_keywords ms)
      → All P (found_in_keywords (replaced k d ms))
  unfolding found_in
  refers-replaced k d no_members here all = nothing
  refers-replaced k d (member l e ms) here all = go (bytes_eq k l) refl (refers-replaced k d ms here parts.1)
    where
      parts : All P (found_under l e) × All P (found_in_keywords ms)
      parts = halves (found_under l e) (found_in_keywords ms) all

      go : (b : Bool) → bytes_eq k l ≡ b → All P (found_in_keywords (replaced k d ms))
          → All P (found_in_keywords (if b then member l d ms else member l e (replaced k d ms)))
      go true is later =
          let Q : Text → Type 0 = λ x. All P (found_under x d) in
          All-append P (found_under l d) (found_in_keywords ms) (subst Q ((bytes_eq-Decides k l).0 is) here) parts.1
      go false is later = All-append P (found_under l e) (found_in_keywords (replaced k d ms)) parts.0 later

  refers-at : (k : Text) (ms : Members) (d : Data) → All P (found_in_keywords ms) → get_member k ms ≡ Some d → All P (found_under k d)
  unfolding found_in
  refers-at k no_members d all is = cc
  refers-at k (member l e ms) d all is = go (slice_cmp nat_cmp k l) refl is (refers-at k ms d parts.1)
    where
      parts : All P (found_under l e) × All P (found_in_keywords ms)
      parts = halves (found_under l e) (found_in_keywords ms) all

      go : (o : Ordering) → slice_cmp nat_cmp k l ≡ o → match_ordering o (get_member k ms) (Some e) (get_member k ms) ≡ Some d
          → (get_member k ms ≡ Some d → All P (found_under k d)) → All P (found_under k d)
      go Less same is later = later is
      go Equal same is later =
          let value : e ≡ d = cc in
          let Q : Text → Type 0 = λ x. All P (found_under x e) in
          let R : Data → Type 0 = λ x. All P (found_under k x) in
          subst R value (subst Q (sym (exact_bytes k l same)) parts.0)
      go Greater same is later = later is

  refers-changed : (k : Text) (change : Data → Data) (d : Data) (ms : Members)
      → ((e : Data) → All P (found_under k e) → All P (found_under k (change e))) → All P (found_under k d)
      → All P (found_in_keywords ms) → All P (found_in_keywords (changed_at k change d ms))
  refers-changed k change d ms keeps none all = go (get_member k ms) refl
    where
      go : (o : Option Data) → get_member k ms ≡ o
          → All P (found_in_keywords (elim o [ None ↦ put k (change d) ms | Some e ↦ replaced k (change e) ms ]))
      go None is = refers-put k (change d) ms (keeps d none) all
      go (Some e) is = refers-replaced k (change e) ms (keeps e (refers-at k ms e all is)) all

  -- ---- schemas by name

  pub named-put : (k : Text) (d : Data) (ms : Members) → All P (references d) → All P (found_in_members ms)
      → All P (found_in_members (put k d ms))
  unfolding found_in
  named-put k d no_members here all = All-append P (references d) [] here nothing
  named-put k d (member l e ms) here all = go (slice_cmp nat_cmp k l) (named-put k d ms here parts.1)
    where
      parts : All P (references e) × All P (found_in_members ms)
      parts = halves (references e) (found_in_members ms) all

      go : (o : Ordering) → All P (found_in_members (put k d ms))
          → All P (found_in_members (match_ordering o (member k d (member l e ms)) (member l d ms) (member l e (put k d ms))))
      go Less later = All-append P (references d) (found_in_members (member l e ms)) here all
      go Equal later = All-append P (references d) (found_in_members ms) here parts.1
      go Greater later = All-append P (references e) (found_in_members (put k d ms)) parts.0 later

  -- ---- tags

  tag-keeps : (tag name : Text) (e : Data) → All P (found_under (codes "properties") e)
      → All P (found_under (codes "properties") (with_member tag (unit_variant name) e))
  unfolding found_in
  tag-keeps tag name (object ms) h = named-put tag (unit_variant name) ms nothing h
  tag-keeps tag name _ h = h

  tagged-keeps : (tag name : Text) (ms : Members) → All P (found_in_keywords ms) → All P (found_in_keywords (tagged tag name ms))
  unfolding found_in
  tagged-keeps tag name ms all =
      let typed = put (codes "type") (string (codes "object")) ms in
      let named = with_property tag (unit_variant name) typed in
      refers-changed (codes "required") (with_first (string tag)) (array no_items) named (λ e h. nothing) nothing
      (refers-changed (codes "properties") (with_member tag (unit_variant name)) (object no_members) typed (tag-keeps tag name) nothing
      (refers-put (codes "type") (string (codes "object")) ms nothing all))

  pub tagged-refers : (tag name : Text) (deny : Bool) (s : Data) → All P (references s)
      → All P (references (internally_tagged_variant tag name deny s))
  unfolding found_in
  tagged-refers tag name deny s h = closed (deny && has_null_type s)
    where
      ms : Members
      ms = tagged tag name (members_in s)

      all : All P (found_in_keywords ms)
      all = tagged-keeps tag name (members_in s) (subst (All P) (sym (references-members_in s)) h)

      missing : (b : Bool) → All P (found_in_keywords (if b then ms else put (codes "additionalProperties") (boolean false) ms))
      missing true = all
      missing false = refers-put (codes "additionalProperties") (boolean false) ms nothing all

      closed : (b : Bool) → All P (found_in_keywords (if b then put_missing (codes "additionalProperties") (boolean false) ms else ms))
      closed true = missing (is_some (get_member (codes "additionalProperties") ms))
      closed false = all
