-- Where references lead in documents whose definitions stand at a path, and laws for those under components.
use Rattle.std.proofs.Common.{◌≡◌, inl, inr, Option, Some, None, Bool, true, false, Ordering, Less, Equal, Greater, nat_cmp, codes, option_map, refl, sym, ap, ◌∙◌, subst}
use Rattle.schemars_laws.proofs.Words.{option_and_then, if◌then◌else◌, slice_cmp, match_ordering, Data, boolean, object, Members, no_members, member, put, get_member, pointer, get_member-put, Text, lookup, IsSchema, is_schema, members_in, schema_only, Dialect, judge, judge-put, IsPlain, plain-components, pointer-components, lookup-definition, resolved-whole, Rules, in_keywords, rewritten, Everywhere, NamedBy, IsDefinitionAt, IsNameAt, EachEverywhere, each_changed, components, MovesComponents, resolved, forms, in_names, asked_of_members}
use Rattle.schemars_laws.proofs.Moved.{Rewrites, SaysAs, IsLed, Leads, schema-moved}

-- ---- schemas by name

pub names_get : {R : Type 0} (ρ : Rules R) (r : R) (k : Text) (ms : Members)
    → get_member k (in_names ρ r ms) ≡ option_map (λ d. (forms ρ r d).as_schema) (get_member k ms)
unfolding in_names
names_get ρ r k no_members = refl
names_get ρ r k (member l d ms) = rw (names_get ρ r k ms) (go (slice_cmp nat_cmp k l) (get_member k ms))
  where
    go : (o : Ordering) (found : Option Data)
        → match_ordering o (option_map (λ d. (forms ρ r d).as_schema) found) (Some (forms ρ r d).as_schema)
        (option_map (λ d. (forms ρ r d).as_schema) found)
        ≡ option_map (λ d. (forms ρ r d).as_schema) (match_ordering o found (Some d) found)
    go Less found = refl
    go Equal found = refl
    go Greater found = refl

pub is-schema : (s : Data) → IsSchema s → is_schema s ≡ true
is-schema (boolean b) is = refl
is-schema (object ms) is = refl
is-schema _ is = absurd is

pub schema-kept : {R : Type 0} (ρ : Rules R) (r : R) (d : Data) → ((r : R) (s : Data) → IsSchema s → IsSchema (ρ.finish r s))
    → is_schema (forms ρ r d).as_schema ≡ is_schema d
unfolding forms
schema-kept ρ r (boolean b) h = is-schema _ (h (ρ.inside r (boolean b)) (boolean b) tt)
schema-kept ρ r (object ms) h = is-schema _ (h (ρ.inside r (object ms)) (object (in_keywords ρ (ρ.inside r (object ms)) ms)) tt)
schema-kept ρ r _ h = refl

pub each-names : {R : Type 0} (ρ : Rules R) (r : R) (es : Members) → in_names ρ r es ≡ each_changed (rewritten ρ r) es
unfolding in_names
each-names ρ r no_members = refl
each-names ρ r (member k d es) = ap (member k (rewritten ρ r d)) (each-names ρ r es)

-- each of them that is found
pub all-members : (P : Members → Type 0) (es : Members) → asked_of_members P es → EachEverywhere P es
unfolding asked_of_members
all-members P no_members a k d is = cc
all-members P (member l e es) a k d is = go (slice_cmp nat_cmp k l) is (all-members P es a.1 k d)
  where
    some : {x y : Data} → Some x ≡ Some y → x ≡ y
    some e = cc

    go : (o : Ordering) → match_ordering o (get_member k es) (Some e) (get_member k es) ≡ Some d
        → (get_member k es ≡ Some d → Everywhere P d) → Everywhere P d
    go Less is later = later is
    go Equal is later = subst (Everywhere P) (some is) a.0
    go Greater is later = later is

-- ---- where names lead

-- in both documents the definitions stand at the path, in the new one rewritten
pub record Stand {R : Type 0} (ρ : Rules R) (r : R) (path : Text) (P : Members → Type 0) (old new : Data) : Type 0 where
  pub entries : Members
  pub before : pointer path old ≡ Some (object entries)
  pub after : pointer path new ≡ Some (object (in_names ρ r entries))
  pub each : EachEverywhere P entries

module _ {R : Type 0} (ρ : Rules R) (r : R) (path : Text) (plain : IsPlain path) (P : Members → Type 0) (old new : Data)
    (schema : (r : R) (s : Data) → IsSchema s → IsSchema (ρ.finish r s)) (stand : Stand ρ r path P old new) where
  led : (o : Option Data) → ((d : Data) → o ≡ Some d → Everywhere P d)
      → IsLed ρ P (option_and_then schema_only o) (option_and_then schema_only (option_map (λ d. (forms ρ r d).as_schema) o))
  led None each = tt
  led (Some d) each =
      subst (λ b. IsLed ρ P (if is_schema d then Some d else None) (if b then Some (forms ρ r d).as_schema else None))
      (sym (schema-kept ρ r d schema)) (go (is_schema d))
    where
      go : (b : Bool) → IsLed ρ P (if b then Some d else None) (if b then Some (forms ρ r d).as_schema else None)
      go true = (each d refl, (r, λ c. refl))
      go false = tt

  -- a reference to a definition at the path
  pub definition-leads : (t : Text) → IsDefinitionAt path t → IsLed ρ P (resolved old t) (resolved new t)
  unfolding resolved
  definition-leads t (k, text, is) =
      let old_at : lookup t old ≡ get_member k stand.entries =
      ap (λ x. lookup x old) is ∙ lookup-definition path k old stand.entries plain stand.before text in
      let new_at : lookup t new ≡ option_map (λ d. (forms ρ r d).as_schema) (get_member k stand.entries) =
      ap (λ x. lookup x new) is ∙ (lookup-definition path k new (in_names ρ r stand.entries) plain stand.after text
      ∙ names_get ρ r k stand.entries) in
      subst (λ o. IsLed ρ P (option_and_then schema_only o) (resolved new t)) (sym old_at)
      (subst (λ o. IsLed ρ P (option_and_then schema_only (get_member k stand.entries)) (option_and_then schema_only o))
      (sym new_at)
      (led (get_member k stand.entries) (stand.each k)))

-- so do all names, where the new document says what the old one says, rewritten
pub names-lead : {R : Type 0} (ρ : Rules R) (r : R) (path : Text) → IsPlain path → (d : Dialect) (Q : Members → Type 0) (ms ns : Members)
    → ((r : R) (s : Data) → IsSchema s → IsSchema (ρ.finish r s)) → Stand ρ r path (NamedBy d (IsNameAt path) Q) (object ms) (object ns)
    → Everywhere (NamedBy d (IsNameAt path) Q) (object ms) → SaysAs (object ns) (rewritten ρ r (object ms))
    → Leads ρ d (IsNameAt path) Q (object ms) (object ns)
names-lead ρ r path plain d Q ms ns schema stand whole says t (inl is) =
    let P : Members → Type 0 = NamedBy d (IsNameAt path) Q in
    subst (λ o. IsLed ρ P o (resolved (object ns) t)) (sym (ap (resolved (object ms)) is ∙ resolved-whole ms))
    (subst (λ o. IsLed ρ P (Some (object ms)) o) (sym (ap (resolved (object ns)) is ∙ resolved-whole ns)) (whole, (r, says)))
names-lead ρ r path plain d Q ms ns schema stand whole says t (inr is) =
    definition-leads ρ r path plain (NamedBy d (IsNameAt path) Q) (object ms) (object ns) schema stand t is

-- ---- the laws at /components/schemas

pub moves-components : {R : Type 0} (ρ : Rules R) (r : R) (old new : Dialect) (Q : Members → Type 0) → Rewrites ρ old new Q
    → ((ms : Members) → (ns : Members) × (rewritten ρ r (object ms) ≡ object ns)) → MovesComponents (rewritten ρ r) old new Q
moves-components ρ r old new Q h whole ms parts es at inside all each patterns n part v part_is =
    schema-moved ρ (IsNameAt components) old new Q h (object ms) (object ns)
    (names-lead ρ r components plain-components old Q ms ns h.schema (record {
      entries = es;
      before = pointer-components ms parts (object es) at inside;
      after = pointer-components ns now (object (in_names ρ r es))
          (get_member-put (codes "components") (object now) (members_in (rewritten ρ r (object ms))))
          (get_member-put (codes "schemas") (object (each_changed (rewritten ρ r) es)) parts
          ∙ ap (λ x. Some (object x)) (sym (each-names ρ r es)));
      each = each;
    }) all says) patterns n r part v part_is
  where
    now : Members
    now = put (codes "schemas") (object (each_changed (rewritten ρ r) es)) parts

    ns : Members
    ns = put (codes "components") (object now) (members_in (rewritten ρ r (object ms)))

    says : SaysAs (object ns) (rewritten ρ r (object ms))
    says c =
        judge-put c (codes "components") (object now) (members_in (rewritten ρ r (object ms))) refl
        ∙ subst (λ d. judge c (object (members_in d)) ≡ judge c d) (sym (whole ms).1) refl
