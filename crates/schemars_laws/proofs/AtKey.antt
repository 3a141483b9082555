-- Definitions at one key, such as `$defs`.
use Rattle.std.proofs.Common.{◌≡◌, ◌⊎◌, inl, inr, Option, Some, None, Bool, true, false, option_map, refl, sym, ap, ◌∙◌, subst}
use Rattle.schemars_laws.proofs.Words.{option_and_then, if◌then◌else◌, Data, null, boolean, number, string, array, object, Members, get_member, Text, lookup, is_schema, NoSchemas, SchemasByName, place_under, schema_only, Dialect, judge, accepts, resolved-whole, Rules, form_at, in_names, in_keywords, rewritten, keywords_get, demanded, Everywhere, IsNameOf, IsName, Named, IsMap, MovesAcceptance, resolved, forms, asked}
use Rattle.schemars_laws.proofs.Kept.{IsTruth}
use Rattle.schemars_laws.proofs.Preserved.{asked-get}
use Rattle.schemars_laws.proofs.Moved.{Moves, IsLed, Leads, schema-moved}
use Rattle.schemars_laws.proofs.Paths.{names_get, schema-kept, all-members}

module _ {R : Type 0} (ρ : Rules R) (r : R) (key : Text) (at : place_under key ≡ SchemasByName) (old new : Dialect) (Q : Members → Type 0)
    (h : Moves ρ key old new Q) (ms : Members) (map : IsMap (get_member key ms)) (a : Everywhere (Named old key Q) (object ms)) where
  abbrev P : Members → Type 0
  P = Named old key Q

  abbrev inner : R
  inner = ρ.inside r (object ms)

  abbrev news : Members
  news = (h.definitions (ρ.inside r (object ms)) (in_keywords ρ (ρ.inside r (object ms)) ms)).0

  is-new : rewritten ρ r (object ms) ≡ object news
  unfolding forms
  is-new = (h.definitions (ρ.inside r (object ms)) (in_keywords ρ (ρ.inside r (object ms)) ms)).1

  placed : (es : Members) → form_at (ρ.place inner key (object es)) (object es) (forms ρ inner (object es)) ≡ object (in_names ρ inner es)
  unfolding forms
  placed es = go (h.rewrites.place inner key (object es))
    where
      go : (ρ.place inner key (object es) ≡ place_under key) ⊎ ((ρ.place inner key (object es) ≡ NoSchemas) × IsTruth (object es))
          → form_at (ρ.place inner key (object es)) (object es) (forms ρ inner (object es)) ≡ object (in_names ρ inner es)
      go (inl e) = ap (λ p. form_at p (object es) (forms ρ inner (object es))) (e ∙ at)
      go (inr e) = absurd e.1

  -- what stands under the key in the new document
  now : (o : Option Data) → get_member key ms ≡ o
      → get_member key news ≡ option_map (λ d. form_at (ρ.place inner key d) d (forms ρ inner d)) o
  now o is = (h.definitions (ρ.inside r (object ms)) (in_keywords ρ (ρ.inside r (object ms)) ms)).2
      ∙ (keywords_get ρ inner key ms ∙ ap (option_map (λ d. form_at (ρ.place inner key d) d (forms ρ inner d))) is)

  led : (o : Option Data) → ((d : Data) → o ≡ Some d → Everywhere P d)
      → IsLed ρ P (option_and_then schema_only o) (option_and_then schema_only (option_map (λ d. (forms ρ inner d).as_schema) o))
  led None each = tt
  led (Some d) each =
      subst (λ b. IsLed ρ P (if is_schema d then Some d else None) (if b then Some (forms ρ inner d).as_schema else None))
      (sym (schema-kept ρ inner d h.rewrites.schema)) (go (is_schema d))
    where
      go : (b : Bool) → IsLed ρ P (if b then Some d else None) (if b then Some (forms ρ inner d).as_schema else None)
      go true = (each d refl, (inner, λ c. refl))
      go false = tt

  by_lookup : (t : Text) (o p : Option Data) → lookup t (object ms) ≡ o → lookup t (object news) ≡ p
      → IsLed ρ P (option_and_then schema_only o) (option_and_then schema_only p)
      → IsLed ρ P (resolved (object ms) t) (resolved (object news) t)
  unfolding resolved
  by_lookup t o p old_at new_at is =
      subst (λ x. IsLed ρ P (option_and_then schema_only x) (resolved (object news) t)) (sym old_at)
      (subst (λ x. IsLed ρ P (option_and_then schema_only o) (option_and_then schema_only x)) (sym new_at) is)

  name-leads : (k t : Text) → IsNameOf key k t → (o : Option Data) → get_member key ms ≡ o → IsMap o
      → IsLed ρ P (resolved (object ms) t) (resolved (object news) t)
  unfolding asked
  name-leads k t name None there is = by_lookup t None None (name.missing ms there) (name.missing news (now None there)) tt
  name-leads k t name (Some (object es)) there is =
      by_lookup t (get_member k es) (option_map (λ d. (forms ρ inner d).as_schema) (get_member k es)) (name.there ms es there)
      (name.there news (in_names ρ inner es) (now (Some (object es)) there ∙ ap Some (placed es)) ∙ names_get ρ inner k es)
      (led (get_member k es)
      (all-members P es (subst (λ p. demanded p (asked P (object es))) at (asked-get P key ms (object es) there a.1)) k))
  name-leads k t name (Some null) there is = absurd is
  name-leads k t name (Some (boolean b)) there is = absurd is
  name-leads k t name (Some (number x)) there is = absurd is
  name-leads k t name (Some (string s)) there is = absurd is
  name-leads k t name (Some (array ds)) there is = absurd is

  key-leads : Leads ρ old (IsName key) Q (object ms) (object news)
  key-leads t (inl is) =
      subst (λ o. IsLed ρ P o (resolved (object news) t)) (sym (ap (resolved (object ms)) is ∙ resolved-whole ms))
      (subst (λ o. IsLed ρ P (Some (object ms)) o) (sym (ap (resolved (object news)) is ∙ resolved-whole news))
      (a, (r, λ c. ap (judge c) (sym is-new))))
  key-leads t (inr (k, name)) = name-leads k t name (get_member key ms) refl map

-- so the definitions may stand at one key
pub at-key : {R : Type 0} (ρ : Rules R) (r : R) (old new : Dialect) (key : Text) (Q : Members → Type 0) → place_under key ≡ SchemasByName
    → Moves ρ key old new Q → MovesAcceptance (rewritten ρ r) old new key Q
at-key ρ r old new key Q at h ms map a patterns n part v is =
    subst (λ d. accepts new d patterns n (rewritten ρ r part) v ≡ accepts old (object ms) patterns n part v)
    (sym (is-new ρ r key at old new Q h ms map a))
    (schema-moved ρ (IsName key) old new Q h.rewrites (object ms)
    (object (h.definitions (ρ.inside r (object ms)) (in_keywords ρ (ρ.inside r (object ms)) ms)).0)
    (key-leads ρ r key at old new Q h ms map a) patterns n r part v is)
