-- What a walk leaves under the keywords that the laws ask about, by any rewrite that goes down under the keywords of which
-- Enters holds as references say.
use Rattle.std.proofs.Common.{◌≡◌, List, [], ◌∷◌, Option, Some, None, Bool, true, false, codes, option_map, refl, sym, ap, ◌∙◌, subst}
use Rattle.schemars_laws.proofs.Words.{bytes_eq, if◌then◌else◌, Data, null, boolean, number, string, array, object, Items, no_items, item, Members, no_members, member, get_member, Text, IsSchema, without, Place, NoSchemas, SchemaList, SchemaOrList, place_under, Rules, form_at, forms, in_items, in_keywords, keywords_get, IsOnce, HasNone, AreSchemas, IsSchemaList, IsNoList, HasPlainItems}

module _ {R : Type 0} (ρ : Rules R) (Enters : Text → Type 0)
    (place : (r : R) (k : Text) (d : Data) → Enters k → ρ.place r k d ≡ place_under k) where
  pub without-walked : (r : R) (k : Text) (ms : Members) → without k (in_keywords ρ r ms) ≡ in_keywords ρ r (without k ms)
  unfolding in_keywords
  without-walked r k no_members = refl
  without-walked r k (member l d ms) = go (bytes_eq k l) (without-walked r k ms)
    where
      go : (b : Bool) → without k (in_keywords ρ r ms) ≡ in_keywords ρ r (without k ms)
          → (if b then in_keywords ρ r ms else member l (form_at (ρ.place r l d) d (forms ρ r d)) (without k (in_keywords ρ r ms)))
          ≡ in_keywords ρ r (if b then ms else member l d (without k ms))
      go true e = refl
      go false e = ap (member l (form_at (ρ.place r l d) d (forms ρ r d))) e

  pub none-walked : (r : R) (k : Text) (ms : Members) → get_member k ms ≡ None → get_member k (in_keywords ρ r ms) ≡ None
  none-walked r k ms none = keywords_get ρ r k ms ∙ ap (option_map (λ d. form_at (ρ.place r k d) d (forms ρ r d))) none

  pub nones-walked : (r : R) (ks : List Text) (ms : Members) → HasNone ks ms → HasNone ks (in_keywords ρ r ms)
  nones-walked r [] ms none = tt
  nones-walked r (k ∷ ks) ms none = (none-walked r k ms none.0, nones-walked r ks ms none.1)

  pub once-walked : (r : R) (k : Text) (ms : Members) → IsOnce k ms → IsOnce k (in_keywords ρ r ms)
  once-walked r k ms once = ap (get_member k) (without-walked r k ms) ∙ none-walked r k (without k ms) once

  raw-at : (r : R) (k : Text) (o : Option Data) → Enters k → place_under k ≡ NoSchemas
      → option_map (λ d. form_at (ρ.place r k d) d (forms ρ r d)) o ≡ o
  raw-at r k None enters none = refl
  raw-at r k (Some d) enters none = ap (λ p. Some (form_at p d (forms ρ r d))) (place r k d enters ∙ none)

  pub raw-walked : (r : R) (k : Text) (ms : Members) → Enters k → place_under k ≡ NoSchemas
      → get_member k (in_keywords ρ r ms) ≡ get_member k ms
  raw-walked r k ms enters none = keywords_get ρ r k ms ∙ raw-at r k (get_member k ms) enters none

  at-place : (r : R) (k : Text) (o : Option Data) (p : Place) → Enters k → place_under k ≡ p
      → option_map (λ d. form_at (ρ.place r k d) d (forms ρ r d)) o ≡ option_map (λ d. form_at p d (forms ρ r d)) o
  at-place r k None p enters is = refl
  at-place r k (Some d) p enters is = ap (λ q. Some (form_at q d (forms ρ r d))) (place r k d enters ∙ is)

  -- ---- lists of schemas stay such

  module _ (schema : (r : R) (s : Data) → IsSchema s → IsSchema (ρ.finish r s)) where
    schema-walked : (r : R) (d : Data) → IsSchema d → IsSchema (forms ρ r d).as_schema
    unfolding forms
    schema-walked r (boolean b) is = schema (ρ.inside r (boolean b)) (boolean b) tt
    schema-walked r (object ms) is = schema (ρ.inside r (object ms)) (object (in_keywords ρ (ρ.inside r (object ms)) ms)) tt
    schema-walked r _ is = absurd is

    schemas-walked : (r : R) (ds : Items) → AreSchemas ds → AreSchemas (in_items ρ r ds)
    unfolding forms
    schemas-walked r no_items are = tt
    schemas-walked r (item d ds) are = (schema-walked r d are.0, schemas-walked r ds are.1)

    list-form : (r : R) (o : Option Data) → IsSchemaList o → IsSchemaList (option_map (λ d. (forms ρ r d).as_list) o)
    unfolding forms
    list-form r None is = tt
    list-form r (Some (array ds)) is = schemas-walked r ds is
    list-form r (Some null) is = absurd is
    list-form r (Some (boolean b)) is = absurd is
    list-form r (Some (number n)) is = absurd is
    list-form r (Some (string s)) is = absurd is
    list-form r (Some (object ms)) is = absurd is

    schema-no_list : (s : Data) → IsSchema s → IsNoList (Some s)
    schema-no_list (boolean b) is = tt
    schema-no_list (object ms) is = tt
    schema-no_list _ is = absurd is

    no_list-form : (r : R) (o : Option Data) → IsNoList o → IsNoList (option_map (λ d. (forms ρ r d).as_either) o)
    unfolding forms
    no_list-form r None is = tt
    no_list-form r (Some null) is = tt
    no_list-form r (Some (boolean b)) is =
        schema-no_list (ρ.finish (ρ.inside r (boolean b)) (boolean b)) (schema (ρ.inside r (boolean b)) (boolean b) tt)
    no_list-form r (Some (number n)) is = tt
    no_list-form r (Some (string s)) is = tt
    no_list-form r (Some (array ds)) is = absurd is
    no_list-form r (Some (object ms)) is =
        schema-no_list (ρ.finish (ρ.inside r (object ms)) (object (in_keywords ρ (ρ.inside r (object ms)) ms)))
        (schema (ρ.inside r (object ms)) (object (in_keywords ρ (ρ.inside r (object ms)) ms)) tt)

    pub list-walked : (r : R) (k : Text) (ms : Members) → Enters k → place_under k ≡ SchemaList
        → IsSchemaList (get_member k ms) → IsSchemaList (get_member k (in_keywords ρ r ms))
    list-walked r k ms enters at is =
        subst IsSchemaList (sym (keywords_get ρ r k ms ∙ at-place r k (get_member k ms) SchemaList enters at))
        (list-form r (get_member k ms) is)

    pub no_list-walked : (r : R) (k : Text) (ms : Members) → Enters k → place_under k ≡ SchemaOrList
        → IsNoList (get_member k ms) → IsNoList (get_member k (in_keywords ρ r ms))
    no_list-walked r k ms enters at is =
        subst IsNoList (sym (keywords_get ρ r k ms ∙ at-place r k (get_member k ms) SchemaOrList enters at))
        (no_list-form r (get_member k ms) is)

    pub items-walked : Enters (codes "prefixItems") → Enters (codes "items") → (r : R) (ms : Members) → HasPlainItems ms
        → HasPlainItems (in_keywords ρ r ms)
    items-walked prefix items r ms is = (
      once-walked r (codes "prefixItems") ms is.0,
      list-walked r (codes "prefixItems") ms prefix refl is.1,
      no_list-walked r (codes "items") ms items refl is.2,
      none-walked r (codes "additionalItems") ms is.3,
      none-walked r (codes "contains") ms is.4,
    )
