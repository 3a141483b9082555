-- The transforms of the drafts keep the definitions of a document: their number and their keys.
use Rattle.std.proofs.Common.{◌≡◌, ◌≢◌, suc, option_and_then, Option, Some, None, Ordering, Less, Equal, Greater, nat_cmp, codes, option_map, refl, sym, ap, ◌∙◌, subst}
use Rattle.schemars_headline.proofs.Words.{match_ordering, slice_cmp, Data, null, boolean, number, string, array, object, Members, no_members, member, get_member, members_len, Text, IsSchema, NoSchemas, OneSchema, SchemaList, SchemaOrList, SchemasByName, place_under, Dialect, draft2020_12, count_of_definitions, without_siblings, prefix_as_items, replace_prefix_items, remove_ref_siblings, unevaluated_as_additional, replace_unevaluated_properties, IsMap, change_rules, walked, as_object, forms, in_names, read_at, all_changed, keywords_get, Change, map-walked, other, none, prefix_items, ref_siblings, unevaluated_properties}
use Rattle.schemars_headline.proofs.Placed.{StandsAt, pointer_key}
use Rattle.schemars_headline.proofs.RootClass.{entries}

-- as many definitions, and a schema under each key that had one
pub record Stay (old new : Members) : Type 0 where
  pub count : members_len new ≡ members_len old
  pub keys : (k : Text) (d : Data) → get_member k old ≡ Some d → IsSchema d
      → (e : Data) × (get_member k new ≡ Some e) × IsSchema e

pub stay-same : (es : Members) → Stay es es
stay-same es = record { count = refl; keys = λ k d found is. (d, found, is) }

stay-then : (a b c : Members) → Stay a b → Stay b c → Stay a c
stay-then a b c first then = record {
  count = then.count ∙ first.count;
  keys = λ k d found is. let e = first.keys k d found is in then.keys k e.0 e.1 e.2;
}

module _ (f : Data → Data) (schema : (s : Data) → IsSchema s → IsSchema (f s)) where
  names-len : (es : Members) → members_len (in_names (change_rules f) tt es) ≡ members_len es
  unfolding in_names
  names-len no_members = refl
  names-len (member k d es) = ap suc (names-len es)

  schema-after : (d : Data) → IsSchema d → IsSchema (forms (change_rules f) tt d).as_schema
  unfolding forms
  schema-after (boolean b) is = schema (boolean b) tt
  schema-after (object ms) is = schema (object (walked f ms)) tt
  schema-after _ is = absurd is

  names-found : (k : Text) (es : Members) (d : Data) → get_member k es ≡ Some d
      → get_member k (in_names (change_rules f) tt es) ≡ Some (forms (change_rules f) tt d).as_schema
  unfolding in_names
  names-found k no_members d found = cc
  names-found k (member l e es) d found = go (slice_cmp nat_cmp k l) found (names-found k es d)
    where
      go : (o : Ordering) → match_ordering o (get_member k es) (Some e) (get_member k es) ≡ Some d
          → (get_member k es ≡ Some d
          → get_member k (in_names (change_rules f) tt es) ≡ Some (forms (change_rules f) tt d).as_schema)
          → match_ordering o (get_member k (in_names (change_rules f) tt es)) (Some (forms (change_rules f) tt e).as_schema)
          (get_member k (in_names (change_rules f) tt es)) ≡ Some (forms (change_rules f) tt d).as_schema
      go Less found later = later found
      go Equal found later = let same : e ≡ d = cc in ap (λ x. Some (forms (change_rules f) tt x).as_schema) same
      go Greater found later = later found

  stay-names : (es : Members) → Stay es (in_names (change_rules f) tt es)
  stay-names es = record {
    count = names-len es;
    keys = λ k d found is. ((forms (change_rules f) tt d).as_schema, names-found k es d found, schema-after d is);
  }

  stay-form : (o : Option Data) → IsMap o → Stay (entries o) (entries (option_map (λ d. (forms (change_rules f) tt d).by_name) o))
  unfolding forms
  stay-form None is = stay-same no_members
  stay-form (Some (object es)) is = stay-names es
  stay-form (Some null) is = absurd is
  stay-form (Some (boolean b)) is = absurd is
  stay-form (Some (number n)) is = absurd is
  stay-form (Some (string t)) is = absurd is
  stay-form (Some (array ds)) is = absurd is

-- an object with a map under the key, and these definitions in it
pub record Has (key : Text) (definitions : Members) (document : Data) : Type 0 where
  pub inside : Members
  pub is_object : document ≡ object inside
  pub is_map : IsMap (get_member key inside)
  pub stay : Stay definitions (entries (get_member key inside))

module _ (key : Text) (at : place_under key ≡ SchemasByName) where
  changed-has : (f : Data → Data) (old new : Dialect) (Q : Members → Type 0) → Change f key old new Q
      → (definitions : Members) (document : Data) → Has key definitions document → Has key definitions (all_changed f document)
  unfolding forms
  changed-has f old new Q h definitions document has =
      let now = h.definitions (walked f has.inside) in
      let same : get_member key now.0 ≡ option_map (λ d. (forms (change_rules f) tt d).by_name) (get_member key has.inside) =
      now.2 ∙ (keywords_get (change_rules f) tt key has.inside
      ∙ ap (λ p. option_map (λ d. read_at (change_rules f) p tt d) (get_member key has.inside)) at) in
      record {
        inside = now.0;
        is_object = ap (all_changed f) has.is_object ∙ now.1;
        is_map = subst IsMap (sym now.2) (map-walked f key has.inside at has.is_map);
        stay = stay-then definitions (entries (get_member key has.inside)) (entries (get_member key now.0)) has.stay
            (subst (λ o. Stay (entries (get_member key has.inside)) (entries o)) (sym same)
            (stay-form f h.schema (get_member key has.inside) has.is_map));
      }

  pub prefix-has : (definitions : Members) (document : Data) → Has key definitions document
      → Has key definitions (replace_prefix_items document)
  prefix-has definitions document has =
      changed-has prefix_as_items _ _ _
      (prefix_items key draft2020_12 (other key (codes "prefixItems") SchemaList at refl (λ e. cc))
      (other key (codes "items") SchemaOrList at refl (λ e. cc))
      (other key (codes "additionalItems") OneSchema at refl (λ e. cc)))
      definitions document has

  pub siblings-has : (definitions : Members) (document : Data) → Has key definitions document
      → Has key definitions (remove_ref_siblings document)
  siblings-has definitions document has =
      changed-has without_siblings _ _ _
      (ref_siblings key draft2020_12 (other key (codes "$ref") NoSchemas at refl none)
      (other key (codes "allOf") SchemaList at refl (λ e. cc)))
      definitions document has

  pub unevaluated-has : key ≢ codes "properties" → (definitions : Members) (document : Data) → Has key definitions document
      → Has key definitions (replace_unevaluated_properties document)
  unevaluated-has apart definitions document has =
      changed-has unevaluated_as_additional _ _ _
      (unevaluated_properties key draft2020_12 (other key (codes "unevaluatedProperties") NoSchemas at refl none)
      (other key (codes "additionalProperties") OneSchema at refl (λ e. cc)) apart)
      definitions document has

-- ---- how many there are

count-entries : (o : Option Data)
    → elim (option_and_then as_object o) [ None ↦ 0 | Some ms ↦ members_len ms ] ≡ members_len (entries o)
count-entries None = refl
count-entries (Some null) = refl
count-entries (Some (boolean b)) = refl
count-entries (Some (number n)) = refl
count-entries (Some (string s)) = refl
count-entries (Some (array ds)) = refl
count-entries (Some (object es)) = refl

pub count-has : (path key : Text) → StandsAt path key → (definitions : Members) (document : Data) → Has key definitions document
    → count_of_definitions path document ≡ members_len definitions
count-has path key at definitions document has =
    ap (count_of_definitions path) has.is_object
    ∙ (ap (λ o. elim (option_and_then as_object o) [ None ↦ 0 | Some ms ↦ members_len ms ]) (pointer_key path key at has.inside)
    ∙ (count-entries (get_member key has.inside) ∙ has.stay.count))
