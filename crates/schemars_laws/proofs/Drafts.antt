-- What documents accept after all transforms of Draft 7, and after that of 2019-09.
use Rattle.std.proofs.Common.{◌≡◌, ◌≢◌, ℕ, Option, Some, None, Bool, true, false, codes, refl, sym, ◌∙◌, subst}
use Rattle.schemars_laws.proofs.Words.{if◌then◌else◌, option_and_then, ◌==◌, Data, object, Members, no_members, member, get_member, as_str, members_len, Text, without, NoSchemas, OneSchema, SchemaList, SchemasByName, place_under, Dialect, Patterns, accepts, draft2020_12, draft2019_09, draft07, differ, reference_moved, without_siblings, remove_ref_siblings, replace_prefix_items, unevaluated_as_additional, closed_by, replace_unevaluated_properties, Everywhere, asked_of_keywords, IsName, IsNamedBy, HasNameOf, HasNoObjects, Named, IsMap, IsOnce, of_draft2019_09, HasPlainItems, HasPlainReference, HasNoUnevaluated, IsDraft07, alone_by, without_unevaluated, MovesAcceptance, for_draft07, for_draft2019_09, asked}
use Rattle.schemars_laws.proofs.Laws.{replace_unevaluated_properties-at, remove_ref_siblings-at, replace_prefix_items-at, other, none}
use Rattle.schemars_laws.proofs.Looked.{change_rules, walked, raw-walked, items-walked, changed-document}
use Rattle.schemars_laws.proofs.Siblings.{schema-siblings, definitions-stay as siblings-stay, moved_members, get-moved}
use Rattle.schemars_laws.proofs.Editing.{alike-moved, asked-moved}
use Rattle.schemars_laws.proofs.Unevaluated.{schema-unevaluated, none-kept, definitions-stay as unevaluated-stay}
use Rattle.schemars_laws.proofs.Preserved.{Preserves, after, change-preserves, weaker, asked-without}
use Rattle.schemars_laws.proofs.Plain.{named-walked, reference-walked, name-alike, reference-alike, items-alike, alike-without, none-at, unread-plain}

-- ---- kinds of schema objects, at each step

abbrev WithReferences : Members → Type 0
WithReferences ms = HasPlainReference ms × HasPlainItems ms

-- and dialects: `unevaluatedProperties` are read before the first step alone
abbrev unevaluated_gone : Dialect
unevaluated_gone = without_unevaluated draft2020_12

abbrev siblings_passed : Dialect
siblings_passed = alone_by unevaluated_gone

abbrev First : Text → Members → Type 0
First key = Named draft2020_12 key IsDraft07

abbrev Second : Text → Members → Type 0
Second key = Named unevaluated_gone key WithReferences

abbrev Third : Text → Members → Type 0
Third key = Named siblings_passed key HasPlainItems

-- `unevaluatedProperties` that are not there leave the others as they are
after-unevaluated : (key : Text) → Preserves (change_rules unevaluated_as_additional) (First key) (Second key)
unfolding asked
after-unevaluated key =
    change-preserves unevaluated_as_additional (First key) (Second key) schema-unevaluated (λ b. tt) go
  where
    kept : (ms : Members) → First key ms
        → Second key (without (codes "unevaluatedProperties") (walked unevaluated_as_additional ms))
    kept ms is =
        let ns = walked unevaluated_as_additional ms in (
          name-alike (IsName key) (without (codes "unevaluatedProperties") ns) ns
              (alike-without (codes "$ref") (codes "unevaluatedProperties") ns refl)
              (named-walked unevaluated_as_additional (IsName key) ms is.0),
          unread-plain unevaluated_gone (without (codes "unevaluatedProperties") ns) refl
              (subst HasNoObjects (sym ((alike-without (codes "dependencies") (codes "unevaluatedProperties") ns refl).first
              ∙ none-at of_draft2019_09 (codes "dependencies") ns refl (none-kept ms is.2.0).2)) tt),
          (
            reference-alike (without (codes "unevaluatedProperties") ns) ns
                (alike-without (codes "$ref") (codes "unevaluatedProperties") ns refl)
                (alike-without (codes "allOf") (codes "unevaluatedProperties") ns refl)
                (reference-walked unevaluated_as_additional schema-unevaluated ms is.2.1),
            items-alike (without (codes "unevaluatedProperties") ns) ns
                (alike-without (codes "prefixItems") (codes "unevaluatedProperties") ns refl)
                (alike-without (codes "items") (codes "unevaluatedProperties") ns refl)
                (alike-without (codes "additionalItems") (codes "unevaluatedProperties") ns refl)
                (alike-without (codes "contains") (codes "unevaluatedProperties") ns refl)
                (items-walked unevaluated_as_additional schema-unevaluated ms is.2.2),
          ),
        )

    go : (ms : Members) → First key ms → asked_of_keywords (Second key) (walked unevaluated_as_additional ms)
        → (asked (Second key) (unevaluated_as_additional (object (walked unevaluated_as_additional ms)))).as_schema
    go ms is a =
        let ns = walked unevaluated_as_additional ms in
        subst (λ o. (asked (Second key) (closed_by o (object (without (codes "unevaluatedProperties") ns)))).as_schema)
        (sym (none-kept ms is.2.0).1) (kept ms is, asked-without (Second key) (codes "unevaluatedProperties") ns a)

-- ---- a reference that has moved

after-siblings : (key : Text) → Preserves (change_rules without_siblings) (Second key) (Third key)
unfolding asked
after-siblings key = change-preserves without_siblings (Second key) (Third key) schema-siblings (λ b. tt) go
  where
    Q : Members → Type 0
    Q = Third key

    Dependencies : Members → Type 0
    Dependencies ns = HasNoObjects (get_member (codes "dependencies") ns)

    -- nothing is asked of `unevaluatedProperties`
    third : (ns : Members) → HasNameOf (IsName key) ns → Dependencies ns → HasPlainItems ns → Q ns
    third ns name plain items = (name, unread-plain siblings_passed ns refl plain, items)

    alone : (r : Data) (ns : Members) → get_member (codes "$ref") ns ≡ Some r → HasNameOf (IsName key) ns
        → Q (member (codes "$ref") r no_members)
    alone r ns here name =
        third (member (codes "$ref") r no_members) (subst (λ o. IsNamedBy (IsName key) (option_and_then as_str o)) here name) tt
        (refl, tt, tt, refl, refl)

    gone : (ns : Members) → IsOnce (codes "$ref") ns → Dependencies ns → HasPlainItems ns → Q (without (codes "$ref") ns)
    gone ns once plain items =
        third (without (codes "$ref") ns) (subst (λ o. IsNamedBy (IsName key) (option_and_then as_str o)) (sym once) tt)
        (subst HasNoObjects (sym (alike-without (codes "dependencies") (codes "$ref") ns refl).first) plain)
        (items-alike (without (codes "$ref") ns) ns (alike-without (codes "prefixItems") (codes "$ref") ns refl)
        (alike-without (codes "items") (codes "$ref") ns refl) (alike-without (codes "additionalItems") (codes "$ref") ns refl)
        (alike-without (codes "contains") (codes "$ref") ns refl) items)

    moved : (r : Data) (ns : Members) → IsOnce (codes "$ref") ns → Dependencies ns → HasPlainItems ns → Q (moved_members r ns)
    moved r ns once plain items =
        third (moved_members r ns) (subst (λ o. IsNamedBy (IsName key) (option_and_then as_str o))
        (sym (get-moved r ns (codes "$ref") (differ (codes "$ref") (codes "allOf") refl) ∙ once)) tt)
        (subst HasNoObjects (sym (alike-moved r (codes "dependencies") ns refl refl).first) plain)
        (items-alike (moved_members r ns) ns (alike-moved r (codes "prefixItems") ns refl refl) (alike-moved r (codes "items") ns refl refl)
        (alike-moved r (codes "additionalItems") ns refl refl) (alike-moved r (codes "contains") ns refl refl) items)

    go : (ms : Members) → Second key ms → asked_of_keywords Q (walked without_siblings ms)
        → (asked Q (without_siblings (object (walked without_siblings ms)))).as_schema
    go ms is a = each (members_len ns == 1) (get_member (codes "$ref") ns) refl
      where
        ns : Members
        ns = walked without_siblings ms

        name : HasNameOf (IsName key) ns
        name = named-walked without_siblings (IsName key) ms is.0

        plain : HasPlainReference ns
        plain = reference-walked without_siblings schema-siblings ms is.2.0

        dependencies : Dependencies ns
        dependencies = subst HasNoObjects (sym (raw-walked without_siblings (codes "dependencies") ms refl)) (is.1.1 refl)

        items : HasPlainItems ns
        items = items-walked without_siblings schema-siblings ms is.2.1

        each : (b : Bool) (o : Option Data) → get_member (codes "$ref") ns ≡ o
            → (asked Q (if b then object ns else reference_moved o (object (without (codes "$ref") ns)))).as_schema
        each true o here = (third ns name dependencies items, a)
        each false None here = (gone ns plain.0 dependencies items, asked-without Q (codes "$ref") ns a)
        each false (Some r) here = (moved r ns plain.0 dependencies items, asked-moved Q r (alone r ns here name, (tt, tt)) ns a)

-- ---- whole documents

at-document : (T : Data → Data) (old new : Dialect) (key : Text) (Q : Members → Type 0) → MovesAcceptance T old new key Q
    → (document : Data) (ns : Members) → document ≡ object ns → IsMap (get_member key ns) → Everywhere (Named old key Q) document
    → (patterns : Patterns) (n : ℕ) (part v : Data) → Everywhere (Named old key Q) part
    → accepts new (T document) patterns n (T part) v ≡ accepts old document patterns n part v
at-document T old new key Q law document ns is map all patterns n part v part_is =
    subst (λ d. accepts new (T d) patterns n (T part) v ≡ accepts old d patterns n part v) (sym is)
    (law ns map (subst (Everywhere (Named old key Q)) is all) patterns n part v part_is)

module _ (key : Text) (at : place_under key ≡ SchemasByName) (apart : key ≢ codes "properties") where
  -- in a document without `unevaluatedProperties`
  pub draft07-law : MovesAcceptance for_draft07 draft2020_12 draft07 key IsDraft07
  draft07-law ms map is patterns n part v part_is =
      last ∙ (middle ∙ first)
    where
      one : Data → Data
      one s = replace_unevaluated_properties s

      two : Data → Data
      two s = remove_ref_siblings (one s)

      is-one : (d : Data) → Everywhere (First key) d → Everywhere (Second key) (one d)
      is-one d all =
          after (change_rules unevaluated_as_additional) (First key) (Second key) (after-unevaluated key) tt d all

      is-two : (d : Data) → Everywhere (First key) d → Everywhere (Third key) (two d)
      is-two d all =
          after (change_rules without_siblings) (Second key) (Third key) (after-siblings key) tt (one d)
          (is-one d all)

      no-unevaluated : (d : Data) → Everywhere (First key) d → Everywhere (Named draft2020_12 key HasNoUnevaluated) d
      no-unevaluated d all = weaker (First key) (Named draft2020_12 key HasNoUnevaluated) (λ ns h. (h.0, h.1, h.2.0)) d all

      with-reference : (d : Data) → Everywhere (Second key) d → Everywhere (Named unevaluated_gone key HasPlainReference) d
      with-reference d all = weaker (Second key) (Named unevaluated_gone key HasPlainReference) (λ ns h. (h.0, h.1, h.2.0)) d all

      document-one : (ns : Members) × (one (object ms) ≡ object ns) × IsMap (get_member key ns)
      document-one =
          changed-document unevaluated_as_additional key ms at map
          (unevaluated-stay key (walked unevaluated_as_additional ms) (other key (codes "unevaluatedProperties") NoSchemas at refl none)
          (other key (codes "additionalProperties") OneSchema at refl (λ e. cc)) apart)

      document-two : (ns : Members) × (two (object ms) ≡ object ns) × IsMap (get_member key ns)
      document-two =
          subst (λ d. (ns : Members) × (remove_ref_siblings d ≡ object ns) × IsMap (get_member key ns)) (sym document-one.1)
          (changed-document without_siblings key document-one.0 at document-one.2
          (siblings-stay key (walked without_siblings document-one.0) (other key (codes "$ref") NoSchemas at refl none)
          (other key (codes "allOf") SchemaList at refl (λ e. cc))))

      first : accepts unevaluated_gone (one (object ms)) patterns n (one part) v
          ≡ accepts draft2020_12 (object ms) patterns n part v
      first = replace_unevaluated_properties-at key at draft2020_12 apart ms map (no-unevaluated (object ms) is) patterns n part v
          (no-unevaluated part part_is)

      middle : accepts siblings_passed (two (object ms)) patterns n (two part) v
          ≡ accepts unevaluated_gone (one (object ms)) patterns n (one part) v
      middle =
          at-document remove_ref_siblings unevaluated_gone
          siblings_passed key HasPlainReference
          (remove_ref_siblings-at key at unevaluated_gone) (one (object ms)) document-one.0 document-one.1 document-one.2
          (with-reference (one (object ms)) (is-one (object ms) is)) patterns n (one part) v
          (with-reference (one part) (is-one part part_is))

      last : accepts draft07 (replace_prefix_items (two (object ms))) patterns n (replace_prefix_items (two part)) v
          ≡ accepts siblings_passed (two (object ms)) patterns n (two part) v
      last =
          at-document replace_prefix_items siblings_passed draft07 key HasPlainItems
          (replace_prefix_items-at key at siblings_passed)
          (two (object ms)) document-two.0 document-two.1 document-two.2
          (is-two (object ms) is) patterns n (two part) v (is-two part part_is)

  pub draft2019_09-law : MovesAcceptance for_draft2019_09 draft2020_12 draft2019_09 key HasPlainItems
  draft2019_09-law = replace_prefix_items-at key at draft2020_12
