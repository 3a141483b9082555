-- What holds of the references of a document holds of those after the transforms of the drafts.
use Rattle.std.proofs.Common.{◌≡◌, ◌≢◌, Option, Some, None, Bool, true, false, codes, refl, sym, ◌∙◌, subst}
use Rattle.schemars_headline.proofs.Words.{if◌then◌else◌, ◌==◌, Data, array, object, Members, no_members, member, put, get_member, members_len, get_member-put_other, Text, IsSchema, draft2020_12, without, differ, reference_moved, without_siblings, remove_ref_siblings, prefix_moved, old_items_moved, prefix_as_items, unevaluated_as_additional, closed_by, replace_unevaluated_properties, Everywhere, asked_of_keywords, IsOnce, IsSchemaList, change_rules, walked, weaker, absent-once, for_draft07, for_draft2019_09, IsTextWith, Stands, IsForOpenApi, text-alone, asked, HasPlainReference, list-walked, raw-walked, once-walked, without-other, schema-siblings, moved_members, get-moved, prefix_items, schema-unevaluated, none-kept, Preserves, after, change-preserves, asked-without, asked-put, asked-get, without-put, asked-moved, Alike, reference-walked, reference-alike, alike-without, without-swap}
use Rattle.schemars_headline.proofs.Changes.{IsDraft2019_09}

module _ (R : Text → Type 0) where
  abbrev Refers : Members → Type 0
  Refers ms = IsTextWith R (get_member (codes "$ref") ms)

  -- with plain references, and then with references that are there once
  abbrev WithPlain : Members → Type 0
  WithPlain ms = Refers ms × HasPlainReference ms × IsSchemaList (get_member (codes "prefixItems") ms)

  abbrev WithItems : Members → Type 0
  WithItems ms = Refers ms × IsOnce (codes "$ref") ms × IsSchemaList (get_member (codes "prefixItems") ms)

  -- a reference is there once, and R holds of it
  abbrev pub RefersOnce : Members → Type 0
  RefersOnce ms = Refers ms × IsOnce (codes "$ref") ms

  refers-alike : (ns ms : Members) → Alike (codes "$ref") ns ms → Refers ms → Refers ns
  refers-alike ns ms a is = subst (IsTextWith R) (sym a.first) is

  refers-walked : (f : Data → Data) (ms : Members) → Refers ms → Refers (walked f ms)
  refers-walked f ms is = subst (IsTextWith R) (sym (raw-walked f (codes "$ref") ms refl)) is

  abbrev IsListed : Members → Type 0
  IsListed ms = IsSchemaList (get_member (codes "prefixItems") ms)

  listed-alike : (ns ms : Members) → get_member (codes "prefixItems") ns ≡ get_member (codes "prefixItems") ms → IsListed ms
      → IsListed ns
  listed-alike ns ms same is = subst IsSchemaList (sym same) is

  -- ---- without `unevaluatedProperties`

  after-unevaluated : Preserves (change_rules unevaluated_as_additional) (Stands R IsForOpenApi) WithPlain
  unfolding asked
  after-unevaluated = change-preserves unevaluated_as_additional (Stands R IsForOpenApi) WithPlain schema-unevaluated (λ b. tt) go
    where
      kept : (ms : Members) → Stands R IsForOpenApi ms
          → WithPlain (without (codes "unevaluatedProperties") (walked unevaluated_as_additional ms))
      kept ms is =
          let ns = walked unevaluated_as_additional ms in
          let rest = without (codes "unevaluatedProperties") ns in (
            refers-alike rest ns (alike-without (codes "$ref") (codes "unevaluatedProperties") ns refl)
                (refers-walked unevaluated_as_additional ms is.reference),
            reference-alike rest ns (alike-without (codes "$ref") (codes "unevaluatedProperties") ns refl)
                (alike-without (codes "allOf") (codes "unevaluatedProperties") ns refl)
                (reference-walked unevaluated_as_additional schema-unevaluated ms
                (is.once, text-alone R (get_member (codes "$ref") ms) is.reference, is.own.all_of)),
            listed-alike rest ns (alike-without (codes "prefixItems") (codes "unevaluatedProperties") ns refl).first
                (list-walked unevaluated_as_additional schema-unevaluated (codes "prefixItems") ms refl is.own.items.1),
          )

      go : (ms : Members) → Stands R IsForOpenApi ms → asked_of_keywords WithPlain (walked unevaluated_as_additional ms)
          → (asked WithPlain (unevaluated_as_additional (object (walked unevaluated_as_additional ms)))).as_schema
      go ms is a =
          let ns = walked unevaluated_as_additional ms in
          subst (λ o. (asked WithPlain (closed_by o (object (without (codes "unevaluatedProperties") ns)))).as_schema)
          (sym (none-kept ms is.own.unevaluated).1) (kept ms is, asked-without WithPlain (codes "unevaluatedProperties") ns a)

  -- ---- without siblings

  after-siblings : Preserves (change_rules without_siblings) WithPlain WithItems
  unfolding asked
  after-siblings = change-preserves without_siblings WithPlain WithItems schema-siblings (λ b. tt) go
    where
      alone : (r : Data) (ns : Members) → get_member (codes "$ref") ns ≡ Some r → Refers ns
          → WithItems (member (codes "$ref") r no_members)
      alone r ns here is = (subst (IsTextWith R) here is, refl, tt)

      gone : (ns : Members) → IsOnce (codes "$ref") ns → IsListed ns → WithItems (without (codes "$ref") ns)
      gone ns once items = (
        subst (IsTextWith R) (sym once) tt,
        absent-once (codes "$ref") (without (codes "$ref") ns) once,
        listed-alike (without (codes "$ref") ns) ns (alike-without (codes "prefixItems") (codes "$ref") ns refl).first items,
      )

      moved : (r : Data) (ns : Members) → IsOnce (codes "$ref") ns → IsListed ns → WithItems (moved_members r ns)
      moved r ns once items =
          let none : get_member (codes "$ref") (moved_members r ns) ≡ None =
          get-moved r ns (codes "$ref") (differ (codes "$ref") (codes "allOf") refl) ∙ once in (
            subst (IsTextWith R) (sym none) tt,
            absent-once (codes "$ref") (moved_members r ns) none,
            listed-alike (moved_members r ns) ns (
                get-moved r ns (codes "prefixItems") (differ (codes "prefixItems") (codes "allOf") refl)
                ∙ without-other (codes "$ref") (codes "prefixItems") ns (differ (codes "prefixItems") (codes "$ref") refl)
                ) items,
          )

      go : (ms : Members) → WithPlain ms → asked_of_keywords WithItems (walked without_siblings ms)
          → (asked WithItems (without_siblings (object (walked without_siblings ms)))).as_schema
      go ms is a = each (members_len ns == 1) (get_member (codes "$ref") ns) refl
        where
          ns : Members
          ns = walked without_siblings ms

          here_is : Refers ns
          here_is = refers-walked without_siblings ms is.0

          plain : HasPlainReference ns
          plain = reference-walked without_siblings schema-siblings ms is.1

          items : IsListed ns
          items = list-walked without_siblings schema-siblings (codes "prefixItems") ms refl is.2

          each : (b : Bool) (o : Option Data) → get_member (codes "$ref") ns ≡ o
              → (asked WithItems (if b then object ns else reference_moved o (object (without (codes "$ref") ns)))).as_schema
          each true o here = ((here_is, plain.0, items), a)
          each false None here = (gone ns plain.0 items, asked-without WithItems (codes "$ref") ns a)
          each false (Some r) here = (moved r ns plain.0 items, asked-moved WithItems r (alone r ns here here_is, (tt, tt)) ns a)

  -- ---- with a list under `items`

  schema-prefix : (s : Data) → IsSchema s → IsSchema (prefix_as_items s)
  schema-prefix =
      (prefix_items (codes "definitions") draft2020_12 (differ (codes "definitions") (codes "prefixItems") refl)
      (differ (codes "definitions") (codes "items") refl) (differ (codes "definitions") (codes "additionalItems") refl)).schema

  refers-put : (l : Text) (d : Data) (ms : Members) → codes "$ref" ≢ l → RefersOnce ms → RefersOnce (put l d ms)
  refers-put l d ms apart is = (
    subst (IsTextWith R) (sym (get_member-put_other (codes "$ref") l d ms apart)) is.0,
    without-put (codes "$ref") l d ms apart ∙ is.1,
  )

  after-prefix : Preserves (change_rules prefix_as_items) WithItems RefersOnce
  unfolding asked
  after-prefix = change-preserves prefix_as_items WithItems RefersOnce schema-prefix (λ b. tt) go
    where
      listed : (d : Data) → IsSchemaList (Some d) → (asked RefersOnce d).as_schema
      listed (array ds) is = tt
      listed _ is = absurd is

      go : (ms : Members) → WithItems ms → asked_of_keywords RefersOnce (walked prefix_as_items ms)
          → (asked RefersOnce (prefix_as_items (object (walked prefix_as_items ms)))).as_schema
      go ms is a = each (get_member (codes "prefixItems") ns) refl
        where
          ns : Members
          ns = walked prefix_as_items ms

          rest : Members
          rest = without (codes "prefixItems") ns

          apart : codes "$ref" ≢ codes "prefixItems"
          apart = differ (codes "$ref") (codes "prefixItems") refl

          rest_is : RefersOnce rest
          rest_is = (
            subst (IsTextWith R) (sym (without-other (codes "prefixItems") (codes "$ref") ns apart))
                (refers-walked prefix_as_items ms is.0),
            without-swap (codes "$ref") (codes "prefixItems") ns apart ∙ once-walked prefix_as_items (codes "$ref") ms is.1,
          )

          rest_asked : asked_of_keywords RefersOnce rest
          rest_asked = asked-without RefersOnce (codes "prefixItems") ns a

          plain : IsListed ns
          plain = list-walked prefix_as_items schema-prefix (codes "prefixItems") ms refl is.2

          with_prefix : (p : Data) → get_member (codes "prefixItems") ns ≡ Some p
              → asked_of_keywords RefersOnce (put (codes "items") p rest)
          with_prefix p here =
              asked-put RefersOnce (codes "items") p rest
              (listed p (subst IsSchemaList here plain), asked-get RefersOnce (codes "prefixItems") ns p here a) rest_asked

          moved_items : (p : Data) → get_member (codes "prefixItems") ns ≡ Some p → (o : Option Data)
              → get_member (codes "items") rest ≡ o
              → (asked RefersOnce (old_items_moved o (object (put (codes "items") p rest)))).as_schema
          moved_items p here None there =
              (refers-put (codes "items") p rest (differ (codes "$ref") (codes "items") refl) rest_is, with_prefix p here)
          moved_items p here (Some e) there = (
            refers-put (codes "additionalItems") e (put (codes "items") p rest)
                (differ (codes "$ref") (codes "additionalItems") refl)
                (refers-put (codes "items") p rest (differ (codes "$ref") (codes "items") refl) rest_is),
            asked-put RefersOnce (codes "additionalItems") e (put (codes "items") p rest)
                (asked-get RefersOnce (codes "items") rest e there rest_asked).0 (with_prefix p here),
          )

          each : (o : Option Data) → get_member (codes "prefixItems") ns ≡ o
              → (asked RefersOnce (prefix_moved o (object rest))).as_schema
          each None here = (rest_is, rest_asked)
          each (Some p) here = moved_items p here (get_member (codes "items") rest) refl

  -- ---- whole documents

  pub draft2019_09-refers : (d : Data) → Everywhere (Stands R IsDraft2019_09) d → Everywhere RefersOnce (for_draft2019_09 d)
  draft2019_09-refers d is =
      after (change_rules prefix_as_items) WithItems RefersOnce after-prefix tt d
      (weaker (Stands R IsDraft2019_09) WithItems (λ ms h. (h.reference, h.once, h.own.1.1)) d is)

  pub draft07-refers : (d : Data) → Everywhere (Stands R IsForOpenApi) d → Everywhere RefersOnce (for_draft07 d)
  draft07-refers d is =
      let one = after (change_rules unevaluated_as_additional) (Stands R IsForOpenApi) WithPlain after-unevaluated tt d is in
      let two = after (change_rules without_siblings) WithPlain WithItems after-siblings tt (replace_unevaluated_properties d) one in
      after (change_rules prefix_as_items) WithItems RefersOnce after-prefix tt (remove_ref_siblings (replace_unevaluated_properties d)) two
