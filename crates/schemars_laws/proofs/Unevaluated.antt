-- Where there are no `unevaluatedProperties`, nothing changes, whether they are read or not.
use Rattle.std.proofs.Common.{◌≡◌, ◌≢◌, List, ◌∷◌, Option, Some, None, Bool, true, false, codes, refl, sym, ap, ◌∙◌, subst}
use Rattle.schemars_laws.proofs.Words.{fun_ext, bytes_eq-Decides, bytes_eq, if◌then◌else◌, ◌&&◌, not, Data, boolean, object, Members, no_members, member, put, get_member, get_member-put_other, Text, IsSchema, without, Dialect, Context, Raw, Readings, Part, position, judge, keywords, reference_alone, is_reference, read_members, reading_at, judge-agree, differ, unevaluated_as_additional, closed_by, property_names, properties_made, properties_named, object_with_names, with_names, of_draft2019_09, HasNoUnevaluated, with_unevaluated, without_unevaluated, all_keywords, read_data}
use Rattle.schemars_schema.specs.Judges.{key as member_key}
use Rattle.schemars_laws.proofs.Keywords.{left_out, AllNone, left_out-none}
use Rattle.schemars_laws.proofs.Formats.{truth-judge}
use Rattle.schemars_laws.proofs.Seen.{judge_ext}
use Rattle.schemars_laws.proofs.Looked.{without-other, walked, none-walked, nones-walked, once-walked, Change}
use Rattle.schemars_laws.proofs.Apart.{look_up, read-none}

-- with the keywords that came with them
abbrev unevaluated_keywords : List Text
unevaluated_keywords = codes "unevaluatedProperties" ∷ of_draft2019_09

-- what is not there is not missed
module _ (c : Context) (d : Dialect) where
  abbrev now : Context
  now = record c { dialect = without_unevaluated d }

  abbrev was : Context
  was = record c { dialect = with_unevaluated d }

  left_out-same : (raw : Raw) (read : Readings)
      → keywords now (left_out unevaluated_keywords raw) (left_out unevaluated_keywords read)
      ≡ keywords was (left_out unevaluated_keywords raw) (left_out unevaluated_keywords read)
  unfolding all_keywords
  left_out-same raw read =
      ap (λ j. if not d.judges_siblings && is_reference (raw (codes "$ref"))
      then reference_alone now (left_out unevaluated_keywords raw) else j)
      (judge_ext _ _ (λ v. refl) judged)
    where
      judged : (v : Data) (p : Part)
          → (all_keywords now (left_out unevaluated_keywords raw) (left_out unevaluated_keywords read)).judges v p
          ≡ (all_keywords was (left_out unevaluated_keywords raw) (left_out unevaluated_keywords read)).judges v p
      judged v (member_key k) = refl
      judged v (position n) = refl

  keywords-same : (raw : Raw) (read : Readings) → AllNone unevaluated_keywords raw → AllNone unevaluated_keywords read
      → keywords now raw read ≡ keywords was raw read
  keywords-same raw read none unread =
      subst (λ x. keywords now x read ≡ keywords was x read) (fun_ext (left_out-none unevaluated_keywords raw none))
      (subst (λ x. keywords now (left_out unevaluated_keywords raw) x ≡ keywords was (left_out unevaluated_keywords raw) x)
      (fun_ext (left_out-none unevaluated_keywords read unread)) (left_out-same raw read))

judge-without : (c : Context) (ms : Members) → HasNoUnevaluated ms
    → judge c (unevaluated_as_additional (object ms)) ≡ judge c (object ms)
judge-without c ms none =
    ap (λ o. judge c (closed_by o (object (without (codes "unevaluatedProperties") ms)))) none.1
    ∙ judge-agree c (without (codes "unevaluatedProperties") ms) ms (λ k key. at k (bytes_eq k (codes "unevaluatedProperties")) refl)
  where
    at : (k : Text) (b : Bool) → bytes_eq k (codes "unevaluatedProperties") ≡ b
        → get_member k (without (codes "unevaluatedProperties") ms) ≡ get_member k ms
    at k true is =
        let same : k ≡ codes "unevaluatedProperties" = (bytes_eq-Decides k (codes "unevaluatedProperties")).0 is in
        subst (λ l. get_member l (without (codes "unevaluatedProperties") ms) ≡ get_member l ms) (sym same) (none.0 ∙ sym none.1)
    at k false is = without-other (codes "unevaluatedProperties") k ms (differ k (codes "unevaluatedProperties") is)

judge-unevaluated : (c : Context) (d : Dialect) (ms : Members) → c.dialect ≡ without_unevaluated d → HasNoUnevaluated ms
    → judge c (unevaluated_as_additional (object ms))
    ≡ keywords (record c { dialect = with_unevaluated d }) (look_up ms) (reading_at (read_members c ms))
unfolding read_data
judge-unevaluated c d ms is none =
    judge-without c ms none
    ∙ (ap (λ e. keywords (record c { dialect = e }) (look_up ms) (reading_at (read_members c ms))) is
    ∙ keywords-same c d (look_up ms) (reading_at (read_members c ms))
    (none.1, none.2) (read-none c unevaluated_keywords ms (none.1, none.2)))

-- ---- what the change makes of any schema

module _ (P : Data → Type 0) (ks : List Text) (xs : Members) (stay : P (object xs))
    (made : (d : Data) → P (object (put (codes "properties") d xs))) where
  by_names : (ms : Members) → P (properties_made ms (object xs))
  by_names no_members = stay
  by_names (member k d ms) = made (object (member k d ms))

  by_properties : (o : Option Data) → P (properties_named ks o (object xs))
  by_properties None = by_names (with_names ks no_members)
  by_properties (Some d) = made (object_with_names ks d)

abbrev closed_members : Data → Members → Members
closed_members rest ms = put (codes "additionalProperties") rest (without (codes "unevaluatedProperties") ms)

module _ (P : Data → Type 0) (ms : Members) (stay : P (object (without (codes "unevaluatedProperties") ms)))
    (closed : (rest : Data) → P (object (without (codes "properties") (closed_members rest ms))))
    (named : (rest d : Data) → P (object (put (codes "properties") d (without (codes "properties") (closed_members rest ms))))) where
  by_rest : (o : Option Data) → P (closed_by o (object (without (codes "unevaluatedProperties") ms)))
  by_rest None = stay
  by_rest (Some rest) =
      by_properties P (property_names (object (without (codes "properties") (closed_members rest ms))))
      (without (codes "properties") (closed_members rest ms)) (closed rest) (named rest)
      (get_member (codes "properties") (closed_members rest ms))

pub schema-unevaluated : (s : Data) → IsSchema s → IsSchema (unevaluated_as_additional s)
schema-unevaluated (boolean b) is = tt
schema-unevaluated (object ms) is = by_rest IsSchema ms tt (λ rest. tt) (λ rest d. tt) (get_member (codes "unevaluatedProperties") ms)
schema-unevaluated _ is = absurd is

pub definitions-stay : (key : Text) (ms : Members) → key ≢ codes "unevaluatedProperties" → key ≢ codes "additionalProperties"
    → key ≢ codes "properties"
    → (ns : Members) × (unevaluated_as_additional (object ms) ≡ object ns) × (get_member key ns ≡ get_member key ms)
definitions-stay key ms rest additional properties =
    by_rest (λ s. (ns : Members) × (s ≡ object ns) × (get_member key ns ≡ get_member key ms)) ms
    (without (codes "unevaluatedProperties") ms, refl, without-other (codes "unevaluatedProperties") key ms rest)
    (λ d. (without (codes "properties") (closed_members d ms), refl, closed d))
    (λ d e. (
      put (codes "properties") e (without (codes "properties") (closed_members d ms)),
      refl,
      get_member-put_other key (codes "properties") e (without (codes "properties") (closed_members d ms)) properties ∙ closed d,
    ))
    (get_member (codes "unevaluatedProperties") ms)
  where
    closed : (d : Data) → get_member key (without (codes "properties") (closed_members d ms)) ≡ get_member key ms
    closed d =
        without-other (codes "properties") key (closed_members d ms) properties
        ∙ (get_member-put_other key (codes "additionalProperties") d (without (codes "unevaluatedProperties") ms) additional
        ∙ without-other (codes "unevaluatedProperties") key ms rest)

pub none-kept : (ms : Members) → HasNoUnevaluated ms → HasNoUnevaluated (walked unevaluated_as_additional ms)
none-kept ms none = (
  once-walked unevaluated_as_additional (codes "unevaluatedProperties") ms none.0,
  none-walked unevaluated_as_additional (codes "unevaluatedProperties") ms none.1,
  nones-walked unevaluated_as_additional of_draft2019_09 ms none.2,
)

pub unevaluated_properties : (key : Text) (d : Dialect) → key ≢ codes "unevaluatedProperties" → key ≢ codes "additionalProperties"
    → key ≢ codes "properties" → Change unevaluated_as_additional key (with_unevaluated d) (without_unevaluated d) HasNoUnevaluated
unevaluated_properties key d rest additional properties = record {
  schema = schema-unevaluated;
  of_truth = λ c b is. truth-judge c b;
  of_object = λ c ms is none. judge-unevaluated c d (walked unevaluated_as_additional ms) is (none-kept ms none);
  definitions = λ ms. definitions-stay key ms rest additional properties;
}
