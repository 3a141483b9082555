-- A walk keeps what is asked of schema objects before each transform of OpenAPI.
use Rattle.std.proofs.Common.{◌≡◌, Option, Some, None, Bool, true, false, codes, refl, ap, ◌∙◌}
use Rattle.schemars_laws.proofs.Words.{bytes_eq, if◌then◌else◌, ◌&&◌, is_some, option_and_then, Data, null, boolean, number, string, array, object, Members, as_bool, as_str, Text, IsSchema, NoSchemas, place_under, Rules, in_keywords, bool_rules, asked, asked_of_keywords, IsNamedBy, IsText, HasNone, of_draft06, of_draft2019_09, IsTextWith, Stands, IsForOpenApi, AfterNullable, AfterSiblings}
use Rattle.schemars_transform.specs.declared.built_in.bool_schemas.ReplaceBoolSchemas.{ReplaceBoolSchemas}
use Rattle.schemars_laws.proofs.Walking.{nones-walked, list-walked, items-walked}
use Rattle.schemars_laws.proofs.Looked.{change_rules, walked}
use Rattle.schemars_laws.proofs.Plain.{Alike, alike-walked}
use Rattle.schemars_laws.proofs.Preserved.{Preserves, change-preserves}
use Rattle.schemars_laws.proofs.Editing.{type-alike, values-alike, const-alike, stands-alike}

-- ---- what stands under `$ref`

pub text-alone : (N : Text → Type 0) (o : Option Data) → IsTextWith N o → IsText o
text-alone N None is = tt
text-alone N (Some (string t)) is = tt
text-alone N (Some null) is = absurd is
text-alone N (Some (boolean b)) is = absurd is
text-alone N (Some (number n)) is = absurd is
text-alone N (Some (array ds)) is = absurd is
text-alone N (Some (object es)) is = absurd is

pub text-named : (N : Text → Type 0) (o : Option Data) → IsTextWith N o → IsNamedBy N (option_and_then as_str o)
text-named N None is = tt
text-named N (Some (string t)) is = is
text-named N (Some null) is = absurd is
text-named N (Some (boolean b)) is = absurd is
text-named N (Some (number n)) is = absurd is
text-named N (Some (array ds)) is = absurd is
text-named N (Some (object es)) is = absurd is

-- ---- walks, and changes of every schema

-- all keywords but `additionalProperties`
abbrev pub IsEntered : Text → Type 0
IsEntered k = bytes_eq k (codes "additionalProperties") ≡ false

pub goes-down-here : (f : Data → Data) (r : Unit {0}) (k : Text) (d : Data) → IsEntered k → (change_rules f).place r k d ≡ place_under k
goes-down-here f r k d entered = refl

module _ {R : Type 0} (ρ : Rules R)
    (place : (r : R) (k : Text) (d : Data) → IsEntered k → ρ.place r k d ≡ place_under k)
    (schema : (r : R) (s : Data) → IsSchema s → IsSchema (ρ.finish r s)) (N : Text → Type 0) (r : R) (ms : Members) where
  abbrev ns : Members
  ns = in_keywords ρ r ms

  same : (k : Text) → IsEntered k → place_under k ≡ NoSchemas → Alike k ns ms
  same k entered none = alike-walked ρ IsEntered place r k ms entered none

  newer : HasNone of_draft06 ms → HasNone of_draft06 ns
  newer none = nones-walked ρ IsEntered place r of_draft06 ms none

  pub first-walked : IsForOpenApi ms → IsForOpenApi ns
  first-walked is = record {
    unevaluated = (
      (same (codes "unevaluatedProperties") refl refl).others ∙ is.unevaluated.0,
      (same (codes "unevaluatedProperties") refl refl).first
          ∙ is.unevaluated.1,
      nones-walked ρ IsEntered place r of_draft2019_09 ms is.unevaluated.2,
    );
    type = type-alike ns ms (same (codes "type") refl refl) (same (codes "nullable") refl refl) (same (codes "const") refl refl) is.type;
    values = values-alike ns ms (same (codes "type") refl refl) (same (codes "enum") refl refl) is.values;
    all_of = list-walked ρ IsEntered place schema r (codes "allOf") ms refl refl is.all_of;
    const = const-alike ns ms (same (codes "const") refl refl) (same (codes "enum") refl refl) (newer is.const.2)
        is.const;
    items = items-walked ρ IsEntered place schema refl refl r ms is.items;
  }

  pub nullable-walked : AfterNullable ms → AfterNullable ns
  nullable-walked is = (
    list-walked ρ IsEntered place schema r (codes "allOf") ms refl refl is.0,
    const-alike ns ms (same (codes "const") refl refl) (same (codes "enum") refl refl) (newer is.1.2) is.1,
    items-walked ρ IsEntered place schema refl refl r ms is.2,
  )

  pub siblings-walked : AfterSiblings ms → AfterSiblings ns
  siblings-walked is = (
    const-alike ns ms (same (codes "const") refl refl) (same (codes "enum") refl refl) (newer is.0.2) is.0,
    items-walked ρ IsEntered place schema refl refl r ms is.1,
  )

  pub stands-walked : (Q : Members → Type 0) → (Q ms → Q ns) → Stands N Q ms → Stands N Q ns
  stands-walked Q own is =
      stands-alike N Q Q ns ms (same (codes "$ref") refl refl) (own is.own) is

-- a change of every schema keeps a class by what it makes of one whose subschemas are done
pub by_change : (f : Data → Data) (N : Text → Type 0) (P Q : Members → Type 0) → ((s : Data) → IsSchema s → IsSchema (f s))
    → ((b : Bool) → (asked (Stands N Q) (f (boolean b))).as_schema)
    → ((ms : Members) → P ms → P (walked f ms))
    → ((ns : Members) → Stands N P ns → asked_of_keywords (Stands N Q) ns → (asked (Stands N Q) (f (object ns))).as_schema)
    → Preserves (change_rules f) (Stands N P) (Stands N Q)
by_change f N P Q schema truth kept done =
    change-preserves f (Stands N P) (Stands N Q) schema truth
    (λ ms is a. done (walked f ms) (stands-walked (change_rules f) (goes-down-here f) (λ r s is. schema s is) N tt ms P (kept ms) is) a)

pub place-bool : (r : ReplaceBoolSchemas) (k : Text) (d : Data) → IsEntered k → bool_rules.place r k d ≡ place_under k
place-bool r k d apart =
    ap (λ b. if r.skip_additional_properties && (b && is_some (as_bool d)) then NoSchemas else place_under k) apart
    ∙ go r.skip_additional_properties
  where
    go : (b : Bool) → (if b && (false && is_some (as_bool d)) then NoSchemas else place_under k) ≡ place_under k
    go true = refl
    go false = refl
