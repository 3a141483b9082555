-- What a transform makes of a schema is what its rules make.
use Rattle.std.proofs.Common.{◌≡◌, Bool, true, refl}
use Rattle.schemars_parts.proofs.Words.{Data, boolean, Text, place_under, everywhere, all_changed, forms, is_local, bool_rules, without_siblings, with_single_example, const_as_enum, prefix_as_items, function_of, with_nullable, unevaluated_as_additional, same_rewritten, changed_place, changed_one, rules_of, forms_by, null, number, string, array, object, Place, NoSchemas, OneSchema, SchemaList, SchemaOrList, SchemasByName, form_at, IsScalar}
use Rattle.schemars_transform.specs.declared.built_in.bool_schemas.ReplaceBoolSchemas as bools
use Rattle.schemars_transform.specs.declared.gen_transform.GenTransform.{GenTransform}
use Rattle.schemars_transform.specs.declared.gen_transform.GenTransform.TheVariants.{ReplaceBoolSchemas, RemoveRefSiblings, SetSingleExample, ReplaceConstValue, ReplacePrefixItems, AddNullable, ReplaceUnevaluatedProperties, RestrictFormats, Own}

module _ {O : Type 0} (t : GenTransform O) (change : Data → Data) where
  -- a change that is the same at every schema
  same_everywhere : (s : Data) → ((k : Text) (d : Data) → changed_place t k d ≡ place_under k) → ((d : Data) → changed_one t d ≡ change d)
      → (forms_by t s).as_schema ≡ all_changed change s
  same_everywhere s places one =
      same_rewritten (everywhere {R = Unit {0}} (λ r d. change d)) rules_of (λ r. t) (λ r d. refl) (λ r k d. places k d) (λ r d. one d) s tt

pub made_by_rules : {O : Type 0} (t : GenTransform O) (s : Data) → is_local t ≡ true → (forms_by t s).as_schema ≡ function_of t s
made_by_rules (ReplaceBoolSchemas t) s h =
    same_rewritten bool_rules rules_of ReplaceBoolSchemas (λ r d. refl) (λ r k d. refl) (λ r d. refl) s t
made_by_rules (RemoveRefSiblings t) s h = same_everywhere (RemoveRefSiblings t) without_siblings s (λ k d. refl) (λ d. refl)
made_by_rules (SetSingleExample t) s h = same_everywhere (SetSingleExample t) with_single_example s (λ k d. refl) (λ d. refl)
made_by_rules (ReplaceConstValue t) s h = same_everywhere (ReplaceConstValue t) const_as_enum s (λ k d. refl) (λ d. refl)
made_by_rules (ReplacePrefixItems t) s h = same_everywhere (ReplacePrefixItems t) prefix_as_items s (λ k d. refl) (λ d. refl)
made_by_rules (AddNullable t) s h = same_everywhere (AddNullable t) (with_nullable t) s (λ k d. refl) (λ d. refl)
made_by_rules (ReplaceUnevaluatedProperties t) s h =
    same_everywhere (ReplaceUnevaluatedProperties t) unevaluated_as_additional s (λ k d. refl) (λ d. refl)
made_by_rules (RestrictFormats t) s h = cc
made_by_rules (Own t) s h = cc

-- a truth value stays, unless truth values are replaced
pub truth_stays : {O : Type 0} (t : GenTransform O) (b : Bool) → ((x : bools.ReplaceBoolSchemas) → t ≡ ReplaceBoolSchemas x → ⊥)
    → (forms_by t (boolean b)).as_schema ≡ boolean b
unfolding forms
truth_stays (ReplaceBoolSchemas t) b other = absurd (other t refl)
truth_stays _ b other = refl

-- a scalar stays at every place
pub scalar_stays : {O : Type 0} (t : GenTransform O) (d : Data) → IsScalar d → (p : Place) → d ≡ form_at p d (forms_by t d)
unfolding forms
scalar_stays t null s NoSchemas = refl
scalar_stays t null s OneSchema = refl
scalar_stays t null s SchemaList = refl
scalar_stays t null s SchemaOrList = refl
scalar_stays t null s SchemasByName = refl
scalar_stays t (boolean b) s p = absurd s
scalar_stays t (number n) s NoSchemas = refl
scalar_stays t (number n) s OneSchema = refl
scalar_stays t (number n) s SchemaList = refl
scalar_stays t (number n) s SchemaOrList = refl
scalar_stays t (number n) s SchemasByName = refl
scalar_stays t (string x) s NoSchemas = refl
scalar_stays t (string x) s OneSchema = refl
scalar_stays t (string x) s SchemaList = refl
scalar_stays t (string x) s SchemaOrList = refl
scalar_stays t (string x) s SchemasByName = refl
scalar_stays t (array ds) s p = absurd s
scalar_stays t (object ms) s p = absurd s
