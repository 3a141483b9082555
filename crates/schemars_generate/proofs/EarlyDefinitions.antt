-- Definitions that the transforms of OpenAPI change one by one.
use Rattle.std.proofs.Common.{◌≡◌, List, true, inr, Ok, refl, ap, ◌∙◌, subst}
use Rattle.schemars_generate.proofs.Words.{Data, Members, no_members, TransformStep, ApplyInOrder, Transforms, null, boolean, object, member, AtSchema, for_openapi3, are_local, value_made_by, each_made_by, makes_in_order, each_made, transforms_openapi3, AreThrough, forms}
use Rattle.schemars_transform.specs.declared.gen_transform.GenTransform.{GenTransform}

pub local_openapi3 : (O : Type 0) → are_local {O = O} transforms_openapi3 ≡ true
local_openapi3 O = refl

value_made : (O : Type 0) (d : Data) → value_made_by {O = O} transforms_openapi3 d ≡ for_openapi3 d
unfolding forms
value_made O null = refl
value_made O _ = refl

each_is : (O : Type 0) (ms : Members) → each_made_by {O = O} transforms_openapi3 ms ≡ each_made for_openapi3 ms
each_is O no_members = refl
each_is O (member k d ms) =
    ap (λ e. member k e (each_made_by {O = O} transforms_openapi3 ms)) (value_made O d)
    ∙ ap (member k (for_openapi3 d)) (each_is O ms)

module _ {O : Type 0} (Q : TransformStep O) (ts : Transforms O) (is : ts.items ≡ transforms_openapi3) where
  local : are_local ts.items ≡ true
  local = ap are_local is ∙ local_openapi3 O

  at_each : (d : Data) → AtSchema (ApplyInOrder Q) ts d (Ok tt) ts (value_made_by ts.items d)
  at_each (boolean b) = makes_in_order Q ts.items (boolean b) local
  at_each (object ms) = makes_in_order Q ts.items (object ms) local
  at_each _ = (refl, refl, refl)

  by_list : (ms : Members) → AreThrough (ApplyInOrder Q) ts ts ms (each_made_by ts.items ms)
  by_list no_members = (refl, refl, refl)
  by_list (member k d ms) =
      (Ok tt, ts, value_made_by ts.items d, at_each d, inr (each_made_by ts.items ms, by_list ms, refl))

  -- what is made of each is what the list makes of all
  pub each_through : (ms : Members) → AreThrough (ApplyInOrder Q) ts ts ms (each_made for_openapi3 ms)
  each_through ms = subst (AreThrough (ApplyInOrder Q) ts ts ms)
      (ap (λ (xs : List (GenTransform O)). each_made_by xs ms) is ∙ each_is O ms) (by_list ms)
