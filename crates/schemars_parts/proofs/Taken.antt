-- A part that is changed goes behind those that were changed before it.
use Rattle.std.proofs.Common.{◌≡◌, ◌++◌, List, [], ◌∷◌, Bor, Global, Vec, refl, ap, ◌∙◌}
use Rattle.schemars_parts.proofs.Words.{Text, object, in_items, in_keywords, in_names, assembled_view, items_assembled, members_assembled, rules_of, item, member, Place, form_at, forms, changed_one, changed_place, forms_by}
use Rattle.schemars_transform.specs.declared.gen_transform.GenTransform.{GenTransform}
use Rattle.schemars_parts.specs.declared.assembled.Assembled.{Assembled}
use Rattle.schemars_parts.specs.declared.assembled.Assembled as part
use Rattle.schemars_parts.proofs.Entries.{Entry}
use Rattle.schemars_parts.proofs.Lists.{members_before, before_more, items_before, one_behind}
use Rattle.schemars_parts.proofs.PartViews.{seen_object}

module _ {O : Type 0} (t : GenTransform O) where
  pub keyword_taken : (done next left : List Entry) (name : Bor Text) (old new : Assembled) (place : Place)
      → place ≡ changed_place t name.now (assembled_view old) → assembled_view new ≡ form_at place (assembled_view old) (forms_by t (assembled_view old))
      → next ≡ done ++ (name, new) ∷ []
      → members_before next (in_keywords rules_of t (members_assembled left))
      ≡ members_before done (in_keywords rules_of t (members_assembled ((name, old) ∷ left)))
  unfolding in_keywords
  keyword_taken done next left name old new place at made pushed =
      let rest = in_keywords rules_of t (members_assembled left) in
      ap (λ es. members_before es rest) pushed
      ∙ (before_more done (name, new) rest
      ∙ ap (λ d. members_before done (member name.now d rest)) (made
      ∙ ap (λ p. form_at p (assembled_view old) (forms_by t (assembled_view old))) at))

  pub name_taken : (done next left : List Entry) (name : Bor Text) (old new : Assembled)
      → assembled_view new ≡ (forms_by t (assembled_view old)).as_schema → next ≡ done ++ (name, new) ∷ []
      → members_before next (in_names rules_of t (members_assembled left))
      ≡ members_before done (in_names rules_of t (members_assembled ((name, old) ∷ left)))
  unfolding in_names
  name_taken done next left name old new made pushed =
      let rest = in_names rules_of t (members_assembled left) in
      ap (λ es. members_before es rest) pushed
      ∙ (before_more done (name, new) rest ∙ ap (λ d. members_before done (member name.now d rest)) made)

  pub item_taken : (done next left : List Assembled) (old new : Assembled)
      → assembled_view new ≡ (forms_by t (assembled_view old)).as_schema → next ≡ done ++ new ∷ []
      → items_before next (in_items rules_of t (items_assembled left))
      ≡ items_before done (in_items rules_of t (items_assembled (old ∷ left)))
  unfolding in_items
  item_taken done next left old new made pushed =
      let rest = in_items rules_of t (items_assembled left) in
      ap (λ ps. items_before ps rest) pushed
      ∙ (one_behind done new rest ∙ ap (λ d. items_before done (item d rest)) made)

  pub object_made : (m : Vec Entry Global) (p : Assembled) → p ≡ part.Object m
      → changed_one t (object (in_keywords rules_of t (members_assembled m.items))) ≡ (forms_by t (assembled_view p)).as_schema
  unfolding forms
  object_made m p is = rw (is, seen_object m) refl
