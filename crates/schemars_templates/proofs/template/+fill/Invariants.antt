-- What is filled and what the rest becomes is what the whole becomes.
use Rattle.std.proofs.Common.{◌≡◌, ◌++◌, map, List}
use Rattle.schemars_templates.proofs.Words.{Data, Members, no_members, view, members_view, put_all, filled_in, left_in, left, keyed, KeywordTemplate, object_with, templates_of, template_view, keyword_view, property_view}
use Rattle.schemars_templates.proofs.template.+fill.Given as goal

-- these members, with those of the keywords put in
abbrev pub put_filled : List KeywordTemplate → List Data → Members → Members
put_filled es ts ms = put_all (keyed (map (λ e. e.0) es) (filled_in (templates_of (map (λ e. e.1) es)) ts)) ms

-- these keywords go into these members as all of them go into none
abbrev goes_on : {X : Type 0} → (X → KeywordTemplate) → List X → List Data → Members → List X → List Data → Type 0
goes_on see es ts ms all us = record {
  value : put_filled (map see es) ts ms ≡ put_filled (map see all) us no_members;
  left : left (object_with (map see es)) ts ≡ left (object_with (map see all)) us;
}

abbrev pub invariant-fill_object-loop-key : goal.invariant-fill_object-loop-key
invariant-fill_object-loop-key l =
    goes_on keyword_view l.key-iterator.rest.items l.parts.items (members_view l.members.entries) l.fn.keywords.items l.fn.parts.items

abbrev pub invariant-fill_schemas-loop-template : goal.invariant-fill_schemas-loop-template
invariant-fill_schemas-loop-template l = record {
  value : map view l.values.items ++ filled_in (templates_of (map template_view l.template-iterator.rest.items)) l.parts.items
      ≡ filled_in (templates_of (map template_view l.fn.schemas.items)) l.fn.parts.items;
  left : left_in (templates_of (map template_view l.template-iterator.rest.items)) l.parts.items
      ≡ left_in (templates_of (map template_view l.fn.schemas.items)) l.fn.parts.items;
}

abbrev pub invariant-fill_named-loop-name : goal.invariant-fill_named-loop-name
invariant-fill_named-loop-name l =
    goes_on property_view l.name-iterator.rest.items l.parts.items (members_view l.members.entries) l.fn.schemas.items l.fn.parts.items
