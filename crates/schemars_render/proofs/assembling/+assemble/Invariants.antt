-- What is filled and what the rest becomes is what the whole becomes.
use Rattle.std.proofs.Common.{◌≡◌, ◌++◌, map, drop}
use Rattle.schemars_render.proofs.Words.{filled_in, left_in, templates_of, template_view, keyword_view, property_view, assembled_view, named_view}
use Rattle.schemars_render.proofs.FilledMembers.{GoesOn}
use Rattle.schemars_render.proofs.assembling.+assemble.Given as goal

abbrev pub invariant-assemble_object-loop-keyword : goal.invariant-assemble_object-loop-keyword
invariant-assemble_object-loop-keyword l =
    GoesOn keyword_view (drop l.keyword-index l.keyword-items) (map assembled_view l.answers.items) (map named_view l.members.items) l.keyword-items
    (map assembled_view l.fn.answers.items)

abbrev pub invariant-assemble_schemas-loop-schema : goal.invariant-assemble_schemas-loop-schema
invariant-assemble_schemas-loop-schema l = record {
  value : map assembled_view l.parts.items ++ filled_in (templates_of (map template_view (drop l.schema-index l.schema-items))) (map assembled_view l.answers.items)
      ≡ filled_in (templates_of (map template_view l.schema-items)) (map assembled_view l.fn.answers.items);
  left : left_in (templates_of (map template_view (drop l.schema-index l.schema-items))) (map assembled_view l.answers.items)
      ≡ left_in (templates_of (map template_view l.schema-items)) (map assembled_view l.fn.answers.items);
}

abbrev pub invariant-assemble_named-loop-named : goal.invariant-assemble_named-loop-named
invariant-assemble_named-loop-named l =
    GoesOn property_view (drop l.named-index l.named-items) (map assembled_view l.answers.items) (map named_view l.members.items) l.named-items
    (map assembled_view l.fn.answers.items)
