-- Words that many contracts of this crate name.
pub use Rattle.schemars_belonging.specs.Asked.{all_claims, allows, asked, bare, claims, external_claims, field_given, fits_of, given_named, given_of, has, has_beside_of, has_each_given, has_fields_of, has_payload_of, has_shape_of, has_tagged_of, has_values, has_variant_of, internal_claims, is_unit, member_of, member_says, needed, offers, one_of_seen, payload_expanded, shape_claims, still_needed, struct_of, tag_given, tagging_of, values_of, variant_in, variants_in}
pub use Rattle.schemars_literals.specs.Keys.{allowed, any_said, said_by, said_of}
pub use Rattle.schemars_literals.specs.Limits.{within}
pub use Rattle.schemars_schema.specs.Assertions.{is_null}
pub use Rattle.schemars_schema.specs.Edits.{without}
pub use Rattle.schemars_shapes.specs.Shape.{adjacent_view, by_tag, fields_of, flattened_of, internal_payload_of, internal_variant_of, internal_view, payload_of, required_of, shape_of, variant_of}
pub use Rattle.schemars_shapes.specs.Units.{is_bare_unit}
pub use Rattle.schemars_text.specs.OrderedText.{is_listed}
pub use Rattle.schemars_types.specs.Effective.{effective, enum_at, expanded_shape_in, fields_within, flattened_in, part_fields}
pub use Rattle.schemars_types.specs.KeyOptions.{external_options, is_key_allowed, key_options, member_options, members_options, options_within, shape_options, untagged_options}
pub use Rattle.schemars_types.specs.Meaning.{are_members, belongs, each_of, every_item, every_part, exactly_one, external_choice, has_adjacent, has_content, has_external, has_internal, has_keys, has_member, has_members, has_tagged, has_variant, holds, internal_choice, is_required, is_tagged_map, is_text, matches_of, must_have, shape_choices, tagged_fields}
pub use Rattle.schemars_types.specs.Rows.{entry_at}
pub use Rattle.serde_json.specs.Data.{depth, object}
pub use Rattle.serde_json.specs.Find.{as_array, get_member}
pub use Rattle.serde_json.specs.View.{items_view, members_view, view}
pub use Rattle.std.specs.List.{list_all, list_any}
