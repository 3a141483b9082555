-- Words that many proofs of this crate name.
pub use Rattle.schemars_belonging.specs.Asked.{Asked, Given, all_claims, allows, asked, bare, claimed, claims, external_claims, field_given, fits_of, given_named, given_of, has, has_beside_of, has_each_given, has_fields_of, has_payload_of, has_shape_of, has_values, internal_claims, is_unit, member_of, member_says, of_row, offers, one_of_seen, payload_in, shape_claims, still_needed, struct_of, tag_given, tagging_of, variant_in, variants_in}
pub use Rattle.schemars_literals.specs.Keys.{Said, allowed, either_said, nothing_said, said, said_by, said_of}
pub use Rattle.schemars_schema.proofs.MapEdits.{members_view-remove_entry}
pub use Rattle.schemars_schema.specs.Edits.{without}
pub use Rattle.schemars_schema.specs.Json.{Text}
pub use Rattle.schemars_schema.specs.Judges.{Patterns, matches}
pub use Rattle.schemars_shapes.specs.IntegerKeys.{pattern_of}
pub use Rattle.schemars_shapes.specs.Shape.{Entry, Field, Fields, Flattened, Payload, Required, Shape, Variant, adjacent_view, by_name, by_tag, enum, field_of, fields_of, flattened_of, internal_payload_of, internal_variant_of, internal_view, newtype_payload, no_payload, payload_of, struct_payload, tuple_payload, variant_of}
pub use Rattle.schemars_shapes.specs.Units.{is_bare_unit}
pub use Rattle.schemars_text.proofs.FixedMembers.{is_listed-append}
pub use Rattle.schemars_text.proofs.Members.{bytes_eq_comm}
pub use Rattle.schemars_text.specs.OrderedText.{is_listed}
pub use Rattle.schemars_types.specs.Edges.{option_at}
pub use Rattle.schemars_types.specs.Effective.{effective, enum_at, expanded_shape_in, flattened_enums, flattened_fields, flattened_in, part_enums, part_fields, required_only_if, shape_enums, shape_fields, without_options}
unfoldable pub use Rattle.schemars_types.specs.Effective.{enums_within, fields_within}
pub use Rattle.schemars_types.specs.KeyOptions.{KeyOptions, any_text, distinct_options, either_integers, either_options, external_options, is_key_allowed, key_options, keys, member_options, members_options, once, or_any_text, shape_options}
unfoldable pub use Rattle.schemars_types.specs.KeyOptions.{options_within}
pub use Rattle.schemars_types.specs.Meaning.{Member, VariantMatch, are_members, claimed_by, each_of, every_item, every_member, every_part, exactly_one, excludes_key, external_choice, field_member, field_named, has_adjacent, has_each, has_external, has_fields, has_keys, has_member, has_members, has_members_with, has_tagged, has_variant, holds, internal_choice, is_key_of_match, is_required, is_tagged_map, is_text, matches_of, member_named, must_have, shape_choices, tag_member, tagged_fields}
unfoldable pub use Rattle.schemars_types.specs.Meaning.{belongs_within, choices_within}
pub use Rattle.schemars_types.specs.Rows.{Row, entry_at}
pub use Rattle.serde_json.proofs.Views.{view-Object}
pub use Rattle.serde_json.specs.Data.{Data, Members, object}
pub use Rattle.serde_json.specs.Find.{as_object, get_member}
pub use Rattle.serde_json.specs.View.{items_view, members_view, view}
pub use Rattle.std.proofs.Math.Bool.{or-false}
pub use Rattle.std.proofs.lemmas.List.{drop_more, map-append, nil_from_length}
pub use Rattle.std.proofs.lemmas.List.Folds.{list_any-append}
pub use Rattle.std.proofs.lemmas.Result.{on_ok_weaker}
pub use Rattle.std.proofs.lemmas.Slice.Eq.{bytes_eq-Decides}
pub use Rattle.std.specs.List.{AllZip, list_all, list_any}
pub use Rattle.std.specs.Option.{option_map_or}
pub use Rattle.std.specs.Prelude.{Bool, Err, IfOk, Ok, Result, bytes_eq, filter, if◌then◌else◌, is_some, not, option_and_then, ◌&&◌, ◌||◌}
pub use Rattle.std.specs.Slice.Iter.{iter_rest}
