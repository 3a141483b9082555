-- Words that many proofs of this crate name.
pub use Prim.Native.String.{String}
pub use Rattle.indexmap.specs.IndexMap.{insert_entry, set_value_at}
pub use Rattle.indexmap.specs.IndexSet.{insert_all, insert_key}
pub use Rattle.schemars_cycles.proofs.GraphLemmas.{Contains-later, nothing_among, targets_in-within, walk_along, walk_under, walk_within}
pub use Rattle.schemars_cycles.proofs.Heights.{IsWithin, longest-below, longest-bound, longest_falls}
pub use Rattle.schemars_cycles.specs.Search.{Graph, IsClosed, targets_in}
pub use Rattle.schemars_cycles.specs.Walks.{IsFree, IsLeast, Leads, OnCycle, Walk, one, then}
pub use Rattle.schemars_schema.proofs.JsonLiterals.{at_key, entry, list, minus_one, text, whole}
pub use Rattle.schemars_schema.specs.Assertions.{texts_in}
pub use Rattle.schemars_schema.specs.Json.{Text}
unfoldable pub use Rattle.schemars_schema.specs.Json.{alike}
pub use Rattle.schemars_schema.specs.Judges.{Patterns}
pub use Rattle.schemars_schema.specs.SchemaData.{inserted, object_of}
pub use Rattle.schemars_shapes.proofs.EqualEntries.{same_entry}
pub use Rattle.schemars_shapes.proofs.FieldLemmas.{Contains-from_any}
pub use Rattle.schemars_shapes.proofs.SelfEqual.{entry_eq-refl}
pub use Rattle.schemars_shapes.specs.Decimals.{entry_has_float}
pub use Rattle.schemars_shapes.specs.Equality.{entry_eq}
pub use Rattle.schemars_shapes.specs.Repeated.{AreDistinctLists, IsFirstRepeated, IsRepeated}
pub use Rattle.schemars_shapes.specs.Shape.{Entry, Field, Fields, Payload, Shape, Tagging, Variant, adjacent_view, any, asked_numbers, bare_fields, by_name, by_nothing, by_tag, by_tag_and_content, entry_of, enum, flattened_numbers, flattened_rows, in_place, int, internal_variant_of, internal_view, literal, names_of, needed, newtype, newtype_payload, no_payload, non_zero, numbers_of, of_variants, option_of, payload_beside, payload_flattened, payload_numbers, payload_of, payload_same, payload_same_by, same_value_numbers, shape_of, struct, struct_payload, tuple, tuple_payload, variant_of, without_notes}
pub use Rattle.schemars_shapes.specs.Units.{is_bare_unit}
pub use Rattle.schemars_text.proofs.Members.{bytes_eq_comm}
pub use Rattle.schemars_types.specs.EdgeKind.{Ascends, LeadsOn, targets_along, targets_from}
pub use Rattle.schemars_types.specs.Edges.{DirectEdge, RefersWithin, SameValueEdge, asked_at, asked_in, below, below_all, below_within, is_inline_at, is_row, names_at, numbers_at, option_at, same_value_numbers_at}
unfoldable pub use Rattle.schemars_types.specs.Edges.{direct_targets, height, rank, same_value_targets}
pub use Rattle.schemars_types.specs.Effective.{without_options_within}
unfoldable pub use Rattle.schemars_types.specs.Effective.{enums_within, fields_within}
pub use Rattle.schemars_types.specs.Extends.{begins_with, row_eq, rows_have_float}
pub use Rattle.schemars_types.specs.Faults.{HasRepeated, IsAccepted, IsChecked, IsUndefined, OnDirectCycle, OnEmptyCycle}
pub use Rattle.schemars_types.specs.Found.{AreAmong, AreListed, HoldsRows, adding, options_at, options_of, some_takes_all}
pub use Rattle.schemars_types.specs.KeyOptions.{KeyOptions, all_options, any_text, are_names, distinct_options, either_integers, either_options, external_options, is_key_allowed, key_options, keys, literal_options, literal_texts, member_options, members_options, once, or_any_text, shape_options, tagged_options, texts_options, typed_options, untagged_options}
unfoldable pub use Rattle.schemars_types.specs.KeyOptions.{options_within}
pub use Rattle.schemars_types.specs.LaterRows.{EdgeFrom, FaultFrom, HasTargets, counted_from}
pub use Rattle.schemars_types.specs.Meaning.{belongs}
unfoldable pub use Rattle.schemars_types.specs.Meaning.{belongs_within}
pub use Rattle.schemars_types.specs.Names.{is_text_id, tuple_id, tuple_name}
pub use Rattle.schemars_types.specs.Refusals.{Refuses, Registers, refusal_of}
pub use Rattle.schemars_types.specs.Rows.{HasDistinctIds, Row, defined, entry_at, holds_another, id_at, name_at, place_of, reserved, unknown_in}
pub use Rattle.schemars_types.specs.Slots.{SameSlot, row_of}
pub use Rattle.schemars_types.specs.Times.{RefusesTime, RegistersInt, refuses_time, refuses_u32, time_entry}
pub use Rattle.schemars_types.specs.Version.{version_pattern}
pub use Rattle.serde_json.specs.Data.{Data, Items, Members, array, boolean, float, item, member, negative, no_items, no_members, null, number, object, string, unsigned}
pub use Rattle.serde_json.specs.Find.{as_bool, as_str, get}
pub use Rattle.serde_json.specs.View.{items_view}
pub use Rattle.std.proofs.Math.Bool.{or-false, or_assoc}
pub use Rattle.std.proofs.lemmas.Bool.{OnTrue_at, OnTrue_from, and_parts, cases_eq, cases_lt, eqb-true, leb-false, leb-true, lt-ltb, ltb-true, or_parts}
pub use Rattle.std.proofs.lemmas.Bool.Decides.{nat_tests}
pub use Rattle.std.proofs.lemmas.Cmp.{nat_list_eq_equiv}
pub use Rattle.std.proofs.lemmas.Fn.{filter_same}
pub use Rattle.std.proofs.lemmas.Grind.{common_steps}
pub use Rattle.std.proofs.lemmas.Iterator.Adapters.{position_from-zero}
pub use Rattle.std.proofs.lemmas.List.{drop_all, drop_more, take-map, take_all, take_more, with_items_is}
pub use Rattle.std.proofs.lemmas.List.Elements.{All-contains, Contains-append_cases, Contains-append_left, Contains-append_right}
pub use Rattle.std.proofs.lemmas.List.Folds.{list_any-append}
pub use Rattle.std.proofs.lemmas.Map.Keys.{IsDistinct-push, apart_from_distinct}
pub use Rattle.std.proofs.lemmas.Option.{MatchOption-at_none, MatchOption-at_some, get_or_from_slice_get, slice_get-get_or, slice_get-map, slice_get_past, slice_get_within}
pub use Rattle.std.proofs.lemmas.Result.{err_from_is_err_and}
pub use Rattle.std.proofs.lemmas.Slice.Eq.{bytes_eq-Decides}
pub use Rattle.std.specs.Bool.{OnTrue}
pub use Rattle.std.specs.Float.{fin}
unfoldable pub use Rattle.std.specs.Float.Ieee.{eq, le, lt}
pub use Rattle.std.specs.List.{AllByRecursion, AllZip, flat_map, join_by, list_all, list_any, position_from}
unfoldable pub use Rattle.std.specs.List.{IsDistinct}
pub use Rattle.std.specs.Map.{keys_of, values_of}
pub use Rattle.std.specs.Option.{MatchOption, option_eq, option_map_or}
pub use Rattle.std.specs.Prelude.{codes, is_none, is_some, nat_eq, negsuc, option_and_then, option_map, pos, ◌==◌}
pub use Rattle.std.specs.Str.{bytes_eq}
pub use Rattle.std.specs.String.{string_eq}
