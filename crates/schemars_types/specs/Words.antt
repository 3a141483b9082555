-- Words that many contracts of this crate name.
pub use Rattle.indexmap.specs.IndexMap.{insert_entry}
pub use Rattle.schemars_cycles.specs.Walks.{IsFree, IsLeast, Leads, OnCycle}
pub use Rattle.schemars_schema.specs.Assertions.{texts_in}
pub use Rattle.schemars_schema.specs.SchemaData.{inserted}
pub use Rattle.schemars_shapes.specs.Equality.{entry_eq}
pub use Rattle.schemars_shapes.specs.IntKind.{format_of, non_zero_name}
pub use Rattle.schemars_shapes.specs.Repeated.{AreDistinctLists, IsFirstRepeated}
pub use Rattle.schemars_shapes.specs.Shape.{array_of, entry_of, in_place, newtype_payload, numbers_of, of_variants, payload_of, payload_same, shape_of, variant_of, without_notes}
pub use Rattle.schemars_types.specs.EdgeKind.{Ascends, LeadsOn, targets_along, targets_from}
pub use Rattle.schemars_types.specs.Edges.{RefersWithin, SameValueEdge, asked_in, below, is_inline_at, is_row, names_at, numbers_at}
pub use Rattle.schemars_types.specs.Extends.{begins_with, rows_have_float}
pub use Rattle.schemars_types.specs.Faults.{IsChecked}
pub use Rattle.schemars_types.specs.Found.{HoldsRows, adding, options_at, options_of, some_takes_all}
pub use Rattle.schemars_types.specs.KeyOptions.{all_options, are_names, external_options, key_options, keys, literal_integers, literal_texts, member_options, or_any_text, texts_options, typed_options, untagged_options}
pub use Rattle.schemars_types.specs.LaterRows.{EdgeFrom, FaultFrom, HasTargets, counted_from}
pub use Rattle.schemars_types.specs.Names.{array_id, array_name, bound_id, bound_name, either_id, either_name, map_id, map_name, non_zero_id, option_id, option_name, range_id, range_name, result_id, result_name, seq_id, seq_name, set_id, set_name, tuple_id, tuple_name, up_to_id, up_to_name}
pub use Rattle.schemars_types.specs.Refusals.{Refuses, Registers, first_unknown, refusal_of}
pub use Rattle.schemars_types.specs.Rows.{HasDistinctIds, defined, entry_at, id_at, name_at, place_of, reserved, unknown_in}
pub use Rattle.schemars_types.specs.Slots.{row_of}
pub use Rattle.schemars_types.specs.Times.{RefusesTime, RegistersTime}
pub use Rattle.schemars_types.specs.Undefined.{IsUndefined}
pub use Rattle.schemars_types.specs.Version.{version_schema}
pub use Rattle.serde_json.specs.Data.{string}
pub use Rattle.serde_json.specs.Find.{as_str, get}
pub use Rattle.serde_json.specs.View.{items_view}
pub use Rattle.std.specs.Bool.{OnTrue}
pub use Rattle.std.specs.Option.{option_eq}
pub use Rattle.std.specs.Result.{result_err}
pub use Rattle.std.specs.String.{string_eq}
