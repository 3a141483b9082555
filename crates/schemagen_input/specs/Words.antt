-- Words that many contracts of this crate name.
pub use Rattle.json.specs.Json.{items, members, value}
pub use Rattle.schemagen_input.specs.Gathered.{AreOfEnum, AreOfField, AreOfRow, AreOfStruct, AreOfTagged, AreOfVariant, can_be_lone}
pub use Rattle.schemagen_input.specs.Input.{heading_in, input_of, is_complete, is_table, table_in, table_names, unentered}
pub use Rattle.schemagen_input.specs.Listing.{AreBegun, AreListed, AreMembersOf, BeginsNoTable, IsListIn, IsListing, IsNoTable, IsRowIn, IsTableOf}
pub use Rattle.schemagen_input.specs.SampleInput.{IsAsRead, items_input, members_input, number_input, sample_input}
pub use Rattle.schemagen_input.specs.Texts.{IsBadTable, IsNoJson, IsTableText}
pub use Rattle.schemagen_input.specs.Tokens.{AreOfObject, IsNext, IsNoValue, listed, with_last}
pub use Rattle.schemagen_input.specs.Written.{CanBeWritten, json_of}
pub use Rattle.schemagen_json.specs.BorrowedValue.{data_of}
pub use Rattle.schemagen_shapes.specs.Forms.{adjacent_in, enum_in, external_in, externally_tagged, field_in, fields_said, flattened_from, internal_in, internal_variant_in, number_in, parts_from, read_each, required_in, untagged_in, variant_in}
pub use Rattle.schemars_sample.specs.Example.{entries_view, example_of, examples_view}
pub use Rattle.schemars_sample.specs.SampleJson.{sample_json}
pub use Rattle.schemars_schema.specs.Json.{Text}
pub use Rattle.schemars_shapes.specs.Shape.{entry_of, field_of, fields_of, flattened_of, internal_variant_of, required_of, shape_of, variant_of}
pub use Rattle.schemars_types.specs.Rows.{Row}
pub use Rattle.serde_json.specs.Data.{Data, Members, float, no_members, object, put}
pub use Rattle.serde_json.specs.Find.{as_bool, as_object, as_str}
pub use Rattle.serde_json.specs.Read.{converted, of_items, of_members}
pub use Rattle.serde_json.specs.View.{items_of, items_view, members_view, number_view, view}
