-- Words that many contracts of this crate name.
pub use Rattle.schemars_builders.specs.AllowNull.{allow_null}
pub use Rattle.schemars_documents.specs.Documents.{bytes_document}
pub use Rattle.schemars_sample.specs.Accepted.{AcceptsExample}
pub use Rattle.schemars_sample.specs.Example.{entries_view, example_of, examples_view}
pub use Rattle.schemars_sample.specs.SampleJson.{are_bytes, entries_json, items_json, json_array, json_named, sample_json, whole_json}
pub use Rattle.schemars_sample.specs.SampleSchema.{choice_among, each_once, entry_schemas, is_everything, is_seen, item_schemas, one_beside, sample_root, sample_schema, shared_by, value_schemas, with_name}
pub use Rattle.schemars_schema.specs.Json.{json_same}
pub use Rattle.schemars_schema.specs.SchemaData.{inserted}
pub use Rattle.schemars_templates.specs.Finished.{type_alone}
pub use Rattle.serde_json.specs.Data.{no_members, number, object, unsigned}
pub use Rattle.serde_json.specs.View.{items_view, view}
