-- Words that many contracts of this crate name.
pub use Rattle.schemars_builders.specs.AllowNull.{accepts_everything, allow_null, const_admits_null, const_or_null, enum_admits_null, enum_with_null, holds_null, holds_null_schema, is_combined, is_null_choice, is_null_schema, null_in_enum, null_in_type, null_in_values, null_schema, offers_null, or_null, type_with_null}
pub use Rattle.schemars_builders.specs.Keywords.{includes_type, names_type, validates, with_metadata, with_validation}
pub use Rattle.schemars_builders.specs.NullLaw.{AcceptsNullToo, IsDraft, IsNullable}
pub use Rattle.schemars_builders.specs.Pattern.{escaped}
pub use Rattle.schemars_builders.specs.Properties.{closed_where, has_null_type, internally_tagged_variant, required_first, required_last, required_unless, tagged, with_object_property, with_property}
pub use Rattle.schemars_schema.specs.Assertions.{is_null}
pub use Rattle.schemars_schema.specs.Dialects.{Dialect}
pub use Rattle.schemars_schema.specs.Edits.{with_first, with_member}
pub use Rattle.schemars_schema.specs.SchemaData.{inserted, members_in}
pub use Rattle.serde_json.specs.Data.{Data, array, item, no_items, object, put, string}
pub use Rattle.serde_json.specs.Find.{as_bool, as_object, as_str, get, get_member}
pub use Rattle.serde_json.specs.View.{items_view, members_view, view}
