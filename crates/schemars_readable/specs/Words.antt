-- Words that many contracts of this crate name.
pub use Rattle.schemars_readable.specs.Expressions.{AreOwn, IsReadFrom, IsRefusalAmong, asked_of, each_name, named, names_at, patterns_in, patterns_of, text_at, with_patterns}
pub use Rattle.schemars_readable.specs.Following.{AreFollowed, IsGrown, leads_to}
pub use Rattle.schemars_readable.specs.Forms.{are_names, are_schemas, are_some_schemas, are_types, before_2020_12, each_member, form_in_dialect, form_of, has_form, in_all, in_draft07, in_draft2020_12, in_drafts, in_openapi3, is_above_zero, is_list, is_malformed, is_map, is_one_type, is_schema_in, is_schema_or_names, is_types, row_of, since_2019_09}
pub use Rattle.schemars_readable.specs.Standing.{StandsAt, escaped, escaped_character, item_place, member_place, reference_of, schemas_at, schemas_inside, schemas_listed, schemas_named, schemas_referred, schemas_under, standing}
pub use Rattle.schemars_readable.specs.Unread.{is_inner_id, is_open_divisor, is_other_dialect, is_own, is_told, is_unread_at, leads_nowhere, leaves_open, told, unread_among, unread_keyword, unread_of, with_new}
pub use Rattle.schemars_schema.specs.Json.{Text}
pub use Rattle.schemars_text.specs.OrderedText.{is_listed}
pub use Rattle.serde_json.specs.Data.{Members}
pub use Rattle.serde_json.specs.View.{items_view, members_view, number_view, view}
