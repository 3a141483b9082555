-- Words that many contracts of this crate name.
pub use Rattle.schemars_schema.specs.Json.{Text}
pub use Rattle.schemars_schema.specs.References.{Place, keywords_with_names, place_under, with_list, with_schema}
pub use Rattle.schemars_text.specs.OrderedText.{is_listed}
pub use Rattle.schemars_walk.specs.Parts.{all_unread, in_places, member_places}
pub use Rattle.schemars_walk.specs.Rewritten.{Rules, as_schema_in, in_items, in_keywords, in_names, read_at, rewritten, with_subschemas}
pub use Rattle.schemars_walk.specs.Walk.{AtPlace, AtSchema, EachItem, EachMember, Visited, Walked, place_meant}
pub use Rattle.serde_json.specs.Data.{Data}
pub use Rattle.serde_json.specs.View.{items_view, members_view, view}
pub use Rattle.std.specs.BTreeMap.{insert_entry}
pub use Rattle.std.specs.Map.{keys_of, values_of}
pub use Rattle.std.specs.String.{string_cmp}
pub use Rattle.std.specs.Vec.Iter.{into_iter_items}
