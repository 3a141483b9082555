-- Words that many proofs of this crate name.
pub use Rattle.schemars_schema.proofs.Containers.{array-as_array, not_array, not_object, object-as_object}
pub use Rattle.schemars_schema.specs.Json.{Text}
pub use Rattle.schemars_schema.specs.References.{NoSchemas, Place, SchemaList, SchemaOrList, SchemasByName, place_under}
pub use Rattle.schemars_schema.specs.SchemaData.{IsSchema}
pub use Rattle.schemars_text.proofs.Lists.{nothing_left}
pub use Rattle.schemars_walk.specs.Order.{InOrder}
pub use Rattle.schemars_walk.specs.Parts.{all_unread, in_places, member_places}
pub use Rattle.schemars_walk.specs.Rewritten.{Rules, as_schema_in, form_at, read_at, rewritten, with_subschemas}
unfoldable pub use Rattle.schemars_walk.specs.Rewritten.{forms, in_items, in_keywords, in_names}
pub use Rattle.schemars_walk.specs.Walk.{Answer, AtList, AtNames, AtPlace, AtSchema, AtSchemaOrList, EachItem, EachMember, TransformStep, Visited, Walked, place_meant}
unfoldable pub use Rattle.schemars_walk.specs.Walk.{Recursed}
pub use Rattle.serde_json.proofs.Views.{Entry, view-Array, view-Object}
pub use Rattle.serde_json.specs.Data.{Data, Items, Members, array, boolean, depth, item, items_depth, member, members_depth, no_items, no_members, object, put}
pub use Rattle.serde_json.specs.Find.{as_array, as_object, get_member}
pub use Rattle.serde_json.specs.View.{items_view, members_view, view}
pub use Rattle.std.proofs.lemmas.Cmp.{nat_list_cmp_total}
pub use Rattle.std.proofs.lemmas.List.{length-set, with_items_is}
pub use Rattle.std.proofs.lemmas.Map.Entries.{length-keys_of, length-values_of}
pub use Rattle.std.proofs.lemmas.Map.Text.{is_eq-slice_cmp}
pub use Rattle.std.proofs.lemmas.Result.{err_from_is_err_and, on_ok_weaker}
pub use Rattle.std.proofs.lemmas.Slice.Eq.{bytes_eq-Decides}
pub use Rattle.std.specs.BTreeMap.{insert_entry}
pub use Rattle.std.specs.BTreeMap.IterMut.{values_mut_rest}
pub use Rattle.std.specs.Cmp.Lexicographic.{slice_cmp}
pub use Rattle.std.specs.List.{AllByRecursion}
unfoldable pub use Rattle.std.specs.List.Sorted.{IsStrictlySortedBy}
pub use Rattle.std.specs.Map.{keys_of, values_of}
pub use Rattle.std.specs.Map.Calls.{RetainsPairs}
pub use Rattle.std.specs.Ordering.{match_ordering, ordering_reverse}
pub use Rattle.std.specs.Vec.Iter.{into_iter_items}
