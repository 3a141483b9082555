-- Words that many proofs of this crate name.
pub use Prim.Native.String.{String}
pub use Rattle.schemars_schema.proofs.Containers.{array-as_array, not_array, not_object, object-as_object}
pub use Rattle.schemars_schema.proofs.JsonLiterals.{empty, entry, list, one, text}
pub use Rattle.schemars_schema.proofs.MapEdits.{on_some}
pub use Rattle.schemars_schema.proofs.Members.{get_member-replaced_other, get_member-without}
pub use Rattle.schemars_schema.specs.Edits.{changed_at, holds_text, put_missing, removed, replaced, with_last, without}
pub use Rattle.schemars_schema.specs.Json.{Text}
pub use Rattle.schemars_schema.specs.References.{NoSchemas, OneSchema, Place, SchemaList, SchemaOrList, SchemasByName, place_under}
pub use Rattle.schemars_schema.specs.SchemaData.{IsSchema, inserted, members_in}
pub use Rattle.schemars_text.proofs.Lists.{from_here, items_shallow}
pub use Rattle.schemars_text.proofs.Members.{differ, get_member-later, get_member-member, unequal}
pub use Rattle.schemars_text.specs.OrderedText.{is_listed}
pub use Rattle.schemars_transform.specs.Apart.{IsTaken, are_local, definition_keys, is_local}
pub use Rattle.schemars_transform.specs.Built.{bool_rules, const_as_enum, first_as_example, old_items_moved, prefix_as_items, prefix_moved, reference_moved, referring, remove_ref_siblings, replace_bool_schemas, replace_const_value, replace_prefix_items, set_single_example, value_as_enum, with_single_example, without_siblings}
pub use Rattle.schemars_transform.specs.BuiltIn.{each_made_by, function_of, made_by, value_made_by}
pub use Rattle.schemars_transform.specs.Formats.{format_rules, restriction_rules}
pub use Rattle.schemars_transform.specs.Inner.{AtItems}
pub use Rattle.schemars_transform.specs.Member.{ApplyInOrder, AreCopies, IsCopy, OfMember, is_own, some_own}
pub use Rattle.schemars_transform.specs.Needs.{are_idle, is_changed, is_idle, keyword_named, needed_at, needs_of, place_asked, with_keyword}
unfoldable pub use Rattle.schemars_transform.specs.Needs.{needed, needed_by_items, needed_by_keywords, needed_by_names}
pub use Rattle.schemars_transform.specs.Nullable.{add_nullable, all_null, has_null, is_null_name, null_alone, null_among, null_taken_out, nullable_by, nulls_in, one_or_list, type_without_null, with_nullable, without_null}
pub use Rattle.schemars_transform.specs.Unevaluated.{Names, closed_by, keys, names_under, object_with_names, properties_made, properties_named, property_names, replace_unevaluated_properties, unevaluated_as_additional, with_names, with_properties}
unfoldable pub use Rattle.schemars_transform.specs.Unevaluated.{names_in, names_in_items, names_in_keywords}
pub use Rattle.schemars_walk.proofs.Orders.{order_begins, order_ends, order_goes_on, order_stops}
pub use Rattle.schemars_walk.proofs.Rewrites.{keywords_more, keywords_none}
pub use Rattle.schemars_walk.specs.Order.{InOrder}
pub use Rattle.schemars_walk.specs.Rewritten.{Forms, Rules, all_changed, everywhere, form_at, rewritten}
unfoldable pub use Rattle.schemars_walk.specs.Rewritten.{forms, in_items, in_keywords, in_names}
pub use Rattle.schemars_walk.specs.Walk.{Answer, AtSchema, EachMember, Next, TransformStep}
pub use Rattle.serde_json.proofs.Views.{Entry, get_member-put_other, members_len-members_view, view-Array, view-Object}
pub use Rattle.serde_json.specs.Data.{Data, Items, Members, array, boolean, depth, item, items_depth, member, members_depth, no_items, no_members, null, number, object, put, string, unsigned}
pub use Rattle.serde_json.specs.Events.{members_len}
pub use Rattle.serde_json.specs.Find.{as_array, as_bool, as_object, get, get_member}
pub use Rattle.serde_json.specs.View.{items_view, members_view, view}
pub use Rattle.std.proofs.Math.Seq.{take-suc}
pub use Rattle.std.proofs.lemmas.Bool.{and_parts, false≢true, or_parts}
pub use Rattle.std.proofs.lemmas.Fn.{filter_same}
pub use Rattle.std.proofs.lemmas.List.{length-set, take_all, with_items_is}
pub use Rattle.std.proofs.lemmas.List.Folds.{list_any-append}
pub use Rattle.std.proofs.lemmas.Map.Lookups.{exact_bytes}
pub use Rattle.std.proofs.lemmas.Option.{IfSome_then}
pub use Rattle.std.proofs.lemmas.Result.{err_from_is_err_and, on_ok_weaker}
pub use Rattle.std.proofs.lemmas.Slice.Eq.{bytes_eq-Decides}
pub use Rattle.std.proofs.lemmas.Slice.Zip.{all_zipped_more}
pub use Rattle.std.specs.BTreeSet.{BTreeSet}
pub use Rattle.std.specs.Cmp.Lexicographic.{slice_cmp}
pub use Rattle.std.specs.Global.{Global}
pub use Rattle.std.specs.Ordering.{match_ordering}
pub use Rattle.std.specs.Prelude.{IfSome, MatchResult, [], bytes_eq, codes, filter, if◌then◌else◌, is_some, not, ⊤, ◌&&◌, ◌++◌, ◌==◌, ◌||◌}
