-- Words that many proofs of this crate name.
pub use Prim.Native.String.{String}
pub use Rattle.schemars_flatten.specs.Flatten.{alone, appended, both_choices, contains_key, flattened, has_subschema, is_choice, is_joined, is_merged, joined, merged, moved, moved_beside, opened_keywords, opened_schema, united, united_all, with_choice, with_keyword, with_keywords, with_united}
pub use Rattle.schemars_flatten.specs.FlattenLaw.{AcceptsBoth, AreJoinable, are_apart, are_object_keywords, are_schemas, are_schemas_by_name, are_texts, has_keys_once, is_object_keyword, is_object_schema}
pub use Rattle.schemars_flatten.specs.Opening.{closed_at, closes, closes_by, closes_inside, has_type, level_inside, must_be_in_place, opened, opened_at, opened_here, opened_inside, opening, opening_by_level, same_object_place}
unfoldable pub use Rattle.schemars_flatten.specs.Opening.{closed_in, closed_in_items, closed_in_keywords}
pub use Rattle.schemars_flatten.specs.Parts.{behind_first, choice_or_anything, first_as_objects, first_units, flattened_part, holds_empty_object, is_empty_object, list_changed_at, one_or_anything, optional_where, unit_object, unit_object_first, unit_objects, units_as_objects, units_of, with_empty_object, with_items, with_units}
pub use Rattle.schemars_schema.proofs.Changes.{changed_missing, changed_there}
pub use Rattle.schemars_schema.proofs.Containers.{array-as_array, not_array, not_object, object-as_object}
pub use Rattle.schemars_schema.proofs.Contents.{found_under}
pub use Rattle.schemars_schema.proofs.JsonLiterals.{empty, entry, list, one, text}
pub use Rattle.schemars_schema.proofs.Lists.{items_view-push}
pub use Rattle.schemars_schema.proofs.MapEdits.{members_view-remove_entry, members_view-set_value, on_some}
pub use Rattle.schemars_schema.proofs.Members.{get_member-replaced, get_member-replaced_other}
pub use Rattle.schemars_schema.proofs.Objects.{IsKeyword, judge-object, keyword-plain, says-agree, schema-judge}
unfoldable pub use Rattle.schemars_schema.proofs.Objects.{says}
pub use Rattle.schemars_schema.proofs.Silent.{const_none, items_none, unevaluated_none}
pub use Rattle.schemars_schema.proofs.SortedMembers.{IsSorted, get_member-above, same_members, sorted-put, sorted-put_members}
pub use Rattle.schemars_schema.proofs.Verdicts.{both-middle, both-verdict, both-yes, each_agree}
pub use Rattle.schemars_schema.specs.Acceptance.{all_named, both_some, judge, read_members}
unfoldable pub use Rattle.schemars_schema.specs.Acceptance.{all_keywords, read_data}
pub use Rattle.schemars_schema.specs.Applicators.{properties_say, schema_named}
pub use Rattle.schemars_schema.specs.Assertions.{have_all, required_says, texts_in, type_says}
pub use Rattle.schemars_schema.specs.Edits.{changed_at, is_text, on_list, removed, replaced, with_item, without}
pub use Rattle.schemars_schema.specs.Json.{IsAbove, Text}
pub use Rattle.schemars_schema.specs.Judges.{Context, Judge, Raw, each_member, where_some}
pub use Rattle.schemars_schema.specs.References.{NoSchemas, OneSchema, SchemaList, found_in_items, found_in_keywords, found_in_members, references, with_same_object, with_same_objects}
unfoldable pub use Rattle.schemars_schema.specs.References.{found_in}
pub use Rattle.schemars_schema.specs.SchemaData.{IsSchema, is_schema, members_in, put_members}
pub use Rattle.schemars_schema.specs.Verdict.{No, Open, Verdict, Yes, both, verdict}
pub use Rattle.schemars_text.proofs.Lists.{from_here, items_shallow, nothing_left}
pub use Rattle.schemars_text.proofs.Members.{differ, get_member-later, get_member-member}
pub use Rattle.schemars_text.specs.OrderedText.{is_listed}
pub use Rattle.schemars_walk.specs.Rewritten.{Forms, form_at, rewritten}
unfoldable pub use Rattle.schemars_walk.specs.Rewritten.{forms, in_items, in_keywords, in_names}
pub use Rattle.serde_json.proofs.Views.{Entry, get_member-put, get_member-put_other, members_view-insert_entry, view-Array, view-Object, view-lookup}
pub use Rattle.serde_json.specs.Data.{Data, Items, Members, array, boolean, depth, item, items_depth, member, members_depth, no_items, no_members, null, number, object, put, string}
pub use Rattle.serde_json.specs.Find.{as_array, as_object, as_str, get, get_member}
pub use Rattle.serde_json.specs.View.{items_view, members_view, view}
pub use Rattle.serde_json.specs.Written.{has_float, items_have_float, members_have_float}
pub use Rattle.std.proofs.Math.Bool.{and-false, or-false}
pub use Rattle.std.proofs.lemmas.Bool.{and_parts, or_parts}
pub use Rattle.std.proofs.lemmas.List.Elements.{All-append, All-cons, All-head, All-nil, All-tail}
pub use Rattle.std.proofs.lemmas.Map.Lookups.{exact_bytes}
pub use Rattle.std.proofs.lemmas.Map.Text.{is_eq-slice_cmp}
pub use Rattle.std.proofs.lemmas.Result.{on_ok_weaker}
pub use Rattle.std.proofs.lemmas.Slice.Eq.{bytes_eq-Decides}
pub use Rattle.std.specs.BTreeMap.{insert_entry, is_at}
pub use Rattle.std.specs.Cmp.Lexicographic.{slice_cmp}
pub use Rattle.std.specs.List.{All, AllByRecursion}
unfoldable pub use Rattle.std.specs.List.Sorted.{IsStrictlySortedBy}
pub use Rattle.std.specs.Map.{keys_of, lookup, set_value}
pub use Rattle.std.specs.Ordering.{match_ordering}
pub use Rattle.std.specs.Prelude.{Err, Ok, OnOk, Result, bytes_eq, codes, if◌then◌else◌, is_ok, is_some, not, option_and_then, option_map, unwrap_or, ◌&&◌, ◌||◌}
