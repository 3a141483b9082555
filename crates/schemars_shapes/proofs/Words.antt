-- Words that many proofs of this crate name.
pub use Rattle.schemars_schema.proofs.Equalities.{json_same-is, members_same-is, truth_same}
pub use Rattle.schemars_schema.specs.Json.{Text, json_same, members_same, number_same}
unfoldable pub use Rattle.schemars_schema.specs.Json.{alike, items_alike, members_alike}
pub use Rattle.schemars_shapes.specs.Decimals.{entry_has_float, fields_have_float, payload_has_float, shape_has_float, variants_have_float}
pub use Rattle.schemars_shapes.specs.Equality.{bool_eq, entry_eq, field_eq, fields_eq, flattened_eq, list_eq, payload_eq, required_eq, shape_eq, tagging_eq, variant_eq, variants_eq}
pub use Rattle.schemars_shapes.specs.IntKind.{kind_eq}
pub use Rattle.schemars_shapes.specs.Repeated.{AreDistinctLists, IsFirstRepeated, IsRepeated}
pub use Rattle.schemars_shapes.specs.Rows.{payload_rows}
pub use Rattle.schemars_shapes.specs.Shape.{Field, Fields, Flattened, Payload, Required, Shape, Tagging, Variant, any, bool, bound, by_name, by_nothing, by_tag, by_tag_and_content, bytes, char, either, enum, field_of, fields_of, flattened_of, flattened_rows, formatted, int, internal_variant_of, literal, map_from, newtype, newtype_payload, no_payload, non_zero, null, number, of_variants, option, payload_names, payload_numbers, payload_of, range, result, schema_itself, seq, set, struct, struct_payload, text, tuple, tuple_payload, up_to, variant_names, variant_numbers, variant_of}
pub use Rattle.schemars_shapes.specs.Units.{is_bare_unit, is_none}
pub use Rattle.schemars_text.proofs.Members.{bytes_eq_comm}
pub use Rattle.serde_json.proofs.Views.{Entry}
pub use Rattle.serde_json.specs.Data.{Data, Items, Members, Num, array, boolean, float, item, member, negative, no_items, no_members, object, string, unsigned}
pub use Rattle.serde_json.specs.Find.{is_float}
pub use Rattle.serde_json.specs.View.{members_view, view}
pub use Rattle.serde_json.specs.Written.{has_float, items_have_float, members_have_float}
pub use Rattle.std.proofs.Math.Bool.{or-false}
pub use Rattle.std.proofs.lemmas.Bool.{or_parts}
pub use Rattle.std.proofs.lemmas.Bool.Decides.{Decides-eqb}
pub use Rattle.std.proofs.lemmas.Cmp.{nat_list_eq_equiv}
pub use Rattle.std.proofs.lemmas.List.{at_drop_more, map_more, take-map, take_all}
pub use Rattle.std.proofs.lemmas.List.Folds.{find-append}
pub use Rattle.std.proofs.lemmas.Map.Keys.{IsDistinct-push}
pub use Rattle.std.proofs.lemmas.Map.Text.{is_eq-slice_cmp}
pub use Rattle.std.proofs.lemmas.Option.{slice_get-get_or, slice_get-map}
pub use Rattle.std.proofs.lemmas.Result.{IfOk-weaker}
pub use Rattle.std.proofs.lemmas.Slice.Eq.{bytes_eq-Decides}
pub use Rattle.std.specs.BTreeSet.{BTreeSet, Updates, contains}
pub use Rattle.std.specs.Cmp.{signed_Decides}
pub use Rattle.std.specs.Cmp.Lexicographic.{pointwise, slice_cmp}
pub use Rattle.std.specs.Global.{Global}
pub use Rattle.std.specs.List.{AllZip, list_any}
unfoldable pub use Rattle.std.specs.List.{IsDistinct}
pub use Rattle.std.specs.Option.{option_or}
pub use Rattle.std.specs.Ordering.{is_eq, nat_cmp}
pub use Rattle.std.specs.Slice.Iter.{iter_rest}
pub use Rattle.std.specs.Str.{bytes_eq}
pub use denote.Enum.Bare.{same_true, true_same}
