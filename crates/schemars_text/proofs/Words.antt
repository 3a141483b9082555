-- Words that many proofs of this crate name.
pub use Rattle.json.proofs.Printed.Tokens.{print_from_push}
pub use Rattle.json.specs.Print.{begins, ends, ends_value, escape, escape_letter, print, quoted, separator, token_text}
unfoldable pub use Rattle.json.specs.Print.{escape_byte, print_from}
pub use Rattle.json.specs.Reads.{token_of}
pub use Rattle.json.specs.Token.{Token, begin_array, begin_object, end_array, end_object, number}
pub use Rattle.schemars_text.specs.Gathered.{AddsText}
pub use Rattle.schemars_text.specs.OrderedText.{Layout, SchemaLayout, Written, arranged, each_written_at, first_keywords, is_listed, last_keywords, layout_inside, layout_under, others, texts, with_commas, written_at}
unfoldable pub use Rattle.schemars_text.specs.OrderedText.{item_texts, member_texts, text_in}
pub use Rattle.schemars_text.specs.Output.{Output, layout_meant, with_token, with_value, with_values}
pub use Rattle.schemars_text.specs.Places.{place_in}
pub use Rattle.schemars_text.specs.Sent.{IsSent, IsSentInPart}
pub use Rattle.schemars_text.specs.Sink.{AppendsBeginning}
pub use Rattle.schemars_text.specs.Target.{Holds, IsGathered}
pub use Rattle.schemars_text.specs.Text.{Text}
pub use Rattle.serde_json.proofs.Views.{view-Array}
pub use Rattle.serde_json.specs.Data.{Data, Items, Members, Num, array, depth, float, item, items_depth, member, members_depth, negative, no_items, no_members, object, unsigned}
pub use Rattle.serde_json.specs.Find.{as_i64, as_u64, get_member, is_float}
pub use Rattle.serde_json.specs.View.{items_of, items_view, members_view, number_view, view}
pub use Rattle.serde_json.specs.Written.{comma_if, has_float, items_have_float, members_have_float, number_text}
pub use Rattle.std.proofs.KnownBytes.{Appends-nil, Appends-trans}
pub use Rattle.std.proofs.Math.ListN.{get_or-map}
pub use Rattle.std.proofs.lemmas.Bool.{le-ltb, ne_eqb, or_parts}
pub use Rattle.std.proofs.lemmas.Cmp.{nat_list_cmp_total, nat_list_eq_equiv, tied_itself}
pub use Rattle.std.proofs.lemmas.List.{flat_map_more, length-map, take-map, take_more, take_rest}
pub use Rattle.std.proofs.lemmas.List.Concat.{flat_map-append}
pub use Rattle.std.proofs.lemmas.Map.Text.{is_eq-slice_cmp}
pub use Rattle.std.proofs.lemmas.Result.{IfOk-weaker}
pub use Rattle.std.proofs.lemmas.Slice.Eq.{bytes_eq-Decides}
pub use Rattle.std.specs.Bool.{OnTrue}
pub use Rattle.std.specs.Cmp.Lexicographic.{slice_cmp}
pub use Rattle.std.specs.Fmt.{signed_decimal}
pub use Rattle.std.specs.Io.KnownBytes.{Appends}
pub use Rattle.std.specs.Option.{option_or}
pub use Rattle.std.specs.Ordering.{match_ordering}
pub use Rattle.std.specs.Prelude.{IsTrue, bytes_eq, fold, if◌then◌else◌, ⊤}
