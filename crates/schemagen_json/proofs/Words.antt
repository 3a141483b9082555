-- Words that many proofs of this crate name.
pub use Rattle.fast_float.specs.Text.{scan}
pub use Rattle.json.proofs.Grammar.{items_end, items_more, members_end, members_more, members_no_key, read_key-shorter, value-begin_array, value-begin_object, value_is}
pub use Rattle.json.specs.Json.{Parse, after_end_array, items_step, parse_map, read_key}
unfoldable pub use Rattle.json.specs.Json.{items, members, value}
pub use Rattle.json.specs.Reads.{token_of}
pub use Rattle.json.specs.Token.{Token}
pub use Rattle.schemagen_json.specs.BorrowedValue.{data_of, items_data, members_data, put_each}
pub use Rattle.schemagen_json.specs.Members.{are_listed, lone_in}
pub use Rattle.schemars_schema.specs.Json.{Text}
pub use Rattle.schemars_text.proofs.Members.{differ}
pub use Rattle.schemars_text.specs.OrderedText.{is_listed}
pub use Rattle.serde_json.proofs.Views.{get_member-put, get_member-put_other, members_view-insert_entry, view-Object}
pub use Rattle.serde_json.specs.Data.{Data, Items, Members, Num, array, boolean, item, member, no_items, no_members, null, number, object, put, string}
pub use Rattle.serde_json.specs.Find.{get_member}
pub use Rattle.serde_json.specs.Read.{converted, number_from, of_items, of_json, of_members}
unfoldable pub use Rattle.serde_json.specs.Read.{number_of}
pub use Rattle.serde_json.specs.View.{items_of, members_view, number_view, view}
pub use Rattle.std.proofs.Math.ListN.{drop_of_length-le}
pub use Rattle.std.proofs.lemmas.Bool.{and_parts}
pub use Rattle.std.proofs.lemmas.Cmp.{nat_list_cmp_total, tied_itself}
pub use Rattle.std.proofs.lemmas.List.{drop_more, take_more}
pub use Rattle.std.proofs.lemmas.List.Folds.{list_all-append}
pub use Rattle.std.proofs.lemmas.Map.Text.{is_eq-slice_cmp}
pub use Rattle.std.proofs.lemmas.Slice.Eq.{bytes_eq-Decides}
pub use Rattle.std.specs.Cmp.Lexicographic.{slice_cmp}
pub use Rattle.std.specs.List.{list_all}
pub use Rattle.std.specs.Option.{option_map_or}
pub use Rattle.std.specs.Ordering.{match_ordering}
pub use Rattle.std.specs.Str.{bytes_eq}
