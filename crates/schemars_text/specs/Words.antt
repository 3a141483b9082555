-- Words that many contracts of this crate name.
pub use Rattle.json.specs.Lex.{tokens}
pub use Rattle.json.specs.Print.{IsPrintable, begins, ends, escape, escape_byte, escape_letter, print, quoted, token_text}
pub use Rattle.json.specs.Reads.{token_of}
pub use Rattle.json.specs.Token.{boolean, number, string}
pub use Rattle.schemars_text.specs.Document.{has_floats, text_of}
pub use Rattle.schemars_text.specs.Gathered.{AddsText}
pub use Rattle.schemars_text.specs.OrderedText.{SchemaLayout, arranged, definitions_text, each_written_at, first_keywords, holds_named_schemas, holds_plain_json, is_listed, item_texts, last_keywords, layout_inside, layout_under, member_texts, object_text, ordered_text, others, text_in, texts}
pub use Rattle.schemars_text.specs.Output.{Output, layout_meant, with_token, with_value, with_values}
pub use Rattle.schemars_text.specs.Places.{place_in}
pub use Rattle.schemars_text.specs.Sent.{IsSent, IsSentInPart}
pub use Rattle.schemars_text.specs.Sink.{AppendsBeginning}
pub use Rattle.schemars_text.specs.Target.{Becomes, IsGathered}
pub use Rattle.serde_json.specs.Data.{Members}
pub use Rattle.serde_json.specs.Find.{get_member, is_float}
pub use Rattle.serde_json.specs.View.{items_view, members_view, number_view, view}
pub use Rattle.serde_json.specs.Written.{has_float, items_have_float, members_have_float, number_text}
pub use Rattle.std.specs.Bool.{OnTrue}
pub use Rattle.std.specs.Char.{digit_char}
pub use Rattle.std.specs.Io.KnownBytes.{Appends, WriteAppends}
pub use Rattle.std.specs.Result.{is_err}
