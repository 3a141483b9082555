-- Words that many proofs of this crate name.
pub use Rattle.fast_float.specs.Text.{Parts, digits_of, minus, nearest, scan, with_sign}
pub use Rattle.json.specs.Json.{Items, Json, Parse, after_end_array, if_last, item, items_step, member, members_step, no_items, parse_map, read_key, value_with}
unfoldable pub use Rattle.json.specs.Json.{items, members, value}
pub use Rattle.json.specs.Lex.{Class, Lexeme, Mode, Place, after_comma, after_key, after_value, backslash, begins_colon, between, class, colon, comma, fresh, if_allowed, in_escape, in_string, in_word, lex_byte, may_begin, may_close, operator, operator_lexeme, other, place_token, quote, space, string_token, token, tokens}
unfoldable pub use Rattle.json.specs.Lex.{lex, punctuate}
pub use Rattle.json.specs.Text.{Within, after_backslash, after_high, after_u, is_high_surrogate, is_low_surrogate, plain, prepend, surrogate_pair}
unfoldable pub use Rattle.json.specs.Text.{code_unit, content, short_escape}
pub use Rattle.json.specs.Token.{Token, bad, begin_array, begin_object, boolean, end_array, end_object, key, null, string}
pub use Rattle.json.specs.Word.{after_number, ends_word, head, is_operator, is_space, number_before}
unfoldable pub use Rattle.json.specs.Word.{word}
pub use Rattle.schemars_accepted.specs.Accepted.{IsAcceptedAsRead, IsAcceptedUnder}
pub use Rattle.schemars_accepted.specs.Rooted.{AcceptsWritten, AreForWriting, HasRoot, IsLeftWithRoot, IsMade, RefusesRoot}
pub use Rattle.schemars_accepted.specs.Taken.{AreForOpenApi, AreTaken, DefinitionAccepts, HasJoined, IsForOpenApi, IsLeft, IsNotTaken, IsTakenRefusal, ReferenceAccepts, TakenAccepts}
pub use Rattle.schemars_build.specs.Naming.{IsOneToOne, name_of}
pub use Rattle.schemars_build.specs.Placed.{is_in_place}
pub use Rattle.schemars_build.specs.Registry.{IsKey, reference_to}
pub use Rattle.schemars_accepted.specs.Laws.{follows_told, told_in_empty}
pub use Rattle.schemars_accepted.specs.Told.{AreAsTold, IsToldIn}
pub use Rattle.schemars_documents.specs.PlainTable.{IsPlainForEach}
pub use Rattle.schemars_generate.specs.Answers.{KeepsDefinitions}
pub use Rattle.schemars_generate.specs.ByType.{IsJoined, IsRootOfType, IsRootOfTypeRefusal, IsSubschemaOfType, with_rows}
unfoldable pub use Rattle.schemars_generate.specs.ByType.{MeansType}
pub use Rattle.schemars_generate.specs.Generator.{Generator, Transforms, held_transforms, settings_of, state}
pub use Rattle.schemars_generate.specs.Settings.{settings07, settings2019_09, settings_openapi3, transforms07, transforms2019_09, transforms_openapi3}
pub use Rattle.schemars_generate.specs.Through.{AreGone, AreTransformed, IsTakeRefusal}
pub use Rattle.schemars_headline.specs.Calls.{IsReferenceOf}
pub use Rattle.schemars_headline.specs.Drafts.{Draft, Draft07, Draft2019_09, Draft2020_12, dialect_of}
pub use Rattle.schemars_headline.specs.Headline.{IsDraftPath, IsPlainFor, RootHeadline}
pub use Rattle.schemars_headline.specs.State.{HasOwnDefinitions, Settings, State, path_of, settings2020_12, stripped}
pub use Rattle.schemars_headline.specs.Taken.{HasSameKeys, MeanTheirRows, TakenHeadline}
pub use Rattle.schemars_impls.specs.Dictionary.{Dictionary, IsIn, TypeRow}
pub use Rattle.schemars_laws.proofs.Chain.{components-found}
pub use Rattle.schemars_laws.specs.Paths.{components, components_of}
pub use Rattle.schemars_schema.proofs.Placings.{plain-components, resolved-definition}
pub use Rattle.schemars_schema.proofs.SortedMembers.{IsSorted, sorted-put}
pub use Rattle.schemars_schema.specs.Acceptance.{accepts, bound}
unfoldable pub use Rattle.schemars_schema.specs.Acceptance.{follow, read_data}
pub use Rattle.schemars_schema.specs.Dialects.{Dialect, openapi3}
pub use Rattle.schemars_schema.specs.Json.{AreJson, AreJsonMembers, IsJson, Text}
pub use Rattle.schemars_schema.specs.Judges.{Patterns}
pub use Rattle.schemars_schema.specs.Lookup.{resolved}
pub use Rattle.schemars_schema.specs.Numbers.{IsNumber}
pub use Rattle.schemars_schema.specs.SchemaData.{IsSchema}
pub use Rattle.schemars_schema.specs.Verdict.{No, Yes, verdict}
pub use Rattle.schemars_templates.specs.Finished.{reference}
pub use Rattle.schemars_types.proofs.Registered.{place_of-below}
pub use Rattle.schemars_types.specs.Edges.{is_inline_at}
pub use Rattle.schemars_types.specs.Faults.{IsChecked}
pub use Rattle.schemars_types.specs.Meaning.{belongs}
pub use Rattle.schemars_types.specs.Rows.{Row, place_of}
pub use Rattle.schemars_walk.specs.Walk.{TransformStep}
pub use Rattle.schemars_written.proofs.Final.{as_read}
pub use Rattle.schemars_written.specs.Readings.{IsAmong}
pub use Rattle.schemars_written.specs.Writes.{BelongsAsReadUnder, BelongsUnder}
pub use Rattle.serde_json.specs.Data.{Data, Members, array, float, negative, no_members, number, object, put, unsigned}
pub use Rattle.serde_json.specs.Find.{get_member}
pub use Rattle.serde_json.specs.Read.{float_of, is_integer, max_depth, number_from, of_items, of_json, of_members, read}
unfoldable pub use Rattle.serde_json.specs.Read.{number_of}
pub use Rattle.serde_json.specs.View.{members_view, view}
pub use Rattle.std.proofs.lemmas.Bool.{and_cases, and_parts, cases_lt, cond_both, leb-true, ltb-true}
pub use Rattle.std.proofs.lemmas.Result.{IfErr-weaker, IfOk-weaker}
pub use Rattle.std.proofs.lemmas.Str.{IsCharBoundary-after_ascii, IsCharBoundary-before_ascii, IsUtf8-append, IsUtf8-drop, IsUtf8-encode, IsUtf8-string_bytes, IsUtf8-take, encode_ascii}
pub use Rattle.std.specs.Char.{digit_value, encode_utf8, is_digit}
pub use Rattle.std.specs.Cmp.Lexicographic.{slice_cmp}
pub use Rattle.std.specs.Float.{binary64, float_is_finite}
pub use Rattle.std.specs.Option.{IfSome}
pub use Rattle.std.specs.Ordering.{match_ordering}
pub use Rattle.std.specs.Prelude.{drop, is_some, nat_le, nat_lt, option_and_then, option_map, slice_index, string_bytes, ⊤, ◌&&◌, ◌==◌, ◌^◌}
pub use Rattle.std.specs.Str.{IsUtf8}
pub use lib.Utf8.{low_scalar, scalar}
