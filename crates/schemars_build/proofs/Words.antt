-- Words that many proofs of this crate name.
pub use Rattle.indexmap.specs.IndexSet.{insert_key}
pub use Rattle.schemars_build.specs.Making.{AreMaking, AreWaiting, ComesFrom, GoesOn, HasAnswered, HasFirst, HasReplied, IsBegun, IsGivenBack, IsInMaking, IsNext, IsOpened, IsRepliedBy, IsReply, IsTaken, IsTemplate, IsTemplateAt, Reply, Wanted, answer, asked, defined, document, flattened, own, wanted, wanted_for}
pub use Rattle.schemars_build.specs.Marks.{AreMarked}
pub use Rattle.schemars_build.specs.Measure.{IsLess, IsWithin, asks_at, document_rank, left_going, left_waiting, measure_of_asked, measure_of_content, measure_of_definition, measure_of_filled, measure_of_making, measure_of_members, measure_of_own_document, measure_of_part, measure_of_reply, measure_of_turn, pending_around, places, sum_below, unanswered_in, weight, width}
unfoldable pub use Rattle.schemars_build.specs.Measure.{breadth}
pub use Rattle.schemars_build.specs.Missing.{IsAskedIn, IsLower, depth_in_place, failing_below, is_made, row_asked}
unfoldable pub use Rattle.schemars_build.specs.Missing.{idle, missing}
pub use Rattle.schemars_build.specs.Naming.{IsOneToOne, NamedRow, Naming, candidate, is_of, is_used, name_of}
pub use Rattle.schemars_build.specs.Owners.{ArePlaced, AreUsed, IsFirst, IsNoted, named_row, naming_of, place_of_owner}
pub use Rattle.schemars_build.specs.Parts.{AreAnswers, IsAnswer, IsFilledIn, IsFilledOf, IsMade, IsOwn, IsPart, IsPlainAsk, IsSaid, IsSubschema}
pub use Rattle.schemars_build.specs.Placed.{IsDocument, IsFilled, IsPlaced, is_in_place, is_pending, pending_in}
unfoldable pub use Rattle.schemars_build.specs.Placed.{IsFilledWithin}
pub use Rattle.schemars_build.specs.Plans.{plan_of}
pub use Rattle.schemars_build.specs.Reached.{AreReached, IsReached, IsRootMet, by_definition, by_reference}
pub use Rattle.schemars_build.specs.Registry.{AreGiven, GivesNames, IsAdded, IsDefinition, IsKey, Plan, Refers, Registry, Step, basis_of_plan, reference_to, rolled_back, without_all, without_last}
pub use Rattle.schemars_cycles.proofs.GraphLemmas.{nothing_among}
pub use Rattle.schemars_definitions.proofs.Members.{get_member-replaced_other, own_bytes, without-put, without-replaced, without-replaced_other}
pub use Rattle.schemars_documents.proofs.OpenStructs.{no_option, parts_apart}
pub use Rattle.schemars_documents.specs.Basis.{Basis}
pub use Rattle.schemars_documents.specs.Describes.{AreAnswered, Fills, IsAnswered, IsContent, IsOwnDocument, IsWritten, are_optional, references_of, without_options, without_options_within}
unfoldable pub use Rattle.schemars_documents.specs.Describes.{Describes}
pub use Rattle.schemars_documents.specs.OfShape.{entry_template}
pub use Rattle.schemars_documents.specs.PlainTable.{ArePlainParts, HasContent, HaveContents, IsNoContent, IsOpenStruct, IsPlainEntry, IsPlainUnder, ShapeHasContents, parts_in, payload_parts, variant_parts}
pub use Rattle.schemars_flatten.specs.Opening.{must_be_in_place, opened_inside}
pub use Rattle.schemars_flatten.specs.Parts.{flattened_part}
pub use Rattle.schemars_meaning.proofs.FieldsDescribed.{described_fields, described_stays}
pub use Rattle.schemars_meaning.proofs.Following.{closer}
pub use Rattle.schemars_meaning.proofs.Mapping.{answered_map, answers_map, own_map}
pub use Rattle.schemars_meaning.proofs.References.{parts_among}
pub use Rattle.schemars_meaning.proofs.ReferencesKept.{Among, among_left}
pub use Rattle.schemars_meaning.proofs.Rows.{all_asks, contents_of, payload_contents}
pub use Rattle.schemars_meaning.proofs.SettledTables.{IsSettled}
pub use Rattle.schemars_schema.proofs.Members.{get_member-replaced}
pub use Rattle.schemars_schema.specs.Edits.{replaced, without}
pub use Rattle.schemars_schema.specs.Json.{Text}
pub use Rattle.schemars_schema.specs.References.{references}
unfoldable pub use Rattle.schemars_schema.specs.References.{found_in}
pub use Rattle.schemars_shapes.specs.Shape.{Entry, Field, Flattened, Payload, Shape, Variant, asked_numbers, flattened_numbers, newtype_payload, no_payload, numbers_of, of_variants, option_of, payload_flattened, payload_numbers, payload_same, same_value_numbers, struct_payload, tuple_payload}
pub use Rattle.schemars_templates.specs.Finished.{reference}
pub use Rattle.schemars_templates.specs.Template.{Ask, asks_of, content, filled, members_of, part}
pub use Rattle.schemars_templates.specs.View.{ask_of, template_view}
pub use Rattle.schemars_text.proofs.Members.{bytes_eq_comm}
pub use Rattle.schemars_types.proofs.Asked.{entry_low, flattened_number, of_variants-more}
pub use Rattle.schemars_types.proofs.Options.{stops}
pub use Rattle.schemars_types.specs.Edges.{RefersWithin, asked_at, asked_in, below, below_all, below_within, height, is_inline_at, numbers_at, option_at, rank, same_value_numbers_at}
pub use Rattle.schemars_types.specs.Effective.{flattened_enums, flattened_fields, flattened_in, part_enums, part_fields, required_only_if, row_fields, shape_enums, shape_fields}
unfoldable pub use Rattle.schemars_types.specs.Effective.{enums_within, fields_within}
pub use Rattle.schemars_types.specs.Faults.{IsChecked}
pub use Rattle.schemars_types.specs.Rows.{Row, entry_at}
pub use Rattle.schemars_types.specs.SameContract.{is_same_contract}
pub use Rattle.serde_json.proofs.Views.{get_member-put, get_member-put_other}
pub use Rattle.serde_json.specs.Data.{Data, Members, boolean, put, string}
pub use Rattle.serde_json.specs.Find.{get_member}
pub use Rattle.std.proofs.Math.Bool.{or-true}
pub use Rattle.std.proofs.Math.Nat.{mul-le-mul_left, mul-le-mul_right, one-le-pow, pow-le-pow_right, pow-succ'}
pub use Rattle.std.proofs.Math.Seq.{take-append_seam}
pub use Rattle.std.proofs.lemmas.Bool.{and_parts, eqb-true, false_from_ne_true}
pub use Rattle.std.proofs.lemmas.Bool.Decides.{Decides-eqb, Decides-like, nat_tests, same_from_decides}
pub use Rattle.std.proofs.lemmas.Cmp.{nat_list_eq_equiv}
pub use Rattle.std.proofs.lemmas.Fmt.{decimal_injective, decimal_nonempty}
pub use Rattle.std.proofs.lemmas.Grind.{common_steps}
pub use Rattle.std.proofs.lemmas.List.{append_cancel_left, get_or-map, length-append, length-map, length-take-le, map-append, map_more, take_all}
pub use Rattle.std.proofs.lemmas.List.Elements.{Contains-append_cases, Contains-append_left, Contains-append_right}
pub use Rattle.std.proofs.lemmas.List.Folds.{list_any-append}
pub use Rattle.std.proofs.lemmas.Map.Keys.{IsDistinct-head, IsDistinct-push, IsDistinct-tail}
pub use Rattle.std.proofs.lemmas.Map.Made.{length-le_from_is_member}
pub use Rattle.std.proofs.lemmas.Map.Text.{hash_map_updates_text}
pub use Rattle.std.proofs.lemmas.Option.{none-some, same_Some, slice_get_past, slice_get_read}
pub use Rattle.std.proofs.lemmas.Result.{IfOk-weaker}
pub use Rattle.std.proofs.lemmas.Slice.Eq.{bytes_eq-Decides}
pub use Rattle.std.proofs.lemmas.Str.{IsUtf8-string_bytes}
pub use Rattle.std.specs.Fmt.{decimal}
pub use Rattle.std.specs.HashMap.{HashMap, IsUnchanged, UpdatesBy, get_by_text}
pub use Rattle.std.specs.List.{AllByRecursion, AllZip, list_any}
unfoldable pub use Rattle.std.specs.List.{IsDistinct}
pub use Rattle.std.specs.Map.{lookup}
pub use Rattle.std.specs.Option.{option_copied, option_eq, option_map_or}
pub use Rattle.std.specs.Prelude.{String, codes, cond, if◌then◌else◌, is_some, nat_eq, not, option_and_then, ◌&&◌, ◌+◌, ◌-◌, ◌==◌, ◌||◌, ◌⊎◌}
pub use Rattle.std.specs.Result.{IfOk, OnErr, OnOk}
pub use Rattle.std.specs.Str.{IsUtf8, bytes_eq}
pub use Rattle.std.specs.String.{string_eq}
pub use Rattle.std.specs.Vec.{vec_len}
