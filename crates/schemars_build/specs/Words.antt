-- Words that many contracts of this crate name.
pub use Rattle.indexmap.specs.IndexSet.{insert_key}
pub use Rattle.schemars_build.specs.Making.{AreMaking, GoesOn, HasFirst, HasReplied, IsAnswer, IsChecked, IsGivenBack, IsInMaking, IsOpened, IsOwn, IsReply, IsTaken, IsTemplate, IsTemplateAt, Step, Wanted, ask_of, asked, document, is_in_place, is_inline_at, own, plan_of, reference, reference_to, replaced, rolled_back, row_asked, row_wanted, template_view, wanted}
pub use Rattle.schemars_build.specs.Measure.{IsLess, IsWithin, measure_of_asked, measure_of_making, measure_of_own_document, measure_of_part, measure_of_turn}
pub use Rattle.schemars_build.specs.Naming.{IsFirstUnused, IsOneToOne, candidate, is_used, name_of}
pub use Rattle.schemars_build.specs.Owners.{AreUsed, IsFirst, IsNoted, place_of_owner}
pub use Rattle.schemars_build.specs.Placed.{is_pending, pending_in}
pub use Rattle.schemars_build.specs.Registry.{GivesNames, without_all, without_last}
pub use Rattle.schemars_definitions.specs.Texts.{IsWholeTextOf}
pub use Rattle.schemars_render.specs.Rendered.{IsRendered}
pub use Rattle.schemars_templates.specs.Template.{filled}
pub use Rattle.schemars_transform.specs.Needs.{needs_of}
pub use Rattle.serde_json.specs.Data.{Data, boolean, no_members, put}
pub use Rattle.serde_json.specs.Find.{as_object, get_member}
pub use Rattle.serde_json.specs.Rows.{map_row}
pub use Rattle.serde_json.specs.View.{members_view}
pub use Rattle.std.specs.Borrow.{Lends, sem}
pub use Rattle.schemars_text.specs.OrderedText.{ordered_text}
pub use Rattle.schemars_transform.specs.BuiltIn.{made_by}
