-- Words that many contracts of this crate name.
pub use Rattle.schemars_accepted.specs.Accepted.{IsAcceptedAsRead, IsAcceptedUnder}
pub use Rattle.schemars_accepted.specs.Rooted.{AcceptsWritten, AreForWriting, HasRoot, IsForWriting, IsLeftWithRoot, RefusesRoot}
pub use Rattle.schemars_accepted.specs.Taken.{AreForOpenApi, AreTaken, IsForOpenApi, IsLeft, IsTakenRefusal, ReferenceAccepts, TakenAccepts}
pub use Rattle.schemars_accepted.specs.Laws.{alone_in, alone_row, array_at, array_in, map_at, map_in, option_at, option_in, seq_at, seq_in, set_at, set_in}
pub use Rattle.schemars_accepted.specs.Refused.{RefusesValue}
pub use Rattle.schemars_accepted.specs.Told.{AreAsTold, IsToldIn, OfItems, Refuses, Tells, TellsWith, tell, telling}
pub use Rattle.schemars_generate.specs.ByType.{IsJoined, IsRootOfTypeRefusal}
pub use Rattle.schemars_generate.specs.Generator.{Generator, generator_over, held_transforms, settings_of, state}
pub use Rattle.schemars_headline.specs.Drafts.{Draft}
pub use Rattle.schemars_headline.specs.State.{path_of, stripped}
pub use Rattle.schemars_impls.specs.Containers.{array_row, map_row, option_row, seq_row, set_row}
pub use Rattle.schemars_impls.specs.Dictionary.{Dictionary, IsIn, KeepsTo, Told}
pub use Rattle.schemars_impls.specs.Keeps.{Keeps}
pub use Rattle.schemars_schema.specs.Json.{Text}
pub use Rattle.schemars_types.specs.Faults.{IsChecked}
pub use Rattle.schemars_types.specs.Rows.{Row, place_of}
pub use Rattle.schemars_written.specs.Fits.{HasShape}
pub use Rattle.schemars_written.specs.Readings.{IsAmong}
pub use Rattle.schemars_written.specs.Writes.{BelongsUnder, IsWritten, IsWrittenText}
pub use Rattle.serde_json.specs.View.{members_view, view}
