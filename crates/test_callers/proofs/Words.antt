-- Words that many proofs of this crate name.
pub use Rattle.schemars_impls.proofs.Following.{id-there}
pub use Rattle.schemars_impls.specs.Containers.{HasItems, and_parts, no_parts}
unfoldable pub use Rattle.schemars_impls.specs.Containers.{array_row, map_row, option_row, seq_row, set_row, tuple_row}
pub use Rattle.schemars_impls.specs.Describes.{Always, IsMade, OfOne, Unsaid}
pub use Rattle.schemars_impls.specs.Dictionary.{Defined, Dictionary, Follows, IsEntryOf, IsFree, Pending, Told, TypeRow, staged, told_of}
unfoldable pub use Rattle.schemars_impls.specs.Dictionary.{IsIn, alone, of_one, of_two}
pub use Rattle.test_callers.specs.Holds.{HoldsChain, HoldsOne, HoldsThree, HoldsTwo, IsRegistered, row}
pub use Rattle.schemars_schema.specs.Json.{Text}
pub use Rattle.schemars_shapes.specs.Shape.{Entry, Shape, array, in_place, tuple, without_notes}
pub use Rattle.schemars_types.proofs.Registered.{place_of-below}
pub use Rattle.schemars_types.specs.Names.{array_id, array_name, tuple_id, tuple_name}
pub use Rattle.schemars_types.specs.Rows.{HasDistinctIds, Row, entry_at, id_at, name_at, place_of}
pub use Rattle.std.proofs.lemmas.Bool.Decides.{nat_tests}
pub use Rattle.std.proofs.lemmas.Slice.Eq.{bytes_eq-Decides}
unfoldable pub use Rattle.std.specs.Fmt.{digits}
pub use Rattle.std.specs.List.{AllByRecursion, position_from}
unfoldable pub use Rattle.std.specs.List.{IsDistinct}
pub use Rattle.std.specs.Option.{option_map_or}
pub use Rattle.std.specs.Prelude.{nat_lt, slice_get}
pub use Rattle.std.specs.Str.{bytes_eq}
