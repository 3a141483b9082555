-- Words that many contracts of this crate name.
pub use Rattle.schemars_cycles.specs.Search.{AreVisited, Falls, IsClosed, Meets, front_of, targets_in}
pub use Rattle.schemars_cycles.specs.Walks.{IsFree, IsLeast, Leads, OnCycle, Walk}
pub use Rattle.std.specs.Bool.{OnFalse, OnTrue}
