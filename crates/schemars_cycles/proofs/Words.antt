-- Words that many proofs of this crate name.
pub use Rattle.schemars_cycles.specs.Search.{AreVisited, Falls, Front, Graph, IsMet, Meets, front_of, targets_in, unmet}
pub use Rattle.schemars_cycles.specs.Walks.{IsFree, Leads, OnCycle, Walk, largest, longest, one, then}
pub use Rattle.std.proofs.Math.ListN.{set}
pub use Rattle.std.proofs.lemmas.Bool.{cases_eq, eqb-true}
pub use Rattle.std.proofs.lemmas.List.{length-replicate, take_more}
pub use Rattle.std.proofs.lemmas.List.Elements.{All-contains, Contains-append_cases, Contains-append_left, Contains-append_right, Contains-get_or, Contains-push, Contains-push_cases}
pub use Rattle.std.proofs.lemmas.Map.Steps.{length-le_from_distinct_below}
pub use Rattle.std.proofs.lemmas.Option.{slice_get-get_or, slice_get_within}
pub use Rattle.std.specs.List.{AllByRecursion, list_any}
unfoldable pub use Rattle.std.specs.List.{IsDistinct}
