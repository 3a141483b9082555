-- What proves an implementation of `JsonSchema` for a type of one's own, once `using` names it.
pub use Rattle.schemars_impls.proofs.OwnTypes.{own_types}
