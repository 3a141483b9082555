-- A place among the members that are left is one among all.
use Rattle.schemars_parts.specs.Searched.{IsFoundAt, BelongsAt}
use Rattle.schemars_parts.proofs.Searched.{LeadsOn}
use Rattle.schemars_parts.proofs.members.search.Given as goal

abbrev pub invariant-loop-place : goal.invariant-loop-place
invariant-loop-place l = record {
  found : LeadsOn (IsFoundAt l.name) l.list.items l.place;
  belongs : LeadsOn (BelongsAt l.name) l.list.items l.place;
}
