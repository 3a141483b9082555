use Rattle.std.proofs.Common.{ap, ◌∙◌, sym, string_bytes}
use Rattle.schemars_shapes.proofs.Words.{members_view, payload_of, is_bare_unit}
use Rattle.schemars_shapes.proofs.Units.{none_view}
use Rattle.schemars_shapes.proofs.variant.is_bare_unit.Goals as goal

pub returns-in-Unit : goal.returns-in-Unit
returns-in-Unit c =
    let x = c.args.variant.now in
    none_view c.is_empty.result x.notes.entries c.is_empty.ensures
    ∙ sym (ap (λ p. is_bare_unit (record { name = string_bytes x.name; payload = payload_of p; notes = members_view x.notes.entries }))
    c.in-Unit.is)
