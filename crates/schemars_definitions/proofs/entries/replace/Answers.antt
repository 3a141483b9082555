-- Where there is none of the name, nothing changes.
use Rattle.std.proofs.Common.{◌∙◌, sym, ap}
use Rattle.schemars_definitions.proofs.Words.{option_map, has_name}
use Rattle.schemars_definitions.proofs.EntryEdits.{set_value-absent}
use Rattle.schemars_definitions.proofs.entries.replace.Goals as goal

pub returns-in_default : goal.returns-in_default
returns-in_default g c =
    ap (λ m. m.entries) c.get_mut.follows.holds-at-none
    ∙ sym (set_value-absent (has_name c.args.name.now) c.args.values.now.entries c.args.value
    (sym c.get_mut.ensures.value ∙ ap (option_map (λ x. x.now)) c.in_default.is))
