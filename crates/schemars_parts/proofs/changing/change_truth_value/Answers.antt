-- Other transforms leave truth values.
use Rattle.std.proofs.Common.{sym, ◌∙◌}
use Rattle.schemars_parts.proofs.PartViews.{seen_bool}
use Rattle.schemars_parts.proofs.Rules.{truth_stays}
use Rattle.schemars_parts.proofs.changing.change_truth_value.Goals as goal

pub returns-in_default : goal.returns-in_default
returns-in_default c = seen_bool c.args.accepts ∙ sym (truth_stays c.args.transform.now c.args.accepts c.in_default.not-ReplaceBoolSchemas)
