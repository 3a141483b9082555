-- A value that needs nothing stays.
use Rattle.std.proofs.Common.{sym, ap, ◌∙◌}
use Rattle.schemars_parts.proofs.Words.{view, needed}
use Rattle.schemars_parts.proofs.PartViews.{seen_value}
use Rattle.schemars_parts.proofs.Rules.{made_by_rules}
use Rattle.schemars_parts.proofs.changing.change_value.Goals as goal

pub returns-then-is_idle : goal.returns-then-is_idle
returns-then-is_idle c =
    let d = view c.args.value.now in
    let t = c.args.transform.now in
    let needs = c.add_schema.ensures ∙ ap (λ n. (needed d n).as_schema) c.none-needs.ensures in
    let stays = c.is_idle.ensures.unchanged c.if-is_idle.true d needs in
    seen_value c.args.value ∙ (sym stays ∙ sym (made_by_rules t d (c.is_idle.ensures.local c.if-is_idle.true)))
