-- The rewrite needs to know of the restriction nothing but the draft and the formats.
use Rattle.std.proofs.Common.{refl, ◌∙◌}
use Rattle.schemars_transform.proofs.Words.{on_ok_weaker, format_rules, restriction_rules}
use Rattle.schemars_transform.proofs.Through.{same_rewritten}
use Rattle.schemars_transform.proofs.built_in.formats.restrict.Goals as goal

pub returns : goal.returns
returns c =
    on_ok_weaker c.rewrite.result
    (λ h. h ∙ same_rewritten (format_rules c.args.allowed.now) restriction_rules (λ d. record { allowed = c.args.allowed; draft = d }) (λ
    r d. refl) (λ r k d. refl) (λ r d. refl) c.args.schema.now c.args.draft)
    c.rewrite.ensures
