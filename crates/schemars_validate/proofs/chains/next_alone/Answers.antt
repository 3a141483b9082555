-- What the name leads to is a reference that stands alone.
use Rattle.std.proofs.Common.{sym, ap, ◌∙◌, option_map}
use Rattle.schemars_validate.proofs.Words.{view}
use Rattle.schemars_validate.proofs.Chaining.{leads_if}
use Rattle.schemars_validate.proofs.chains.next_alone.Goals as goal

pub returns-in-Some : goal.returns-in-Some
returns-in-Some c =
    leads_if (λ n. n.now) c.args.dialect (view c.args.document.now) c.args.name.now (view c.in-Some.schema.now) c.reference_of_schema.result
    (sym (ap (option_map (λ s. view s.now)) c.in-Some.is) ∙ c.in_ok-schema.ensures) c.reference_of_schema.ensures
