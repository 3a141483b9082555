-- What was begun is taken out of the definitions.
use Rattle.std.proofs.Common.{ap, ◌∙◌, [], length, false}
use Rattle.schemars_build.proofs.Words.{Members, Registry, without_all}
use Rattle.schemars_build.proofs.registry.Registry.discard_definitions.Goals as goal

-- these definitions, and nothing that was begun
abbrev forgotten : Registry → Members → Registry
forgotten w ms = record w { definitions = ms; begun = []; kept = length w.names; has_root_reference = false }

pub returns-clause-kept : goal.returns-clause-kept
returns-clause-kept g c =
    let w = c.args.self.now in
    c.commit.ensures.kept
    ∙ ap (λ (v : Registry). forgotten v (g.D.Definitions.kept c.take_out.new.definitions)) c.self.view_is
    ∙ ap (forgotten w) (c.take_out.ensures.definitions ∙ ap (λ (v : Registry). without_all v.begun v.definitions) c.self.view_is)
