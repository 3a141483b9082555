use Rattle.std.proofs.Common.{ap, ◌∙◌}
use Rattle.schemars_builders.proofs.Words.{trimmed}
use Rattle.schemars_builders.proofs.Headings.{marks_trimmed, ends_trimmed}
use Rattle.schemars_builders.proofs.documentation.title.Goals as goal

pub returns : goal.returns
returns c =
    ends_trimmed _ _ c.trim_ascii.ensures.value ∙ ap trimmed (marks_trimmed _ _ c.trim_start_matches.ensures.matches)
