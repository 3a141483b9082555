-- The text that is kept is read back, and the other is that of what is made of the definition.
use Rattle.std.proofs.Common.{◌≡◌, false, ap, subst, string_bytes}
use Rattle.schemars_definitions.proofs.Words.{unwrap_or, null, has_float, ordered_text}
use Rattle.schemars_definitions.proofs.ReadBack.{read_back}
use Rattle.schemars_definitions.proofs.kept.Kept.changed.Goals as goal

pub returns-clause-definition : goal.returns-clause-definition
returns-clause-definition g c = ap (λ o. unwrap_or o null)
    (read_back (string_bytes c.args.before) c.args.schema c.requires.text.0 (λ none. c.requires.text.1)).0

pub returns-clause-ordered : goal.returns-clause-ordered
returns-clause-ordered g c = (
  c.args.schema,
  read_back (string_bytes c.args.before) c.args.schema c.requires.text.0 (λ none. c.requires.text.1),
  subst (λ d. has_float d ≡ false → string_bytes c.in_ok-after.after ≡ ordered_text d) c.in_ok-change.ensures
      c.in_ok-after.ensures.ordered,
)
