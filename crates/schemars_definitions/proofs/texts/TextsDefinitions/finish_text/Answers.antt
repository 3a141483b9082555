-- The text that is kept is read back as the value whose text it is.
use Rattle.std.proofs.Common.{ap, ap₂, ◌∙◌, string_bytes}
use Rattle.schemars_definitions.proofs.Words.{unwrap_or, null, replaced}
use Rattle.schemars_definitions.proofs.ReadBack.{read_back}
use Rattle.schemars_definitions.proofs.texts.TextsDefinitions.finish_text.Goals as goal

pub invariant_of-self : goal.invariant_of-self
invariant_of-self g c =
    let d = c.requires.0 in
    let is = c.requires.1 in
    let read = read_back (string_bytes c.args.text) d is.0 (λ none. is.1) in
    let stays = c.leaves.ensures c.if-not-leaves.false d c.requires.2 in
    c.replace.ensures.ordered g.C.Change.made (d, read, stays) c.self.invariant

pub returns-clause-ok : goal.returns-clause-ok
returns-clause-ok g c = λ d is.
    let read = read_back (string_bytes c.args.text) d is.0 (λ none. is.1) in
    c.replace.ensures.value ∙ ap₂ (replaced c.args.name.now) (ap (λ o. unwrap_or o null) read.0) c.self.view_is
