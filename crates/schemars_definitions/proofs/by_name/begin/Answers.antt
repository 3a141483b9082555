use Rattle.std.proofs.Common.{false, Some, refl, sym, subst, ap, ◌∙◌, string_bytes}
use Rattle.schemars_definitions.proofs.Words.{hash_map_updates_text, boolean, put, definition_in, definitions_by_name, AreOrdered}
use Rattle.schemars_definitions.specs.declared.kept.Kept.TheVariants.{Begun}
use Rattle.schemars_definitions.proofs.ByName.{added-by_name}
use Rattle.schemars_definitions.proofs.EntryEdits.{ordered-put}
use Rattle.schemars_definitions.proofs.by_name.begin.Goals as goal

pub returns-clause-begun : goal.returns-clause-begun
returns-clause-begun c = λ yes.
    let key = string_bytes c.in_ok-key.key in
    added-by_name definition_in key (Some Begun) c.args.definitions.now.entries c.insert.new.self.entries
    (hash_map_updates_text key c.args.definitions.now c.insert.new.self (Some Begun) c.in_ok-insert.ensures.updates) Begun refl
    ∙ ap (λ k. put k (boolean false) (definitions_by_name c.args.definitions.now.entries)) c.in_ok-key.ensures.ok

pub returns-clause-ordered : goal.returns-clause-ordered
returns-clause-ordered c = λ made all. subst (AreOrdered made) (sym c.in_ok-insert.ensures.entries)
    (ordered-put made c.in_ok-key.key Begun c.args.definitions.now.entries tt all)
