use Rattle.std.proofs.Common.{Some, is_some, refl, sym, subst, ap, ◌∙◌}
use Rattle.schemars_definitions.proofs.Words.{option_map, hash_map_updates_text, is_text, definition_in, definitions_by_name, AreOrdered}
use Rattle.schemars_definitions.proofs.ByName.{lookup-by_name, replaced-by_name, replaced-missing}
use Rattle.schemars_definitions.proofs.EntryEdits.{ordered-set}
use Rattle.schemars_definitions.proofs.by_name.replace.Goals as goal

pub returns-in-Some-clause-value : goal.returns-in-Some-clause-value
returns-in-Some-clause-value c =
    let name = c.args.name.now in
    let old = c.args.definitions.now in
    let new = c.get_mut.follows.lender c.args.kept in
    let written = c.get_mut.follows.holds c.args.kept in
    let there = sym c.in-Some.ensures.value in
    replaced-by_name definition_in name (Some c.args.kept) old.entries new.entries
    (hash_map_updates_text name old new (Some c.args.kept) (written.3 (ap is_some there))) c.args.kept refl
    (definition_in c.in-Some.place.now) (sym (lookup-by_name definition_in name old.entries) ∙ ap (option_map definition_in) there)

pub returns-in-Some-clause-ordered : goal.returns-in-Some-clause-ordered
returns-in-Some-clause-ordered c = λ made is all. subst (AreOrdered made) (sym (c.get_mut.follows.holds c.args.kept).0)
    (ordered-set made (is_text c.args.name.now) c.args.kept c.args.definitions.now.entries is all)

pub returns-in_default-clause-value : goal.returns-in_default-clause-value
returns-in_default-clause-value c =
    let name = c.args.name.now in
    let old = c.args.definitions.now.entries in
    ap (λ m. definitions_by_name m.entries) c.get_mut.follows.holds-at-none
    ∙ sym (replaced-missing name (definition_in c.args.kept) (definitions_by_name old)
    (sym (lookup-by_name definition_in name old)
    ∙ ap (option_map definition_in) (sym c.get_mut.ensures.value ∙ ap (option_map (λ x. x.now)) c.in_default.is)))
