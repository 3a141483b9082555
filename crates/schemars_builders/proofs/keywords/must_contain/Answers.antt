use Rattle.std.proofs.Common.{◌≡◌, string_bytes, ap, ◌∙◌, rules}
use Rattle.schemars_builders.proofs.Words.{string, view, escaped}
use Rattle.serde_json.specs.declared.value.Value.{String, the_lemmas}
use Rattle.schemars_builders.proofs.keywords.must_contain.Goals as goal

pub returns-clause-ok : goal.returns-clause-ok
returns-clause-ok c =
    let seen : view (String c.in_ok-pattern.pattern) ≡ string (string_bytes c.in_ok-pattern.pattern) =
    search (rules, the_lemmas) in
    let is : view (String c.in_ok-pattern.pattern) ≡ string (escaped c.args.text.now) =
    seen ∙ ap string c.in_ok-pattern.ensures.escaped in
    rw (← is) c.insert_validation_property.ensures.ok
