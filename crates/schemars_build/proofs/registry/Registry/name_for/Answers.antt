use Rattle.std.proofs.Common.{◌≡◌, None, Some, ap, sym, ◌∙◌, subst, string_bytes, rules}
use Rattle.schemars_build.proofs.Words.{Naming, NamedRow, name_of}
use Rattle.schemars_build.proofs.Given.{name_of-given, name_of-given_alone}
use Rattle.schemars_build.proofs.registry.Registry.name_for.Goals as goal

pub returns-clause-named : goal.returns-clause-named
returns-clause-named g c =
    let none : name_of c.args.n c.args.contract c.self.inside.names ≡ None = search rules in
    ap (name_of c.args.n c.args.contract) c.in_ok-name-2.ensures.given.1
    ∙ name_of-given c.args.n c.args.contract c.self.inside.names (string_bytes c.in_ok-name-2.name) none

pub returns-clause-no_other : goal.returns-clause-no_other
returns-clause-no_other g c = λ m contract name none some.
    let own : NamedRow = record { row = c.args.n; contract = c.args.contract; name = string_bytes c.in_ok-name-2.name } in
    let P : Naming → Type 0 = λ names. name_of m contract names ≡ Some name in
    let same : c.args.self.now.names ≡ c.self.inside.names = search rules in
    name_of-given_alone m contract c.self.inside.names own name (ap (name_of m contract) (sym same) ∙ none)
    (subst P c.in_ok-name-2.ensures.given.1 some)
