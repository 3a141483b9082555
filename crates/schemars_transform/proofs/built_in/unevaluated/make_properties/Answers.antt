-- Where there is a name, the object of the names is not empty.
use Rattle.std.proofs.Common.{ap, ◌∙◌}
use Rattle.schemars_transform.proofs.Words.{no_members, members_view, view-Object, inserted, with_names, names_in, codes}
use Rattle.schemars_transform.proofs.Gathering.{made}
use Rattle.schemars_transform.proofs.built_in.unevaluated.make_properties.Goals as goal

pub returns : goal.returns
returns c =
    let names = c.add_names.new.names in
    let start = c.in_ok-add_names.ensures ∙ ap (λ d. with_names (names_in d).in_schema (members_view c.new-named.result.entries))
    c.as_value.ensures.value in
    made names.entries (with_names (names_in c.args.schema.now).in_schema no_members) c.args.schema.now c.put.new.schema c.is_empty.result
    (start ∙ ap (λ es. with_names (names_in c.args.schema.now).in_schema (members_view es)) c.new-named.ensures.empty)
    c.is_empty.ensures.1 c.if-is_empty.false (c.in_ok-_none.ensures.ok ∙ ap (λ d. inserted (codes "properties") d c.args.schema.now)
    (view-Object names))
