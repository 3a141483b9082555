-- What is kept as text is read back.
use Rattle.std.proofs.Common.{sym, ap, subst, string_bytes}
use Rattle.schemars_definitions.proofs.Words.{unwrap_or, null, IsWholeJson}
use Rattle.schemars_definitions.proofs.ReadBack.{read_back, has_float-json}
use Rattle.schemars_definitions.proofs.kept.Kept.new.Goals as goal

pub returns-then-changes_nothing-clause-definition : goal.returns-then-changes_nothing-clause-definition
returns-then-changes_nothing-clause-definition g c =
    let whole = subst IsWholeJson c.as_value.ensures.value (c.is_json.ensures c.if-not-is_json.false) in
    ap (λ o. unwrap_or o null) (read_back (string_bytes c.in_ok-text.text) c.args.schema whole c.in_ok-text.ensures.ordered).0

pub returns-then-changes_nothing-clause-ordered : goal.returns-then-changes_nothing-clause-ordered
returns-then-changes_nothing-clause-ordered g c =
    let whole = subst IsWholeJson c.as_value.ensures.value (c.is_json.ensures c.if-not-is_json.false) in (
      c.args.schema,
      read_back (string_bytes c.in_ok-text.text) c.args.schema whole c.in_ok-text.ensures.ordered,
      c.changes_nothing.ensures c.if-changes_nothing.true c.args.schema,
    )

pub returns-then-leaves-clause-definition : goal.returns-then-leaves-clause-definition
returns-then-leaves-clause-definition g c =
    let whole = subst IsWholeJson c.as_value.ensures.value (c.is_json.ensures c.if-not-is_json.false) in
    ap (λ o. unwrap_or o null) (read_back (string_bytes c.in_ok-text.text) c.args.schema whole c.in_ok-text.ensures.ordered).0

pub returns-then-leaves-clause-ordered : goal.returns-then-leaves-clause-ordered
returns-then-leaves-clause-ordered g c =
    let whole = subst IsWholeJson c.as_value.ensures.value (c.is_json.ensures c.if-not-is_json.false) in (
      c.args.schema,
      read_back (string_bytes c.in_ok-text.text) c.args.schema whole c.in_ok-text.ensures.ordered,
      c.leaves.ensures c.if-leaves.true c.args.schema (sym c.needs_of-needs.ensures),
    )

pub changed-requires-clause-text : goal.changed-requires-clause-text
changed-requires-clause-text g c =
    let whole = subst IsWholeJson c.as_value.ensures.value (c.is_json.ensures c.if-not-is_json.false) in
    (whole, c.in_ok-text.ensures.ordered (has_float-json c.args.schema whole))
