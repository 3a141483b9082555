use Rattle.std.proofs.Common.{◌≡◌, ◌∙◌, refl, sym, subst, true, false}
use Rattle.schemars_accepted.proofs.Words.{view, place_of-below, IsChecked, IsPlainForEach, state, IsAmong, as_read}
use Rattle.schemars_types.specs.declared.contract.Contract.TheVariants.{Serialize}
use Rattle.schemars_accepted.proofs.Rooting.{has_root, joined_row, root_accepts}
use Rattle.schemars_accepted.proofs.root.to_accepted_root.Goals as goal

pub returns-in-Ok-false-clause-refused : goal.returns-in-Ok-false-clause-refused
returns-in-Ok-false-clause-refused g c = λ plain.
    let same : IsPlainForEach Serialize c.types.result.now = subst (IsPlainForEach Serialize) (sym c.types.ensures.table) plain in
    let never : false ≡ true = sym c.in-Ok-false.field-0-test ∙ c.in-Ok-false.ensures.1 same in
    absurd (cc)

pub returns-in-Ok-to_value-clause-accepted : goal.returns-in-Ok-to_value-clause-accepted
returns-in-Ok-to_value-clause-accepted g c = λ draft writing.
    let rows = c.root_schema_for.new.self.rows in
    let root = c.in-Ok.ensures.root in
    let checked : IsChecked rows = c.types.ensures.accepted.1 in
    let number = root.joined.registered.added.number in
    let row = joined_row g.T.JsonSchema.says g.T.AgreesAsDescribed.is_told g.T.Agrees.is_row
    (λ d told. g.met.T.AgreesAsDescribed.is_in d told)
    (λ d rows n told are checked there. g.met.T.AgreesAsDescribed.described d rows n told are checked there)
    c.args.generator.now.rows rows root.n c.requires.told root.joined checked in
    let h = c.in-Ok-to_value.ensures.events in
    let plain : IsPlainForEach Serialize rows = subst (IsPlainForEach Serialize) c.types.ensures.table
    (c.in-Ok-true.ensures.0 c.in-Ok-true.field-0-test) in
    root_accepts (IsAmong g.T.Agrees.readings c.args.value.now) draft g.T.JsonSchema.says (state c.args.generator.now).settings rows root.n c.in-Ok.document (view c.in-Ok-to_value.written)
    (c.in-Ok.ensures.means draft (state c.args.generator.now).settings refl writing.settings.transforms writing.own writing.settings.path) number plain writing.settings.contract
    (as_read true rows checked root.n (place_of-below g.T.JsonSchema.says.id rows root.n number) (g.T.Described.writes c.args.value.now)
    (g.met.T.Agrees.agrees rows root.n c.args.value.now checked row (c.if-not-is_valid.ensures.passes refl))
    h.0 h.1 h.2 h.3 (view c.in-Ok-to_value.written) h.4) c.look.ensures

pub returns-in-Ok-to_value-clause-made : goal.returns-in-Ok-to_value-clause-made
returns-in-Ok-to_value-clause-made g c =
    has_root g.O.Transform.makes g.T.JsonSchema.says c.args.generator.now c.root_schema_for.new.self c.in-Ok.document c.in-Ok.ensures.root
    c.root_schema_for.ensures.own c.root_schema_for.ensures.keeps

-- ---- the document was made, and is not returned

pub returns-in-Ok-false-clause-left : goal.returns-in-Ok-false-clause-left
returns-in-Ok-false-clause-left g c = (
  c.in-Ok.document,
  has_root g.O.Transform.makes g.T.JsonSchema.says c.args.generator.now c.root_schema_for.new.self c.in-Ok.document c.in-Ok.ensures.root
      c.root_schema_for.ensures.own c.root_schema_for.ensures.keeps,
)

pub returns-in-Err-is_plain_for_each-clause-left : goal.returns-in-Err-is_plain_for_each-clause-left
returns-in-Err-is_plain_for_each-clause-left g c = (
  c.in-Ok.document,
  has_root g.O.Transform.makes g.T.JsonSchema.says c.args.generator.now c.root_schema_for.new.self c.in-Ok.document c.in-Ok.ensures.root
      c.root_schema_for.ensures.own c.root_schema_for.ensures.keeps,
)

pub returns-in-Err-to_value-clause-left : goal.returns-in-Err-to_value-clause-left
returns-in-Err-to_value-clause-left g c = (
  c.in-Ok.document,
  has_root g.O.Transform.makes g.T.JsonSchema.says c.args.generator.now c.root_schema_for.new.self c.in-Ok.document c.in-Ok.ensures.root
      c.root_schema_for.ensures.own c.root_schema_for.ensures.keeps,
)
