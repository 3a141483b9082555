use Rattle.std.proofs.Common.{◌≡◌, ◌∙◌, inr, subst, sym, true, false, refl}
use Rattle.schemars_accepted.proofs.Words.{view, members_view, place_of-below, IsChecked, IsPlainForEach, IsAmong, as_read}
use Rattle.schemars_types.specs.declared.contract.Contract.TheVariants.{Serialize}
use Rattle.schemars_accepted.proofs.Rooting.{joined_row}
use Rattle.schemars_accepted.proofs.Taking.{none_taken, none_left, all_taken, take_refused, all_accept}
use Rattle.schemars_accepted.proofs.definitions.to_accepted_definitions.Goals as goal

-- ---- a table that is plain for each dialect is not refused

pub returns-in-Ok-false-clause-refused : goal.returns-in-Ok-false-clause-refused
returns-in-Ok-false-clause-refused g c = λ plain.
    let same : IsPlainForEach Serialize c.types.result.now = subst (IsPlainForEach Serialize) (sym c.types.ensures.table) plain in
    let never : false ≡ true = sym c.in-Ok-false.field-0-test ∙ c.in-Ok-false.ensures.1 same in
    absurd (cc)

-- ---- the type has joined, and nothing is taken

pub returns-in-Ok-false-clause-unchanged : goal.returns-in-Ok-false-clause-unchanged
returns-in-Ok-false-clause-unchanged g c =
    none_taken g.T.JsonSchema.says c.args.generator.now c.subschema_for.new.self c.in-Ok.schema c.in-Ok.ensures.subschema
    c.subschema_for.ensures.own c.subschema_for.ensures.keeps c.subschema_for.ensures.rest

pub returns-in-Err-is_plain_for_each-clause-unchanged : goal.returns-in-Err-is_plain_for_each-clause-unchanged
returns-in-Err-is_plain_for_each-clause-unchanged g c =
    none_taken g.T.JsonSchema.says c.args.generator.now c.subschema_for.new.self c.in-Ok.schema c.in-Ok.ensures.subschema
    c.subschema_for.ensures.own c.subschema_for.ensures.keeps c.subschema_for.ensures.rest

pub returns-in-Err-to_value-clause-unchanged : goal.returns-in-Err-to_value-clause-unchanged
returns-in-Err-to_value-clause-unchanged g c =
    none_taken g.T.JsonSchema.says c.args.generator.now c.subschema_for.new.self c.in-Ok.schema c.in-Ok.ensures.subschema
    c.subschema_for.ensures.own c.subschema_for.ensures.keeps c.subschema_for.ensures.rest

-- ---- the definitions are taken

pub returns-in-Ok-take_definitions-clause-made : goal.returns-in-Ok-take_definitions-clause-made
returns-in-Ok-take_definitions-clause-made g c =
    all_taken g.T.JsonSchema.says c.args.generator.now c.subschema_for.new.self c.in-Ok.schema c.in-Ok.ensures.subschema
    c.subschema_for.ensures.own c.subschema_for.ensures.keeps c.subschema_for.ensures.rest g.O.Transform.makes
    c.take_definitions.new.self (members_view c.in-Ok-take_definitions.definitions.entries)
    (c.in-Ok-take_definitions.ensures.transformed refl) c.in-Ok-take_definitions.ensures.gone

pub returns-in-Ok-take_definitions-clause-accepted : goal.returns-in-Ok-take_definitions-clause-accepted
returns-in-Ok-take_definitions-clause-accepted g c = λ for.
    let rows = c.subschema_for.new.self.rows in
    let is = c.in-Ok.ensures.subschema in
    let checked : IsChecked rows = c.types.ensures.accepted.1 in
    let row = joined_row g.T.JsonSchema.says g.T.AgreesAsDescribed.is_told g.T.Agrees.is_row
    (λ d told. g.met.T.AgreesAsDescribed.is_in d told)
    (λ d rows n told are checked there. g.met.T.AgreesAsDescribed.described d rows n told are checked there)
    c.args.generator.now.rows rows is.n c.requires.told is.joined checked in
    let h = c.in-Ok-to_value.ensures.events in
    let plain : IsPlainForEach Serialize rows = subst (IsPlainForEach Serialize) c.types.ensures.table
    (c.in-Ok-true.ensures.0 c.in-Ok-true.field-0-test) in
    all_accept g.T.JsonSchema.says c.args.generator.now c.subschema_for.new.self c.in-Ok.schema is
    c.subschema_for.ensures.own c.subschema_for.ensures.keeps c.subschema_for.ensures.rest
    (IsAmong g.T.Agrees.readings c.args.value.now) g.O.Transform.makes c.take_definitions.new.self
    (members_view c.in-Ok-take_definitions.definitions.entries) (view c.in-Ok-to_value.written) for c.definitions.ensures.one_to_one plain
    (c.in-Ok-take_definitions.ensures.transformed refl) c.in-Ok-take_definitions.ensures.gone
    (as_read true rows checked is.n (place_of-below g.T.JsonSchema.says.id rows is.n is.joined.registered.added.number)
    (g.T.Described.writes c.args.value.now)
    (g.met.T.Agrees.agrees rows is.n c.args.value.now checked row (c.if-not-is_valid.ensures.passes refl))
    h.0 h.1 h.2 h.3 (view c.in-Ok-to_value.written) h.4) c.look.ensures

-- ---- the definitions are refused

pub returns-in-Err-take_definitions-clause-refused : goal.returns-in-Err-take_definitions-clause-refused
returns-in-Err-take_definitions-clause-refused g c =
    take_refused g.T.JsonSchema.says c.args.generator.now c.subschema_for.new.self c.in-Ok.schema c.in-Ok.ensures.subschema
    c.subschema_for.ensures.own c.subschema_for.ensures.keeps c.subschema_for.ensures.rest g.O.Transform.makes
    c.take_definitions.new.self c.in-Err-take_definitions.error c.in-Err-take_definitions.ensures.refused
    c.in-Err-take_definitions.ensures.err

pub returns-in-Err-take_definitions-clause-unchanged : goal.returns-in-Err-take_definitions-clause-unchanged
returns-in-Err-take_definitions-clause-unchanged g c =
    inr (none_left g.T.JsonSchema.says c.args.generator.now c.subschema_for.new.self c.in-Ok.schema c.in-Ok.ensures.subschema
    c.subschema_for.ensures.own c.subschema_for.ensures.keeps c.subschema_for.ensures.rest c.take_definitions.new.self
    c.in-Err-take_definitions.ensures.err)
