use Rattle.schemars_impls.proofs.Keeping.{keeps-trans}
use Rattle.schemars_impls.proofs.OwnRows.{row_number, map_follows}
use Rattle.schemars_impls.proofs.rows.map_of.Goals as goal

pub returns-clause-has : goal.returns-clause-has
returns-clause-has g c = record {
  rows = c.register.new.types;
  key_number = c.in_ok-key.key;
  keeps = c.in_ok-key.ensures.keeps;
  key_place = c.in_ok-key.ensures.added.number;
  has = c.in_ok-number.ensures.has;
}

pub returns-clause-known : goal.returns-clause-known
returns-clause-known g c = row_number c.in_ok-number.ensures.has

pub returns-clause-follows : goal.returns-clause-follows
returns-clause-follows g c =
    map_follows g.K.JsonSchema.says c.args.id.now c.args.name.now c.in_ok-key.ensures.follows c.in_ok-key.ensures.added.number
    c.in_ok-number.ensures.has

pub returns-clause-keeps : goal.returns-clause-keeps
returns-clause-keeps g c = keeps-trans c.in_ok-key.ensures.keeps c.in_ok-number.ensures.keeps

pub returns-in_err-number-clause-keeps : goal.returns-in_err-number-clause-keeps
returns-in_err-number-clause-keeps g c = keeps-trans c.in_ok-key.ensures.keeps c.in_err-number.ensures.keeps
