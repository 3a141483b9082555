use Rattle.std.proofs.Common.{◌∙◌, ap, sym, subst, take}
use Rattle.schemars_generate.proofs.Words.{IsChecked, err_told, IsTypeRefusal, place_of-below}
use Rattle.schemars_generate.proofs.ByType.{begins, registered, type_refusal, check_refusal}
use Rattle.schemars_generate.proofs.by_type.join.Goals as goal

pub returns-in_err-n-clause-begins : goal.returns-in_err-n-clause-begins
returns-in_err-n-clause-begins g c = begins c.args.types.now c.register.new.types c.requires.checked.1 c.in_err-n.ensures.keeps

pub returns-in_err-n-clause-refused : goal.returns-in_err-n-clause-refused
returns-in_err-n-clause-refused g c =
    let P = IsTypeRefusal g.T.JsonSchema.says c.args.types.now in
    let why = c.in_err-n.ensures in
    err_told c.from_residual.result P _ c.from_residual.ensures.1
    (λ e is. subst P (sym is) (type_refusal g.T.JsonSchema.says c.args.types.now c.in_err-n.field-0.0 why.refused))

pub check_from-requires : goal.check_from-requires
check_from-requires g c =
    let same = ap (λ k. take k c.register.new.types) c.len-checked.ensures.len
    ∙ begins c.args.types.now c.register.new.types c.requires.checked.1 c.in_ok-n.ensures.keeps in
    subst IsChecked (sym same) c.requires.checked.1

pub returns-in_err-check_from-clause-begins : goal.returns-in_err-check_from-clause-begins
returns-in_err-check_from-clause-begins g c =
    begins c.args.types.now c.register.new.types c.requires.checked.1 c.in_ok-n.ensures.keeps

pub returns-in_err-check_from-clause-refused : goal.returns-in_err-check_from-clause-refused
returns-in_err-check_from-clause-refused g c =
    let P = IsTypeRefusal g.T.JsonSchema.says c.args.types.now in
    let made = c.in_ok-n.ensures in
    let is = registered g.T.JsonSchema.says c.args.types.now c.register.new.types c.in_ok-n.n c.requires.checked.1 c.len-len.ensures.ids made.keeps made.added
    made.present made.follows in
    err_told c.from_residual-in_err-check_from.result P _ c.from_residual-in_err-check_from.ensures.1
    (λ e told. subst P (sym told)
    (check_refusal _ _ c.register.new.types c.in_ok-n.n c.in_err-check_from.field-0.0 c.requires.checked.0 is
    c.in_err-check_from.ensures.refused))

pub returns-in_err-extend-clause-begins : goal.returns-in_err-extend-clause-begins
returns-in_err-extend-clause-begins g c = begins c.args.types.now c.register.new.types c.requires.checked.1 c.in_ok-n.ensures.keeps

pub returns-clause-begins : goal.returns-clause-begins
returns-clause-begins g c = begins c.args.types.now c.register.new.types c.requires.checked.1 c.in_ok-n.ensures.keeps

pub returns-clause-joined : goal.returns-clause-joined
returns-clause-joined g c =
    let made = c.in_ok-n.ensures in
    record {
      registered = registered g.T.JsonSchema.says c.args.types.now c.register.new.types c.in_ok-n.n c.requires.checked.1 c.len-len.ensures.ids made.keeps
          made.added made.present made.follows;
      accepted = c.in_ok-check_from.ensures.accepted;
    }

pub returns-clause-known : goal.returns-clause-known
returns-clause-known g c = place_of-below g.T.JsonSchema.says.id c.register.new.types c.in_ok-n.n c.in_ok-n.ensures.added.number
