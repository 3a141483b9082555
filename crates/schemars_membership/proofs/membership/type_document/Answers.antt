-- The root document of the generator that was made, and why there is none.
use Rattle.std.proofs.Common.{◌≡◌, ◌∙◌, rules, inl, Err, ap, sym, subst}
use Rattle.schemars_membership.proofs.Words.{err_from_is_err_and, Draft2020_12, HasOwnDefinitions, IsUntransformed, RootHeadline, State, draft2020_12, fresh, state}
use Rattle.schemars_membership.proofs.Deciding.{IsRefusedRow, row_refused, type_document}
use Rattle.schemars_membership.proofs.membership.type_document.Goals as goal

pub returns-clause-made : goal.returns-clause-made
returns-clause-made c =
    let s = state c.in_ok-generator.generator in
    let n = c.args.n in
    let d = c.in_ok-document.document in
    let same : s ≡ fresh c.args.types c.args.contract = search rules in
    let built = c.in_ok-document.ensures.made.1.built_in (search rules) in
    type_document c.args.types c.args.contract n d
    (subst (λ (x : State). HasOwnDefinitions x) same c.in_ok-generator.ensures.own)
    (subst (λ (x : State). RootHeadline draft2020_12 x n d) same (c.in_ok-document.ensures.headline Draft2020_12 (search rules)))
    (subst (λ (x : State). IsUntransformed x n d) same (search rules))

pub returns-in_err-generator-clause-refused : goal.returns-in_err-generator-clause-refused
returns-in_err-generator-clause-refused c =
    let p = err_from_is_err_and c.from_residual.result c.from_residual.ensures.1 in
    rw (p.1, p.2) (inl c.in_err-generator.ensures.refused)

pub returns-in_err-document-clause-refused : goal.returns-in_err-document-clause-refused
returns-in_err-document-clause-refused c =
    let s = state c.in_ok-generator.generator in
    let n = c.args.n in
    let e = c.in_err-document.field-0.0 in
    let p = err_from_is_err_and c.from_residual-in_err-document.result c.from_residual-in_err-document.ensures.1 in
    let unknown = c.in_err-document.ensures.unknown in
    let why = c.in_err-document.ensures.refused.1 in
    let same : s ≡ fresh c.args.types c.args.contract = search rules in
    let row : IsRefusedRow s n e = record {
      unknown = λ is. unknown.0 (ap Err is);
      beyond = λ long. let is = unknown.1 long in cc;
      why = why.built_in (search rules);
      plain = λ plain known. why.only_memory (search rules) plain (search rules) known;
    } in
    rw (p.1, p.2) (row_refused c.args.types c.args.contract n e c.in_ok-generator.ensures.accepted
    (subst (λ (x : State). IsRefusedRow x n e) same row))
