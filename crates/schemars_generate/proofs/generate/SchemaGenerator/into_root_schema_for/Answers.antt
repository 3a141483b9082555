use Rattle.std.proofs.Common.{inl, inr, refl, sym, subst}
use Rattle.schemars_generate.proofs.Words.{IfOk-weaker, IfErr-weaker, err_told, more_types_own, IsJoined, IsRootOfTypeRefusal, with_rows, state, Transforms, IsTransformed, IsUntransformed, IsRootRefusal, held_transforms}
use Rattle.schemars_generate.specs.declared.error.GenerateError.{GenerateError}
use Rattle.schemars_generate.proofs.ByType.{root_in_table}
use Rattle.schemars_generate.proofs.generate.SchemaGenerator.into_root_schema_for.Goals as goal

pub returns-in_err-n-clause-refused : goal.returns-in_err-n-clause-refused
returns-in_err-n-clause-refused g c =
    let t = g.T.JsonSchema in
    let self = c.args.self in
    let P : GenerateError → Type 0 = λ e. (us : Transforms g.row.O.Denot)
    × IsRootOfTypeRefusal g.O.Transform.makes (held_transforms self) us (state self) t.says (IsJoined t.says self.rows) e in
    err_told c.from_residual.result P _ c.from_residual.ensures.1
    (λ e is. subst P (sym is) (held_transforms self, inl (c.in_err-n.ensures.refused, refl)))

pub returns-clause-refused : goal.returns-clause-refused
returns-clause-refused g c =
    let Q = g.O.Transform.makes in
    let joined = c.join.new.self in
    IfErr-weaker c.into_root_schema_for_type.result _ _ (λ e h. (
      h.0,
      inr (record {
        rows = joined.rows;
        n = c.in_ok-n.n;
        is_row = c.in_ok-n.ensures.joined;
        refusal = subst (λ y. IsRootRefusal Q (held_transforms y) h.0 (state y) c.in_ok-n.n e) c.join.ensures.rest h.1;
      }),
    )) c.into_root_schema_for_type.ensures.refused

pub returns-clause-root : goal.returns-clause-root
returns-clause-root g c =
    let Q = g.O.Transform.makes in
    let self = c.args.self in
    let n = c.in_ok-n.n in
    let rows = c.join.new.self.rows in
    let s = with_rows rows (state self) in
    let joined = c.in_ok-n.ensures.joined in
    IfOk-weaker c.into_root_schema_for_type.result _ _ (λ d h. (
      rows,
      n,
      h.0,
      joined,
      (λ own. more_types_own (state self) rows c.join.ensures.checked joined.registered.begins own),
      root_in_table Q (held_transforms self) h.0 s n (IsUntransformed s n) d (λ e told. told.headlines)
          (subst (λ y. IsTransformed Q (held_transforms y) h.0 (IsUntransformed (state y) n) d) c.join.ensures.rest h.1),
    )) c.into_root_schema_for_type.ensures.made
