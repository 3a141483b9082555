-- The text of the document that the transforms made.
use Rattle.std.proofs.Common.{inl, inr, sym, subst, string_bytes}
use Rattle.schemars_generate.proofs.Words.{err_told, Transforms, state, IsRootRefusal, held_transforms}
use Rattle.schemars_generate.specs.declared.error.GenerateError.{GenerateError}
use Rattle.schemars_generate.proofs.RootTexts.{root_text, refused_before}
use Rattle.schemars_generate.proofs.generate.SchemaGenerator.late_text.Goals as goal

pub returns-in_err-document-clause-refused : goal.returns-in_err-document-clause-refused
returns-in_err-document-clause-refused g c =
    let P : GenerateError → Type 0 = λ e. (x : Transforms g.row.O.Denot)
    × IsRootRefusal g.O.Transform.makes (held_transforms c.args.self) x (state c.args.self) c.args.n e in
    err_told c.from_residual.result P _ c.from_residual.ensures.1 (λ e is. subst P (sym is) c.in_err-document.ensures.refused)

pub returns-in_err-text-clause-refused : goal.returns-in_err-text-clause-refused
returns-in_err-text-clause-refused g c =
    let Q = g.O.Transform.makes in
    let ts = held_transforms c.args.self in
    let s = state c.args.self in
    let P : GenerateError → Type 0 = λ e. (x : Transforms g.row.O.Denot) × IsRootRefusal Q ts x s c.args.n e in
    err_told c.from_residual-in_err-text.result P _ c.from_residual-in_err-text.ensures.1
    (λ e is. (ts, refused_before Q ts s c.args.n e (inr (inl is))))

pub returns-clause-text : goal.returns-clause-text
returns-clause-text g c =
    let made = c.in_ok-document.ensures.made in
    root_text g.O.Transform.makes (held_transforms c.args.self) (state c.args.self) c.args.n made.0 c.in_ok-document.document
    (string_bytes c.in_ok-text.text) made.1 c.in_ok-text.ensures.ordered
