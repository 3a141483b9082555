use Rattle.std.proofs.Common.{◌≡◌, None, Some, ap, ◌∙◌, sym}
use Rattle.schemars_types.proofs.Words.{err_from_is_err_and, Entry, shape_of, without_notes, place_of, reserved, defined, Refuses, refusal_of}
use Rattle.schemars_types.proofs.TableLemmas.{place_of-defined}
use Rattle.schemars_types.proofs.Registered.{refused-reserved, free-reserved}
use Rattle.schemars_types.proofs.table.Types.register_named.Goals as goal

-- what the refusal of `define` says of the table as it was
refusal : (c : goal.After-from_residual-in_err-define)
    → (reserved c.args.id.now c.args.name.now c.args.self.now ≡ c.args.self.now)
    × Refuses c.args.id.now (without_notes c.args.inline (shape_of c.args.shape)) c.args.self.now c.in_err-define.field-0.0
refusal c =
    let id = c.args.id.now in
    let name = c.args.name.now in
    let e : Entry = without_notes c.args.inline (shape_of c.args.shape) in
    let refused : Some c.in_err-define.field-0.0 ≡ refusal_of c.reserve_named.new.self c.in_ok-n.n e =
    c.in_err-define.ensures.refused ∙ ap (refusal_of c.reserve_named.new.self c.in_ok-n.n) c.without_notes-entry.ensures in
    refused-reserved id name e c.args.self.now c.in_ok-n.n c.requires c.in_err-define.field-0.0
    (ap (place_of id) (sym c.in_ok-n.ensures.ok) ∙ c.in_ok-n.ensures.number)
    (ap (λ rows. refusal_of rows c.in_ok-n.n e) (sym c.in_ok-n.ensures.ok) ∙ sym refused)

pub returns-in_err-define-clause-err : goal.returns-in_err-define-clause-err
returns-in_err-define-clause-err c =
    let p = err_from_is_err_and c.from_residual-in_err-define.result c.from_residual-in_err-define.ensures.1 in
    rw p.1 (c.in_err-define.ensures.err ∙ c.in_ok-n.ensures.ok ∙ (refusal c).0)

pub returns-in_err-define-clause-refused : goal.returns-in_err-define-clause-refused
returns-in_err-define-clause-refused c =
    let p = err_from_is_err_and c.from_residual-in_err-define.result c.from_residual-in_err-define.ensures.1 in
    rw (p.1, p.2) (refusal c).1

pub returns-clause-ok : goal.returns-clause-ok
returns-clause-ok c =
    let id = c.args.id.now in
    let name = c.args.name.now in
    let e : Entry = without_notes c.args.inline (shape_of c.args.shape) in
    let accepted : refusal_of c.reserve_named.new.self c.in_ok-n.n e ≡ None =
    ap (refusal_of c.reserve_named.new.self c.in_ok-n.n) (sym c.without_notes-entry.ensures) ∙ sym c.in_ok-define.ensures.refused in
    let table : c.define.new.self ≡ defined c.in_ok-n.n e c.reserve_named.new.self =
    c.in_ok-define.ensures.ok ∙ ap (λ f. defined c.in_ok-n.n f c.reserve_named.new.self) c.without_notes-entry.ensures in
    record {
      number = ap (place_of id) table ∙ place_of-defined id c.in_ok-n.n e c.reserve_named.new.self ∙ c.in_ok-n.ensures.number;
      table = table ∙ ap (defined c.in_ok-n.n e) c.in_ok-n.ensures.ok;
      known = c.requires;
      free = free-reserved id name e c.args.self.now c.in_ok-n.n c.requires
          (ap (place_of id) (sym c.in_ok-n.ensures.ok) ∙ c.in_ok-n.ensures.number)
          (ap (λ rows. refusal_of rows c.in_ok-n.n e) (sym c.in_ok-n.ensures.ok) ∙ accepted);
    }
