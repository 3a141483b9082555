-- Null is taken out where the setting says so.
use Rattle.std.proofs.Common.{sym, ap, ◌∙◌, codes}
use Rattle.schemars_transform.proofs.Words.{if◌then◌else◌, get, null_taken_out}
use Rattle.schemars_transform.proofs.built_in.nullable.AddNullable.null_among.Goals as goal

pub returns-then-self : goal.returns-then-self
returns-then-self c =
    let s = c.args.schema.now in
    c.take_null_out.ensures ∙ ap (λ b. if b then null_taken_out (get (codes "type") s) s else s) (sym c.if-self.true)
