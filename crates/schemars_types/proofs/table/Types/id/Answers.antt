use Rattle.std.proofs.Common.{◌≡◌, ap, ◌∙◌, sym, option_map, slice_get, rules}
use Rattle.schemars_types.proofs.Words.{slice_get-map, row_of}
use Rattle.schemars_types.proofs.table.Types.id.Goals as goal

pub returns : goal.returns
returns c =
    let there : slice_get c.args.self.now c.args.n ≡ option_map row_of (slice_get c.self.inside.slots.entries c.args.n) =
    ap (λ rows. slice_get rows c.args.n) (sym c.self.view_is) ∙ slice_get-map row_of c.self.inside.slots.entries c.args.n in
    rw there (search rules)
