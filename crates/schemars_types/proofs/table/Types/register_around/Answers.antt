use Rattle.std.proofs.Common.{◌≡◌, ◌<◌, ℕ, List, [], ◌∷◌, true, Some, None, find, nat_le, length, ◌∙◌, subst, arith}
use Rattle.schemars_types.proofs.Words.{nat_tests, err_from_is_err_and, Row}
use Rattle.schemars_types.proofs.Registered.{nat_le-above}
use Rattle.schemars_types.proofs.table.Types.register_around.Goals as goal

known : (rows : List Row) (n len : ℕ) → len ≡ length rows → n < len → find (λ m. nat_le (length rows) m) (n ∷ []) ≡ None
known rows n len same below = rw (nat_le-above (length rows) n (subst (λ l. n < l) same below))

pub returns-then-len-n-clause-refused : goal.returns-then-len-n-clause-refused
returns-then-len-n-clause-refused c =
    let rows = c.args.self.now in
    let unknown : nat_le (length rows) c.args.n ≡ true = grind (arith, nat_tests) in
    let found : find (λ m. nat_le (length rows) m) (c.args.n ∷ []) ≡ Some c.args.n = rw unknown in
    c.requires ∙ found

pub returns-in_err-id-clause-refused : goal.returns-in_err-id-clause-refused
returns-in_err-id-clause-refused c =
    let p = err_from_is_err_and c.from_residual.result c.from_residual.ensures.1 in
    rw (p.1, p.2) (c.requires ∙ known c.args.self.now c.args.n c.len.result c.len.ensures.len c.if-len-n.false)

pub register_row-requires : goal.register_row-requires
register_row-requires c = c.requires ∙ known c.args.self.now c.args.n c.len.result c.len.ensures.len c.if-len-n.false

pub returns-clause-ok : goal.returns-clause-ok
returns-clause-ok c = rw (c.in_ok-id.ensures.id, c.in_ok-id.ensures.name) at c.register_row.ensures.ok

pub returns-clause-refused : goal.returns-clause-refused
returns-clause-refused c = rw c.in_ok-id.ensures.id at c.register_row.ensures.refused
