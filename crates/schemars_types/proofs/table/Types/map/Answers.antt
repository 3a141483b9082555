-- Which of the two forms a name has, by the id of the keys.
use Rattle.std.proofs.Common.{refl, ◌≡◌, ◌∙◌, ℕ, zero, suc, List, [], ◌∷◌, true, false, ap, sym, nat_le, length, arith}
use Rattle.schemars_types.proofs.Words.{nat_tests, is_text_id, Row, id_at}
use Rattle.schemars_types.proofs.table.Types.map.Goals as goal

-- a row with an id of texts is a row of the table
known_text : (rows : List Row) (n : ℕ) → is_text_id (id_at rows n) ≡ true → nat_le (length rows) n ≡ false
known_text [] n text = cc
known_text (r ∷ rows) zero text = grind (arith, nat_tests)
known_text (r ∷ rows) (suc n) text = let below : nat_le (length rows) n ≡ false = known_text rows n text in grind (arith, nat_tests)

pub register_around-requires : goal.register_around-requires
register_around-requires c =
    let text : is_text_id (id_at c.args.self.now c.args.key) ≡ true =
    ap is_text_id (sym c.id_at.ensures) ∙ sym c.if-eq.ensures in
    rw (known_text c.args.self.now c.args.key text)

pub register_pair-requires : goal.register_pair-requires
register_pair-requires c = refl

pub returns-then-eq-clause-ok : goal.returns-then-eq-clause-ok
returns-then-eq-clause-ok c =
    let text : is_text_id (id_at c.args.self.now c.args.key) ≡ true =
    ap is_text_id (sym c.id_at.ensures) ∙ sym c.if-eq.ensures in
    rw text c.register_around.ensures.ok

pub returns-then-eq-clause-refused : goal.returns-then-eq-clause-refused
returns-then-eq-clause-refused c =
    let text : is_text_id (id_at c.args.self.now c.args.key) ≡ true =
    ap is_text_id (sym c.id_at.ensures) ∙ sym c.if-eq.ensures in
    rw text c.register_around.ensures.refused

pub returns-clause-ok : goal.returns-clause-ok
returns-clause-ok c =
    let other : is_text_id (id_at c.args.self.now c.args.key) ≡ false =
    ap is_text_id (sym c.id_at.ensures) ∙ sym c.if-eq.ensures in
    rw other c.register_pair.ensures.ok

pub returns-clause-refused : goal.returns-clause-refused
returns-clause-refused c =
    let other : is_text_id (id_at c.args.self.now c.args.key) ≡ false =
    ap is_text_id (sym c.id_at.ensures) ∙ sym c.if-eq.ensures in
    rw other c.register_pair.ensures.refused
