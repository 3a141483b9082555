use Rattle.std.proofs.Common.{◌≡◌, ℕ, Bor, List, [], map, take, refl, sym, ap, subst, arith}
use Rattle.schemars_shapes.proofs.Words.{IsDistinct, bytes_eq, take_all, Text, IsRepeated}
use Rattle.schemars_shapes.proofs.FieldRows.{now_of, met_none, met_more, repeated_at, from_not_false, from_not_true}
use Rattle.schemars_shapes.proofs.edges.names.first_of_many.Goals as goal

abbrev borrowed : Text → Bor (List ℕ)
borrowed t = record { ref_ptr = (0, 0); now = t }

abbrev missing : Bor (List ℕ)
missing = borrowed []

pub loop-name-init : goal.loop-name-init
loop-name-init c = met_none c.args.names.now c.new-met.result c.new-met.ensures.empty

pub returns-then-not-branch : goal.returns-then-not-branch
returns-then-not-branch c =
    subst (λ n. IsRepeated (map now_of c.args.names.now) n) (sym c.in_ok-name.ensures.ok)
    (repeated_at c.args.names.now c.loop-name.name-index missing (borrowed _) c.loop-name.met (omega (arith, c.loop-name-test.true)) refl
    c.loop-name.invariant
    (from_not_false c.in_ok-insert.field-0 _ c.in_ok-insert.ensures.added c.if-not-branch.true))

pub loop-name-preserved : goal.loop-name-preserved
loop-name-preserved c =
    met_more c.args.names.now c.loop-name.name-index missing (borrowed _) c.loop-name.met _ (omega (arith, c.loop-name-test.true)) refl
    c.loop-name.invariant
    (from_not_true c.in_ok-insert.field-0 _ c.in_ok-insert.ensures.added c.if-not-branch.false)
    c.in_ok-insert.ensures.updates

pub returns : goal.returns
returns c =
    let all : take c.loop-name.name-index c.args.names.now ≡ c.args.names.now =
    take_all _ _ (omega (arith, c.loop-name-test.false)) in
    subst (λ (ns : List Text). IsDistinct bytes_eq ns) (ap (map now_of) all) c.loop-name.invariant.differ
