-- Each name is looked for among those before it.
use Rattle.std.proofs.Common.{ℕ, Bor, List, [], map, refl, sym, subst}
use Rattle.schemars_shapes.proofs.Words.{IsDistinct, Text, IsRepeated}
use Rattle.schemars_shapes.proofs.FieldRows.{now_of, few_more, few_repeated}
use Rattle.schemars_shapes.proofs.edges.names.first_of_few.Goals as goal

abbrev borrowed : Text → Bor (List ℕ)
borrowed t = record { ref_ptr = (0, 0); now = t }

abbrev missing : Bor (List ℕ)
missing = borrowed []

pub loop-place-init : goal.loop-place-init
unfolding IsDistinct
loop-place-init c = tt

pub returns-then-is_among : goal.returns-then-is_among
returns-then-is_among c =
    subst (λ n. IsRepeated (map now_of c.args.names.now) n) (sym c.in_ok-name.ensures.ok)
    (few_repeated c.args.names.now c.loop-place.place missing (borrowed _) c.loop-place-test.true refl
    c.loop-place.invariant (sym c.if-is_among.ensures))

pub loop-place-preserved : goal.loop-place-preserved
loop-place-preserved c =
    few_more c.args.names.now c.loop-place.place missing (borrowed _) c.loop-place-test.true refl
    c.loop-place.invariant (sym c.if-is_among.ensures)
