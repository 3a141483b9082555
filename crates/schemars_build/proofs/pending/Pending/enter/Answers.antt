use Rattle.std.proofs.Common.{◌≡◌, ◌∙◌, ℕ, List, false, Some, length, slice_get, ap, sym, subst}
use Rattle.schemars_build.proofs.Words.{AreMarked, is_pending}
use Rattle.schemars_build.proofs.Marking.{marked_push}
use Rattle.schemars_build.proofs.pending.Pending.enter.Goals as goal

pub invariant_of-self : goal.invariant_of-self
invariant_of-self c = λ i n at. c.in_err-extend.ensures.same n i (c.self.invariant i n at)

pub invariant_of-self-in_err-push : goal.invariant_of-self-in_err-push
invariant_of-self-in_err-push c = λ i n at.
    c.in_ok-extend.ensures.same n i (c.self.invariant i n (ap (λ (rows : List ℕ). slice_get rows i) (sym c.in_err-push.ensures.items) ∙ at))

pub invariant_of-self-2 : goal.invariant_of-self-2
invariant_of-self-2 c =
    let rows = c.self.inside.rows.items in
    let none : is_pending rows c.args.n ≡ false = ap (λ (ns : List ℕ). is_pending ns c.args.n) c.self.view_is ∙ sym c.if-contains.ensures in
    subst (λ (ns : List ℕ). AreMarked ns c.put_mark.new.marks.items) (sym c.in_ok-push.ensures.items)
    (marked_push rows c.extend.new.marks.items c.put_mark.new.marks.items c.args.n
    (λ i n at. c.in_ok-extend.ensures.same n i (c.self.invariant i n at)) none
    (c.put_mark.ensures.here ∙ ap Some (ap (λ (ns : List ℕ). length ns) c.as_slice-place.ensures.value)) c.put_mark.ensures.others)
