use Rattle.std.proofs.Common.{◌≡◌, ◌≤◌, ◌<◌, ◌∙◌, ℕ, List, Some, None, length, get_or, slice_get, refl, ap, sym, subst}
use Rattle.schemars_build.proofs.Words.{slice_get_past, slice_get_read, is_pending}
use Rattle.schemars_build.proofs.Marking.{not_marked, marked_past, marked_by}
use Rattle.schemars_build.proofs.pending.Pending.contains.Goals as goal

pub returns-in_default : goal.returns-in_default
returns-in_default c =
    let marks = c.self.inside.marks.items in
    let past : length marks ≤ c.args.n =
    subst (λ (ms : List ℕ). length ms ≤ c.args.n) c.deref.ensures.value c.in_default.ensures.lookup.3 in
    let none : slice_get marks c.args.n ≡ None = slice_get_past marks c.args.n past in
    sym (not_marked c.self.inside.rows.items marks c.args.n c.self.invariant none)
    ∙ ap (λ (ns : List ℕ). is_pending ns c.args.n) c.self.view_is

-- the element at a place of a list
at_place : (xs ys : List ℕ) (i n : ℕ) → ys ≡ xs → i < length ys → n ≡ get_or ys i n → slice_get xs i ≡ Some n
at_place xs ys i n same less is = ap (λ (ns : List ℕ). slice_get ns i) (sym same) ∙ slice_get_read ys (length ys) i n refl less is

pub returns-in-Some-get : goal.returns-in-Some-get
returns-in-Some-get c =
    let rows = c.self.inside.rows.items in
    let i = c.in-Some.mark.now in
    let marks = c.self.inside.marks.items in
    let says : slice_get marks c.args.n ≡ Some i = at_place marks c.deref.result.now c.args.n i c.deref.ensures.value
    c.in-Some.ensures.lookup.3.0 c.in-Some.ensures.lookup.1 in
    let here : slice_get rows i ≡ Some c.in-Some-get.row.now = at_place rows c.deref-2.result.now i c.in-Some-get.row.now
    c.deref-2.ensures.value c.in-Some-get.ensures.lookup.3.0 c.in-Some-get.ensures.lookup.1 in
    marked_by rows marks c.args.n c.self.invariant i says c.in-Some-get.row.now here
    ∙ ap (λ (ns : List ℕ). is_pending ns c.args.n) c.self.view_is

pub returns-in-None : goal.returns-in-None
returns-in-None c =
    let rows = c.self.inside.rows.items in
    let i = c.in-Some.mark.now in
    let marks = c.self.inside.marks.items in
    let says : slice_get marks c.args.n ≡ Some i = at_place marks c.deref.result.now c.args.n i c.deref.ensures.value
    c.in-Some.ensures.lookup.3.0 c.in-Some.ensures.lookup.1 in
    let past : length rows ≤ i = subst (λ (ns : List ℕ). length ns ≤ i) c.deref-2.ensures.value c.in-None.ensures.lookup.3 in
    sym (marked_past rows marks c.args.n c.self.invariant i says (slice_get_past rows i past))
    ∙ ap (λ (ns : List ℕ). is_pending ns c.args.n) c.self.view_is
