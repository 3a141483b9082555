-- Each entry joins the table, unless it refers to no row.
use Rattle.std.proofs.Common.{◌≡◌, [], ◌∷◌, ◌++◌, ◌+◌, suc, List, length, map, refl, subst, sym, ap, ◌∙◌, append_assoc, append-nil, arith, rules}
use Rattle.schemagen_input.proofs.Words.{length-append, length-map, Data, entry_of, AreListed, IsNoTable}
use Rattle.schemagen_input.proofs.RowByRow.{one_more_defined, all_defined, not_defined}
use Rattle.schemagen_input.proofs.listing.define_rows.Goals as goal

nothing_left : {A : Type 0} (xs : List A) → length xs ≡ 0 → xs ≡ []
nothing_left [] e = refl
nothing_left (x ∷ xs) e = cc

pub overflow_add-n : goal.overflow_add-n
overflow_add-n c =
    let l = c.loop-entry in
    let left : l.entry-iterator.rest.items ≡ c.in-Some.entry ∷ c.next.new.self.rest.items = search rules in
    let many : length c.args.entries.items ≡ length l.invariant.0 + length (map entry_of l.entry-iterator.rest.items) =
    sym (length-map c.args.entries.items entry_of) ∙ ap length l.invariant.3 ∙ length-append l.invariant.0 _ in
    let some : length (map entry_of l.entry-iterator.rest.items) ≡ suc (length (map entry_of c.next.new.self.rest.items)) =
    ap (λ es. length (map entry_of es)) left in
    omega (arith, many, some, l.invariant.2, c.args.entries.ok)

pub returns-in_err-define-clause-bad : goal.returns-in_err-define-clause-bad
returns-in_err-define-clause-bad c =
    let l = c.loop-entry in
    let left : l.entry-iterator.rest.items ≡ c.in-Some.entry ∷ c.next.new.self.rest.items = search rules in
    let all = l.invariant.3 ∙ ap (λ es. l.invariant.0 ++ map entry_of es) left in
    let refused : (ds : List Data) → AreListed ds c.args.types (map entry_of c.args.entries.items) → IsNoTable ds =
    λ ds listed. not_defined ds c.args.types l.invariant.0 _ l.types l.n (entry_of c.in-Some.entry) _ (subst (AreListed ds c.args.types) all listed)
    l.invariant.1 l.invariant.2 (sym c.in_err-define.ensures.refused) in
    search (rules, refused)

pub loop-entry-preserved : goal.loop-entry-preserved
loop-entry-preserved c =
    let l = c.loop-entry in
    let e = entry_of c.in-Some.entry in
    let left : l.entry-iterator.rest.items ≡ c.in-Some.entry ∷ c.next.new.self.rest.items = search rules in (
      l.invariant.0 ++ e ∷ [],
      one_more_defined c.args.types l.invariant.0 l.types c.define.new.self l.n e l.invariant.1 l.invariant.2
          (sym c.in_ok-define.ensures.refused) c.in_ok-define.ensures.ok,
      omega (arith, l.invariant.2, length-append l.invariant.0 (e ∷ [])),
      l.invariant.3 ∙ ap (λ es. l.invariant.0 ++ map entry_of es) left
          ∙ sym (append_assoc l.invariant.0 (e ∷ []) (map entry_of c.next.new.self.rest.items)),
    )

pub returns-clause-ok : goal.returns-clause-ok
returns-clause-ok c = λ ds listed.
    let l = c.loop-entry in
    let many : length l.entry-iterator.rest.items ≡ 0 = search rules in
    let none : l.entry-iterator.rest.items ≡ [] = nothing_left _ many in
    let all = l.invariant.3 ∙ ap (λ es. l.invariant.0 ++ map entry_of es) none ∙ append-nil l.invariant.0 in
    all_defined ds c.args.types l.invariant.0 l.types (subst (AreListed ds c.args.types) all listed) l.invariant.1
