use Rattle.std.proofs.Common.{◌≡◌, List, nat_cmp, Greater, get_or, sym, ap, ◌∙◌, arith}
use Rattle.schemars_parts.proofs.Words.{slice_cmp}
use Rattle.schemars_parts.proofs.Entries.{Entry}
use Rattle.schemars_parts.proofs.Searched.{found_at, belongs_before, belongs_last, found_further, belongs_further}
use Rattle.schemars_parts.proofs.members.search.Goals as goal

pub returns-in-Less : goal.returns-in-Less
returns-in-Less c =
    let i = c.loop-place.place in
    let e = c.member-item.result in
    belongs_before c.args.name.now c.args.list.now.items i e (omega arith)
    (c.member-item.is ∙ ap (λ (xs : List Entry). get_or xs i e) c.deref-member-items.ensures.value)
    (sym c.cmp.ensures ∙ c.in-Less.is) c.loop-place.invariant.belongs

pub returns-in-Equal : goal.returns-in-Equal
returns-in-Equal c =
    let i = c.loop-place.place in
    let e = c.member-item.result in
    found_at c.args.name.now c.args.list.now.items i e (omega arith)
    (c.member-item.is ∙ ap (λ (xs : List Entry). get_or xs i e) c.deref-member-items.ensures.value)
    (sym c.cmp.ensures ∙ c.in-Equal.is) c.loop-place.invariant.found

pub loop-place-preserved : goal.loop-place-preserved
loop-place-preserved c =
    let k = c.args.name.now in
    let es = c.args.list.now.items in
    let i = c.loop-place.place in
    let e = c.member-item.result in
    let is : e ≡ get_or es i e =
    c.member-item.is ∙ ap (λ (xs : List Entry). get_or xs i e) c.deref-member-items.ensures.value in
    let behind : slice_cmp nat_cmp k e.0.now ≡ Greater = sym c.cmp.ensures ∙ c.in-Greater.is in
    record {
      found = found_further k es i e (omega arith) is behind c.loop-place.invariant.found;
      belongs = belongs_further k es i e (omega arith) is behind c.loop-place.invariant.belongs;
    }

pub returns : goal.returns
returns c =
    belongs_last c.args.name.now c.args.list.now.items c.loop-place.place c.len.result (omega arith) (omega arith)
    c.loop-place.invariant.belongs
