-- An object needs what its keywords need.
use Rattle.std.proofs.Common.{◌≡◌, ◌+◌, ◌∷◌, drop, length, sym, ap, ◌∙◌, arith}
use Rattle.schemars_parts.proofs.Words.{drop_all, ◌==◌, members_depth, needed, needed_by_names, needed_by_keywords, keyword_done, nothing_left, name_done, no_names_left, assembled_view, members_assembled}
use Rattle.schemars_parts.proofs.Lists.{counted, next_member}
use Rattle.schemars_parts.proofs.PartViews.{seen_object}
use Rattle.schemars_parts.proofs.needs.+needs.Goals as goal

pub add_schema-returns-in-Object : goal.add_schema-returns-in-Object
unfolding needed
add_schema-returns-in-Object t c =
    let es = c.in-Object.members.items in
    let now = c.args.needs.now in
    let many : c.len.result ≡ length es = omega arith in
    rw (c.in-Object.is, seen_object c.in-Object.members) (c.add_keywords.ensures
    ∙ ap (λ n. needed_by_keywords (n == 1) (members_assembled es) now) (many ∙ sym (counted es)))

pub add_keywords-loop-key-preserved : goal.add_keywords-loop-key-preserved
add_keywords-loop-key-preserved t c =
    let es = c.deref-key-items.result.now in
    let i = c.loop-key.key-index in
    let e = c.loop-key-item.result in
    let left = members_assembled (drop (i + 1) es) in
    let here : drop i es ≡ e ∷ drop (i + 1) es = next_member es i e (omega arith) c.loop-key-item.is in
    let deep = ap (λ xs. members_depth (members_assembled xs)) here in
    record {
      deep = omega (arith, c.loop-key.invariant.deep);
      rest =
          keyword_done c.args.alone e.0.now (assembled_view e.1) left c.loop-key.needs c.add_keyword.new.needs c.add_keyword.ensures
          ∙ (ap (λ xs. needed_by_keywords c.args.alone (members_assembled xs) c.loop-key.needs) (sym here) ∙ c.loop-key.invariant.rest);
    }

pub add_keywords-returns : goal.add_keywords-returns
add_keywords-returns t c =
    let ended = drop_all c.loop-key.key-index c.deref-key-items.result.now (omega arith) in
    sym (nothing_left c.args.alone c.loop-key.needs)
    ∙ (ap (λ xs. needed_by_keywords c.args.alone (members_assembled xs) c.loop-key.needs) (sym ended) ∙ c.loop-key.invariant.rest)

pub add_names-loop-part-preserved : goal.add_names-loop-part-preserved
add_names-loop-part-preserved t c =
    let es = c.deref-part-items.result.now in
    let i = c.loop-part.part-index in
    let e = c.loop-part-item.result in
    let left = members_assembled (drop (i + 1) es) in
    let here : drop i es ≡ e ∷ drop (i + 1) es = next_member es i e (omega arith) c.loop-part-item.is in
    let deep = ap (λ xs. members_depth (members_assembled xs)) here in
    record {
      deep = omega (arith, c.loop-part.invariant.deep);
      rest =
          name_done e.0.now (assembled_view e.1) left c.loop-part.needs c.add_schema.new.needs c.add_schema.ensures
          ∙ (ap (λ xs. needed_by_names (members_assembled xs) c.loop-part.needs) (sym here) ∙ c.loop-part.invariant.rest);
    }

pub add_names-returns : goal.add_names-returns
add_names-returns t c =
    let ended = drop_all c.loop-part.part-index c.deref-part-items.result.now (omega arith) in
    sym (no_names_left c.loop-part.needs)
    ∙ (ap (λ xs. needed_by_names (members_assembled xs) c.loop-part.needs) (sym ended) ∙ c.loop-part.invariant.rest)
