-- One member more.
use Rattle.std.proofs.Common.{◌++◌, ◌+◌, ◌∷◌, drop, ap, sym, subst, ◌∙◌, is_some, Some, ◌≡◌, false, arith}
use Rattle.schemars_parts.proofs.Words.{drop_all, member, first_keywords, last_keywords, is_listed, place_in, Fills, filled, passed_over, all_found, keywords_apart, is_some-place_in, assembled_view, members_assembled}
use Rattle.schemars_parts.proofs.Lists.{next_member}
use Rattle.schemars_parts.proofs.places.find_fixed.Goals as goal
use Rattle.schemars_parts.proofs.places.find_fixed.Goals.{in-Some, in_default}

pub loop-key-preserved : goal.loop-key-preserved
loop-key-preserved c =
    let es = c.deref-key-items.result.now in
    let i = c.loop-key.key-index in
    let e = c.loop-key-item.result in
    let left = members_assembled (drop (i + 1) es) in
    let all = members_assembled c.args.members.now.items in
    let ks = first_keywords ++ last_keywords in
    let here : drop i es ≡ e ∷ drop (i + 1) es = next_member es i e (omega arith) c.loop-key-item.is in
    let before : Fills assembled_view c.loop-key.found ks (member e.0.now (assembled_view e.1) left) all =
    subst (λ xs. Fills assembled_view c.loop-key.found ks (members_assembled xs) all) here c.loop-key.invariant in
    elim c.match-place_of.branch [
      | in-Some w ↦
          let at : place_in e.0.now ks ≡ Some w.in-Some.place = sym c.place_of.ensures ∙ w.in-Some.is in
          rw (w.found-is, w.or.ensures)
          (filled assembled_view c.loop-key.found ks w.in-Some.place _ e.0.now _ left all keywords_apart at before)
      | in_default w ↦
          let unlisted : is_listed e.0.now ks ≡ false = sym (is_some-place_in e.0.now ks) ∙ ap is_some (sym c.place_of.ensures ∙ w.in_default.is) in
          rw w.found-is (passed_over assembled_view _ _ _ _ left all unlisted before)
    ]

pub returns : goal.returns
returns c =
    let es = c.deref-key-items.result.now in
    let all = members_assembled c.args.members.now.items in
    let ks = first_keywords ++ last_keywords in
    all_found assembled_view c.loop-key.found ks all
    (subst (λ xs. Fills assembled_view c.loop-key.found ks (members_assembled xs) all) (drop_all c.loop-key.key-index es (omega arith))
    c.loop-key.invariant)
