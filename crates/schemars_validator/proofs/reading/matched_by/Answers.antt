-- What was found so far, and what is left.
use Rattle.std.proofs.Common.{rules, ◌≡◌, ◌||◌, ◌+◌, ◌∷◌, [], ℕ, List, Bor, get_or, add-one, drop-cons, subst, drop, map, bytes_eq, string_bytes}
use Rattle.schemars_validator.proofs.Words.{list_any, drop_all, found_in}
use Rattle.schemars_validator.proofs.Pairs.{asked_next, asked_all}
use Rattle.schemars_validator.proofs.reading.matched_by.Goals as goal

pub loop-text-preserved : goal.loop-text-preserved
loop-text-preserved c = (
  search rules,
  λ t.
      let texts = c.args.texts.now in
      let i = c.loop-text.text-index in
      let none : Bor (List ℕ) = record { ref_ptr = (0, 0); now = [] } in
      let cut : drop i texts ≡ get_or texts i none ∷ drop (i + 1) texts = rw add-one (drop-cons texts i none (search rules)) in
      let before = subst (λ ds. (list_any (λ k. bytes_eq t (string_bytes k)) c.loop-text.found.keys
      || found_in c.args.expression.now (map (λ x. x.now) ds) t)
      ≡ found_in c.args.expression.now (map (λ x. x.now) texts) t)
      cut (c.loop-text.invariant.1 t) in
      asked_next c.args.expression.now _ _ t _ _ _ _ (search rules) (c.in_ok-add_if.ensures t) before,
)

pub returns : goal.returns
returns c = λ pattern text.
    let texts = c.args.texts.now in
    let none : drop c.loop-text.text-index texts ≡ [] = drop_all c.loop-text.text-index texts (search rules) in
    let all = subst (λ ds. (list_any (λ k. bytes_eq text (string_bytes k)) c.loop-text.found.keys
    || found_in c.args.expression.now (map (λ x. x.now) ds) text)
    ≡ found_in c.args.expression.now (map (λ x. x.now) texts) text) none (c.loop-text.invariant.1 text) in
    asked_all _ _ pattern _ _ (search rules) all
