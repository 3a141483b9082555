use Rattle.std.proofs.Common.{◌≡◌, ◌-◌, ◌<◌, ℕ, List, [], ◌∷◌, length, reverse, Some, None, rules, refl, sym, ◌∙◌, subst, slice_set, slice_index_or, arith}
use Rattle.schemars_build.proofs.Words.{vec_len, Data, IsTaken, HasAnswered}
use Rattle.schemars_build.specs.declared.build.Document.{Document}
use Rattle.schemars_build.proofs.Innermost.{last_got, last_set, none_reversed}
use Rattle.schemars_build.proofs.build.deliver.Goals as goal

last_answered : (xs zs : List Document) (s : Data) (x e : Document) (n : ℕ) → n ≡ length xs → 0 < n → reverse xs ≡ zs
    → x ≡ slice_index_or xs (n - 1) x → HasAnswered x s e → IsTaken zs (Some s) (reverse (slice_set xs (n - 1) e)) None
last_answered xs [] s x e n long some is at has = let none = none_reversed xs is in absurd (omega (arith, none, long, some))
last_answered xs (d ∷ ds) s x e n long some is at has =
    (refl, e, last_set xs ds d e n long is, subst (λ y. HasAnswered y s e) (at ∙ last_got xs ds d x n long is) has)

pub returns : goal.returns
returns c =
    let xs = c.args.making.now.items in
    let n = vec_len c.args.making.now in
    let long : n ≡ length xs = search rules in
    let some : 0 < n = search rules in
    let x = c.in-Some-last_mut.document.now in
    let e : Document = record {
      row = x.row;
      purpose = x.purpose;
      in_definition = x.in_definition;
      template = x.template;
      asks = x.asks;
      answers = c.push.new.self;
    } in
    let has : HasAnswered x c.in-Some.answer e = record {
      row = refl;
      purpose = refl;
      in_definition = refl;
      template = refl;
      asks = refl;
      answers = search rules;
    } in
    subst (λ o. IsTaken (reverse xs) o (reverse (slice_set xs (n - 1) e)) None) (sym c.in-Some.is)
    (last_answered xs (reverse xs) c.in-Some.answer x e n long some refl c.in-Some-last_mut.ensures.value has)
