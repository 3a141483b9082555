-- Each number has its word.
use Rattle.std.proofs.Common.{◌≡◌, codes, subst, sym, refl, arith}
use Rattle.schemars_c.specs.Exports.{dialect_word}
use Rattle.schemars_c.proofs.words.word_for.Goals as goal

pub returns-in-0 : goal.returns-in-0
returns-in-0 c = (omega arith, subst (λ d. codes "2020-12" ≡ dialect_word d) (sym c.in-0.is) refl)

pub returns-in-1 : goal.returns-in-1
returns-in-1 c = (omega arith, subst (λ d. codes "2019-09" ≡ dialect_word d) (sym c.in-1.is) refl)

pub returns-in-2 : goal.returns-in-2
returns-in-2 c = (omega arith, subst (λ d. codes "draft-07" ≡ dialect_word d) (sym c.in-2.is) refl)

pub returns-in-3 : goal.returns-in-3
returns-in-3 c = (omega arith, subst (λ d. codes "openapi3" ≡ dialect_word d) (sym c.in-3.is) refl)
