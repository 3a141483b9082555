-- Each keyword says what its contract says.
use Rattle.std.proofs.Common.{◌∙◌, ◌∷◌, []}
use Rattle.schemars_assertions.proofs.Words.{view, all_of, type_says, const_says, enum_says, minimum_says, maximum_says, exclusive_minimum_says, exclusive_maximum_says, multiple_of_says, min_length_says, max_length_says, pattern_says, min_items_says, max_items_says, unique_items_says}
use Rattle.schemars_assertions.proofs.scalars.by_itself.Goals as goal

pub returns : goal.returns
returns g c =
    let v = view c.args.value.now in
    c.all_of.ensures
    ∙ (λ i. all_of (
    (c.type_says.ensures ∙ (λ j. type_says (c.reads_nullable.ensures j) (c.member.ensures j) (c.member-2.ensures j) v)) i
    ∷ (c.const_says.ensures ∙ (λ j. const_says (c.reads_const.ensures j) (c.member-3.ensures j) v)) i
    ∷ (c.enum_says.ensures ∙ (λ j. enum_says (c.member-4.ensures j) v)) i
    ∷ (c.minimum_says.ensures ∙ (λ j. minimum_says (c.member-5.ensures j) v)) i
    ∷ (c.maximum_says.ensures ∙ (λ j. maximum_says (c.member-6.ensures j) v)) i
    ∷ (c.exclusive_minimum_says.ensures ∙ (λ j. exclusive_minimum_says (c.reads_const-2.ensures j) (c.member-7.ensures j) (c.member-8.ensures j) v)) i
    ∷ (c.exclusive_maximum_says.ensures ∙ (λ j. exclusive_maximum_says (c.reads_const-3.ensures j) (c.member-9.ensures j) (c.member-10.ensures j) v)) i
    ∷ (c.multiple_of_says.ensures ∙ (λ j. multiple_of_says (c.member-11.ensures j) v)) i
    ∷ (c.min_length_says.ensures ∙ (λ j. min_length_says (c.member-12.ensures j) v)) i
    ∷ (c.max_length_says.ensures ∙ (λ j. max_length_says (c.member-13.ensures j) v)) i
    ∷ (c.pattern_says.ensures ∙ (λ j. pattern_says (g.P.Patterns.reading c.args.patterns.now) (c.member-14.ensures j) v)) i
    ∷ (c.min_items_says.ensures ∙ (λ j. min_items_says (c.member-15.ensures j) v)) i
    ∷ (c.max_items_says.ensures ∙ (λ j. max_items_says (c.member-16.ensures j) v)) i
    ∷ (c.unique_items_says.ensures ∙ (λ j. unique_items_says (c.member-17.ensures j) v)) i
    ∷ []))
