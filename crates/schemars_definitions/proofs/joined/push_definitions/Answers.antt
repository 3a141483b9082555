use Rattle.std.proofs.Common.{◌≡◌, ◌∷◌, ◌++◌, false, sym, ap, ◌∙◌, subst, rules, true, string_bytes, List, String, Global}
use Rattle.schemars_definitions.proofs.Words.{or_parts, quoted, Members, has_float, members_have_float, with_commas, ordered_text, AreOrdered, definition_in, definitions_in, each_made}
use Rattle.schemars_definitions.specs.declared.kept.Kept.{Kept}
use Rattle.schemars_definitions.proofs.JoinedTexts.{definition_texts, one_definition, one_more, no_more}
use Rattle.schemars_definitions.proofs.joined.push_definitions.Goals as goal

pub loop-name-preserved : goal.loop-name-preserved
loop-name-preserved g c =
    let made = g.C.Change.made in
    let k = string_bytes c.in-Some.name in
    let kept = c.in-Some.kept in
    let d = made (definition_in kept) in
    let left = c.next.new.self in
    let is : c.loop-name.name-iterator ≡ (c.in-Some.name, kept) ∷ left = search rules in
    let before = c.loop-name.invariant in
    let made_of : List (String Global × Kept) → Members = λ es. each_made made (definitions_in es) in
    let floats : members_have_float (made_of c.args.definitions.entries) ≡ false
    → (has_float d ≡ false) × (members_have_float (made_of left) ≡ false) =
    λ none. or_parts (has_float d) (members_have_float (made_of left))
    (ap (λ es. members_have_float (made_of es)) (sym is) ∙ before.floats none) in
    record {
      ordered = (subst (AreOrdered made) is before.ordered).1;
      floats = λ none. (floats none).1;
      same = λ none.
          ap (λ t. t ++ with_commas true (definition_texts (made_of left)))
          (c.in_ok-push_definition.ensures (floats none).0
          ∙ ap (λ t. t ++ (quoted k ++ 58 ∷ ordered_text d)) c.in_ok-push_comma_if.ensures)
          ∙ (one_more (string_bytes c.loop-name.out) c.loop-name.later _ _
          ∙ (ap (λ ts. string_bytes c.loop-name.out ++ with_commas c.loop-name.later ts) (sym (one_definition k d (made_of left)))
          ∙ (ap (λ es. string_bytes c.loop-name.out ++ with_commas c.loop-name.later (definition_texts (made_of es))) (sym is)
          ∙ before.same none)));
    }

pub returns : goal.returns
returns g c = λ none.
    let is = c.in-None.ensures.steps.0 in
    sym (no_more (string_bytes c.loop-name.out) c.loop-name.later)
    ∙ (ap (λ es. string_bytes c.loop-name.out
    ++ with_commas c.loop-name.later (definition_texts (each_made g.C.Change.made (definitions_in es)))) (sym is)
    ∙ c.loop-name.invariant.same none)
