use Rattle.std.proofs.Common.{◌≡◌, ◌∙◌, ◌+◌, drop, map, refl, ap, sym, get_or}
use Rattle.schemars_templates.proofs.Words.{drop_more, flattened, finished, asked, with_keywords, filled, left, first, ask_of, with_answers}
use Rattle.schemars_templates.specs.declared.template.Ask.TheVariants.{Part}
use Rattle.schemars_templates.proofs.Answering.{answers_later}
use Rattle.schemars_templates.proofs.template.add_members.Goals as goal

-- The first part joins, and the rest later.
pub loop-member-preserved : goal.loop-member-preserved
loop-member-preserved c =
    let members = c.args.members.now in
    let i = c.loop-member._member-index in
    let d = c.loop-member.schema in
    let ts = c.loop-member.parts.items in
    let rest = map ask_of (drop (i + 1) members) in
    let joined = with_keywords (finished d) (asked (ask_of (get_or members i (Part 0)))) in
    let same : with_answers joined rest ≡ with_answers (finished d) (map ask_of (drop i members)) =
    ap (λ ms. with_answers (finished d) (map ask_of ms)) (sym (drop_more members i (Part 0) c.loop-member-test.true)) in
    let whole : c.flatten.new.schema ≡ flattened d (first ts) =
    c.in_ok-flatten.ensures.becomes ∙ ap (flattened d) c.next_part-part.ensures.value in
    let now = c.next_part-part.new.parts.items in
    record {
      value =
          answers_later filled (λ u us. refl) joined rest _ same ts now c.flatten.new.schema whole c.next_part-part.ensures.left
          ∙ c.loop-member.invariant.value;
      left =
          answers_later left (λ u us. refl) joined rest _ same ts now c.flatten.new.schema whole c.next_part-part.ensures.left
          ∙ c.loop-member.invariant.left;
    }
