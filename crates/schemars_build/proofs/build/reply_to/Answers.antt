use Rattle.std.proofs.Common.{◌≡◌, ◌<◌, ◌≤◌, ℕ, Bool, length, reverse, Option, refl, sym, subst, arith, rules}
use Rattle.schemars_build.proofs.Words.{IfOk, Data, IfOk-weaker, Ask, members_of, content, ask_of, are_optional, plan_of, ComesFrom, document, HasReplied, row_asked, measure_of_asked, measure_of_filled, IsWithin, flattened, asked, measure_of_members, measure_of_content}
use Rattle.schemars_build.specs.declared.build.Purpose.TheVariants as purpose
use Rattle.schemars_build.proofs.Asked.{inner_known}
use Rattle.schemars_build.proofs.Making.{leads_at_once, opened_reply, leads_members}
use Rattle.schemars_build.proofs.Descending.{members_to_filled}
use Rattle.schemars_build.proofs.Ending.{opened_within}
use Rattle.schemars_build.proofs.build.reply_to.Goals as goal

pub push_document-requires : goal.push_document-requires
push_document-requires g c =
    let plan = plan_of c.args.plan.now in
    let known : c.in-MembersOf.n < length plan.rows =
    subst (λ a. row_asked (ask_of a) < length plan.rows) c.in-MembersOf.is c.requires.known in
    let inner : c.without_options-inner.result < length plan.rows = subst (λ k. k < length plan.rows) (sym c.without_options-inner.ensures)
    (inner_known plan.rows c.requires.checked.within c.in-MembersOf.n known) in
    record { checked = c.requires.checked; known = inner }

pub returns-after-not-required-clause-replies : goal.returns-after-not-required-clause-replies
returns-after-not-required-clause-replies g c =
    let plan = plan_of c.args.plan.now in
    let inside = c.args.in_definition in
    let old = c.args.registry.now in
    let n = c.in-MembersOf.n in
    let m = c.without_options-inner.result in
    let p = purpose.Members c.if-not-required.is_optional in
    let ds = reverse c.args.making.now.items in
    let es = reverse c.push_document.new.making.items in
    let optional : c.if-not-required.is_optional ≡ are_optional plan.rows n c.in-MembersOf.required = search rules in
    let L : ℕ → Bool → Type 0 = λ k b. ComesFrom plan inside old (asked (members_of n c.in-MembersOf.required)) old (flattened k b) in
    let leads : L m c.if-not-required.is_optional =
    subst (λ b. L m b) (sym optional) (subst (λ k. L k (are_optional plan.rows n c.in-MembersOf.required))
    (sym c.without_options-inner.ensures) (leads_members plan inside old n c.in-MembersOf.required)) in
    let R : ℕ → Type 0 = λ k. measure_of_filled plan old k ≤ measure_of_members plan old n in
    let less = members_to_filled plan old n in
    let low : R m = subst R (sym c.without_options-inner.ensures) (omega (arith, less)) in
    let H : Ask → Option Data → Type 0 =
    λ a. HasReplied plan inside old (asked a) ds (IsWithin plan (measure_of_asked plan old a) old) old es in
    subst (λ a. IfOk c.push_document.result (H (ask_of a))) (sym c.in-MembersOf.is)
    (IfOk-weaker c.push_document.result _ (H (members_of n c.in-MembersOf.required)) (λ o x. record {
      reply = document x.0;
      given = x.2;
      replied = opened_reply plan inside inside old (asked (members_of n c.in-MembersOf.required)) old old m p x.0 x.1 leads (refl, refl);
      is_like = opened_within plan inside m p x.0 old (measure_of_members plan old n) x.1 low;
    }) c.push_document.ensures)

pub returns-in-Content-clause-replies : goal.returns-in-Content-clause-replies
returns-in-Content-clause-replies g c =
    let plan = plan_of c.args.plan.now in
    let inside = c.args.in_definition in
    let old = c.args.registry.now in
    let n = c.in-Content.n in
    let ds = reverse c.args.making.now.items in
    let es = reverse c.push_document-in-Content.new.making.items in
    let H : Ask → Option Data → Type 0 =
    λ a. HasReplied plan inside old (asked a) ds (IsWithin plan (measure_of_asked plan old a) old) old es in
    subst (λ a. IfOk c.push_document-in-Content.result (H (ask_of a))) (sym c.in-Content.is)
    (IfOk-weaker c.push_document-in-Content.result _ (H (content n)) (λ o x. record {
      reply = document x.0;
      given = x.2;
      replied = opened_reply plan inside inside old (asked (content n)) old old n purpose.Content x.0 x.1
          (leads_at_once plan inside old (asked (content n))) (refl, refl);
      is_like = opened_within plan inside n purpose.Content x.0 old (measure_of_content plan old n) x.1 (omega arith);
    }) c.push_document-in-Content.ensures)
