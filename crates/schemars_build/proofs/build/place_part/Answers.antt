use Rattle.std.proofs.Common.{◌≡◌, ◌≢◌, ◌≤◌, ℕ, Option, Bool, false, true, inl, Some, None, refl, ap, sym, ◌∙◌, subst, arith, string_bytes, not, is_some, eqb, true≢false, reverse}
use Rattle.schemars_build.proofs.Words.{◌||◌, ◌&&◌, Data, get_member, reference, references, is_inline_at, part, is_in_place, pending_in, is_pending, Registry, Step, rolled_back, reference_to, IsPart, plan_of, AreReached, own, ComesFrom, IsRepliedBy, HasReplied, answer, document, IfOk-weaker, eqb-true, nat_tests, measure_of_own_document, measure_of_part, IsWithin, codes, IsMade, defined, asked, option_eq}
use Rattle.schemars_build.specs.declared.build.Purpose.TheVariants as purpose
use Rattle.schemars_build.proofs.Building.{part_answer}
use Rattle.schemars_build.proofs.Reaching.{reached_root, nothing_added}
use Rattle.schemars_build.proofs.Steps.{begun_with, rolled_back-begun, key-found, step_refl, step_meet, step_names}
use Rattle.schemars_build.proofs.Making.{leads_in_place, leads_defined, opened_reply, replied_from, replied_through}
use Rattle.schemars_build.proofs.Descending.{to_own}
use Rattle.schemars_build.proofs.Ending.{opened_within, within_more, definition_within}
use Rattle.schemars_build.proofs.build.place_part.Goals.{In_ok-begin_new, After-enter}
use Rattle.schemars_build.proofs.build.place_part.Goals as goal

other_row : (o : Option ℕ) (n : ℕ) → false ≡ option_eq eqb o (Some n) → o ≢ Some n
other_row None n h is = cc
other_row (Some m) n h is =
    let same : m ≡ n = cc in
    let P : ℕ → Type 0 = λ k. false ≡ eqb k n in
    let equal : false ≡ eqb n n = subst P same h in
    let itself : eqb n n ≡ true = grind (arith, nat_tests) in
    absurd (true≢false (sym itself ∙ sym equal))

root_row : (o : Option ℕ) (n : ℕ) → true ≡ option_eq eqb o (Some n) → o ≡ Some n
root_row None n h = cc
root_row (Some m) n h = ap Some (eqb-true m n (sym h))

not_inline : (a b : Bool) → a || b ≡ false → a ≡ false
not_inline true b h = h
not_inline false b h = refl

free_or_met : (inside met : Bool) → not inside || (met || inside) ≡ true
free_or_met true true = refl
free_or_met true false = refl
free_or_met false met = refl

was_there : (a : Bool) (o : Option Data) → a ≡ not (is_some o) → a ≡ false → is_some o ≡ true
was_there a (Some d) h i = refl
was_there a None h i = cc

was_missing : (a : Bool) (o : Option Data) → a ≡ not (is_some o) → a ≡ true → o ≡ None
was_missing a (Some d) h i = cc
was_missing a None h i = refl

pub returns-then-is_in_place-clause-replies : goal.returns-then-is_in_place-clause-replies
returns-then-is_in_place-clause-replies g c =
    let plan = plan_of c.args.plan.now in
    let inside = c.args.in_definition in
    let old = c.args.registry.now in
    let n = c.args.n in
    let new = c.start_own.new.registry in
    let ds = reverse c.args.making.now.items in
    let es = reverse c.start_own.new.making.items in
    let placed = sym c.is_in_place.ensures ∙ c.if-is_in_place.true in
    let less = to_own plan old n c.requires.checked c.requires.known placed in
    let low : measure_of_own_document plan old n ≤ measure_of_part plan old n = omega (arith, less) in
    IfOk-weaker c.start_own.result _ (HasReplied plan inside old (asked (part n)) ds (IsWithin plan (measure_of_part plan old n) new) new es)
    (λ o h. replied_through plan inside old (asked (part n)) old (own n) ds _ (IsWithin plan (measure_of_part plan old n) new) new es o
    (leads_in_place plan inside old n placed)
    (λ r like. within_more plan (measure_of_own_document plan old n) (measure_of_part plan old n) new r low like) h) c.start_own.ensures.replies

pub returns-then-eq-clause-replies : goal.returns-then-eq-clause-replies
returns-then-eq-clause-replies g c =
    let plan = plan_of c.args.plan.now in
    let old = c.args.registry.now in
    let inside = c.args.in_definition in
    let placed : is_in_place plan.rows plan.inlines old.pending c.args.n ≡ false =
    sym c.is_in_place.ensures ∙ c.if-is_in_place.false in
    let apart : is_inline_at plan.rows c.args.n ≡ false = not_inline (is_inline_at plan.rows c.args.n) _ placed in
    let root : plan.root ≡ Some c.args.n = root_row plan.root c.args.n c.if-eq.ensures in
    let met : Registry = record old { has_root_reference = old.has_root_reference || inside } in
    let Q : Data → Type 0 = λ s. AreReached plan inside old met (references s) in
    let one : IsPart plan inside old met c.args.n c.in_ok-root.root = record {
      written = inl (
        codes "#",
        (inl (root, free_or_met inside old.has_root_reference, refl, (c.requires.known, apart)), placed),
        c.in_ok-root.ensures,
      );
      reached = λ plain. subst Q (sym c.in_ok-root.ensures) (reached_root plan inside old);
    } in
    record {
      reply = answer c.in_ok-root.root;
      given = (refl, refl);
      replied = subst (λ w. IsRepliedBy plan inside old (asked (part c.args.n)) w (answer c.in_ok-root.root)) (sym c.note_root_reference.ensures)
          (step_meet plan old inside, refl, part_answer plan inside old met c.args.n c.in_ok-root.root one);
      is_like = tt;
    }

-- the row is asked by its name
by_name : (g : _) (c : goal.In_ok-begin_new g) → ComesFrom (plan_of c.args.plan.now) c.args.in_definition c.args.registry.now (asked (part c.args.n))
    c.name_for.new.self (defined (string_bytes c.in_ok-name.name))
by_name g c =
    let plan = plan_of c.args.plan.now in
    let old = c.args.registry.now in
    let n = c.args.n in
    let placed : is_in_place plan.rows plan.inlines old.pending n ≡ false = sym c.is_in_place.ensures ∙ c.if-is_in_place.false in
    leads_defined plan c.args.in_definition old c.name_for.new.self n (string_bytes c.in_ok-name.name) c.in_ok-name.ensures.rest
    c.in_ok-name.ensures.given c.in_ok-name.ensures.no_other c.in_ok-name.ensures.named placed
    (not_inline (is_inline_at plan.rows n) _ placed) (other_row plan.root n c.if-eq.ensures) c.requires.known c.in_ok-name.ensures.rolled_back

-- the name had no definition, and has begun one
is_begun : (g : _) (c : goal.After-enter g) → let k = string_bytes c.in_ok-name.name in record {
  none : get_member k c.name_for.new.self.definitions ≡ None;
  begun : c.begin_new.new.self ≡ begun_with c.name_for.new.self k;
}
is_begun g c =
    let mid = c.name_for.new.self in
    record {
      none = was_missing _ (get_member (string_bytes c.in_ok-name.name) mid.definitions) (c.in_ok-begin_new.ensures.is_new
          ∙ ap (λ q. not (is_some (get_member q mid.definitions))) c.as_str.ensures.value) c.if-not-branch.false;
      begun = c.in_ok-begin_new.ensures.begun c.if-not-branch.false ∙ ap (begun_with mid) c.as_str.ensures.value;
    }

pub returns-then-not-branch-clause-replies : goal.returns-then-not-branch-clause-replies
returns-then-not-branch-clause-replies g c =
    let plan = plan_of c.args.plan.now in
    let old = c.args.registry.now in
    let inside = c.args.in_definition in
    let n = c.args.n in
    let mid = c.name_for.new.self in
    let k = string_bytes c.in_ok-name.name in
    let named = (goal.at.returns-then-not-branch-clause-replies g c).In_ok-begin_new in
    let found = was_there _ (get_member k mid.definitions) (c.in_ok-begin_new.ensures.is_new
    ∙ ap (λ q. not (is_some (get_member q mid.definitions))) c.as_str.ensures.value) c.if-not-branch.true in
    let made : IsMade plan mid mid k =
    record { defined = key-found k mid.definitions found; reached = λ plain. nothing_added plan false mid _ } in
    let same : c.in_ok-reference.reference ≡ reference (reference_to plan.path k) =
    c.in_ok-reference.ensures ∙ ap (λ x. reference (reference_to plan.path x)) c.as_str-then-not-branch.ensures.value in
    record {
      reply = answer c.in_ok-reference.reference;
      given = (refl, refl);
      replied = subst (λ w. IsRepliedBy plan inside old (asked (part n)) w (answer c.in_ok-reference.reference))
          (sym (c.in_ok-begin_new.ensures.same c.if-not-branch.true))
          (replied_from plan inside old (asked (part n)) mid (defined k) mid (answer c.in_ok-reference.reference) (by_name g named)
          (step_refl plan mid, refl, (made, same)));
      is_like = tt;
    }

pub returns-in_err-entered-clause-rolled_back : goal.returns-in_err-entered-clause-rolled_back
returns-in_err-entered-clause-rolled_back g c =
    let new = is_begun g (goal.at.returns-in_err-entered-clause-rolled_back g c).After-enter in
    ap rolled_back c.in_err-entered.ensures.err ∙ (ap rolled_back new.begun
    ∙ (rolled_back-begun c.name_for.new.self (string_bytes c.in_ok-name.name) new.none ∙ c.in_ok-name.ensures.rolled_back))

pub returns-clause-rolled_back : goal.returns-clause-rolled_back
returns-clause-rolled_back g c =
    let new = is_begun g (goal.at.returns-clause-rolled_back g c).After-enter in
    ap rolled_back c.in_ok-entered.ensures.ok ∙ (ap rolled_back new.begun
    ∙ (rolled_back-begun c.name_for.new.self (string_bytes c.in_ok-name.name) new.none ∙ c.in_ok-name.ensures.rolled_back))

pub returns-clause-replies : goal.returns-clause-replies
returns-clause-replies g c =
    let plan = plan_of c.args.plan.now in
    let old = c.args.registry.now in
    let inside = c.args.in_definition in
    let n = c.args.n in
    let mid = c.name_for.new.self in
    let k = string_bytes c.in_ok-name.name in
    let at = goal.at.returns-clause-replies g c in
    let named = is_begun g at.After-enter in
    let entered_new : c.in_ok-entered.entered ≡ plan.inlines && not (is_pending mid.pending n) =
    c.in_ok-entered.ensures.is_new ∙ ap (λ w. plan.inlines && not (is_pending w.pending n)) named.begun in
    let while_made : Registry → Registry = λ w. record w { pending = pending_in plan.inlines w.pending n } in
    let entered : c.enter.new.self ≡ record (begun_with mid k) { pending = pending_in plan.inlines mid.pending n } =
    c.in_ok-entered.ensures.ok ∙ ap while_made named.begun in
    let step : Step plan old mid = subst (λ w. Step plan old w) (sym c.in_ok-name.ensures.rest)
    (step_names plan old mid.names c.in_ok-name.ensures.given) in
    let p = purpose.Definition c.in_ok-name.name c.in_ok-entered.entered in
    let new = c.enter.new.self in
    let ds = reverse c.args.making.now.items in
    let es = reverse c.push_document.new.making.items in
    IfOk-weaker c.push_document.result _ (HasReplied plan inside old (asked (part n)) ds (IsWithin plan (measure_of_part plan old n) new) new es)
    (λ o x. record {
      reply = document x.0;
      given = x.2;
      replied = opened_reply plan inside true old (asked (part n)) mid new n p x.0 x.1 (by_name g at.In_ok-begin_new)
          (refl, entered_new, named.none, c.in_ok-name.ensures.named, entered);
      is_like = opened_within plan true n p x.0 new (measure_of_part plan old n) x.1
          (definition_within plan old mid new n k c.requires.checked c.requires.known step c.in_ok-name.ensures.named named.none entered);
    }) c.push_document.ensures
