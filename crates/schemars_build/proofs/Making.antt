-- What documents that are being made come to.
use Rattle.std.proofs.Common.{◌≡◌, ◌≢◌, inl, inr, ◌<◌, ◌≤◌, ◌+◌, ℕ, List, [], ◌∷◌, ◌++◌, length, map, take, Bool, true, false, not, Option, Some, None, refl, ap, sym, ◌∙◌, subst, arith, string_bytes, All, get_or, reverse, slice_index_or, ◌-◌}
use Rattle.schemars_build.proofs.Words.{◌&&◌, ◌||◌, if◌then◌else◌, length-append, IsAskedIn, row_asked, entry_at, Data, boolean, get_member, get_member-put, Text, references, is_inline_at, IsChecked, reference, Ask, part, members_of, content, asks_of, filled, ask_of, are_optional, entry_template, name_of, is_pending, pending_in, is_in_place, Plan, Registry, Step, GivesNames, rolled_back, reference_to, basis_of_plan, without_last, AreReached, IsPart, IsFilledIn, IsAnswer, AreAnswers, Wanted, own, IsBegun, IsTemplate, IsOpened, ComesFrom, IsInMaking, HasAnswered, answer, document, IsRepliedBy, HasReplied, IsTaken, document_rank, measure_of_turn, IsWithin, String, IsUtf8, none-some, take_all, length-map, get_or-map, string, opened_inside, must_be_in_place, flattened_part, template_view, without_options, IsOwn, IsMade, defined, flattened, asked, wanted_for, IsReply, IsTemplateAt, IsNext, AreWaiting, Reply, IsGivenBack, GoesOn, AreMaking, HasFirst, left_waiting, measure_of_reply, measure_of_making, IsLess}
use Rattle.std.specs.declared.alloc.Global.{Global}
use Rattle.schemars_templates.specs.declared.template.Ask as src-ask
use Rattle.schemars_build.proofs.Asked.{asks_in_order}
use Rattle.schemars_types.specs.declared.contract.Contract.{Contract}
use Rattle.schemars_build.proofs.Given.{gives-keeps}
use Rattle.schemars_build.proofs.Ending.{answered_same, asking_less}
use Rattle.schemars_build.proofs.Innermost.{last_got}
use Rattle.schemars_build.specs.declared.build.Document.{Document}
use Rattle.schemars_build.specs.declared.build.Purpose.{Purpose}
use Rattle.schemars_build.specs.declared.build.Purpose.TheVariants as purpose
use Rattle.schemars_build.proofs.Building.{answers_more, own_of_filled, in_place, part_answer, content_answer, content_referred, no_answers}
use Rattle.schemars_build.proofs.Filling.{filled_in, members_answer}
use Rattle.schemars_build.proofs.Placing.{left_pending, pending_grows}
use Rattle.schemars_build.proofs.Reaching.{reached_defines, reached_by_name}
use Rattle.schemars_build.proofs.Steps.{begun_with, finished_with, rolled_back-begun, rolled_back-finished, begun-contains, finished-found, step_refl, step_trans, step_names, step_defines, step_entered}

-- ---- what leads where

pub leads_at_once : (plan : Plan) (inside : Bool) (w : Registry) (want : Wanted) → ComesFrom plan inside w want w want
leads_at_once plan inside w want = record { step = step_refl plan w; rolled_back = refl; gives = λ new s step is. is }

pub leads_trans : (plan : Plan) (inside : Bool) (a : Registry) (p : Wanted) (b : Registry) (q : Wanted) (c : Registry) (r : Wanted)
    → ComesFrom plan inside a p b q → ComesFrom plan inside b q c r → ComesFrom plan inside a p c r
leads_trans plan inside a p b q c r h g = record {
  step = step_trans plan a b c h.step g.step;
  rolled_back = g.rolled_back ∙ h.rolled_back;
  gives = λ new s step is. h.gives new s (step_trans plan b c new g.step step) (g.gives new s step is);
}

pub replied_from : (plan : Plan) (inside : Bool) (old : Registry) (want : Wanted) (mid : Registry) (got : Wanted) (now : Registry) (r : Reply)
    → ComesFrom plan inside old want mid got → IsRepliedBy plan inside mid got now r → IsRepliedBy plan inside old want now r
replied_from plan inside old want mid got now (answer s) h is =
    (step_trans plan old mid now h.step is.0, is.1 ∙ h.rolled_back, h.gives now s is.0 is.2)
replied_from plan inside old want mid got now (document d) h is = record {
  template = is.template;
  mid = is.mid;
  start = is.start;
  leads = leads_trans plan inside old want mid got is.mid (wanted_for d.row d.purpose) h is.leads;
  begun = is.begun;
  step = is.step;
  rolled_back = is.rolled_back;
  answers = is.answers;
}

-- a row in place
pub leads_in_place : (plan : Plan) (inside : Bool) (old : Registry) (n : ℕ) → is_in_place plan.rows plan.inlines old.pending n ≡ true
    → ComesFrom plan inside old (asked (part n)) old (own n)
leads_in_place plan inside old n placed = record {
  step = step_refl plan old;
  rolled_back = refl;
  gives = λ new s step is. part_answer plan inside old new n s (in_place plan inside old new n s step placed is);
}

-- a row by its name
pub leads_defined : (plan : Plan) (inside : Bool) (old mid : Registry) (n : ℕ) (k : Text) → mid ≡ record old { names = mid.names }
    → GivesNames plan.rows old.names mid.names
    → ((m : ℕ) (c : Contract) (q : Text) → name_of m c old.names ≡ None → name_of m c mid.names ≡ Some q → (m ≡ n) × (c ≡ plan.contract))
    → name_of n plan.contract mid.names ≡ Some k → is_in_place plan.rows plan.inlines old.pending n ≡ false
    → is_inline_at plan.rows n ≡ false → plan.root ≢ Some n → n < length plan.rows → rolled_back mid ≡ rolled_back old
    → ComesFrom plan inside old (asked (part n)) mid (defined k)
leads_defined plan inside old mid n k given names alone named placed apart other known un = record {
  step = step;
  rolled_back = un;
  gives = λ new s next is. part_answer plan inside old new n s (whole new s next is.0 is.1);
}
  where
    step : Step plan old mid
    step = subst (λ w. Step plan old w) (sym given) (step_names plan old mid.names names)

    whole : (new : Registry) (s : Data) → Step plan mid new → IsMade plan mid new k → s ≡ reference (reference_to plan.path k)
        → IsPart plan inside old new n s
    whole new s next made same =
        let now_named : name_of n plan.contract new.names ≡ Some k =
        gives-keeps plan.rows mid.names new.names n plan.contract k next.names named in
        let kept : is_in_place plan.rows plan.inlines new.pending n ≡ false =
        ap (λ p. is_in_place plan.rows plan.inlines p n) (next.still_pending ∙ ap (λ w. w.pending) given) ∙ placed in
        let P : Registry → Type 0 = λ w. AreReached plan false w new (string (reference_to plan.path k) ∷ []) in
        let Q : Data → Type 0 = λ t. AreReached plan inside old new (references t) in
        record {
          written = inl (reference_to plan.path k, (inr (k, now_named, made.defined, refl, (known, apart), other), kept), same);
          reached = λ plain. subst Q (sym same) (reached_by_name plan inside old mid.names new n k alone now_named made.defined
              (subst P given (made.reached plain)));
        }

-- the members of a row
pub leads_members : (plan : Plan) (inside : Bool) (old : Registry) (n : ℕ) (required : Bool)
    → ComesFrom plan inside old (asked (members_of n required)) old
    (flattened (without_options plan.rows n) (are_optional plan.rows n required))
leads_members plan inside old n required = record {
  step = step_refl plan old;
  rolled_back = refl;
  gives = λ new s step is. members_answer plan inside old new n required is.0 s is.1 is.2;
}

-- ---- a document that was just opened

fresh : (plan : Plan) (outside : Bool) (old : Registry) (want : Wanted) (mid start : Registry) (d : Document) → IsTemplate plan d
    → d.answers.items ≡ [] → ComesFrom plan outside old want mid (wanted_for d.row d.purpose)
    → IsBegun plan outside mid start d.row d.in_definition d.purpose → IsInMaking plan outside old want start d
fresh plan outside old want mid start d template none leads begun =
    let P : List Data → Type 0 = λ ts. AreAnswers plan d.in_definition start start (map ask_of (take (length ts) d.asks.items)) ts in
    record {
      template = template;
      mid = mid;
      start = start;
      leads = leads;
      begun = begun;
      step = step_refl plan start;
      rolled_back = refl;
      answers = subst P (sym none) (no_answers plan d.in_definition start);
    }

pub opened_now : (plan : Plan) (d : Document) → d.row < length plan.rows → IsTemplateAt plan d.row d.template
    → map ask_of d.asks.items ≡ asks_of (template_view d.template) → d.answers.items ≡ []
    → IsOpened plan d.in_definition d.row d.purpose d
opened_now plan d known t asks none =
    (refl, refl, refl, none, record { known = known; entry = t.0; at = t.1; template = t.2; asks = asks ∙ ap asks_of t.2 })

pub opened_reply : (plan : Plan) (outside inside : Bool) (old : Registry) (want : Wanted) (mid start : Registry) (n : ℕ) (p : Purpose)
    (d : Document)
    → IsOpened plan inside n p d → ComesFrom plan outside old want mid (wanted_for n p) → IsBegun plan outside mid start n inside p
    → IsInMaking plan outside old want start d
opened_reply plan outside inside old want mid start n p d is leads begun =
    let L : ℕ → Purpose → Type 0 = λ m q. ComesFrom plan outside old want mid (wanted_for m q) in
    let B : ℕ → Bool → Purpose → Type 0 = λ m b q. IsBegun plan outside mid start m b q in
    let leads_here : L d.row d.purpose = subst (λ m. L m d.purpose) (sym is.0) (subst (λ q. L n q) (sym is.1) leads) in
    let begun_here : B d.row d.in_definition d.purpose = subst (λ m. B m d.in_definition d.purpose) (sym is.0)
    (subst (λ b. B n b d.purpose) (sym is.2) (subst (λ q. B n inside q) (sym is.1) begun)) in
    fresh plan outside old want mid start d is.4 is.3 leads_here begun_here

-- ---- one answer more

pub answered_making : (plan : Plan) (around : Bool) (before : Registry) (more : Wanted) (old now : Registry) (outside : Bool) (want : Wanted)
    (d e : Document) (s : Data) → IsInMaking plan around before more old d → IsNext d outside want
    → IsRepliedBy plan outside old want now (answer s) → HasAnswered d s e → IsInMaking plan around before more now e
answered_making plan around before more old now outside want d e s h next is has = record {
  template = record {
    known = subst (λ m. m < length plan.rows) (sym has.row) h.template.known;
    entry = h.template.entry;
    at = ap (λ m. entry_at plan.rows m) has.row ∙ h.template.at;
    template = ap template_view has.template ∙ h.template.template;
    asks = ap (λ v. map ask_of v.items) has.asks ∙ h.template.asks;
  };
  mid = h.mid;
  start = h.start;
  leads = subst (λ q. ComesFrom plan around before more h.mid (wanted_for e.row q)) (sym has.purpose)
      (subst (λ m. ComesFrom plan around before more h.mid (wanted_for m d.purpose)) (sym has.row) h.leads);
  begun = subst (λ q. IsBegun plan around h.mid h.start e.row e.in_definition q) (sym has.purpose)
      (subst (λ b. IsBegun plan around h.mid h.start e.row b d.purpose) (sym has.in_definition)
      (subst (λ m. IsBegun plan around h.mid h.start m d.in_definition d.purpose) (sym has.row) h.begun));
  step = step_trans plan h.start old now h.step is.0;
  rolled_back = is.1 ∙ h.rolled_back;
  answers = answers;
}
  where
    P : Bool → List Ask → List Data → Type 0
    P b asks ts = AreAnswers plan b h.start now asks ts

    reply_is : IsAnswer plan d.in_definition old now next.ask s
    reply_is = subst (λ b. IsAnswer plan b old now next.ask s) (sym next.inside)
        (subst (λ x. IsReply plan outside old now x s) next.is is.2)

    joined : P d.in_definition (map ask_of (take (length d.answers.items) d.asks.items) ++ next.ask ∷ []) (d.answers.items ++ s ∷ [])
    joined = answers_more plan d.in_definition h.start old now (map ask_of (take (length d.answers.items) d.asks.items)) d.answers.items
        next.ask s h.step is.0 h.answers reply_is

    counted : length e.answers.items ≡ length d.answers.items + 1
    counted = ap length has.answers ∙ length-append d.answers.items (s ∷ [])

    asks_are : map ask_of (take (length e.answers.items) e.asks.items)
        ≡ map ask_of (take (length d.answers.items) d.asks.items) ++ next.ask ∷ []
    asks_are = ap (λ k. map ask_of (take k e.asks.items)) counted
        ∙ (ap (λ v. map ask_of (take (length d.answers.items + 1) v.items)) has.asks ∙ next.next)

    answers : P e.in_definition (map ask_of (take (length e.answers.items) e.asks.items)) e.answers.items
    answers = subst (λ b. P b (map ask_of (take (length e.answers.items) e.asks.items)) e.answers.items) (sym has.in_definition)
        (subst (λ xs. P d.in_definition xs e.answers.items) (sym asks_are)
        (subst (λ ts. P d.in_definition (map ask_of (take (length d.answers.items) d.asks.items) ++ next.ask ∷ []) ts)
        (sym has.answers) joined))

-- each of its rows is known
pub asks_known : (plan : Plan) (d : Document) → IsChecked plan.rows → IsTemplate plan d → (i : ℕ) (a : src-ask.Ask)
    → i < length d.asks.items → row_asked (ask_of (get_or d.asks.items i a)) < length plan.rows
asks_known plan d checked t i a less =
    let P : List Ask → Type 0 = λ asks. All (IsAskedIn plan.rows d.row) asks in
    let every : P (map ask_of d.asks.items) = subst P (sym t.asks) (asks_in_order (basis_of_plan plan) d.row t.entry checked t.at) in
    let counted : length (map ask_of d.asks.items) ≡ length d.asks.items = length-map d.asks.items ask_of in
    let one = every i (ask_of a) (omega (arith, counted, less)) in
    subst (λ x. row_asked x < length plan.rows) (get_or-map ask_of d.asks.items i a (ask_of a) less) one.0

-- ---- a document whose rows have all answered

module _ (plan : Plan) (outside : Bool) (old : Registry) (want : Wanted) (now : Registry) (d : Document)
    (h : IsInMaking plan outside old want now d) (all : length d.asks.items ≤ length d.answers.items) where
  whole : AreAnswers plan d.in_definition h.start now (asks_of (entry_template (basis_of_plan plan) h.template.entry)) d.answers.items
  whole = subst (λ asks. AreAnswers plan d.in_definition h.start now asks d.answers.items)
      (ap (map ask_of) (take_all (length d.answers.items) d.asks.items all) ∙ h.template.asks) h.answers

  pub filled_made : (s : Data) → IsChecked plan.rows
      → s ≡ filled (template_view d.template) d.answers.items
      → IsFilledIn plan d.in_definition h.start now d.row s
  filled_made s checked is =
      filled_in plan d.in_definition h.start now h.template.entry d.answers.items whole d.row s checked h.template.at
      (is ∙ ap (λ t. filled t d.answers.items) h.template.template)

-- ---- what is made of it

module _ (plan : Plan) (inside : Bool) (mid start now : Registry) (n : ℕ) (entered : Bool)
    (is_new : entered ≡ plan.inlines && not (is_pending mid.pending n))
    (begun : start ≡ record mid { pending = pending_in plan.inlines mid.pending n }) (step : Step plan start now) where
  entered_step : Step plan (record mid { pending = pending_in plan.inlines mid.pending n }) now
  entered_step = subst (λ w. Step plan w now) begun step

  pub left : (new : Registry) → new ≡ record now { pending = if entered then without_last now.pending else now.pending }
      → new ≡ record now { pending = mid.pending }
  left new is =
      let inner : now.pending ≡ pending_in plan.inlines mid.pending n = entered_step.still_pending in
      let back : (if entered then without_last now.pending else now.pending) ≡ mid.pending =
      ap (λ p. if entered then without_last p else p) inner ∙ left_pending plan.inlines mid.pending n entered is_new in
      is ∙ ap (λ p. record now { pending = p }) back

  pub left_step : Step plan mid (record now { pending = mid.pending })
  left_step =
      let inner = pending_grows plan.inlines mid.pending n in
      step_entered plan mid now inner.0 (subst (λ p. Step plan (record mid { pending = p }) now) inner.1 entered_step)

  pub left_own : (s : Data) → IsFilledIn plan inside start now n s → IsOwn plan inside mid (record now { pending = mid.pending }) n s
  left_own s filled = own_of_filled plan inside mid now (pending_in plan.inlines mid.pending n) n s refl entered_step
      (subst (λ w. IsFilledIn plan inside w now n s) begun filled)

module _ (plan : Plan) (mid : Registry) (n : ℕ) (k : Text) (none : get_member k mid.definitions ≡ None) (text : IsUtf8 k)
    (named : name_of n plan.contract mid.names ≡ Some k) (now : Registry) (s : Data) (step : Step plan (begun_with mid k) now)
    (own : IsOwn plan true (begun_with mid k) now n s) where
  pub defined_step : Step plan mid (finished_with now k s)
  defined_step = step_defines plan mid now n k s none text step
      (gives-keeps plan.rows mid.names now.names n plan.contract k step.names named) own.document

  pub defined_undone : rolled_back now ≡ rolled_back (begun_with mid k) → rolled_back (finished_with now k s) ≡ rolled_back mid
  defined_undone un = rolled_back-finished now k s (begun-contains plan mid k now step) ∙ (un ∙ rolled_back-begun mid k none)

  pub defined_made : IsMade plan mid (finished_with now k s) k
  defined_made = record {
    defined = (s, finished-found plan mid now k s step);
    reached = λ plain.
        let begins = step.stays k (boolean false) (get_member-put k (boolean false) mid.definitions) in
        reached_defines plan mid now k s none begins (own.reached plain);
  }

begun_undone : (plan : Plan) (outside : Bool) (mid start : Registry) (n : ℕ) (inside : Bool) (p : Purpose)
    → IsBegun plan outside mid start n inside p → rolled_back start ≡ rolled_back mid
begun_undone plan outside mid start n inside (purpose.Own entered) is = ap rolled_back is.2
begun_undone plan outside mid start n inside (purpose.Definition name entered) is =
    ap rolled_back is.4 ∙ rolled_back-begun mid (string_bytes name) is.2
begun_undone plan outside mid start n inside (purpose.Members optional) is = ap rolled_back is.1
begun_undone plan outside mid start n inside purpose.Content is = ap rolled_back is.1

pub making_undone : (plan : Plan) (outside : Bool) (old : Registry) (want : Wanted) (now : Registry) (d : Document)
    → IsInMaking plan outside old want now d → rolled_back now ≡ rolled_back old
making_undone plan outside old want now d h =
    h.rolled_back ∙ (begun_undone plan outside h.mid h.start d.row d.in_definition d.purpose h.begun ∙ h.leads.rolled_back)

-- ---- a document that is done

module _ (plan : Plan) (outside : Bool) (old : Registry) (want : Wanted) (now : Registry) (d : Document)
    (h : IsInMaking plan outside old want now d) (s : Data) (filled : IsFilledIn plan d.in_definition h.start now d.row s) where
  leads_for : (p : Purpose) → d.purpose ≡ p → ComesFrom plan outside old want h.mid (wanted_for d.row p)
  leads_for p is = subst (λ q. ComesFrom plan outside old want h.mid (wanted_for d.row q)) is h.leads

  pub begun_for : (p : Purpose) → d.purpose ≡ p → IsBegun plan outside h.mid h.start d.row d.in_definition p
  begun_for p is = subst (λ q. IsBegun plan outside h.mid h.start d.row d.in_definition q) is h.begun

  un : rolled_back now ≡ rolled_back h.mid
  un = h.rolled_back ∙ begun_undone plan outside h.mid h.start d.row d.in_definition d.purpose h.begun

  pub closes_own : (entered : Bool) (new : Registry) → d.purpose ≡ purpose.Own entered
      → new ≡ record now { pending = if entered then without_last now.pending else now.pending }
      → IsRepliedBy plan outside old want new (answer s)
  closes_own entered new is left_is =
      let b = begun_for (purpose.Own entered) is in
      let after : Registry = record now { pending = h.mid.pending } in
      let same : new ≡ after = left plan outside h.mid h.start now d.row entered b.1 b.2 h.step new left_is in
      let here : IsFilledIn plan outside h.start now d.row s = subst (λ x. IsFilledIn plan x h.start now d.row s) b.0 filled in
      let made : IsRepliedBy plan outside h.mid (own d.row) after (answer s) = (
        left_step plan outside h.mid h.start now d.row entered b.1 b.2 h.step,
        un,
        left_own plan outside h.mid h.start now d.row entered b.1 b.2 h.step s here,
      ) in
      subst (λ w. IsRepliedBy plan outside old want w (answer s)) (sym same)
      (replied_from plan outside old want h.mid (own d.row) after (answer s) (leads_for (purpose.Own entered) is) made)

  pub closes_members : (optional : Bool) (t : Data) → d.purpose ≡ purpose.Members optional → t ≡ flattened_part optional s
      → IsRepliedBy plan outside old want now (answer t)
  closes_members optional t is same =
      let b = begun_for (purpose.Members optional) is in
      let here : IsFilledIn plan outside h.mid now d.row s = subst (λ w. IsFilledIn plan outside w now d.row s) b.1
      (subst (λ x. IsFilledIn plan x h.start now d.row s) b.0 filled) in
      let step : Step plan h.mid now = subst (λ w. Step plan w now) b.1 h.step in
      replied_from plan outside old want h.mid (flattened d.row optional) now (answer t) (leads_for (purpose.Members optional) is)
      (step, un, (s, here, same))

  pub closes_content : (b : Bool) (t : Data) → d.purpose ≡ purpose.Content → b ≡ (is_inline_at plan.rows d.row || plan.inlines)
      → must_be_in_place b s ≡ true → t ≡ opened_inside s → IsRepliedBy plan outside old want now (answer t)
  closes_content b t is place stands same =
      let begun = begun_for purpose.Content is in
      let here : IsFilledIn plan outside h.mid now d.row s = subst (λ w. IsFilledIn plan outside w now d.row s) begun.1
      (subst (λ x. IsFilledIn plan x h.start now d.row s) begun.0 filled) in
      let step : Step plan h.mid now = subst (λ w. Step plan w now) begun.1 h.step in
      replied_from plan outside old want h.mid (asked (content d.row)) now (answer t) (leads_for purpose.Content is)
      (step, un, content_answer plan outside h.mid now d.row b s t place here stands same)

  -- the row is asked once more, as a part
  pub closes_referred : (b : Bool) (new : Registry) (r : Reply) → d.purpose ≡ purpose.Content
      → b ≡ (is_inline_at plan.rows d.row || plan.inlines) → must_be_in_place b s ≡ false
      → IsRepliedBy plan d.in_definition now (asked (part d.row)) new r → IsRepliedBy plan outside old want new r
  closes_referred b new r is place stands again =
      let begun = begun_for purpose.Content is in
      let here : IsFilledIn plan outside h.mid now d.row s = subst (λ w. IsFilledIn plan outside w now d.row s) begun.1
      (subst (λ x. IsFilledIn plan x h.start now d.row s) begun.0 filled) in
      let step : Step plan h.mid now = subst (λ w. Step plan w now) begun.1 h.step in
      let referred : ComesFrom plan outside h.mid (asked (content d.row)) now (asked (part d.row)) = record {
        step = step;
        rolled_back = un;
        gives = λ later t next one. content_referred plan outside h.mid now later d.row b s t place step next here stands
            (record { written = one.said; reached = one.needed });
      } in
      let around : IsRepliedBy plan outside now (asked (part d.row)) new r =
      subst (λ x. IsRepliedBy plan x now (asked (part d.row)) new r) begun.0 again in
      replied_from plan outside old want h.mid (asked (content d.row)) new r (leads_for purpose.Content is)
      (replied_from plan outside h.mid (asked (content d.row)) now (asked (part d.row)) new r referred around)

  pub closes_definition : (name : String Global) (entered : Bool) (mid new : Registry) (t : Data) → d.purpose ≡ purpose.Definition name entered
      → IsUtf8 (string_bytes name)
      → mid ≡ record now { pending = if entered then without_last now.pending else now.pending }
      → new ≡ finished_with mid (string_bytes name) s → t ≡ reference (reference_to plan.path (string_bytes name))
      → IsRepliedBy plan outside old want new (answer t)
  closes_definition name entered mid new t is text left_is finished same =
      let b = begun_for (purpose.Definition name entered) is in
      let k = string_bytes name in
      let start : Registry = begun_with h.mid k in
      let after : Registry = record now { pending = h.mid.pending } in
      let back : mid ≡ after = left plan true start h.start now d.row entered b.1 b.4 h.step mid left_is in
      let here : IsFilledIn plan true h.start now d.row s = subst (λ x. IsFilledIn plan x h.start now d.row s) b.0 filled in
      let step : Step plan start after = left_step plan true start h.start now d.row entered b.1 b.4 h.step in
      let own_is : IsOwn plan true start after d.row s = left_own plan true start h.start now d.row entered b.1 b.4 h.step s here in
      let undone_after : rolled_back after ≡ rolled_back start = un ∙ sym (rolled_back-begun h.mid k b.2) in
      let made : IsRepliedBy plan outside h.mid (defined k) (finished_with after k s) (answer t) = (
        defined_step plan h.mid d.row k b.2 text b.3 after s step own_is,
        defined_undone plan h.mid d.row k b.2 text b.3 after s step own_is undone_after,
        (defined_made plan h.mid d.row k b.2 text b.3 after s step own_is, same),
      ) in
      subst (λ w. IsRepliedBy plan outside old want w (answer t)) (sym (finished ∙ ap (λ w. finished_with w k s) back))
      (replied_from plan outside old want h.mid (defined k) (finished_with after k s) (answer t)
      (leads_for (purpose.Definition name entered) is) made)

-- ---- what waits

waiting_undone : (plan : Plan) (first : Bool) (start : Registry) (all : Wanted) (outside : Bool) (old : Registry) (want : Wanted)
    (ds : List Document) → AreWaiting plan first start all outside old want ds → rolled_back old ≡ rolled_back start
waiting_undone plan first start all outside old want [] h = ap rolled_back h.1
waiting_undone plan first start all outside old want (d ∷ ds) h =
    making_undone plan h.0 h.1 h.2 old d h.3 ∙ waiting_undone plan first start all h.0 h.1 h.2 ds h.5

replied_undone : (plan : Plan) (outside : Bool) (old : Registry) (want : Wanted) (now : Registry) (r : Reply)
    → IsRepliedBy plan outside old want now r → rolled_back now ≡ rolled_back old
replied_undone plan outside old want now (answer s) h = h.1
replied_undone plan outside old want now (document d) h = making_undone plan outside old want now d h

pub goes_on_undone : (plan : Plan) (first : Bool) (start : Registry) (all : Wanted) (now : Registry) (es : List Document) (o : Option Data)
    → GoesOn plan first start all now es o → rolled_back now ≡ rolled_back start
goes_on_undone plan first start all now es o h = replied_undone plan h.outside h.old h.want now h.reply h.replied
    ∙ waiting_undone plan first start all h.outside h.old h.want h.around h.waiting

-- ---- an answer is taken

same_answer : (s t : Data) → Some s ≡ Some t → s ≡ t
same_answer s t e = cc

module _ (plan : Plan) (first : Bool) (start : Registry) (all : Wanted) (now : Registry) where
  home : (outside : Bool) (old : Registry) (want : Wanted) (ds : List Document) (r : Reply) (t : Data) → IsGivenBack r ds [] (Some t)
      → AreWaiting plan first start all outside old want ds → IsRepliedBy plan outside old want now r
      → Step plan start now × IsReply plan first start now all t
  home outside old want ds (answer u) t given waiting replied =
      let same : t ≡ u = same_answer t u given.0 in
      let none : AreWaiting plan first start all outside old want [] =
      subst (λ xs. AreWaiting plan first start all outside old want xs) (sym given.1) waiting in
      let P : Bool → Registry → Wanted → Type 0 = λ b w x. IsRepliedBy plan b w x now (answer t) in
      let here : P outside old want = subst (λ v. IsRepliedBy plan outside old want now (answer v)) (sym same) replied in
      let is : P first start all = subst (λ x. P first start x) none.2 (subst (λ w. P first w want) none.1
      (subst (λ b. P b old want) none.0 here)) in
      (is.0, is.2)
  home outside old want ds (document d) t given waiting replied = absurd (none-some t (sym given.0))

  -- where nothing waits, the answer is what was wanted first
  pub taken_home : (es : List Document) (o : Option Data) (fs : List Document) (s : Data) → IsTaken es o fs (Some s)
      → GoesOn plan first start all now es o → Step plan start now × IsReply plan first start now all s
  taken_home es None fs s is h = absurd (none-some s (sym is.0))
  taken_home [] (Some t) fs s is h =
      subst (λ v. Step plan start now × IsReply plan first start now all v) (sym (same_answer s t is))
      (home h.outside h.old h.want h.around h.reply t h.given h.waiting h.replied)
  taken_home (d ∷ ds) (Some t) fs s is h = absurd (none-some s (sym is.0))

  going : (outside : Bool) (old : Registry) (want : Wanted) (around es : List Document) (r : Reply) → IsGivenBack r around es None
      → AreWaiting plan first start all outside old want around → IsRepliedBy plan outside old want now r
      → AreMaking plan first start all now es
  going outside old want around es (answer s) given waiting replied = absurd (none-some s given.0)
  going outside old want around es (document d) given waiting replied = record {
    outside = outside;
    old = old;
    want = want;
    inner = d;
    around = around;
    are = given.1;
    making = replied;
    waiting = waiting;
  }

  -- the first document waits for an answer that is at hand
  waits : (outside : Bool) (old : Registry) (want : Wanted) (around es : List Document) (r : Reply) (t : Data)
      → IsGivenBack r around es (Some t)
      → AreWaiting plan first start all outside old want around → IsRepliedBy plan outside old want now r
      → AreWaiting plan first start all outside old want es × IsRepliedBy plan outside old want now (answer t)
  waits outside old want around es (answer u) t given waiting replied = (
    subst (λ xs. AreWaiting plan first start all outside old want xs) (sym given.1) waiting,
    subst (λ v. IsRepliedBy plan outside old want now (answer v)) (sym (same_answer t u given.0)) replied,
  )
  waits outside old want around es (document d) t given waiting replied = absurd (none-some t (sym given.0))

  -- the document that had waited goes on, or the one that was begun
  pub taken_goes : (es : List Document) (o : Option Data) (fs : List Document) → IsTaken es o fs None
      → GoesOn plan first start all now es o → AreMaking plan first start all now fs
  taken_goes es None fs is h = subst (λ xs. AreMaking plan first start all now xs) (sym is.1)
      (going h.outside h.old h.want h.around es h.reply h.given h.waiting h.replied)
  taken_goes [] (Some t) fs is h = absurd (none-some t is)
  taken_goes (d ∷ ds) (Some t) fs is h =
      let both = waits h.outside h.old h.want h.around (d ∷ ds) h.reply t h.given h.waiting h.replied in
      let at = both.0 in
      record {
        outside = at.0;
        old = at.1;
        want = at.2;
        inner = is.1;
        around = ds;
        are = is.2;
        making = answered_making plan at.0 at.1 at.2 h.old now h.outside h.want d is.1 t at.3 at.4 both.1 is.3;
        waiting = at.5;
      }

  -- and has as much to go
  pub taken_left : (es : List Document) (o : Option Data) (fs : List Document) → IsTaken es o fs None
      → GoesOn plan first start all now es o → measure_of_making plan now fs ≡ measure_of_turn plan now es o
  taken_left es None fs is h = ap (measure_of_making plan now) is.1
  taken_left [] (Some t) fs is h = absurd (none-some t is)
  taken_left (d ∷ ds) (Some t) fs is h =
      let both = waits h.outside h.old h.want h.around (d ∷ ds) h.reply t h.given h.waiting h.replied in
      ap (measure_of_making plan now) is.2 ∙ answered_same plan now d is.1 t ds both.0.4.less is.3

pub making_first : (plan : Plan) (first : Bool) (start : Registry) (all : Wanted) (now : Registry) (es : List Document)
    → AreMaking plan first start all now es → HasFirst (IsTemplate plan) es
making_first plan first start all now es h = subst (λ xs. HasFirst (IsTemplate plan) xs) (sym h.are) h.making.template

-- ---- a call has replied

pub turn_left : (p : Plan) (w : Registry) (r : Reply) (ds es : List Document) (o : Option Data) → IsGivenBack r ds es o
    → measure_of_turn p w es o ≡ measure_of_reply p w r ds
turn_left p w (answer s) ds es o given = ap (λ x. measure_of_turn p w es x) given.0 ∙ ap (left_waiting p w w.pending) given.1
turn_left p w (document d) ds es o given = ap (λ x. measure_of_turn p w es x) given.0 ∙ ap (measure_of_making p w) given.1

-- what leads to what a call has replied to
pub replied_through : (plan : Plan) (inside : Bool) (old : Registry) (want : Wanted) (mid : Registry) (got : Wanted) (ds : List Document)
    (L M : Reply → Type 0) (now : Registry) (es : List Document) (o : Option Data) → ComesFrom plan inside old want mid got
    → ((r : Reply) → L r → M r) → HasReplied plan inside mid got ds L now es o → HasReplied plan inside old want ds M now es o
replied_through plan inside old want mid got ds L M now es o leads like h = record {
  reply = h.reply;
  given = h.given;
  replied = replied_from plan inside old want mid got now h.reply leads h.replied;
  is_like = like h.reply h.is_like;
}

-- ---- one turn

-- the last of the list
pub last_is_first : (P : Document → Type 0) (xs zs : List Document) (x : Document) (n : ℕ) → n ≡ length xs → reverse xs ≡ zs
    → x ≡ slice_index_or xs (n - 1) x → HasFirst P zs → P x
last_is_first P xs [] x n long is at has = absurd has
last_is_first P xs (d ∷ ds) x n long is at has = subst P (sym (at ∙ last_got xs ds d x n long is)) has

first_same : (x y : Document) (xs ys : List Document) → x ∷ xs ≡ y ∷ ys → (x ≡ y) × (xs ≡ ys)
first_same x y xs ys e = (cc, cc)

module _ (plan : Plan) (first : Bool) (start : Registry) (all : Wanted) (now new : Registry) (es fs : List Document) (o : Option Data)
    (at : AreMaking plan first start all now es) where
  -- the first document asks
  pub asking_goes_on : (inside : Bool) (a : Ask) (L : Reply → Type 0) → IsNext at.inner inside (asked a)
      → HasReplied plan inside now (asked a) es L new fs o → GoesOn plan first start all new fs o
  asking_goes_on inside a L next h =
      let P : List Document → Type 0 = λ xs. AreWaiting plan first start all inside now (asked a) xs in
      record {
        outside = inside;
        old = now;
        want = asked a;
        around = es;
        reply = h.reply;
        given = h.given;
        waiting = subst P (sym at.are) (at.outside, at.old, at.want, at.making, next, at.waiting);
        replied = h.replied;
      }

  pub asking_goes_less : (inside : Bool) (a : Ask) (k : ℕ) → k < document_rank plan now now.pending at.inner.row at.inner.purpose
      → HasReplied plan inside now (asked a) es (IsWithin plan k new) new fs o → measure_of_turn plan new fs o < measure_of_making plan now es
  asking_goes_less inside a k low h =
      let P : List Document → Type 0 = λ xs. measure_of_reply plan new h.reply xs < measure_of_making plan now xs in
      let less : P es = subst P (sym at.are)
      (asking_less plan inside (asked a) now new at.inner at.around h.reply k h.replied h.is_like low) in
      let same = turn_left plan new h.reply es fs o h.given in
      subst (λ m. m < measure_of_making plan now es) (sym same) less

  -- the first document is done
  module _ (d : Document) (ds : List Document) (are : es ≡ d ∷ ds)
      (closes : (outside : Bool) (old : Registry) (want : Wanted) → IsInMaking plan outside old want now d
      → HasReplied plan outside old want ds (IsLess plan now d ds new) new fs o) where
    same : (at.inner ≡ d) × (at.around ≡ ds)
    same = first_same at.inner d at.around ds (sym at.are ∙ are)

    closed : HasReplied plan at.outside at.old at.want ds (IsLess plan now d ds new) new fs o
    closed = closes at.outside at.old at.want (subst (λ x. IsInMaking plan at.outside at.old at.want now x) same.0 at.making)

    pub closing_goes_on : GoesOn plan first start all new fs o
    closing_goes_on = record {
      outside = at.outside;
      old = at.old;
      want = at.want;
      around = ds;
      reply = closed.reply;
      given = closed.given;
      waiting = subst (λ xs. AreWaiting plan first start all at.outside at.old at.want xs) same.1 at.waiting;
      replied = closed.replied;
    }

    pub closing_goes_less : measure_of_turn plan new fs o < measure_of_making plan now es
    closing_goes_less =
        let left = turn_left plan new closed.reply ds fs o closed.given in
        subst (λ m. measure_of_turn plan new fs o < m) (sym (ap (measure_of_making plan now) are))
        (subst (λ m. m < measure_of_making plan now (d ∷ ds)) (sym left) closed.is_like)
