-- How the list of documents that wait comes to an end.
use Rattle.std.proofs.Common.{◌≡◌, ◌<◌, ◌≤◌, ◌+◌, ◌*◌, ◌∙◌, ◌^◌, ℕ, zero, suc, List, [], ◌∷◌, length, map, Bool, true, false, Some, None, refl, ap, sym, subst, arith, string_bytes, get_or, All}
use Rattle.schemars_build.proofs.Words.{if◌then◌else◌, nat_eq, nat_tests, option_map_or, length-append, Data, get_member, Text, IsChecked, name_of, pending_in, Plan, Registry, Step, basis_of_plan, without_last, Ask, asks_of, ask_of, entry_template, IsAskedIn, measure_of_own_document, measure_of_part, measure_of_filled, measure_of_asked, document_rank, IsWithin, Wanted, IsBegun, IsTemplate, IsOpened, IsInMaking, HasAnswered, IsRepliedBy, HasReplied, answer, document, get_member-replaced_other, get_member-replaced, mul-le-mul_right, mul-le-mul_left, pow-le-pow_right, pow-succ', one-le-pow, length-map, get_or-map, width, places, asks_at, sum_below, weight, unanswered_in, pending_around, left_waiting, left_going, measure_of_reply, IsLess, Reply, missing, breadth}
use Rattle.schemars_templates.specs.declared.template.Ask as src-ask
use Rattle.schemars_build.specs.declared.build.Document.{Document}
use Rattle.schemars_build.specs.declared.build.Purpose.{Purpose}
use Rattle.schemars_build.specs.declared.build.Purpose.TheVariants as purpose
use Rattle.schemars_build.proofs.Asked.{asks_in_order}
use Rattle.schemars_build.proofs.Placing.{left_pending}
use Rattle.schemars_build.proofs.Steps.{begun_with, finished_with, begun-fewer, missing-wider, step_wider, same_key}
use Rattle.schemars_build.proofs.Descending.{to_asked, to_filled, to_define, to_definition}

-- ---- numbers

below_sum : (f : ℕ → ℕ) (n k : ℕ) → k < n → f k ≤ sum_below f n
below_sum f zero k less = absurd (omega (arith, less))
below_sum f (suc n) k less = by (nat_eq k n) refl (below_sum f n k)
  where
    by : (b : Bool) → nat_eq k n ≡ b → (k < n → f k ≤ sum_below f n) → f k ≤ f n + sum_below f n
    by true is rest =
        let same : k ≡ n = grind (arith, nat_tests) in
        let e : f k ≡ f n = ap f same in
        omega (arith, e)
    by false is rest =
        let apart : k < n = grind (arith, nat_tests) in
        let e = rest apart in
        omega (arith, e)

lighter : (a b r s : ℕ) → suc (suc a) ≤ b → r < s → suc a * b ^ r < b ^ s
lighter a b r s few less =
    let positive : 0 < b = omega (arith, few) in
    let one : 1 ≤ b ^ r = one-le-pow r b positive in
    let more : suc (suc a) * b ^ r ≤ b * b ^ r = mul-le-mul_right (b ^ r) few in
    let next : b ^ suc r ≡ b * b ^ r = pow-succ' b r in
    let up : b ^ suc r ≤ b ^ s = pow-le-pow_right positive (omega (arith, less)) in
    let split : suc (suc a) * b ^ r ≡ b ^ r + suc a * b ^ r = omega arith in
    omega (arith, one, more, next, up, split)

-- ---- how many rows are asked

module _ (p : Plan) where
  many : 2 ≤ breadth p
  unfolding breadth
  many = omega arith

  asks_below : (n : ℕ) → n < length p.rows → suc (suc (asks_at p n)) ≤ breadth p
  unfolding breadth
  asks_below n less = let e = below_sum (asks_at p) (length p.rows) n less in omega (arith, e)

  few_asks : (d : Document) → IsTemplate p d → suc (suc (unanswered_in d)) ≤ breadth p
  few_asks d t =
      let counted : length d.asks.items ≡ asks_at p d.row = sym (length-map d.asks.items ask_of) ∙ (ap length t.asks
      ∙ sym (ap (λ o. option_map_or (λ e. length (asks_of (entry_template (basis_of_plan p) e))) o 0) t.at)) in
      let e = asks_below d.row t.known in
      omega (arith, counted, e)

  heavy : (w : Registry) (pending : List ℕ) (d : Document) → 1 ≤ weight p w pending d
  heavy w pending d = one-le-pow (document_rank p w pending d.row d.purpose) (breadth p) (let m = many in omega (arith, m))

  -- ---- as definitions join

  missing_pending : (w : Registry) (pending : List ℕ) → missing p.rows p.contract (record w { pending = pending }) ≡ missing p.rows p.contract w
  unfolding missing
  missing_pending w pending = refl

  module _ (v w : Registry) (fewer : missing p.rows p.contract v ≤ missing p.rows p.contract w) where
    places_fewer : (pending : List ℕ)
        → places p (record v { pending = pending }) pending ≤ places p (record w { pending = pending }) pending
    places_fewer pending =
        let a = missing_pending v pending in
        let b = missing_pending w pending in
        let less : missing p.rows p.contract (record v { pending = pending }) ≤ missing p.rows p.contract (record w { pending = pending }) =
        omega (arith, a, b, fewer) in
        let e = mul-le-mul_right (suc (length p.rows)) less in
        omega (arith, e)

    rank_fewer : (pending : List ℕ) (n : ℕ) (q : Purpose) → document_rank p v pending n q ≤ document_rank p w pending n q
    rank_fewer pending n (purpose.Own entered) = let e = mul-le-mul_right (width p.rows) (places_fewer pending) in omega (arith, e)
    rank_fewer pending n (purpose.Definition name entered) =
        let e = mul-le-mul_right (width p.rows) (places_fewer pending) in omega (arith, e)
    rank_fewer pending n (purpose.Members optional) = let e = mul-le-mul_right (width p.rows) (places_fewer pending) in omega (arith, e)
    rank_fewer pending n purpose.Content = let e = mul-le-mul_right (width p.rows) (places_fewer pending) in omega (arith, e)

    weight_fewer : (pending : List ℕ) (d : Document) → weight p v pending d ≤ weight p w pending d
    weight_fewer pending d = pow-le-pow_right (let m = many in omega (arith, m)) (rank_fewer pending d.row d.purpose)

    waiting_fewer : (pending : List ℕ) (ds : List Document) → left_waiting p v pending ds ≤ left_waiting p w pending ds
    waiting_fewer pending [] = omega arith
    waiting_fewer pending (d ∷ ds) =
        let e = mul-le-mul_left (unanswered_in d) (weight_fewer pending d) in
        let f = waiting_fewer (pending_around d.purpose pending) ds in
        omega (arith, e, f)

  -- ---- what is pending around a document, and what is missing by then

  module _ (outside : Bool) (old : Registry) (want : Wanted) (now : Registry) (d : Document) (h : IsInMaking p outside old want now d) where
    around_begun : (q : Purpose) → IsBegun p outside h.mid h.start d.row d.in_definition q → pending_around q now.pending ≡ h.mid.pending
    around_begun (purpose.Own entered) is =
        ap (λ ps. if entered then without_last ps else ps) (h.step.still_pending ∙ ap (λ w. w.pending) is.2)
        ∙ left_pending p.inlines h.mid.pending d.row entered is.1
    around_begun (purpose.Definition name entered) is =
        ap (λ ps. if entered then without_last ps else ps) (h.step.still_pending ∙ ap (λ w. w.pending) is.4)
        ∙ left_pending p.inlines h.mid.pending d.row entered is.1
    around_begun (purpose.Members optional) is = h.step.still_pending ∙ ap (λ w. w.pending) is.1
    around_begun purpose.Content is = h.step.still_pending ∙ ap (λ w. w.pending) is.1

    pub making_around : pending_around d.purpose now.pending ≡ old.pending
    making_around = around_begun d.purpose h.begun ∙ h.leads.step.still_pending

    fewer_begun : (q : Purpose) → IsBegun p outside h.mid h.start d.row d.in_definition q
        → missing p.rows p.contract h.start ≤ missing p.rows p.contract h.mid
    fewer_begun (purpose.Own entered) is =
        let e = ap (missing p.rows p.contract) is.2 ∙ missing_pending h.mid (pending_in p.inlines h.mid.pending d.row) in omega (arith, e)
    fewer_begun (purpose.Definition name entered) is =
        let e = ap (missing p.rows p.contract) is.4
        ∙ missing_pending (begun_with h.mid (string_bytes name)) (pending_in p.inlines h.mid.pending d.row) in
        let f = begun-fewer p h.mid d.row (string_bytes name) h.template.known is.3 is.2 in
        omega (arith, e, f)
    fewer_begun (purpose.Members optional) is = let e = ap (missing p.rows p.contract) is.1 in omega (arith, e)
    fewer_begun purpose.Content is = let e = ap (missing p.rows p.contract) is.1 in omega (arith, e)

    pub making_fewer : missing p.rows p.contract now ≤ missing p.rows p.contract old
    making_fewer =
        let a = missing-wider p.rows p.contract old h.mid (step_wider p old h.mid h.leads.step) in
        let b = fewer_begun d.purpose h.begun in
        let c = missing-wider p.rows p.contract h.start now (step_wider p h.start now h.step) in
        omega (arith, a, b, c)

  pub replied_fewer : (outside : Bool) (old : Registry) (want : Wanted) (now : Registry) (r : Reply) → IsRepliedBy p outside old want now r
      → missing p.rows p.contract now ≤ missing p.rows p.contract old
  replied_fewer outside old want now (answer s) h = missing-wider p.rows p.contract old now (step_wider p old now h.0)
  replied_fewer outside old want now (document d) h = making_fewer outside old want now d h

  -- ---- what a document asks lies lower

  pub asks_lower : (now : Registry) (d : Document) → IsChecked p.rows → IsTemplate p d → (i : ℕ) (a : src-ask.Ask) → i < length d.asks.items
      → measure_of_asked p now (ask_of (get_or d.asks.items i a)) < document_rank p now now.pending d.row d.purpose
  asks_lower now d checked t i a less =
      let P : List Ask → Type 0 = λ asks. All (IsAskedIn p.rows d.row) asks in
      let every : P (map ask_of d.asks.items) = subst P (sym t.asks) (asks_in_order (basis_of_plan p) d.row t.entry checked t.at) in
      let counted : length (map ask_of d.asks.items) ≡ length d.asks.items = length-map d.asks.items ask_of in
      let one = every i (ask_of a) (omega (arith, counted, less)) in
      let there : IsAskedIn p.rows d.row (ask_of (get_or d.asks.items i a)) =
      subst (λ x. IsAskedIn p.rows d.row x) (get_or-map ask_of d.asks.items i a (ask_of a) less) one in
      let same : missing p.rows p.contract now ≤ missing p.rows p.contract now = omega arith in
      by d.purpose (to_asked p now now d.row (ask_of (get_or d.asks.items i a)) there.1 same refl)
    where
      by : (q : Purpose) → measure_of_asked p now (ask_of (get_or d.asks.items i a)) < measure_of_filled p now d.row
          → measure_of_asked p now (ask_of (get_or d.asks.items i a)) < document_rank p now now.pending d.row q
      by (purpose.Own entered) e = e
      by (purpose.Definition name entered) e = e
      by (purpose.Members optional) e = e
      by purpose.Content e = omega (arith, e)

  -- ---- replies

  pub within_more : (k l : ℕ) (w : Registry) (r : Reply) → k ≤ l → IsWithin p k w r → IsWithin p l w r
  within_more k l w (answer s) less is = is
  within_more k l w (document d) less is = omega (arith, less, is)

  pub opened_within : (inside : Bool) (n : ℕ) (q : Purpose) (d : Document) (new : Registry) (k : ℕ) → IsOpened p inside n q d
      → document_rank p new new.pending n q ≤ k → IsWithin p k new (document d)
  opened_within inside n q d new k is low =
      let same : document_rank p new new.pending d.row d.purpose ≡ document_rank p new new.pending n q =
      ap (λ m. document_rank p new new.pending m d.purpose) is.0 ∙ ap (λ x. document_rank p new new.pending n x) is.1 in
      omega (arith, same, low)

  pub own_within : (old new : Registry) (n : ℕ) → new ≡ record old { pending = pending_in p.inlines old.pending n }
      → measure_of_filled p new n ≤ measure_of_own_document p old n
  own_within old new n is =
      let e = ap (missing p.rows p.contract) is ∙ missing_pending old (pending_in p.inlines old.pending n) in
      let f = to_filled p old new n (omega (arith, e)) (ap (λ w. w.pending) is) in
      omega (arith, f)

  pub definition_within : (old mid new : Registry) (n : ℕ) (k : Text) → IsChecked p.rows → n < length p.rows → Step p old mid
      → name_of n p.contract mid.names ≡ Some k → get_member k mid.definitions ≡ None
      → new ≡ record (begun_with mid k) { pending = pending_in p.inlines mid.pending n }
      → measure_of_filled p new n ≤ measure_of_part p old n
  definition_within old mid new n k checked known step named none is =
      let a = to_define p old mid n (missing-wider p.rows p.contract old mid (step_wider p old mid step)) step.still_pending in
      let b = to_definition p mid (begun_with mid k) n checked (begun-fewer p mid n k known named none) in
      let c = own_within (begun_with mid k) new n is in
      omega (arith, a, b, c)

  -- where only what is pending changes
  pub left_fewer : (now new : Registry) (ps : List ℕ) → new ≡ record now { pending = ps }
      → missing p.rows p.contract new ≤ missing p.rows p.contract now
  left_fewer now new ps is = let e = ap (missing p.rows p.contract) is ∙ missing_pending now ps in omega (arith, e)

  -- where a definition is finished
  pub finished_fewer : (now : Registry) (k : Text) (d b : Data) → get_member k now.definitions ≡ Some b
      → missing p.rows p.contract (finished_with now k d) ≤ missing p.rows p.contract now
  finished_fewer now k d b is = missing-wider p.rows p.contract now (finished_with now k d) (record {
    names = λ m name e. e;
    keys = λ q at. same_key q k
        (λ same. (d, ap (λ x. get_member x (finished_with now k d).definitions) same ∙ get_member-replaced k d b now.definitions is))
        (λ apart. (at.0, get_member-replaced_other q k d now.definitions apart ∙ at.1));
    meets = λ e. e;
  })

  -- ---- one turn

  -- d asks, and waits
  pub asking_less : (outside : Bool) (want : Wanted) (now new : Registry) (d : Document) (ds : List Document) (r : Reply) (k : ℕ)
      → IsRepliedBy p outside now want new r → IsWithin p k new r → k < document_rank p now now.pending d.row d.purpose
      → measure_of_reply p new r (d ∷ ds) < left_going p now d ds
  asking_less outside want now new d ds (answer s) k is within low =
      let fewer = replied_fewer outside now want new (answer s) is in
      let same : new.pending ≡ now.pending = is.0.still_pending in
      let all : left_waiting p new new.pending (d ∷ ds) ≡ left_waiting p new now.pending (d ∷ ds) =
      ap (λ ps. left_waiting p new ps (d ∷ ds)) same in
      let e = waiting_fewer new now fewer now.pending (d ∷ ds) in
      let f = heavy now now.pending d in
      omega (arith, all, e, f)
  asking_less outside want now new d ds (document x) k is within low =
      let fewer = replied_fewer outside now want new (document x) is in
      let same : pending_around x.purpose new.pending ≡ now.pending = making_around outside now want new x is in
      let all : left_waiting p new (pending_around x.purpose new.pending) (d ∷ ds) ≡ left_waiting p new now.pending (d ∷ ds) =
      ap (λ ps. left_waiting p new ps (d ∷ ds)) same in
      let e = waiting_fewer new now fewer now.pending (d ∷ ds) in
      let f : suc (unanswered_in x) * weight p new new.pending x < weight p now now.pending d =
      lighter (unanswered_in x) (breadth p) (document_rank p new new.pending x.row x.purpose)
      (document_rank p now now.pending d.row d.purpose)
      (few_asks x is.template) (omega (arith, within, low)) in
      omega (arith, all, e, f)

  -- d is done, and is the answer
  pub closing_answered : (outside : Bool) (old : Registry) (want : Wanted) (now new : Registry) (d : Document) (ds : List Document) (s : Data)
      → IsInMaking p outside old want now d → missing p.rows p.contract new ≤ missing p.rows p.contract now
      → IsRepliedBy p outside old want new (answer s) → measure_of_reply p new (answer s) ds < left_going p now d ds
  closing_answered outside old want now new d ds s h fewer is =
      let same : new.pending ≡ pending_around d.purpose now.pending = is.0.still_pending ∙ sym (making_around outside old want now d h) in
      let all : left_waiting p new new.pending ds ≡ left_waiting p new (pending_around d.purpose now.pending) ds =
      ap (λ ps. left_waiting p new ps ds) same in
      let e = waiting_fewer new now fewer (pending_around d.purpose now.pending) ds in
      let f = heavy now now.pending d in
      omega (arith, all, e, f)

  -- and that is the reply
  pub closing_replies : (outside : Bool) (old : Registry) (want : Wanted) (now new : Registry) (d : Document) (ds : List Document) (s : Data)
      → IsInMaking p outside old want now d → missing p.rows p.contract new ≤ missing p.rows p.contract now
      → IsRepliedBy p outside old want new (answer s) → HasReplied p outside old want ds (IsLess p now d ds new) new ds (Some s)
  closing_replies outside old want now new d ds s h fewer is = record {
    reply = answer s;
    given = (refl, refl);
    replied = is;
    is_like = closing_answered outside old want now new d ds s h fewer is;
  }

  -- d is done
  pub closing_less : (outside : Bool) (old : Registry) (want : Wanted) (now new : Registry) (d : Document) (ds : List Document) (r : Reply) (k : ℕ)
      → IsInMaking p outside old want now d → missing p.rows p.contract new ≤ missing p.rows p.contract now
      → IsRepliedBy p outside old want new r → IsWithin p k new r → k < document_rank p now now.pending d.row d.purpose
      → measure_of_reply p new r ds < left_going p now d ds
  closing_less outside old want now new d ds (answer s) k h fewer is within low =
      closing_answered outside old want now new d ds s h fewer is
  closing_less outside old want now new d ds (document x) k h fewer is within low =
      let same : pending_around x.purpose new.pending ≡ pending_around d.purpose now.pending =
      making_around outside old want new x is ∙ sym (making_around outside old want now d h) in
      let all : left_waiting p new (pending_around x.purpose new.pending) ds
      ≡ left_waiting p new (pending_around d.purpose now.pending) ds =
      ap (λ ps. left_waiting p new ps ds) same in
      let e = waiting_fewer new now fewer (pending_around d.purpose now.pending) ds in
      let f : suc (unanswered_in x) * weight p new new.pending x < weight p now now.pending d =
      lighter (unanswered_in x) (breadth p) (document_rank p new new.pending x.row x.purpose)
      (document_rank p now now.pending d.row d.purpose)
      (few_asks x is.template) (omega (arith, within, low)) in
      omega (arith, all, e, f)

  -- d has one answer more
  pub answered_same : (w : Registry) (d x : Document) (s : Data) (ds : List Document) → length d.answers.items < length d.asks.items
      → HasAnswered d s x → left_going p w x ds ≡ left_waiting p w w.pending (d ∷ ds)
  answered_same w d x s ds less has =
      let counted : length x.answers.items ≡ length d.answers.items + 1 = ap length has.answers ∙ length-append d.answers.items (s ∷ []) in
      let asks : length x.asks.items ≡ length d.asks.items = ap (λ v. length v.items) has.asks in
      let one_less : suc (unanswered_in x) ≡ unanswered_in d = omega (arith, counted, asks, less) in
      let heavy_same : weight p w w.pending x ≡ weight p w w.pending d =
      ap (λ n. breadth p ^ document_rank p w w.pending n x.purpose) has.row
      ∙ ap (λ q. breadth p ^ document_rank p w w.pending d.row q) has.purpose in
      let rest : left_waiting p w (pending_around x.purpose w.pending) ds ≡ left_waiting p w (pending_around d.purpose w.pending) ds =
      ap (λ q. left_waiting p w (pending_around q w.pending) ds) has.purpose in
      λ i. one_less i * heavy_same i + rest i
