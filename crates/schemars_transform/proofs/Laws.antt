-- What lists of transforms do.
use Rattle.std.proofs.Common.{◌≡◌, inl, inr, List, [], ◌∷◌, Vec, Global, false, Ok, Err, refl, sym, ap, ◌∙◌, subst}
use Rattle.schemars_transform.proofs.Words.{or_parts, MatchResult, Data, null, boolean, number, string, array, object, Members, no_members, member, Answer, TransformStep, Next, EachMember, AtSchema, InOrder, OfMember, is_own, some_own, function_of, made_by, value_made_by, each_made_by}
use Rattle.schemars_walk.specs.declared.transform.TransformError.TheVariants.{Memory}
use Rattle.schemars_transform.specs.declared.gen_transform.GenTransform.{GenTransform}
use Rattle.schemars_transform.specs.declared.gen_transform.GenTransform.TheVariants.{ReplaceBoolSchemas, RemoveRefSiblings, SetSingleExample, ReplaceConstValue, ReplacePrefixItems, AddNullable, ReplaceUnevaluatedProperties, RestrictFormats, Own}

-- no transforms change nothing
pub no_transforms : {S : Type 0} (Q : TransformStep S) (s : Data) (r : Answer) (us : List S) (v : Data)
    → InOrder Q [] s r us v → (r ≡ Ok tt) × (v ≡ s)
no_transforms Q s r us v h = (h.0, h.2)

-- what was made by a function, or want of memory
abbrev Made : Answer → Data → Data → Type 0
Made r v made = MatchResult r (λ _. v ≡ made) (λ e. e ≡ Memory)

-- a built-in transform stays as it is, and makes what its function makes
built_in : {O : Type 0} (Q : TransformStep O) (t u : GenTransform O) (s v : Data) (r : Answer)
    → is_own t ≡ false → OfMember Q t s r u v → (u ≡ t) × Made r v (function_of t s)
built_in Q (ReplaceBoolSchemas t) u s v r own h = h
built_in Q (RemoveRefSiblings t) u s v r own h = h
built_in Q (SetSingleExample t) u s v r own h = h
built_in Q (ReplaceConstValue t) u s v r own h = h
built_in Q (ReplacePrefixItems t) u s v r own h = h
built_in Q (AddNullable t) u s v r own h = h
built_in Q (ReplaceUnevaluatedProperties t) u s v r own h = h
built_in Q (RestrictFormats t) u s v r own h = h
built_in Q (Own t) u s v r own h = cc

none_own : {O : Type 0} (t : GenTransform O) (ts : List (GenTransform O)) → some_own (t ∷ ts) ≡ false
    → (is_own t ≡ false) × (some_own ts ≡ false)
none_own t ts h = or_parts (is_own t) (some_own ts) h

stays_after : {O : Type 0} (Q : TransformStep O) (t u : GenTransform O) (ts us : List (GenTransform O)) (e v : Data) (a r : Answer)
    → u ≡ t → ((vs : List (GenTransform O)) → InOrder (OfMember Q) ts e r vs v → vs ≡ ts)
    → Next {S = List (GenTransform O) × Data} a (u ∷ ts, e) r (us, v)
    ((vs : List (GenTransform O)) × InOrder (OfMember Q) ts e r vs v × (us ≡ u ∷ vs))
    → us ≡ t ∷ ts
stays_after Q t u ts us e v (Ok x) r same others h =
    h.2 ∙ ap (λ y. y ∷ h.0) same ∙ ap (λ ys. t ∷ ys) (others h.0 h.1)
stays_after Q t u ts us e v (Err x) r same others h = ap (λ p. p.0) h.1 ∙ ap (λ y. y ∷ ts) same

-- built-in transforms stay as they are
pub built_ins_stay : {O : Type 0} (Q : TransformStep O) (ts us : List (GenTransform O)) (s v : Data) (r : Answer)
    → some_own ts ≡ false → InOrder (OfMember Q) ts s r us v → us ≡ ts
built_ins_stay Q [] us s v r none h = h.1
built_ins_stay Q (t ∷ ts) us s v r none h =
    stays_after Q t h.1 ts us h.2 v h.0 r (built_in Q t h.1 s h.2 h.0 (none_own t ts none).0 h.3).0
    (λ vs rest. built_ins_stay Q ts vs h.2 v r (none_own t ts none).1 rest) h.4

-- ---- what built-in transforms make

makes_after : {O : Type 0} (Q : TransformStep O) (t u : GenTransform O) (ts us : List (GenTransform O)) (s e v : Data) (a r : Answer)
    → Made a e (function_of t s)
    → ((vs : List (GenTransform O)) → InOrder (OfMember Q) ts e r vs v → Made r v (made_by ts e))
    → Next {S = List (GenTransform O) × Data} a (u ∷ ts, e) r (us, v)
    ((vs : List (GenTransform O)) × InOrder (OfMember Q) ts e r vs v × (us ≡ u ∷ vs))
    → Made r v (made_by (t ∷ ts) s)
makes_after Q t u ts us s e v (Ok x) r made others h =
    subst (λ d. Made r v (made_by ts d)) made (others h.0 h.1)
makes_after Q t u ts us s e v (Err x) r made others h =
    subst (λ a. Made a v (made_by (t ∷ ts) s)) (sym h.0) made

-- built-in transforms make what their functions make, one after another, and refuse for want of memory alone
pub built_ins_make : {O : Type 0} (Q : TransformStep O) (ts us : List (GenTransform O)) (s v : Data) (r : Answer)
    → some_own ts ≡ false → InOrder (OfMember Q) ts s r us v → Made r v (made_by ts s)
built_ins_make Q [] us s v r none h = subst (λ a. Made a v s) (sym h.0) h.2
built_ins_make Q (t ∷ ts) us s v r none h =
    makes_after Q t h.1 ts us s h.2 v h.0 r (built_in Q t h.1 s h.2 h.0 (none_own t ts none).0 h.3).1
    (λ vs rest. built_ins_make Q ts vs h.2 v r (none_own t ts none).1 rest) h.4

-- ---- lists of transforms over the values of a map

abbrev All : {O : Type 0} → TransformStep O → TransformStep (Vec (GenTransform O) Global)
All Q ts s r us v = InOrder (OfMember Q) ts.items s r us.items v

at_value : {O : Type 0} (Q : TransformStep O) (t u : Vec (GenTransform O) Global) (d e : Data) (a : Answer) → some_own t.items ≡ false
    → AtSchema (All Q) t d a u e → (u.items ≡ t.items) × Made a e (value_made_by t.items d)
at_value Q t u null e a none h = (ap (λ w. w.items) h.1, subst (λ r. Made r e null) (sym h.0) h.2)
at_value Q t u (boolean b) e a none h =
    (built_ins_stay Q t.items u.items (boolean b) e a none h, built_ins_make Q t.items u.items (boolean b) e a none h)
at_value Q t u (number n) e a none h = (ap (λ w. w.items) h.1, subst (λ r. Made r e (number n)) (sym h.0) h.2)
at_value Q t u (string s) e a none h = (ap (λ w. w.items) h.1, subst (λ r. Made r e (string s)) (sym h.0) h.2)
at_value Q t u (array ds) e a none h = (ap (λ w. w.items) h.1, subst (λ r. Made r e (array ds)) (sym h.0) h.2)
at_value Q t u (object ms) e a none h =
    (built_ins_stay Q t.items u.items (object ms) e a none h, built_ins_make Q t.items u.items (object ms) e a none h)

module _ {O : Type 0} (Q : TransformStep O) where
  -- what built-in transforms make of each value of a map
  pub each_made : (t u : Vec (GenTransform O) Global) (ms taken : Members) → some_own t.items ≡ false
      → EachMember (λ k. AtSchema (All Q)) t ms (Ok tt) u taken → taken ≡ each_made_by t.items ms
  each_made t u no_members taken none h = h.2
  each_made t u (member k d ms) taken none (Ok x, w, e, one, inl never) = cc
  each_made t u (member k d ms) taken none (Ok x, w, e, one, inr (fs, rest, same)) =
      let here = at_value Q t w d e (Ok x) none one in
      let later = each_made w u ms fs (ap some_own here.0 ∙ none) rest in
      same ∙ ap (λ v. member k v fs) here.1 ∙ ap (member k (value_made_by t.items d)) (later ∙ ap (λ ts. each_made_by ts ms) here.0)
  each_made t u (member k d ms) taken none (Err x, w, e, one, never) = cc

  -- they want memory alone
  pub each_wants_memory : (t u : Vec (GenTransform O) Global) (ms taken : Members) (r : Answer) → some_own t.items ≡ false
      → EachMember (λ k. AtSchema (All Q)) t ms r u taken → MatchResult r (λ _. Unit {0}) (λ e. e ≡ Memory)
  each_wants_memory t u no_members taken r none h = subst (λ a. MatchResult a (λ _. Unit {0}) (λ e. e ≡ Memory)) (sym h.0) tt
  each_wants_memory t u (member k d ms) taken r none (Ok x, w, e, one, inl (memory, stays)) =
      subst (λ a. MatchResult a (λ _. Unit {0}) (λ e. e ≡ Memory)) (sym memory) refl
  each_wants_memory t u (member k d ms) taken r none (Ok x, w, e, one, inr (fs, rest, same)) =
      each_wants_memory w u ms fs r (ap some_own (at_value Q t w d e (Ok x) none one).0 ∙ none) rest
  each_wants_memory t u (member k d ms) taken r none (Err x, w, e, one, (is, stays)) =
      subst (λ a. MatchResult a (λ _. Unit {0}) (λ e. e ≡ Memory)) (sym is) (at_value Q t w d e (Err x) none one).1

  -- built-in ones stay as they are
  pub each_stays : (t u : Vec (GenTransform O) Global) (ms taken : Members) (r : Answer) → some_own t.items ≡ false
      → EachMember (λ k. AtSchema (All Q)) t ms r u taken → u.items ≡ t.items
  each_stays t u no_members taken r none h = ap (λ w. w.items) h.1
  each_stays t u (member k d ms) taken r none (Ok x, w, e, one, inl (memory, stays)) =
      ap (λ y. y.items) stays ∙ (at_value Q t w d e (Ok x) none one).0
  each_stays t u (member k d ms) taken r none (Ok x, w, e, one, inr (fs, rest, same)) =
      let here = (at_value Q t w d e (Ok x) none one).0 in
      each_stays w u ms fs r (ap some_own here ∙ none) rest ∙ here
  each_stays t u (member k d ms) taken r none (Err x, w, e, one, (is, stays)) =
      ap (λ y. y.items) stays ∙ (at_value Q t w d e (Err x) none one).0
