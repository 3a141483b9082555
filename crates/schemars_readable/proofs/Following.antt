-- What is found stands in the document, and all that stands there is found.
use Rattle.std.proofs.Common.{◌≡◌, ℕ, zero, suc, ◌+◌, ◌<◌, ◌≤◌, List, [], ◌∷◌, ◌++◌, Bool, true, false, true≢false, Option, Some, None, length, get_or, take, refl, sym, ap, subst, ◌∙◌, arith, append-nil, append_assoc, length-append, ne_eqb, ◌≢◌, All, Contains, string_bytes, bytes_eq, String}
use Rattle.schemars_readable.proofs.Words.{◌||◌, ◌&&◌, list_any, take-append-le, get_or_append_left, take_all, All-append, All-weaker, All-more, All-contains, All-contains_itself, Contains-append_left, Contains-append_right, bytes_eq-Decides, Data, Members, members_view, Text, standing, escaped_character, escaped_characters, schemas_at, schemas_referred, reference_of, StandsAt, inside, referred, leads_to, AreAmong, AreFollowed, IsGrown}
use Rattle.schemars_readable.specs.declared.places.Place.{Place}

pub escaped-more : (cs : List ℕ) (c : ℕ) → escaped_characters (cs ++ c ∷ []) ≡ escaped_characters cs ++ escaped_character c
escaped-more [] c = append-nil (escaped_character c)
escaped-more (x ∷ cs) c =
    ap (λ t. escaped_character x ++ t) (escaped-more cs c)
    ∙ sym (append_assoc (escaped_character x) (escaped_characters cs) (escaped_character c))

abbrev Schema : Type 0
Schema = Text × Members

-- what the reference of a schema leads to is there
abbrev pub IsFollowed : Data → List Schema → Schema → Type 0
IsFollowed document there s = AreAmong (leads_to document (reference_of s.1)) there

-- so far: the schemas inside the whole are there, all stand in the document, the references of the first n were followed, and so
-- were those of the list
pub record SoFar {Y : Type 0} (document : Data) (n : ℕ) (references : List (String Y)) (there : List Schema) : Type 0 where
  pub whole : AreAmong (schemas_at [] document) there
  pub stand : All (λ s. StandsAt document s.0 s.1) there
  pub first : All (IsFollowed document there) (take n there)
  pub followed : AreFollowed document references there

none_among : (xs : List Schema) → AreAmong [] xs
none_among xs s h = absurd (omega (arith, h.1))

pub before_first : {Y : Type 0} (document : Data) (references : List (String Y)) (there : List Schema) → references ≡ []
    → there ≡ [] ++ schemas_at [] document → SoFar document 0 references there
before_first document references there none is = record {
  whole = λ s h. subst (λ xs. Contains xs s) (sym is) h;
  stand = subst (λ xs. All (λ s. StandsAt document s.0 s.1) xs) (sym is)
      (All-weaker (Contains (schemas_at [] document)) (λ s. StandsAt document s.0 s.1) (λ s h. inside s.0 s.1 h)
      (schemas_at [] document) (All-contains_itself (schemas_at [] document)));
  first = λ k d less. absurd (omega (arith, less));
  followed = λ r h. absurd (true≢false (sym h ∙ ap (list_any (λ k. bytes_eq r (string_bytes k))) none));
}

stands_next : (document : Data) (from : Schema) (more : List Schema) → StandsAt document from.0 from.1
    → AreAmong more (leads_to document (reference_of from.1)) → All (λ s. StandsAt document s.0 s.1) more
stands_next document from more stands among =
    All-weaker (Contains more) (λ s. StandsAt document s.0 s.1)
    (λ s h. go (reference_of from.1) refl s (among s h)) more (All-contains_itself more)
  where
    go : (o : Option Text) → reference_of from.1 ≡ o → (s : Schema) → Contains (leads_to document o) s → StandsAt document s.0 s.1
    go None is s h = absurd (omega (arith, h.1))
    go (Some r) is s h = referred from.0 s.0 from.1 s.1 r stands is h

-- the reference of one more was followed
pub one_more : {Y : Type 0} (document : Data) (n : ℕ) (from : Schema) (references followed : List (String Y)) (there new : List Schema)
    → n < length there → ((d : Schema) → get_or there n d ≡ from) → SoFar document n references there
    → IsGrown there new (leads_to document (reference_of from.1)) → AreFollowed document followed new
    → SoFar document (n + 1) followed new
one_more document n from references followed there new less at before grown after =
    let more = grown.0.0 in
    let is : new ≡ there ++ more = grown.0.1 in
    let kept : AreAmong there new = λ s h. subst (λ xs. Contains xs s) (sym is) (Contains-append_left there more s h) in
    let from_stands : StandsAt document from.0 from.1 =
    subst (λ s. StandsAt document s.0 s.1) (at from) (before.stand n from less) in
    let long : n < length new = rw is (omega (arith, less, length-append there more)) in
    let here : get_or new n from ≡ from = rw is (get_or_append_left there more from n less) ∙ at from in
    let same : take n new ≡ take n there = rw is (take-append-le n there more (omega (arith, less))) in
    record {
      whole = λ s h. kept s (before.whole s h);
      stand = subst (λ xs. All (λ s. StandsAt document s.0 s.1) xs) (sym is)
          (All-append (λ s. StandsAt document s.0 s.1) there more before.stand (stands_next document from more from_stands grown.0.2));
      first = All-more (IsFollowed document new) new n from long
          (subst (All (IsFollowed document new)) (sym same)
          (All-weaker (IsFollowed document there) (IsFollowed document new) (λ s h x c. kept x (h x c)) (take n there) before.first))
          (subst (IsFollowed document new) (sym here) grown.1);
      followed = after;
    }

-- where the references of all were followed, all that stands in the document is there
pub all_there : (document : Data) (there : List Schema) → AreAmong (schemas_at [] document) there → All (IsFollowed document there) there
    → (place : Text) (ms : Members) → StandsAt document place ms → Contains there (place, ms)
all_there document there whole each place ms (inside _ _ h) = whole (place, ms) h
all_there document there whole each place ms (referred from _ source _ reference stands is h) =
    let leads = All-contains (IsFollowed document there) there (from, source) each
    (all_there document there whole each from source stands) in
    leads (place, ms) (subst (λ o. Contains (leads_to document o) (place, ms)) (sym is) h)

-- a place of the list, as it is told
pub standing_at : (ps : List Place) (n : ℕ) (p : Place) (d : Schema) → n < length ps → get_or ps n p ≡ p
    → get_or (standing ps) n d ≡ (string_bytes p.pointer, members_view p.keywords.now.entries)
standing_at [] n p d less at = absurd (omega arith)
standing_at (x ∷ ps) zero p d less at = ap (λ y. (string_bytes y.pointer, members_view y.keywords.now.entries)) at
standing_at (x ∷ ps) (suc n) p d less at = standing_at ps n p d (omega arith) at

pub length-standing : (ps : List Place) → length (standing ps) ≡ length ps
length-standing [] = refl
length-standing (p ∷ ps) = ap suc (length-standing ps)

-- the references of all were followed
pub all_followed : {Y : Type 0} (document : Data) (n : ℕ) (references : List (String Y)) (there : List Schema)
    → SoFar document n references there → length there ≤ n
    → (place : Text) (ms : Members) → StandsAt document place ms → Contains there (place, ms)
all_followed document n references there so_far short =
    all_there document there so_far.whole (subst (All (IsFollowed document there)) (take_all n there short) so_far.first)

-- ---- one reference

pub no_pointer : (document : Data) (r : Text) (old : List Schema) → ((rest : Text) → r ≢ 35 ∷ rest)
    → old ≡ old ++ schemas_referred document r
no_pointer document [] old h = sym (append-nil old)
no_pointer document (x ∷ rest) old h = rw (ne_eqb x 35 (λ e. h rest (ap (λ y. y ∷ rest) e))) (sym (append-nil old))

-- no reference, or one that was followed, adds nothing
pub nothing_added : (there : List Schema) (these : List Schema) → AreAmong these there → IsGrown there there these
nothing_added there these h = (([], sym (append-nil there), none_among these), h)

pub no_reference : (document : Data) (o : Option Text) (there : List Schema) → o ≡ None → IsGrown there there (leads_to document o)
no_reference document None there is = nothing_added there [] (none_among there)
no_reference document (Some r) there is = cc

pub was_followed : {Y : Type 0} (document : Data) (o : Option Text) (r : Text) (references : List (String Y)) (there : List Schema)
    → o ≡ Some r → AreFollowed document references there → list_any (λ k. bytes_eq r (string_bytes k)) references ≡ true
    → IsGrown there there (leads_to document o)
was_followed document None r references there is followed known = cc
was_followed document (Some s) r references there is followed known =
    let same : s ≡ r = cc in
    nothing_added there (leads_to document (Some s)) (rw same (followed r known))

pub all_added : (document : Data) (o : Option Text) (r : Text) (there new : List Schema)
    → o ≡ Some r → new ≡ there ++ schemas_referred document r → IsGrown there new (leads_to document o)
all_added document None r there new is added = cc
all_added document (Some s) r there new is added =
    let same : s ≡ r = cc in
    rw same (
      (schemas_referred document r, added, λ x h. h),
      λ x h. subst (λ xs. Contains xs x) (sym added) (Contains-append_right there (schemas_referred document r) x h),
    )

-- one more reference was followed
pub followed_more : {Y : Type 0} (document : Data) (r : Text) (references more : List (String Y)) (there new : List Schema)
    → ((t : Text) → list_any (λ k. bytes_eq t (string_bytes k)) more
    ≡ (list_any (λ k. bytes_eq t (string_bytes k)) references || (bytes_eq t r && true)))
    → AreFollowed document references there → new ≡ there ++ schemas_referred document r → AreFollowed document more new
followed_more document r references more there new known followed added t h s c =
    go (list_any (λ k. bytes_eq t (string_bytes k)) references) (bytes_eq t r) refl refl (sym (known t) ∙ h)
  where
    go : (a b : Bool) → list_any (λ k. bytes_eq t (string_bytes k)) references ≡ a → bytes_eq t r ≡ b → (a || (b && true)) ≡ true → Contains new s
    go true b is eq either =
        subst (λ xs. Contains xs s) (sym added) (Contains-append_left there (schemas_referred document r) s (followed t is s c))
    go false true is eq either =
        let same : t ≡ r = (bytes_eq-Decides t r).0 eq in
        subst (λ xs. Contains xs s) (sym added)
        (Contains-append_right there (schemas_referred document r) s (subst (λ u. Contains (schemas_referred document u) s) same c))
    go false false is eq either = cc
