-- A document is taken, or refused for what stands in it.
use Rattle.std.proofs.Common.{◌≡◌, ◌⊎◌, inl, inr, List, [], ◌∷◌, ◌++◌, true, length, refl, sym, subst, All, Contains, string_bytes}
use Rattle.schemars_readable.proofs.Words.{All-contains, Contains-append_left, Contains-append_right, Contains-append_cases, Data, Members, Text, is_schema, StandsAt, unread_among, unread_of, told, with_new, IsUnreadAt, patterns_in, patterns_of, with_patterns, named, AreOwn, AreExpressionsOf, IsRefusalAmong, IsRead, IsRefusal}
use Rattle.schemars_readable.specs.declared.draft.Draft.{Draft}
use Rattle.schemars_readable.specs.declared.refusal.Unread.{Unread}
use Rattle.schemars_readable.specs.declared.refusal.Refusal.{Refusal}
use Rattle.schemars_readable.specs.declared.refusal.Refusal.TheVariants as refusal
use Rattle.schemars_readable.specs.declared.expressions.Expression.{Expression}
use Rattle.schemars_readable.proofs.Elements.{none_there, first_there, later_there, first_or_later, with_new-new, with_new-only, with_patterns-new}

abbrev Schema : Type 0
Schema = Text × Members

abbrev AllStand : Data → List Schema → Type 0
AllStand document there = All (λ s. StandsAt document s.0 s.1) there

abbrev AllThere : Data → List Schema → Type 0
AllThere document there = (place : Text) (ms : Members) → StandsAt document place ms → Contains there (place, ms)

-- ---- keywords that are not read

unread_has : (draft : Draft) (document : Data) (there : List Schema) (s : Schema) (x : Text × Text) → Contains there s
    → Contains (unread_among draft document s.0 s.1) x → Contains (unread_of draft document there) x
unread_has draft document [] s x among h = absurd (none_there s among)
unread_has draft document (t ∷ ts) s x among h = go (first_or_later t ts s among) (λ c. unread_has draft document ts s x c h)
  where
    go : (t ≡ s) ⊎ Contains ts s → (Contains ts s → Contains (unread_of draft document ts) x)
        → Contains (unread_among draft document t.0 t.1 ++ unread_of draft document ts) x
    go (inl is) more =
        Contains-append_left (unread_among draft document t.0 t.1) (unread_of draft document ts) x
        (subst (λ u. Contains (unread_among draft document u.0 u.1) x) (sym is) h)
    go (inr later) more =
        Contains-append_right (unread_among draft document t.0 t.1) (unread_of draft document ts) x (more later)

unread_from : (draft : Draft) (document : Data) (there : List Schema) (x : Text × Text) → Contains (unread_of draft document there) x
    → (s : Schema) × Contains there s × Contains (unread_among draft document s.0 s.1) x
unread_from draft document [] x h = absurd (none_there x h)
unread_from draft document (t ∷ ts) x h =
    go (Contains-append_cases (unread_among draft document t.0 t.1) (unread_of draft document ts) x h) (unread_from draft document ts x)
  where
    go : Contains (unread_among draft document t.0 t.1) x ⊎ Contains (unread_of draft document ts) x
        → (Contains (unread_of draft document ts) x → (s : Schema) × Contains ts s × Contains (unread_among draft document s.0 s.1) x)
        → (s : Schema) × Contains (t ∷ ts) s × Contains (unread_among draft document s.0 s.1) x
    go (inl now) more = (t, first_there t ts, now)
    go (inr later) more = let found = more later in (found.0, later_there t ts found.0 found.1, found.2)

pub told_each : (draft : Draft) (document : Data) (there : List Schema) (us : List Unread) → AllThere document there
    → told us ≡ with_new [] (unread_of draft document there) → (place keyword : Text) → IsUnreadAt draft document place keyword
    → Contains (told us) (place, keyword)
told_each draft document there us all is place keyword (schema, ms, stands, h) =
    subst (λ ps. Contains ps (place, keyword)) (sym is)
    (with_new-new [] (unread_of draft document there) (place, keyword)
    (unread_has draft document there (schema, ms) (place, keyword) (all schema ms stands) h))

pub told_only : (draft : Draft) (document : Data) (there : List Schema) (us : List Unread) → AllStand document there
    → told us ≡ with_new [] (unread_of draft document there) → (place keyword : Text) → Contains (told us) (place, keyword)
    → IsUnreadAt draft document place keyword
told_only draft document there us stand is place keyword h =
    let x : Text × Text = (place, keyword) in
    go x (with_new-only [] (unread_of draft document there) x (subst (λ ps. Contains ps x) is h))
  where
    go : (x : Text × Text) → Contains [] x ⊎ Contains (unread_of draft document there) x → IsUnreadAt draft document x.0 x.1
    go x (inl none) = absurd (none_there x none)
    go x (inr among) =
        let found = unread_from draft document there x among in
        (found.0.0, found.0.1, All-contains (λ s. StandsAt document s.0 s.1) there found.0 stand found.1, found.2)

no_elements : (us : List Unread) → length us ≡ 0 → us ≡ []
no_elements [] h = refl
no_elements (u ∷ us) h = cc

-- nothing is told, so all is read
pub is_read : (draft : Draft) (document : Data) (there : List Schema) (us : List Unread) → is_schema document ≡ true
    → AllThere document there → told us ≡ with_new [] (unread_of draft document there) → length us ≡ 0 → IsRead draft document
is_read draft document there us schema all is none = (
  schema,
  λ place keyword h. none_there (place, keyword)
      (subst (λ xs. Contains (told xs) (place, keyword)) (no_elements us none) (told_each draft document there us all is place keyword h)),
)

-- ---- patterns

patterns_have : (there : List Schema) (s : Schema) (x : Text × Text) → Contains there s → Contains (patterns_in s.0 s.1) x
    → Contains (patterns_of there) x
patterns_have [] s x among h = absurd (none_there s among)
patterns_have (t ∷ ts) s x among h = go (first_or_later t ts s among) (λ c. patterns_have ts s x c h)
  where
    go : (t ≡ s) ⊎ Contains ts s → (Contains ts s → Contains (patterns_of ts) x) → Contains (patterns_in t.0 t.1 ++ patterns_of ts) x
    go (inl is) more =
        Contains-append_left (patterns_in t.0 t.1) (patterns_of ts) x
        (subst (λ u. Contains (patterns_in u.0 u.1) x) (sym is) h)
    go (inr later) more = Contains-append_right (patterns_in t.0 t.1) (patterns_of ts) x (more later)

patterns_from : (there : List Schema) (x : Text × Text) → Contains (patterns_of there) x
    → (s : Schema) × Contains there s × Contains (patterns_in s.0 s.1) x
patterns_from [] x h = absurd (none_there x h)
patterns_from (t ∷ ts) x h = go (Contains-append_cases (patterns_in t.0 t.1) (patterns_of ts) x h) (patterns_from ts x)
  where
    go : Contains (patterns_in t.0 t.1) x ⊎ Contains (patterns_of ts) x
        → (Contains (patterns_of ts) x → (s : Schema) × Contains ts s × Contains (patterns_in s.0 s.1) x)
        → (s : Schema) × Contains (t ∷ ts) s × Contains (patterns_in s.0 s.1) x
    go (inl now) more = (t, first_there t ts, now)
    go (inr later) more = let found = more later in (found.0, later_there t ts found.0 found.1, found.2)

pub are_expressions : (document : Data) (there : List Schema) (es : List Expression) → AllThere document there
    → named es ≡ with_patterns [] (patterns_of there) → AreOwn es → AreExpressionsOf document es
are_expressions document there es all is own = record {
  each = λ place pattern asked.
      subst (λ ps. Contains ps pattern) (sym is)
      (with_patterns-new [] (patterns_of there) (place, pattern)
      (patterns_have there (asked.0, asked.1) (place, pattern) (all asked.0 asked.1 asked.2) asked.3));
  own = own;
}

-- a pattern of the document is refused, or memory ran out
pub is_refusal : (draft : Draft) (document : Data) (there : List Schema) (r : Refusal) → IsRead draft document → AllStand document there
    → IsRefusalAmong (patterns_of there) r → IsRefusal draft document r
is_refusal draft document there refusal.OutOfMemory read stand h = read.0
is_refusal draft document there refusal.NotASchema read stand h = absurd h
is_refusal draft document there (refusal.Unread us) read stand h = absurd h
is_refusal draft document there (refusal.Pattern u) read stand h =
    let found = patterns_from there (string_bytes u.place, string_bytes u.keyword) h.0 in
    (read, (found.0.0, found.0.1, All-contains (λ s. StandsAt document s.0 s.1) there found.0 stand found.1, found.2), h.1)
