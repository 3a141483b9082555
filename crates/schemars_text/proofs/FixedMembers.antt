-- Members that are found under some keys in one pass.
use Rattle.std.proofs.Common.{◌≡◌, ◌<◌, ◌≤◌, ℕ, max, zero, suc, List, [], ◌∷◌, ◌++◌, length, get_or, set, take, map, Bor, Bool, true, false, not, ◌||◌, ◌&&◌, Option, Some, None, option_map, is_some, refl, sym, ap, ap₂, ◌∙◌, arith}
use Rattle.schemars_text.proofs.Words.{or_parts, take-map, get_or-map, bytes_eq-Decides, bytes_eq, if◌then◌else◌, ⊤, option_or, Data, Members, no_members, member, depth, members_depth, get_member, Text, first_keywords, last_keywords, is_listed, place_in}
use Rattle.schemars_text.proofs.Members.{get_member-member, get_member-here, get_member-later, flipped}

-- ---- places

later_place : (o : Option ℕ) (p : ℕ) → option_map suc o ≡ Some (suc p) → o ≡ Some p
later_place None p h = cc
later_place (Some q) p h = cc

not_first : (o : Option ℕ) → option_map suc o ≡ Some zero → ⊥
not_first None h = cc
not_first (Some q) h = cc

some_later : (o : Option ℕ) → is_some (option_map suc o) ≡ is_some o
some_later None = refl
some_later (Some q) = refl

pub is_some-place_in : (k : Text) (ls : List Text) → is_some (place_in k ls) ≡ is_listed k ls
is_some-place_in k [] = refl
is_some-place_in k (l ∷ ls) = go (bytes_eq k l) (is_some-place_in k ls)
  where
    go : (b : Bool) → is_some (place_in k ls) ≡ is_listed k ls
        → is_some (if b then Some 0 else option_map suc (place_in k ls)) ≡ (b || is_listed k ls)
    go true later = refl
    go false later = some_later (place_in k ls) ∙ later

pub is_listed-append : (k : Text) (ls ms : List Text) → is_listed k (ls ++ ms) ≡ (is_listed k ls || is_listed k ms)
is_listed-append k [] ms = refl
is_listed-append k (l ∷ ls) ms = go (bytes_eq k l) (is_listed-append k ls ms)
  where
    go : (b : Bool) → is_listed k (ls ++ ms) ≡ (is_listed k ls || is_listed k ms)
        → (b || is_listed k (ls ++ ms)) ≡ ((b || is_listed k ls) || is_listed k ms)
    go true later = refl
    go false later = later

-- no two are the same
abbrev pub are_apart : List Text → Bool
are_apart [] = true
are_apart (k ∷ ks) = not (is_listed k ks) && are_apart ks

-- ---- what was found

abbrev pub Slot : Type 0 → Type 0
Slot V = Option (Bor V)

-- where `data_of` reads a value
module _ {V : Type 0} (data_of : V → Data) where
  abbrev pub held : Slot V → Option Data
  held s = option_map (λ v. data_of v.now) s

  -- what all members have under each key is in its slot, or else in the members that are left
  abbrev pub Fills : List (Slot V) → List Text → Members → Members → Type 0
  Fills [] [] left all = ⊤
  Fills [] (k ∷ ks) left all = ⊥
  Fills (s ∷ ss) [] left all = ⊥
  Fills (s ∷ ss) (k ∷ ks) left all = (option_or (held s) (get_member k left) ≡ get_member k all) × Fills ss ks left all

  -- a member under none of the keys
  pub passed_over : (ss : List (Slot V)) (ks : List Text) (l : Text) (d : Data) (left all : Members) → is_listed l ks ≡ false
      → Fills ss ks (member l d left) all → Fills ss ks left all
  passed_over [] [] l d left all other h = tt
  passed_over [] (k ∷ ks) l d left all other h = h
  passed_over (s ∷ ss) [] l d left all other h = h
  passed_over (s ∷ ss) (k ∷ ks) l d left all other h =
      let parts = or_parts (bytes_eq l k) (is_listed l ks) other in (
        ap (λ r. option_or (held s) r) (sym (get_member-later k l d left (flipped l k parts.0))) ∙ h.0,
        passed_over ss ks l d left all parts.1 h.1,
      )

  apart_parts : (b c : Bool) → (not b && c) ≡ true → (b ≡ false) × (c ≡ true)
  apart_parts true c h = cc
  apart_parts false c h = (refl, h)

  filled_slot : (s : Slot V) (k : Text) (v : Bor V) (left all : Members)
      → option_or (held s) (get_member k (member k (data_of v.now) left)) ≡ get_member k all
      → option_or (held (option_or s (Some v))) (get_member k left) ≡ get_member k all
  filled_slot None k v left all h = sym (get_member-here k (data_of v.now) left) ∙ h
  filled_slot (Some w) k v left all h = h

  -- a member under the key at p
  pub filled : (ss : List (Slot V)) (ks : List Text) (p : ℕ) (other : Slot V) (l : Text) (v : Bor V) (left all : Members)
      → are_apart ks ≡ true → place_in l ks ≡ Some p → Fills ss ks (member l (data_of v.now) left) all
      → Fills (set ss p (option_or (get_or ss p other) (Some v))) ks left all
  filled [] [] p other l v left all apart is h = tt
  filled [] (k ∷ ks) p other l v left all apart is h = h
  filled (s ∷ ss) [] p other l v left all apart is h = absurd h
  filled (s ∷ ss) (k ∷ ks) p other l v left all apart is h =
      go (bytes_eq l k) p refl is (λ q at. filled ss ks q other l v left all (apart_parts (is_listed k ks) (are_apart ks) apart).1 at h.1)
    where
      go : (b : Bool) (p : ℕ) → bytes_eq l k ≡ b → (if b then Some 0 else option_map suc (place_in l ks)) ≡ Some p
          → ((q : ℕ) → place_in l ks ≡ Some q → Fills (set ss q (option_or (get_or ss q other) (Some v))) ks left all)
          → Fills (set (s ∷ ss) p (option_or (get_or (s ∷ ss) p other) (Some v))) (k ∷ ks) left all
      go true zero same at later =
          let text : l ≡ k = (bytes_eq-Decides l k).0 same in (
            filled_slot s k v left all (ap (λ x. option_or (held s) (get_member k (member x (data_of v.now) left))) (sym text) ∙ h.0),
            passed_over ss ks l (data_of v.now) left all
                (ap (λ x. is_listed x ks) text ∙ (apart_parts (is_listed k ks) (are_apart ks) apart).0) h.1,
          )
      go true (suc p) same at later = cc
      go false zero same at later = absurd (not_first (place_in l ks) at)
      go false (suc p) same at later = (
        ap (λ r. option_or (held s) r) (sym (get_member-later k l (data_of v.now) left (flipped l k same))) ∙ h.0,
        later p (later_place (place_in l ks) p at),
      )

  alone : (s : Slot V) → option_or (held s) None ≡ held s
  alone None = refl
  alone (Some v) = refl

  -- no members are left
  pub all_found : (ss : List (Slot V)) (ks : List Text) (all : Members) → Fills ss ks no_members all
      → map held ss ≡ map (λ k. get_member k all) ks
  all_found [] [] all h = refl
  all_found [] (k ∷ ks) all h = absurd h
  all_found (s ∷ ss) [] all h = absurd h
  all_found (s ∷ ss) (k ∷ ks) all h = ap₂ (λ x xs. x ∷ xs) (sym (alone s) ∙ h.0) (all_found ss ks all h.1)

-- ---- how deep it is

abbrev pub found_depth : List (Option Data) → ℕ
found_depth [] = 0
found_depth (None ∷ fs) = found_depth fs
found_depth (Some d ∷ fs) = max (depth d) (found_depth fs)

found_shallow : (f : Option Data) (fs : List (Option Data)) (n : ℕ) → ((d : Data) → f ≡ Some d → depth d ≤ n)
    → found_depth fs ≤ n → found_depth (f ∷ fs) ≤ n
found_shallow None fs n here rest = rest
found_shallow (Some d) fs n here rest = let h = here d refl in omega arith

at_member : (b : Bool) (d e : Data) (k : Text) (ms : Members) → (if b then Some e else get_member k ms) ≡ Some d
    → (get_member k ms ≡ Some d → depth d ≤ members_depth ms) → depth d ≤ max (depth e) (members_depth ms)
at_member true d e k ms is later = let same : e ≡ d = cc is in rw (← same) (omega arith)
at_member false d e k ms is later = let h = later is in omega arith

get_member-shallow : (k : Text) (ms : Members) (d : Data) → get_member k ms ≡ Some d → depth d ≤ members_depth ms
get_member-shallow k no_members d h = cc
get_member-shallow k (member l e ms) d h =
    at_member (bytes_eq k l) d e k ms (sym (get_member-member k l e ms) ∙ h) (get_member-shallow k ms d)

pub all_shallow : (ks : List Text) (ms : Members) → found_depth (map (λ k. get_member k ms) ks) ≤ members_depth ms
all_shallow [] ms = omega arith
all_shallow (k ∷ ks) ms = found_shallow (get_member k ms) _ (members_depth ms) (get_member-shallow k ms) (all_shallow ks ms)

module _ {V : Type 0} (data_of : V → Data) where
  pub slot_shallow : (ss : List (Slot V)) (i : ℕ) (other : Slot V) (v : Bor V) → i < length ss → get_or ss i other ≡ Some v
      → depth (data_of v.now) ≤ found_depth (map (held data_of) ss)
  slot_shallow [] i other v within is = absurd (omega arith)
  slot_shallow (None ∷ ss) zero other v within is = cc
  slot_shallow (Some w ∷ ss) zero other v within is = let same : w ≡ v = cc is in rw (← same) (omega arith)
  slot_shallow (None ∷ ss) (suc i) other v within is = slot_shallow ss i other v (omega arith) is
  slot_shallow (Some w ∷ ss) (suc i) other v within is = let h = slot_shallow ss i other v (omega arith) is in omega arith

  -- ---- the keywords

  -- what is in the slot of one of the keys
  pub slot_at : (ss : List (Slot V)) (ks : List (Bor Text)) (ms : Members) (i : ℕ) (x : Slot V) (other : Bor Text)
      → map (held data_of) ss ≡ map (λ k. get_member k.now ms) ks → i < length ks → held data_of (get_or ss i x) ≡ get_member (get_or ks i other).now ms
  slot_at ss [] ms i x other h within = absurd (omega arith)
  slot_at [] (k ∷ ks) ms i x other h within = cc
  slot_at (s ∷ ss) (k ∷ ks) ms zero x other h within = cc
  slot_at (s ∷ ss) (k ∷ ks) ms (suc i) x other h within = slot_at ss ks ms i x other (cc h) (omega arith)

  -- the first seven, and the others
  pub first_found : (ss : List (Slot V)) (ms : Members) → map (held data_of) ss ≡ map (λ k. get_member k ms) (first_keywords ++ last_keywords)
      → map (held data_of) (take 7 ss) ≡ map (λ k. get_member k ms) first_keywords
  first_found ss ms h = sym (take-map (held data_of) 7 ss) ∙ ap (take 7) h

  pub last_found : (ss : List (Slot V)) (ms : Members) (x y : Slot V)
      → map (held data_of) ss ≡ map (λ k. get_member k ms) (first_keywords ++ last_keywords)
      → map (held data_of) (get_or ss 7 x ∷ get_or ss 8 y ∷ []) ≡ map (λ k. get_member k ms) last_keywords
  last_found ss ms x y h =
      ap₂ (λ a b. a ∷ b ∷ [])
      (sym (get_or-map (held data_of) ss 7 x) ∙ ap (λ fs. get_or fs 7 (held data_of x)) h)
      (sym (get_or-map (held data_of) ss 8 y) ∙ ap (λ fs. get_or fs 8 (held data_of y)) h)

pub has_place : (k : Text) → is_some (place_in k (first_keywords ++ last_keywords))
    ≡ (is_listed k first_keywords || is_listed k last_keywords)
has_place k = is_some-place_in k (first_keywords ++ last_keywords) ∙ is_listed-append k first_keywords last_keywords

pub keywords_apart : are_apart (first_keywords ++ last_keywords) ≡ true
keywords_apart = refl
