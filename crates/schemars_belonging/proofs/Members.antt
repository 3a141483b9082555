-- Members as they are given, in the words of the meaning.
use Rattle.std.proofs.Common.{◌≡◌, ℕ, List, [], ◌∷◌, ◌++◌, Option, Some, None, Bool, true, false, refl, sym, ap, ◌∙◌, map, option_map}
use Rattle.schemars_belonging.proofs.Words.{◌&&◌, ◌||◌, not, is_some, bytes_eq, if◌then◌else◌, option_map_or, Data, Members, get_member, Text, Field, Member, member_named, has_each, field_member, must_have, Asked, Given, has, has_values, member_of, member_says, given_named, has_each_given, field_given}

-- ---- those that fields are

pub field_members : (a : Asked) (steps : ℕ) (fs : List Field)
    → map (member_of a steps) (map (field_given true a.contract) fs) ≡ map (field_member a.contract (has a steps)) fs
field_members a steps [] = refl
field_members a steps (f ∷ fs) = ap (λ ms. field_member a.contract (has a steps) f ∷ ms) (field_members a steps fs)

-- ---- the first of a name

pub first_named : (a : Asked) (steps : ℕ) (gs : List Given) (k : Text)
    → member_named (map (member_of a steps) gs) k ≡ option_map (member_of a steps) (given_named gs k)
first_named a steps [] k = refl
first_named a steps (g ∷ gs) k = go (bytes_eq g.name k) (first_named a steps gs k)
  where
    go : (b : Bool) → member_named (map (member_of a steps) gs) k ≡ option_map (member_of a steps) (given_named gs k)
        → (if b then Some (member_of a steps g) else member_named (map (member_of a steps) gs) k)
        ≡ option_map (member_of a steps) (if b then Some g else given_named gs k)
    go true later = refl
    go false later = later

pub says_given : (a : Asked) (steps : ℕ) (gs : List Given) (others : Text → Bool) (k : Text) (w : Data) (g : Given)
    → Some g ≡ given_named gs k
    → has_values a steps g.values w ≡ member_says (map (member_of a steps) gs) others k w
says_given a steps gs others k w g is =
    sym (ap (λ (o : Option Member). option_map_or (λ m. m.has w) o (others k)) (first_named a steps gs k
    ∙ ap (option_map (member_of a steps)) (sym is)))

pub says_other : (a : Asked) (steps : ℕ) (gs : List Given) (others : Text → Bool) (k : Text) (w : Data) → None ≡ given_named gs k
    → others k ≡ member_says (map (member_of a steps) gs) others k w
says_other a steps gs others k w is =
    sym (ap (λ (o : Option Member). option_map_or (λ m. m.has w) o (others k)) (first_named a steps gs k
    ∙ ap (option_map (member_of a steps)) (sym is)))

pub each_given : (a : Asked) (steps : ℕ) (gs : List Given) (ms : Members) → has_each (map (member_of a steps) gs) ms ≡ has_each_given gs ms
each_given a steps [] ms = refl
each_given a steps (g ∷ gs) ms = ap (λ b. (not g.required || is_some (get_member g.name ms)) && b) (each_given a steps gs ms)

-- ---- one more at the end

last_named : (xs : List Member) (m : Member) (k : Text)
    → member_named (xs ++ m ∷ []) k
    ≡ elim (member_named xs k) [ None ↦ if bytes_eq m.name k then Some m else None | Some x ↦ Some x ]
last_named [] m k = refl
last_named (x ∷ xs) m k = go (bytes_eq x.name k) (last_named xs m k)
  where
    after : Option Member → Option Member
    after o = elim o [ None ↦ if bytes_eq m.name k then Some m else None | Some y ↦ Some y ]

    go : (b : Bool) → member_named (xs ++ m ∷ []) k ≡ after (member_named xs k)
        → (if b then Some x else member_named (xs ++ m ∷ []) k) ≡ after (if b then Some x else member_named xs k)
    go true later = refl
    go false later = later

module _ (a : Asked) (steps : ℕ) (gs : List Given) (m : Member) (others : Text → Bool) (k : Text) (w : Data) where
  abbrev found : Option Given → Option Member
  found o = elim (option_map (member_of a steps) o) [ None ↦ if bytes_eq m.name k then Some m else None | Some x ↦ Some x ]

  beside : (o : Option Given) → o ≡ given_named gs k → member_named (map (member_of a steps) gs ++ m ∷ []) k ≡ found o
  beside o is = last_named (map (member_of a steps) gs) m k
      ∙ ap (λ (x : Option Member). elim x [ None ↦ if bytes_eq m.name k then Some m else None | Some y ↦ Some y ])
      (first_named a steps gs k ∙ ap (option_map (member_of a steps)) (sym is))

  pub beside_given : (g : Given) → Some g ≡ given_named gs k
      → has_values a steps g.values w ≡ member_says (map (member_of a steps) gs ++ m ∷ []) others k w
  beside_given g is = sym (ap (λ (o : Option Member). option_map_or (λ x. x.has w) o (others k)) (beside (Some g) is))

  pub beside_none : None ≡ given_named gs k
      → (if bytes_eq m.name k then m.has w else others k) ≡ member_says (map (member_of a steps) gs ++ m ∷ []) others k w
  beside_none is = go (bytes_eq m.name k)
      ∙ sym (ap (λ (o : Option Member). option_map_or (λ x. x.has w) o (others k)) (beside None is))
    where
      go : (b : Bool) → (if b then m.has w else others k)
          ≡ option_map_or (λ (x : Member). x.has w) (if b then Some m else None) (others k)
      go true = refl
      go false = refl

and_true : (b : Bool) → b && true ≡ b
and_true true = refl
and_true false = refl

and_assoc : (a b c : Bool) → a && (b && c) ≡ (a && b) && c
and_assoc true b c = refl
and_assoc false b c = refl

pub each_beside : (a : Asked) (steps : ℕ) (gs : List Given) (name : Text) (p : Data → Bool) (ms : Members)
    → has_each (map (member_of a steps) gs ++ must_have name p ∷ []) ms ≡ has_each_given gs ms && is_some (get_member name ms)
each_beside a steps [] name p ms = and_true (is_some (get_member name ms))
each_beside a steps (g ∷ gs) name p ms =
    let here = not g.required || is_some (get_member g.name ms) in
    ap (λ b. here && b) (each_beside a steps gs name p ms) ∙ and_assoc here (has_each_given gs ms) (is_some (get_member name ms))
