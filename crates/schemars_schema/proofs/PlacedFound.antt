-- What a pointer leads to once members were put at it.
use Rattle.std.proofs.Common.{◌≡◌, ℕ, ◌<◌, List, [], ◌∷◌, ◌++◌, length, map, Option, Some, None, option_map, option_and_then, Bool, true, false, cond, refl, sym, ap, ◌∙◌, arith, append-nil, append_assoc, true≢false}
use Rattle.schemars_schema.proofs.Words.{◌==◌, if◌then◌else◌, Result, Ok, Err, IfOk, IsTrue, slice_split, onto_first, length-slice_split, eqb-true, Data, null, boolean, number, string, array, object, Members, no_members, put, unescape, get_member, as_object, step, walk, pointer, get_member-put, Text, put_members, replaced, pointed_in, tokens_in, placed, placed_at}
use Rattle.std.specs.declared.alloc.AllocError.{AllocError}
use Rattle.schemars_schema.proofs.Placings.{onward, placed_other}
use Rattle.schemars_schema.proofs.Members.{get_member-replaced}

-- ---- a pointer, by its parts

-- a step for each part
abbrev follow : List Text → Data → Option Data
follow [] d = Some d
follow (part ∷ parts) d = option_and_then (follow parts) (step part d)

-- what has been read goes before the first part
abbrev onto : Text → List Text → List Text
onto part [] = part ∷ []
onto part (q ∷ qs) = (part ++ q) ∷ qs

abbrev cut : Text → List Text
cut text = slice_split (λ b. b == 47) text

some_parts : (text : Text) → 0 < length (cut text)
some_parts text = omega (arith, length-slice_split (λ (b : ℕ). b == 47) text)

onto_nothing : (parts : List Text) → 0 < length parts → onto [] parts ≡ parts
onto_nothing [] some = absurd (omega arith)
onto_nothing (q ∷ qs) some = refl

onto_one : (part : Text) (x : ℕ) (parts : List Text) → onto part (onto_first x parts) ≡ onto (part ++ x ∷ []) parts
onto_one part x [] = refl
onto_one part x (q ∷ qs) = ap (λ l. l ∷ qs) (sym (append_assoc part (x ∷ []) q))

each_step : (o : Option Data) (f g : Data → Option Data) → ((d : Data) → f d ≡ g d) → option_and_then f o ≡ option_and_then g o
each_step None f g h = refl
each_step (Some d) f g h = h d

only_step : (o : Option Data) → option_and_then (follow []) o ≡ o
only_step None = refl
only_step (Some d) = refl

walk-follow : (part text : Text) (d : Data) → walk part text d ≡ follow (onto part (cut text)) d
unfolding walk
walk-follow part [] d = rw (append-nil part) (sym (only_step (step part d)))
walk-follow part (x ∷ rest) d = go (x == 47) (λ e. walk-follow [] rest e) (walk-follow (part ++ x ∷ []) rest d)
  where
    go : (b : Bool) → ((e : Data) → walk [] rest e ≡ follow (onto [] (cut rest)) e)
        → walk (part ++ x ∷ []) rest d ≡ follow (onto (part ++ x ∷ []) (cut rest)) d
        → (if b then option_and_then (walk [] rest) (step part d) else walk (part ++ x ∷ []) rest d)
        ≡ follow (onto part (cond b ([] ∷ cut rest) (onto_first x (cut rest)))) d
    go true now later =
        rw (append-nil part) (each_step (step part d) (walk [] rest) (follow (cut rest))
        (λ e. now e ∙ ap (λ l. follow l e) (onto_nothing (cut rest) (some_parts rest))))
    go false now later = rw (onto_one part x (cut rest)) later

-- ---- members that were put

followed_made : (parts : List Text) (new : Members) (d : Data) → placed (map unescape parts) new None ≡ Some d
    → follow parts d ≡ Some (object new)
followed_made [] new d h = sym h
followed_made (part ∷ parts) new d h = go (placed (map unescape parts) new None) (λ x is. followed_made parts new x is) h
  where
    go : (o : Option Data) → ((x : Data) → o ≡ Some x → follow parts x ≡ Some (object new))
        → option_map (λ x. object (put (unescape part) x no_members)) o ≡ Some d → follow (part ∷ parts) d ≡ Some (object new)
    go None later h = cc
    go (Some x) later h =
        let made : d ≡ object (put (unescape part) x no_members) = cc in
        rw (made, get_member-put (unescape part) x no_members) (later x refl)

followed : (parts : List Text) (new : Members) (d e : Data) → placed (map unescape parts) new (Some d) ≡ Some e
    → follow parts e ≡ placed [] new (follow parts d)
followed [] new d e h = sym h
followed (part ∷ parts) new null e h = cc
followed (part ∷ parts) new (boolean b) e h = cc
followed (part ∷ parts) new (number n) e h = cc
followed (part ∷ parts) new (string s) e h = cc
followed (part ∷ parts) new (array ds) e h = cc
followed (part ∷ parts) new (object ms) e h = go (get_member (unescape part) ms) refl (λ y x is. followed parts new y x is) h
  where
    made : (o : Option Data) → placed (map unescape parts) new None ≡ o → option_map (λ x. object (put (unescape part) x ms)) o ≡ Some e
        → follow (part ∷ parts) e ≡ Some (object new)
    made None is h = cc
    made (Some x) is h =
        let whole : e ≡ object (put (unescape part) x ms) = cc in
        rw (whole, get_member-put (unescape part) x ms) (followed_made parts new x is)

    written : (y : Data) (o : Option Data) → get_member (unescape part) ms ≡ Some y
        → ((x : Data) → o ≡ Some x → follow parts x ≡ placed [] new (follow parts y))
        → option_map (λ x. object (replaced (unescape part) x ms)) o ≡ Some e → follow (part ∷ parts) e ≡ placed [] new (follow parts y)
    written y None found later h = cc
    written y (Some x) found later h =
        let whole : e ≡ object (replaced (unescape part) x ms) = cc in
        rw (whole, get_member-replaced (unescape part) x y ms found) (later x refl)

    go : (o : Option Data) → get_member (unescape part) ms ≡ o → ((y x : Data) → placed (map unescape parts) new (Some y) ≡ Some x
        → follow parts x ≡ placed [] new (follow parts y))
        → onward (map unescape parts) (unescape part) new ms o ≡ Some e
        → follow (part ∷ parts) e ≡ placed [] new (option_and_then (follow parts) o)
    go None is later h = made (placed (map unescape parts) new None) refl h
    go (Some y) is later h = written y (placed (map unescape parts) new (Some y)) is (later y) h

-- where the pointer leads, the members were put into what it led to
pub pointer-placed_at : (p : Text) (new : Members) (d e : Data) → placed_at p new d ≡ Some e → pointer p e ≡ placed [] new (pointer p d)
pointer-placed_at [] new d e h = cc
pointer-placed_at (x ∷ []) new d e h = cc
pointer-placed_at (x ∷ y ∷ rest) new d e h = go (x == 47) h
  where
    whole : (d : Data) → walk [] (y ∷ rest) d ≡ follow (cut (y ∷ rest)) d
    whole d = walk-follow [] (y ∷ rest) d ∙ ap (λ l. follow l d) (onto_nothing (cut (y ∷ rest)) (some_parts (y ∷ rest)))

    go : (b : Bool) → option_and_then (λ tokens. placed tokens new (Some d)) (if b then Some (tokens_in (y ∷ rest)) else None) ≡ Some e
        → (if b then walk [] (y ∷ rest) e else None) ≡ placed [] new (if b then walk [] (y ∷ rest) d else None)
    go true h = whole e ∙ followed (cut (y ∷ rest)) new d e h ∙ ap (placed [] new) (sym (whole d))
    go false h = cc

-- ---- the same of what is pointed to in an object

mapped_object : (o : Option Data) (f : Data → Members) (e : Data) → option_map (λ x. object (f x)) o ≡ Some e
    → (ns : Members) × (e ≡ object ns)
mapped_object None f e h = cc
mapped_object (Some x) f e h = (f x, cc)

placed_object : (ts : List Text) (new ms : Members) (e : Data) → placed ts new (Some (object ms)) ≡ Some e
    → (ns : Members) × (e ≡ object ns)
placed_object [] new ms e h = (put_members new ms, cc)
placed_object (t ∷ ts) new ms e h = go (get_member t ms) h
  where
    go : (o : Option Data) → onward ts t new ms o ≡ Some e → (ns : Members) × (e ≡ object ns)
    go None h = mapped_object (placed ts new None) (λ x. put t x ms) e h
    go (Some y) h = mapped_object (placed ts new (Some y)) (λ x. replaced t x ms) e h

in_object : (p : Text) (ts : List Text) (new ms : Members) (e : Data) → placed_at (47 ∷ p) new (object ms) ≡ Some e
    → placed ts new (Some (object ms)) ≡ Some e → pointed_in (47 ∷ p) e ≡ placed [] new (pointed_in (47 ∷ p) (object ms))
in_object p ts new ms e h part =
    let is = placed_object ts new ms e part in
    rw (is.1) (rw (is.1) at (pointer-placed_at (47 ∷ p) new (object ms) e h))

pub pointed-placed_at : (p : Text) (new : Members) (d e : Data) → placed_at p new d ≡ Some e
    → pointed_in p e ≡ placed [] new (pointed_in p d)
pointed-placed_at [] new d e h = cc
pointed-placed_at (x ∷ []) new d e h = cc
pointed-placed_at (x ∷ y ∷ rest) new d e h = go (x == 47) refl h
  where
    other : (d : Data) → as_object d ≡ None → placed (tokens_in (y ∷ rest)) new (Some d) ≡ Some e → ⊥
    other d none h = let refused = placed_other (tokens_in (y ∷ rest)) new d none in cc

    at_slash : (d : Data) → placed (tokens_in (y ∷ rest)) new (Some d) ≡ Some e
        → pointed_in (47 ∷ y ∷ rest) e ≡ placed [] new (pointed_in (47 ∷ y ∷ rest) d)
    at_slash null h = absurd (other null refl h)
    at_slash (boolean b) h = absurd (other (boolean b) refl h)
    at_slash (number n) h = absurd (other (number n) refl h)
    at_slash (string s) h = absurd (other (string s) refl h)
    at_slash (array ds) h = absurd (other (array ds) refl h)
    at_slash (object ms) h = in_object (y ∷ rest) (tokens_in (y ∷ rest)) new ms e h h

    go : (b : Bool) → (x == 47) ≡ b → option_and_then (λ tokens. placed tokens new (Some d))
        (if b then Some (tokens_in (y ∷ rest)) else None) ≡ Some e
        → pointed_in (x ∷ y ∷ rest) e ≡ placed [] new (pointed_in (x ∷ y ∷ rest) d)
    go true is h = let slash : x ≡ 47 = eqb-true x 47 is in rw slash (at_slash d h)
    go false is h = cc

pub found_there : (r : Result Bool AllocError) (p : Text) (new : Members) (d e : Data)
    → IfOk r (λ done. placed_at p new d ≡ (if done then Some e else None))
    → IfOk r (λ done. IsTrue done → pointed_in p e ≡ placed [] new (pointed_in p d))
found_there (Err x) p new d e h = h
found_there (Ok true) p new d e h = λ t. pointed-placed_at p new d e h
found_there (Ok false) p new d e h = λ t. absurd (true≢false (sym t))
