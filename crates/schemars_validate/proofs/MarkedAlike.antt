-- Marks by tests that agree, and by one test after another.
use Rattle.std.proofs.Common.{◌≡◌, ℕ, suc, List, [], ◌∷◌, Bool, false, Option, Some, None, refl, ap, ◌∙◌}
use Rattle.std.proofs.Math.Bool.{or-false, or_assoc}
use Rattle.schemars_validate.proofs.Words.{fun_ext, ◌||◌, Data, null, boolean, number, string, array, object, Items, no_items, item, Members, no_members, member, Text, Part, key, position, keys_in, positions_in, parts_of, marked}

pub marked_same : (f g : Part → Bool) → ((p : Part) → f p ≡ g p) → (ps : List Part) (bs : List Bool) → marked f ps bs ≡ marked g ps bs
marked_same f g h ps bs = ap (λ (t : Part → Bool). marked t ps bs) (fun_ext h)

-- two tests agree on the parts of a value, whatever they say of others
abbrev pub Agree : Data → (Part → Bool) → (Part → Bool) → Type 0
Agree null f g = Unit {0}
Agree (boolean b) f g = Unit {0}
Agree (number n) f g = Unit {0}
Agree (string s) f g = Unit {0}
Agree (array ds) f g = (n : ℕ) → f (position n) ≡ g (position n)
Agree (object ms) f g = (k : Text) → f (key k) ≡ g (key k)

pub parts_same : (f g : Part → Bool) (v : Data) → Agree v f g → (bs : List Bool) → marked f (parts_of v) bs ≡ marked g (parts_of v) bs
parts_same f g (array ds) h bs = go 0 ds bs
  where
    go : (n : ℕ) (ds : Items) (bs : List Bool) → marked f (positions_in n ds) bs ≡ marked g (positions_in n ds) bs
    go n no_items bs = refl
    go n (item d ds) [] = refl
    go n (item d ds) (b ∷ bs) = λ i. (b || h n i) ∷ go (suc n) ds bs i
parts_same f g (object ms) h bs = go ms bs
  where
    go : (ms : Members) (bs : List Bool) → marked f (keys_in ms) bs ≡ marked g (keys_in ms) bs
    go no_members bs = refl
    go (member k d ms) [] = refl
    go (member k d ms) (b ∷ bs) = λ i. (b || h k i) ∷ go ms bs i
parts_same f g _ h bs = refl

pub marked_none : (ps : List Part) (bs : List Bool) → marked (λ p. false) ps bs ≡ bs
marked_none [] bs = refl
marked_none (p ∷ ps) [] = refl
marked_none (p ∷ ps) (b ∷ bs) = λ i. or-false b i ∷ marked_none ps bs i

-- one after the other
pub marked_twice : (f g : Part → Bool) (ps : List Part) (bs : List Bool) → marked g ps (marked f ps bs) ≡ marked (λ p. f p || g p) ps bs
marked_twice f g [] bs = refl
marked_twice f g (p ∷ ps) [] = refl
marked_twice f g (p ∷ ps) (b ∷ bs) = λ i. or_assoc b (f p) (g p) i ∷ marked_twice f g ps bs i

pub then_marked : (f g : Part → Bool) (ps : List Part) (m0 m1 m2 : List Bool) → m1 ≡ marked f ps m0 → m2 ≡ marked g ps m1
    → m2 ≡ marked (λ p. f p || g p) ps m0
then_marked f g ps m0 m1 m2 e1 e2 = e2 ∙ (ap (marked g ps) e1 ∙ marked_twice f g ps m0)

pub no_one : {A : Type 0} (x : Option A) → false ≡ elim x [ None ↦ false | Some a ↦ false ]
no_one None = refl
no_one (Some a) = refl
