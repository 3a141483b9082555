-- Judges of which the second says what the first says, unless that is open.
use Rattle.std.proofs.Common.{◌≡◌, ℕ, zero, suc, List, [], ◌∷◌, Option, Some, None, Bool, true, false, refl}
use Rattle.std.specs.Prelude.{map, is_some, if◌then◌else◌, bytes_eq}
use Rattle.serde_json.specs.Data.{Data, Items, no_items, item, Members, no_members, member}
use Rattle.serde_json.specs.Find.{get_member}
use Rattle.schemars_schema.specs.Json.{Text}
use Rattle.schemars_schema.specs.Verdict.{Verdict, Yes, No, Open, verdict}
use Rattle.schemars_schema.specs.Judges.{Part, Patterns, matches, Judge, Reading, where_some, where_read, each_member}
use Rattle.schemars_schema.specs.Applicators.{by_position, each_past, count_of_fitting, one_more, each_item_left, schema_named, by_patterns, matches_some, beside_members, chosen}
use Rattle.schemars_validate.proofs.KeptVerdicts.{Kept, kept-same, kept-both, AllKept}

-- not open
abbrev pub Settled : Verdict → Type 0
Settled Yes = Unit {0}
Settled No = Unit {0}
Settled Open = ⊥

pub kept-settled : (a x : Verdict) → Kept a x → Settled a → x ≡ a
kept-settled Yes x h s = h
kept-settled No x h s = h
kept-settled Open x h s = absurd s

abbrev pub Firm : Judge → Judge → Type 0
Firm j k = (v : Data) → Kept (j.fits v) (k.fits v) × (Settled (j.fits v) → (p : Part) → k.judges v p ≡ j.judges v p)

abbrev pub FirmOption : Option Judge → Option Judge → Type 0
FirmOption None None = Unit {0}
FirmOption None (Some k) = ⊥
FirmOption (Some j) None = ⊥
FirmOption (Some j) (Some k) = Firm j k

abbrev pub FirmList : List Judge → List Judge → Type 0
FirmList [] [] = Unit {0}
FirmList [] (k ∷ ks) = ⊥
FirmList (j ∷ js) [] = ⊥
FirmList (j ∷ js) (k ∷ ks) = Firm j k × FirmList js ks

abbrev pub FirmLists : Option (List Judge) → Option (List Judge) → Type 0
FirmLists None None = Unit {0}
FirmLists None (Some k) = ⊥
FirmLists (Some j) None = ⊥
FirmLists (Some j) (Some k) = FirmList j k

abbrev pub FirmNamed : List (Text × Judge) → List (Text × Judge) → Type 0
FirmNamed [] [] = Unit {0}
FirmNamed [] (k ∷ ks) = ⊥
FirmNamed (j ∷ js) [] = ⊥
FirmNamed (j ∷ js) (k ∷ ks) = (k.0 ≡ j.0) × (Firm j.1 k.1 × FirmNamed js ks)

abbrev pub FirmMap : Option (List (Text × Judge)) → Option (List (Text × Judge)) → Type 0
FirmMap None None = Unit {0}
FirmMap None (Some k) = ⊥
FirmMap (Some j) None = ⊥
FirmMap (Some j) (Some k) = FirmNamed j k

pub record FirmReading (x y : Reading) : Type 0 where
  pub schema : FirmOption x.schema y.schema
  pub listed : FirmLists x.listed y.listed
  pub named : FirmMap x.named y.named
  pub among : FirmNamed x.among y.among

abbrev pub FirmMaybe : Option Reading → Option Reading → Type 0
FirmMaybe None None = Unit {0}
FirmMaybe None (Some k) = ⊥
FirmMaybe (Some j) None = ⊥
FirmMaybe (Some j) (Some k) = FirmReading j k

-- ---- one keyword

pub kept-data : {A : Type 0} (o : Option A) (f g : A → Verdict) → ((a : A) → Kept (f a) (g a)) → Kept (where_some o f) (where_some o g)
kept-data None f g h = refl
kept-data (Some a) f g h = h a

pub kept-judge : (x y : Option Judge) (f g : Judge → Verdict) → FirmOption x y → ((j k : Judge) → Firm j k → Kept (f j) (g k))
    → Kept (where_some x f) (where_some y g)
kept-judge None None f g is h = refl
kept-judge None (Some k) f g is h = absurd is
kept-judge (Some j) None f g is h = absurd is
kept-judge (Some j) (Some k) f g is h = h j k is

pub kept-judges : (x y : Option (List Judge)) (f g : List Judge → Verdict) → FirmLists x y
    → ((js ks : List Judge) → FirmList js ks → Kept (f js) (g ks)) → Kept (where_some x f) (where_some y g)
kept-judges None None f g is h = refl
kept-judges None (Some k) f g is h = absurd is
kept-judges (Some j) None f g is h = absurd is
kept-judges (Some j) (Some k) f g is h = h j k is

pub kept-map : (x y : Option (List (Text × Judge))) (f g : List (Text × Judge) → Verdict) → FirmMap x y
    → ((js ks : List (Text × Judge)) → FirmNamed js ks → Kept (f js) (g ks)) → Kept (where_some x f) (where_some y g)
kept-map None None f g is h = refl
kept-map None (Some k) f g is h = absurd is
kept-map (Some j) None f g is h = absurd is
kept-map (Some j) (Some k) f g is h = h j k is

pub kept-reading : (x y : Option Reading) (f g : Reading → Verdict) → FirmMaybe x y
    → ((a b : Reading) → FirmReading a b → Kept (f a) (g b)) → Kept (where_some x f) (where_some y g)
kept-reading None None f g is h = refl
kept-reading None (Some k) f g is h = absurd is
kept-reading (Some j) None f g is h = absurd is
kept-reading (Some j) (Some k) f g is h = h j k is

pub kept-read : (reads : Bool) (x y : Option Reading) (f g : Reading → Verdict) → FirmMaybe x y
    → ((a b : Reading) → FirmReading a b → Kept (f a) (g b)) → Kept (where_read reads x f) (where_read reads y g)
kept-read reads None None f g is h = refl
kept-read reads None (Some k) f g is h = absurd is
kept-read reads (Some j) None f g is h = absurd is
kept-read true (Some j) (Some k) f g is h = h j k is
kept-read false (Some j) (Some k) f g is h = refl

-- ---- lists

pub kept-fits : (v : Data) (js ks : List Judge) → FirmList js ks → AllKept (map (λ s. s.fits v) js) (map (λ s. s.fits v) ks)
kept-fits v [] [] h = tt
kept-fits v [] (k ∷ ks) h = absurd h
kept-fits v (j ∷ js) [] h = absurd h
kept-fits v (j ∷ js) (k ∷ ks) h = ((h.0 v).0, kept-fits v js ks h.1)

pub kept-by_position : (js ks : List Judge) (vs : Items) → FirmList js ks → Kept (by_position js vs) (by_position ks vs)
kept-by_position [] [] vs h = refl
kept-by_position [] (k ∷ ks) vs h = absurd h
kept-by_position (j ∷ js) [] vs h = absurd h
kept-by_position (j ∷ js) (k ∷ ks) no_items h = refl
kept-by_position (j ∷ js) (k ∷ ks) (item v vs) h = kept-both _ _ _ _ (h.0 v).0 (kept-by_position js ks vs h.1)

pub kept-each_past : (n : ℕ) (j k : Judge) (vs : Items) → Firm j k → Kept (each_past n j vs) (each_past n k vs)
kept-each_past n j k no_items h = refl
kept-each_past zero j k (item v vs) h = kept-both _ _ _ _ (h v).0 (kept-each_past zero j k vs h)
kept-each_past (suc n) j k (item v vs) h = kept-each_past n j k vs h

abbrev pub KeptCount : Option ℕ → Option ℕ → Type 0
KeptCount None b = Unit {0}
KeptCount (Some n) b = b ≡ Some n

kept-one_more : (a x : Verdict) (m n : Option ℕ) → Kept a x → KeptCount m n → KeptCount (one_more a m) (one_more x n)
kept-one_more Yes x None n h i = tt
kept-one_more Yes x (Some m) n h i = rw (h, i) refl
kept-one_more No x None n h i = tt
kept-one_more No x (Some m) n h i = rw (h, i) refl
kept-one_more Open x m n h i = tt

pub kept-count : (j k : Judge) (vs : Items) → Firm j k → KeptCount (count_of_fitting j vs) (count_of_fitting k vs)
kept-count j k no_items h = refl
kept-count j k (item v vs) h = kept-one_more _ _ _ _ (h v).0 (kept-count j k vs h)

pub kept-counted : (m n : Option ℕ) (f : ℕ → Bool) → KeptCount m n
    → Kept (elim m [ None ↦ Open | Some i ↦ verdict (f i) ]) (elim n [ None ↦ Open | Some i ↦ verdict (f i) ])
kept-counted None n f h = tt
kept-counted (Some m) n f h = rw h (kept-same (verdict (f m)))

pub kept-item_left : (judged again : ℕ → Bool) → ((n : ℕ) → again n ≡ judged n) → (n : ℕ) (j k : Judge) (vs : Items) → Firm j k
    → Kept (each_item_left judged n j vs) (each_item_left again n k vs)
kept-item_left judged again same n j k no_items h = refl
kept-item_left judged again same n j k (item v vs) h =
    kept-both _ _ _ _ (rw (same n) (go (judged n))) (kept-item_left judged again same (suc n) j k vs h)
  where
    go : (b : Bool) → Kept (if b then Yes else j.fits v) (if b then Yes else k.fits v)
    go true = refl
    go false = (h v).0

-- ---- maps

pub kept-each_member : (p q : Text → Data → Verdict) (ms : Members) → ((k : Text) (w : Data) → Kept (p k w) (q k w))
    → Kept (each_member p ms) (each_member q ms)
kept-each_member p q no_members h = refl
kept-each_member p q (member k w ms) h = kept-both _ _ _ _ (h k w) (kept-each_member p q ms h)

pub firm-named : (k : Text) (js ks : List (Text × Judge)) → FirmNamed js ks → FirmOption (schema_named k js) (schema_named k ks)
firm-named k [] [] h = tt
firm-named k [] (y ∷ ys) h = absurd h
firm-named k (x ∷ xs) [] h = absurd h
firm-named k (x ∷ xs) (y ∷ ys) h = rw (h.0) (go (bytes_eq k x.0) (firm-named k xs ys h.1.1))
  where
    go : (b : Bool) → FirmOption (schema_named k xs) (schema_named k ys)
        → FirmOption (if b then Some x.1 else schema_named k xs) (if b then Some y.1 else schema_named k ys)
    go true later = h.1.0
    go false later = later

pub kept-by_patterns : (patterns : Patterns) (js ks : List (Text × Judge)) (k : Text) (w : Data) → FirmNamed js ks
    → Kept (by_patterns patterns js k w) (by_patterns patterns ks k w)
kept-by_patterns patterns [] [] k w h = refl
kept-by_patterns patterns [] (y ∷ ys) k w h = absurd h
kept-by_patterns patterns (x ∷ xs) [] k w h = absurd h
kept-by_patterns patterns (x ∷ xs) (y ∷ ys) k w h =
    kept-both _ _ _ _ (rw (h.0) (go (matches patterns x.0 k))) (kept-by_patterns patterns xs ys k w h.1.1)
  where
    go : (b : Bool) → Kept (if b then x.1.fits w else Yes) (if b then y.1.fits w else Yes)
    go true = (h.1.0 w).0
    go false = refl

pub same-matches : (patterns : Patterns) (js ks : List (Text × Judge)) (k : Text) → FirmNamed js ks
    → matches_some patterns ks k ≡ matches_some patterns js k
same-matches patterns [] [] k h = refl
same-matches patterns [] (y ∷ ys) k h = absurd h
same-matches patterns (x ∷ xs) [] k h = absurd h
same-matches patterns (x ∷ xs) (y ∷ ys) k h = rw (h.0, same-matches patterns xs ys k h.1.1) refl

pub firm-beside : (ms : Members) (js ks : List (Text × Judge)) → FirmNamed js ks → FirmList (beside_members js ms) (beside_members ks ms)
firm-beside ms [] [] h = tt
firm-beside ms [] (y ∷ ys) h = absurd h
firm-beside ms (x ∷ xs) [] h = absurd h
firm-beside ms (x ∷ xs) (y ∷ ys) h = rw (h.0) (go (is_some (get_member x.0 ms)) (firm-beside ms xs ys h.1.1))
  where
    go : (b : Bool) → FirmList (beside_members xs ms) (beside_members ys ms) → FirmList (if b then x.1 ∷ beside_members xs ms else beside_members xs ms)
        (if b then y.1 ∷ beside_members ys ms else beside_members ys ms)
    go true later = (h.1.0, later)
    go false later = later

pub kept-chosen : (a x b y c z : Verdict) → Kept a x → Kept b y → Kept c z → Kept (chosen a b c) (chosen x y z)
kept-chosen Yes x b y c z h i l = rw h i
kept-chosen No x b y c z h i l = rw h l
kept-chosen Open x b y c z h i l = tt
