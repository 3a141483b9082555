-- Which parts a schema judges stays, where nothing it asks is open.
use Rattle.std.proofs.Common.{◌≡◌, ℕ, zero, suc, List, [], ◌∷◌, Option, Some, None, Bool, true, false, refl, sym, ap, ◌∙◌, true≢false}
use Rattle.std.specs.Prelude.{◌&&◌, ◌||◌, map, option_and_then, length, nat_lt, nat_le}
use Rattle.serde_json.specs.Data.{Data, Items, no_items, item, Members}
use Rattle.serde_json.specs.Find.{get_item, as_str, as_array, as_object}
use Rattle.schemars_schema.specs.Json.{Text}
use Rattle.schemars_schema.specs.Verdict.{Verdict, Yes, No, Open, verdict, both, opposite, all_of, none_of, any_of, one_of, is_yes}
use Rattle.schemars_schema.specs.Judges.{Part, Judge, Reading, where_some}
use Rattle.schemars_schema.specs.Applicators.{count_of_fitting, one_more, or_one, is_up_to, contained_count, contains_says, each_says, dependent_schemas_say, schema_says, condition_says, reference_says, beside_members, chosen}
use Rattle.schemars_schema.specs.Evaluated.{judged_by, judged_by_some, judged_by_list, judged_by_schema, branch_of, judged_by_condition, judged_by_dependents, judged_by_reference, has_schema, judged_by_position, judged_by_items, judged_by_contains}
use Rattle.schemars_validate.proofs.FirmJudges.{Settled, kept-settled, Firm, FirmOption, FirmList, FirmLists, FirmNamed, FirmMap, FirmMaybe, firm-beside}
use Rattle.schemars_validate.proofs.FirmSays.{same-length, same-is_some, firm-schema, firm-listed}

-- ---- what is settled as a whole is settled in each part

pub settled-both : (a b : Verdict) → Settled (both a b) → Settled a × Settled b
settled-both Yes b s = (tt, s)
settled-both No Yes s = (tt, tt)
settled-both No No s = (tt, tt)
settled-both No Open s = absurd s
settled-both Open b s = absurd s

pub settled-opposite : (a : Verdict) → Settled (opposite a) → Settled a
settled-opposite Yes s = tt
settled-opposite No s = tt
settled-opposite Open s = absurd s

abbrev pub AllSettled : List Verdict → Type 0
AllSettled [] = Unit {0}
AllSettled (x ∷ xs) = Settled x × AllSettled xs

pub settled-all_of : (xs : List Verdict) → Settled (all_of xs) → AllSettled xs
settled-all_of [] s = tt
settled-all_of (x ∷ xs) s = let h = settled-both x (all_of xs) s in (h.0, settled-all_of xs h.1)

pub settled-none_of : (xs : List Verdict) → Settled (none_of xs) → AllSettled xs
settled-none_of [] s = tt
settled-none_of (x ∷ xs) s =
    let h = settled-both (opposite x) (none_of xs) s in (settled-opposite x h.0, settled-none_of xs h.1)

pub settled-any_of : (xs : List Verdict) → Settled (any_of xs) → AllSettled xs
settled-any_of xs s = settled-none_of xs (settled-opposite (none_of xs) s)

pub settled-one_of : (xs : List Verdict) → Settled (one_of xs) → AllSettled xs
settled-one_of [] s = tt
settled-one_of (Yes ∷ xs) s = (tt, settled-none_of xs s)
settled-one_of (No ∷ xs) s = (tt, settled-one_of xs s)
settled-one_of (Open ∷ xs) s = absurd s

-- ---- schemas of the same value

pub same-judged_by : (j k : Judge) → Firm j k → (v : Data) (p : Part) → Settled (j.fits v) → judged_by k v p ≡ judged_by j v p
same-judged_by j k h v p s = rw (kept-settled (j.fits v) (k.fits v) (h v).0 s, (h v).1 s p) refl

pub same-some : (js ks : List Judge) → FirmList js ks → (v : Data) (p : Part) → AllSettled (map (λ s. s.fits v) js)
    → judged_by_some ks v p ≡ judged_by_some js v p
same-some [] [] h v p s = refl
same-some [] (k ∷ ks) h v p s = absurd h
same-some (j ∷ js) [] h v p s = absurd h
same-some (j ∷ js) (k ∷ ks) h v p s = rw (same-judged_by j k h.0 v p s.0, same-some js ks h.1 v p s.1) refl

abbrev some_in : Option (List Judge) → Data → Part → Bool
some_in o v p = elim o [ None ↦ false | Some ss ↦ judged_by_some ss v p ]

pub same-list : (join : List Verdict → Verdict) → ((xs : List Verdict) → Settled (join xs) → AllSettled xs)
    → (x y : Option Reading) → FirmMaybe x y → (v : Data) (p : Part) → Settled (each_says join x v)
    → judged_by_list y v p ≡ judged_by_list x v p
same-list join law None None h v p s = refl
same-list join law None (Some b) h v p s = absurd h
same-list join law (Some a) None h v p s = absurd h
same-list join law (Some a) (Some b) h v p s = go a.listed b.listed h.listed s
  where
    go : (m n : Option (List Judge)) → FirmLists m n → Settled (where_some m (λ ss. join (map (λ s. s.fits v) ss)))
        → some_in n v p ≡ some_in m v p
    go None None is s = refl
    go None (Some k) is s = absurd is
    go (Some j) None is s = absurd is
    go (Some j) (Some k) is s = same-some j k is v p (law _ s)

abbrev one_in : Option Judge → Data → Part → Bool
one_in o v p = elim o [ None ↦ false | Some s ↦ judged_by s v p ]

one-same : (m n : Option Judge) → FirmOption m n → (v : Data) (p : Part) → Settled (where_some m (λ s. s.fits v))
    → one_in n v p ≡ one_in m v p
one-same None None is v p s = refl
one-same None (Some k) is v p s = absurd is
one-same (Some j) None is v p s = absurd is
one-same (Some j) (Some k) is v p s = same-judged_by j k is v p s

pub same-schema : (x y : Option Reading) → FirmMaybe x y → (v : Data) (p : Part) → Settled (schema_says x v)
    → judged_by_schema y v p ≡ judged_by_schema x v p
same-schema None None h v p s = refl
same-schema None (Some b) h v p s = absurd h
same-schema (Some a) None h v p s = absurd h
same-schema (Some a) (Some b) h v p s = one-same a.schema b.schema h.schema v p s

settled-chosen : (a b c : Verdict) → Settled (chosen a b c) → Settled a
settled-chosen Yes b c s = tt
settled-chosen No b c s = tt
settled-chosen Open b c s = absurd s

same-branch : (w : Verdict) (a b c d : Option Reading) → FirmMaybe a b → FirmMaybe c d → (v : Data) (p : Part)
    → Settled (chosen w (schema_says a v) (schema_says c v))
    → judged_by_schema (branch_of w b d) v p ≡ judged_by_schema (branch_of w a c) v p
same-branch Yes a b c d i l v p s = same-schema a b i v p s
same-branch No a b c d i l v p s = same-schema c d l v p s
same-branch Open a b c d i l v p s = absurd s

same-conditions : (j k : Judge) → Firm j k → (a b c d : Option Reading) → FirmMaybe a b → FirmMaybe c d → (v : Data) (p : Part)
    → Settled (chosen (j.fits v) (schema_says a v) (schema_says c v))
    → (judged_by k v p || judged_by_schema (branch_of (k.fits v) b d) v p)
    ≡ (judged_by j v p || judged_by_schema (branch_of (j.fits v) a c) v p)
same-conditions j k h a b c d i l v p s =
    let one = settled-chosen (j.fits v) _ _ s in
    ap (λ x. x || judged_by_schema (branch_of (k.fits v) b d) v p) (same-judged_by j k h v p one)
    ∙ (ap (λ w. judged_by j v p || judged_by_schema (branch_of w b d) v p) (kept-settled (j.fits v) (k.fits v) (h v).0 one)
    ∙ ap (λ x. judged_by j v p || x) (same-branch (j.fits v) a b c d i l v p s))

abbrev conditions_in : Bool → Option Judge → Option Reading → Option Reading → Data → Part → Bool
conditions_in reads o a c v p = elim o [
  | None ↦ false
  | Some s ↦ reads && (judged_by s v p || judged_by_schema (branch_of (s.fits v) a c) v p)
]

pub same-condition : (reads : Bool) (x y a b c d : Option Reading) → FirmMaybe x y → FirmMaybe a b → FirmMaybe c d
    → (v : Data) (p : Part) → Settled (condition_says reads x a c v)
    → judged_by_condition reads y b d v p ≡ judged_by_condition reads x a c v p
same-condition reads None None a b c d h i l v p s = refl
same-condition reads None (Some n) a b c d h i l v p s = absurd h
same-condition reads (Some m) None a b c d h i l v p s = absurd h
same-condition false (Some m) (Some n) a b c d h i l v p s = go m.schema n.schema h.schema
  where
    go : (e f : Option Judge) → FirmOption e f
        → conditions_in false f b d v p ≡ conditions_in false e a c v p
    go None None is = refl
    go None (Some k) is = absurd is
    go (Some j) None is = absurd is
    go (Some j) (Some k) is = refl
same-condition true (Some m) (Some n) a b c d h i l v p s = go m.schema n.schema h.schema s
  where
    go : (e f : Option Judge) → FirmOption e f → Settled (where_some e (λ s. chosen (s.fits v) (schema_says a v) (schema_says c v)))
        → conditions_in true f b d v p ≡ conditions_in true e a c v p
    go None None is s = refl
    go None (Some k) is s = absurd is
    go (Some j) None is s = absurd is
    go (Some j) (Some k) is s = same-conditions j k is a b c d i l v p s

abbrev beside_in : Bool → Option (List (Text × Judge)) → Data → Part → Bool
beside_in reads o v p = elim o [
  | None ↦ false
  | Some ss ↦ reads && elim (as_object v) [ None ↦ false | Some ms ↦ judged_by_some (beside_members ss ms) v p ]
]

abbrev some_beside : Option Members → List (Text × Judge) → Data → Part → Bool
some_beside o ks v p = elim o [ None ↦ false | Some ms ↦ judged_by_some (beside_members ks ms) v p ]

members_of : (o : Option Members) (js ks : List (Text × Judge)) → FirmNamed js ks → (v : Data) (p : Part)
    → Settled (where_some o (λ ms. all_of (map (λ s. s.fits v) (beside_members js ms))))
    → some_beside o ks v p ≡ some_beside o js v p
members_of None js ks h v p s = refl
members_of (Some ms) js ks h v p s = same-some _ _ (firm-beside ms js ks h) v p (settled-all_of _ s)

pub same-dependents : (reads : Bool) (x y : Option Reading) → FirmMaybe x y → (v : Data) (p : Part)
    → Settled (dependent_schemas_say reads x v) → judged_by_dependents reads y v p ≡ judged_by_dependents reads x v p
same-dependents reads None None h v p s = refl
same-dependents reads None (Some b) h v p s = absurd h
same-dependents reads (Some a) None h v p s = absurd h
same-dependents false (Some a) (Some b) h v p s = go a.named b.named h.named
  where
    go : (m n : Option (List (Text × Judge))) → FirmMap m n → beside_in false n v p ≡ beside_in false m v p
    go None None is = refl
    go None (Some k) is = absurd is
    go (Some j) None is = absurd is
    go (Some j) (Some k) is = refl
same-dependents true (Some a) (Some b) h v p s = go a.named b.named h.named s
  where
    go : (m n : Option (List (Text × Judge))) → FirmMap m n
        → Settled (where_some m (λ ss. where_some (as_object v) (λ ms. all_of (map (λ s. s.fits v) (beside_members ss ms)))))
        → beside_in true n v p ≡ beside_in true m v p
    go None None is s = refl
    go None (Some k) is s = absurd is
    go (Some j) None is s = absurd is
    go (Some j) (Some k) is s = members_of (as_object v) j k is v p s

abbrev followed_by : Option Text → (Text → Judge) → Data → Part → Bool
followed_by o f v p = elim o [ None ↦ false | Some name ↦ judged_by (f name) v p ]

named_same : (o : Option Text) (f g : Text → Judge) → ((name : Text) → Firm (f name) (g name)) → (v : Data) (p : Part)
    → Settled (where_some o (λ name. (f name).fits v))
    → followed_by o g v p ≡ followed_by o f v p
named_same None f g h v p s = refl
named_same (Some name) f g h v p s = same-judged_by (f name) (g name) (h name) v p s

pub same-reference : (f g : Text → Judge) → ((name : Text) → Firm (f name) (g name)) → (reference : Option Data) (v : Data) (p : Part)
    → Settled (reference_says f reference v) → judged_by_reference g reference v p ≡ judged_by_reference f reference v p
same-reference f g h None v p s = refl
same-reference f g h (Some d) v p s = named_same (as_str d) f g h v p s

-- ---- members and items

pub same-has_schema : (x y : Option Reading) → FirmMaybe x y → has_schema y ≡ has_schema x
same-has_schema x y h = same-is_some _ _ (firm-schema x y h)

abbrev placed_in : Option (List Judge) → Bool → ℕ → Bool
placed_in o past n = elim o [ None ↦ false | Some ss ↦ nat_lt n (length ss) || past ]

pub same-position : (x y : Option Reading) → FirmMaybe x y → (past : Bool) (n : ℕ)
    → judged_by_position y past n ≡ judged_by_position x past n
same-position x y h past n = go _ _ (firm-listed x y h)
  where
    go : (a b : Option (List Judge)) → FirmLists a b → placed_in b past n ≡ placed_in a past n
    go None None is = refl
    go None (Some k) is = absurd is
    go (Some j) None is = absurd is
    go (Some j) (Some k) is = rw (same-length j k is) refl

pub same-items : (reads : Bool) (p q x y a b : Option Reading) → FirmMaybe p q → FirmMaybe x y → FirmMaybe a b → (n : ℕ)
    → judged_by_items reads q y b n ≡ judged_by_items reads p x a n
same-items true p q x y a b h i l n = rw (same-position p q h false n, same-has_schema x y i) refl
same-items false p q x y a b h i l n = rw (same-has_schema x y i, same-has_schema a b l, same-position x y i (has_schema a) n) refl

-- each item that is counted is settled
abbrev pub Counted : Option ℕ → Type 0
Counted None = ⊥
Counted (Some n) = Unit {0}

one_counted : (w : Verdict) (o : Option ℕ) → Counted (one_more w o) → Settled w × Counted o
one_counted Yes None s = absurd s
one_counted Yes (Some n) s = (tt, tt)
one_counted No o s = (tt, s)
one_counted Open o s = absurd s

abbrev yes_at : Judge → Option Data → Bool
yes_at j o = elim o [ None ↦ false | Some w ↦ is_yes (j.fits w) ]

same-yes_at : (j k : Judge) → Firm j k → (vs : Items) → Counted (count_of_fitting j vs) → (n : ℕ)
    → yes_at k (get_item n vs) ≡ yes_at j (get_item n vs)
same-yes_at j k h no_items s n = refl
same-yes_at j k h (item v vs) s zero = ap is_yes (kept-settled (j.fits v) (k.fits v) (h v).0 (one_counted _ _ s).0)
same-yes_at j k h (item v vs) s (suc n) = same-yes_at j k h vs (one_counted (j.fits v) (count_of_fitting j vs) s).1 n

settled-counted : (m : Option ℕ) (f : ℕ → Bool) → Settled (elim m [ None ↦ Open | Some i ↦ verdict (f i) ]) → Counted m
settled-counted None f s = absurd s
settled-counted (Some n) f s = tt

abbrev contained_in : Bool → Option Judge → Data → ℕ → Bool
contained_in counts o v n = elim o [
  | None ↦ false
  | Some s ↦ counts && elim (option_and_then (get_item n) (as_array v)) [ None ↦ false | Some w ↦ is_yes (s.fits w) ]
]

items_of : (o : Option Items) (j k : Judge) (f : ℕ → Bool) → Firm j k
    → Settled (where_some o (λ vs. elim (count_of_fitting j vs) [ None ↦ Open | Some i ↦ verdict (f i) ])) → (n : ℕ)
    → yes_at k (option_and_then (get_item n) o) ≡ yes_at j (option_and_then (get_item n) o)
items_of None j k f h s n = refl
items_of (Some vs) j k f h s n = same-yes_at j k h vs (settled-counted (count_of_fitting j vs) f s) n

abbrev fine : Bool → Option Data → Option Data → ℕ → Bool
fine wide least most i = nat_le (or_one (contained_count wide least)) i && is_up_to (contained_count wide most) i

abbrev placed : Option Items → Option Judge → ℕ → Bool
placed o e n = elim e [ None ↦ false | Some s ↦ true && yes_at s (option_and_then (get_item n) o) ]

-- if items that fit count as judged, `contains` is read
pub same-contains : (reads counts wide : Bool) → (counts ≡ true → reads ≡ true) → (x y : Option Reading) (least most : Option Data)
    → FirmMaybe x y → (v : Data) (n : ℕ) → Settled (contains_says reads wide x least most v)
    → judged_by_contains counts y v n ≡ judged_by_contains counts x v n
same-contains reads counts wide read None None least most h v n s = refl
same-contains reads counts wide read None (Some b) least most h v n s = absurd h
same-contains reads counts wide read (Some a) None least most h v n s = absurd h
same-contains reads false wide read (Some a) (Some b) least most h v n s = go a.schema b.schema h.schema
  where
    go : (e f : Option Judge) → FirmOption e f → contained_in false f v n ≡ contained_in false e v n
    go None None is = refl
    go None (Some k) is = absurd is
    go (Some j) None is = absurd is
    go (Some j) (Some k) is = refl
same-contains false true wide read (Some a) (Some b) least most h v n s = absurd (true≢false (sym (read refl)))
same-contains true true wide read (Some a) (Some b) least most h v n s = outer (as_array v) a.schema b.schema h.schema s
  where
    outer : (o : Option Items) (e f : Option Judge) → FirmOption e f
        → Settled (where_some o (λ vs. where_some e (λ s. elim (count_of_fitting s vs) [ None ↦ Open | Some i ↦ verdict (fine wide least most i) ])))
        → placed o f n ≡ placed o e n
    outer o None None is s = refl
    outer o None (Some k) is s = absurd is
    outer o (Some j) None is s = absurd is
    outer o (Some j) (Some k) is s = items_of o j k (fine wide least most) is s n
