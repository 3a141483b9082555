-- What the options of a row say of a key.
use Rattle.std.proofs.Common.{◌≡◌, ℕ, suc, List, [], ◌∷◌, Option, Some, None, Bool, true, false, refl, sym, ap, ◌∙◌, option_map, length}
use Rattle.schemars_belonging.proofs.Words.{◌||◌, not, filter, bytes_eq, option_and_then, if◌then◌else◌, list_any, option_map_or, list_any-append, bytes_eq-Decides, is_listed, is_listed-append, Text, Patterns, matches, Entry, pattern_of, Row, entry_at, KeyOptions, keys, any_text, either_options, either_integers, is_key_allowed, key_options, options_within, shape_options, once, distinct_options, or_any_text, Said, said, said_by, either_said, nothing_said, allowed, or-false}
use Rattle.schemars_shapes.specs.declared.shape.IntegerKeys.{IntegerKeys}
use Rattle.schemars_shapes.specs.declared.shape.IntegerKeys.TheVariants.{Unsigned, Signed}

-- ---- rows

pub none_within : (rows : List Row) (n : ℕ) → options_within rows 0 n ≡ Some any_text
unfolding options_within
none_within rows n = refl

within_row : (rows : List Row) (steps n : ℕ)
    → options_within rows (suc steps) n
    ≡ option_map_or (λ e. shape_options (options_within rows steps) e.shape) (entry_at rows n) (Some any_text)
unfolding options_within
within_row rows steps n = refl

pub some_row : (rows : List Row) (steps below n : ℕ) (e : Entry) → suc below ≡ steps → Some e ≡ entry_at rows n
    → options_within rows steps n ≡ shape_options (options_within rows below) e.shape
some_row rows steps below n e one is =
    ap (λ k. options_within rows k n) (sym one)
    ∙ (within_row rows below n ∙ ap (λ o. option_map_or (λ f. shape_options (options_within rows below) f.shape) o
    (Some any_text)) (sym is))

pub no_row : (rows : List Row) (steps below n : ℕ) → suc below ≡ steps → None ≡ entry_at rows n
    → options_within rows steps n ≡ Some any_text
no_row rows steps below n one is =
    ap (λ k. options_within rows k n) (sym one)
    ∙ (within_row rows below n ∙ ap (λ o. option_map_or (λ f. shape_options (options_within rows below) f.shape) o
    (Some any_text)) (sym is))

-- ---- either of two options

shuffled : (a b t u p q : Bool) → (a || b) || ((t || u) || (p || q)) ≡ (a || (t || p)) || (b || (u || q))
shuffled true b t u p q = refl
shuffled false true true u p q = refl
shuffled false true false u true q = refl
shuffled false true false u false q = refl
shuffled false false true u p q = refl
shuffled false false false true true q = refl
shuffled false false false true false q = refl
shuffled false false false false true q = refl
shuffled false false false false false q = refl

pub either_says : (patterns : Patterns) (key : Text) (o p : KeyOptions)
    → said patterns key (either_options o p) ≡ either_said (said patterns key o) (said patterns key p)
either_says patterns key (keys a ts i ps) (keys b us j qs) =
    let f : Text → Bool = λ p. matches patterns p key in
    ap (λ (b : Bool). record { found = b; integers = either_integers i j }) (
    (λ k. (a || b) || (is_listed-append key ts us k || list_any-append f ps qs k))
    ∙ shuffled a b (is_listed key ts) (is_listed key us) (list_any f ps) (list_any f qs))

or_assoc : (a b c : Bool) → (a || b) || c ≡ a || (b || c)
or_assoc true b c = refl
or_assoc false b c = refl

integers_assoc : (i j k : Option IntegerKeys) → either_integers (either_integers i j) k ≡ either_integers i (either_integers j k)
integers_assoc None j k = refl
integers_assoc (Some Signed) j k = refl
integers_assoc (Some Unsigned) None k = refl
integers_assoc (Some Unsigned) (Some Signed) k = refl
integers_assoc (Some Unsigned) (Some Unsigned) None = refl
integers_assoc (Some Unsigned) (Some Unsigned) (Some k) = refl

integers_none : (i : Option IntegerKeys) → either_integers i None ≡ i
integers_none None = refl
integers_none (Some Signed) = refl
integers_none (Some Unsigned) = refl

said_assoc : (a b c : Said) → either_said (either_said a b) c ≡ either_said a (either_said b c)
said_assoc a b c = λ k. record { found = or_assoc a.found b.found c.found k; integers = integers_assoc a.integers b.integers c.integers k }

-- ---- the members of an untagged enum

-- what is said so far, with what others say
abbrev pub joined : Said → Option Said → Option Said
joined a o = option_map (either_said a) o

pub all_joined : (a : Said) → joined a (Some nothing_said) ≡ Some a
all_joined a = λ k. Some (record { found = or-false a.found k; integers = integers_none a.integers k })

pub one_joined : (patterns : Patterns) (key : Text) (a more : Said) (first rest : Option KeyOptions)
    → Some more ≡ said_by patterns key first
    → joined (either_said a more) (said_by patterns key rest)
    ≡ joined a (said_by patterns key (option_and_then (λ o. option_map (either_options o) rest) first))
one_joined patterns key a more None rest is = cc
one_joined patterns key a more (Some o) None is = refl
one_joined patterns key a more (Some o) (Some p) is =
    ap Some (said_assoc a more (said patterns key p)
    ∙ ap (either_said a) (ap (λ s. either_said s (said patterns key p)) (some_same more (said patterns key o) is)
    ∙ sym (either_says patterns key o p)))
  where
    some_same : (x y : Said) → Some x ≡ Some y → x ≡ y
    some_same x y h = cc

-- ---- each text once

any_filter : (f : Text → Bool) (t : Text) (us : List Text) → f t ≡ false
    → list_any f (filter (λ u. not (bytes_eq u t)) us) ≡ list_any f us
any_filter f t [] none = refl
any_filter f t (u ∷ us) none = go (bytes_eq u t) refl (any_filter f t us none)
  where
    rest : List Text
    rest = filter (λ x. not (bytes_eq x t)) us

    go : (b : Bool) → bytes_eq u t ≡ b → list_any f rest ≡ list_any f us
        → list_any f (if not b then u ∷ rest else rest) ≡ f u || list_any f us
    go true is later = later ∙ sym (ap (λ b. b || list_any f us) (ap f ((bytes_eq-Decides u t).0 is) ∙ none))
    go false is later = ap (λ b. f u || b) later

any_once : (f : Text → Bool) (ts : List Text) → list_any f (once ts) ≡ list_any f ts
any_once f [] = refl
any_once f (t ∷ ts) = go (f t) refl (any_once f ts)
  where
    go : (b : Bool) → f t ≡ b → list_any f (once ts) ≡ list_any f ts
        → b || list_any f (filter (λ u. not (bytes_eq u t)) (once ts)) ≡ b || list_any f ts
    go true is later = refl
    go false is later = any_filter f t (once ts) is ∙ later

listed_any : (k : Text) (ts : List Text) → is_listed k ts ≡ list_any (bytes_eq k) ts
listed_any k [] = refl
listed_any k (t ∷ ts) = ap (λ b. bytes_eq k t || b) (listed_any k ts)

listed_once : (k : Text) (ts : List Text) → is_listed k (once ts) ≡ is_listed k ts
listed_once k ts = listed_any k (once ts) ∙ (any_once (bytes_eq k) ts ∙ sym (listed_any k ts))

integers_last : (a t i p : Bool) → (a || (t || p)) || i ≡ a || (t || (i || p))
integers_last true t i p = refl
integers_last false true i p = refl
integers_last false false true true = refl
integers_last false false true false = refl
integers_last false false false true = refl
integers_last false false false false = refl

distinct_says : (patterns : Patterns) (key : Text) (o : KeyOptions)
    → allowed patterns key (said patterns key o) ≡ is_key_allowed patterns (distinct_options o) key
distinct_says patterns key (keys others ts i ps) =
    let f : Text → Bool = λ p. matches patterns p key in
    let b : Bool = option_map_or (λ j. matches patterns (pattern_of j) key) i false in
    integers_last others (is_listed key ts) b (list_any f ps)
    ∙ sym (λ k. others || (listed_once key ts k || (b || any_once f ps k)))

pub allowed_key : (rows : List Row) (patterns : Patterns) (n : ℕ) (key : Text) (s : Said)
    → Some s ≡ said_by patterns key (options_within rows (length rows) n)
    → allowed patterns key s ≡ is_key_allowed patterns (key_options rows n) key
allowed_key rows patterns n key s is = go (options_within rows (length rows) n) is
  where
    go : (o : Option KeyOptions) → Some s ≡ said_by patterns key o
        → allowed patterns key s ≡ is_key_allowed patterns (distinct_options (or_any_text o)) key
    go None h = cc
    go (Some o) h = ap (allowed patterns key) (some_same s (said patterns key o) h) ∙ distinct_says patterns key o
      where
        some_same : (x y : Said) → Some x ≡ Some y → x ≡ y
        some_same x y h = cc

pub any_key : (rows : List Row) (patterns : Patterns) (n : ℕ) (key : Text)
    → None ≡ said_by patterns key (options_within rows (length rows) n)
    → true ≡ is_key_allowed patterns (key_options rows n) key
any_key rows patterns n key is = go (options_within rows (length rows) n) is
  where
    go : (o : Option KeyOptions) → None ≡ said_by patterns key o
        → true ≡ is_key_allowed patterns (distinct_options (or_any_text o)) key
    go None h = refl
    go (Some o) h = cc
