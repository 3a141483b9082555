-- The references of what is made of schemas are theirs.
use Rattle.std.proofs.Common.{◌≡◌, List, [], ◌∷◌, ◌++◌, Bool, true, false, refl, sym, subst, true≢false}
use Rattle.schemars_flatten.proofs.Words.{All, All-nil, All-cons, All-head, All-tail, All-append, bytes_eq-Decides, ◌||◌, bytes_eq, codes, Data, array, Items, no_items, item, Members, no_members, member, Text, is_listed, put_members, found_in, found_in_items, found_in_members, found_in_keywords, references, found_under, flattened, opened_inside, flattened_part}
use Rattle.schemars_flatten.proofs.Kept.{AllMembers, AllItems, IsByKeyword, all_put_members, flattened_kept, part_kept, opened_inside_kept}

-- one of three names
named : (k a b c : Text) (R : Text → Type 0) → R a → R b → R c → is_listed k (a ∷ b ∷ c ∷ []) ≡ true → R k
named k a b c R first second third is =
    go (bytes_eq k a) (bytes_eq k b) (bytes_eq k c) refl refl refl is
  where
    go : (x y z : Bool) → bytes_eq k a ≡ x → bytes_eq k b ≡ y → bytes_eq k c ≡ z → x || (y || (z || false)) ≡ true
        → R k
    go true y z p q r is = subst R (sym ((bytes_eq-Decides k a).0 p)) first
    go false true z p q r is = subst R (sym ((bytes_eq-Decides k b).0 q)) second
    go false false true p q r is = subst R (sym ((bytes_eq-Decides k c).0 r)) third
    go false false false p q r is = absurd (true≢false (sym is))

module _ (P : Data → Type 0) where
  abbrev Refers : Data → Type 0
  Refers d = All P (references d)

  abbrev RefersAt : Text → Data → Type 0
  RefersAt k d = All P (found_under k d)

  abbrev Named : Text → Data → Type 0
  Named k d = All P (references d)

  none : All P []
  none = All-nil P

  halves : (xs ys : List Data) → All P (xs ++ ys) → All P xs × All P ys
  halves [] ys h = (none, h)
  halves (x ∷ xs) ys h =
      let rest = halves xs ys (All-tail P x (xs ++ ys) h) in
      (All-cons P x xs (All-head P x (xs ++ ys) h) rest.0, rest.1)

  parts : (ms : Members) → All P (found_in_keywords ms) → AllMembers RefersAt ms
  unfolding found_in
  parts no_members h = tt
  parts (member k d ms) h = let each = halves (found_under k d) (found_in_keywords ms) h in (each.0, parts ms each.1)

  whole : (ms : Members) → AllMembers RefersAt ms → All P (found_in_keywords ms)
  unfolding found_in
  whole no_members h = none
  whole (member k d ms) h = All-append P (found_under k d) (found_in_keywords ms) h.0 (whole ms h.1)

  items : (ds : Items) → All P (found_in_items ds) → AllItems Refers ds
  unfolding found_in
  items no_items h = tt
  items (item d ds) h = let each = halves (references d) (found_in_items ds) h in (each.0, items ds each.1)

  list : (ds : Items) → AllItems Refers ds → All P (found_in_items ds)
  unfolding found_in
  list no_items h = none
  list (item d ds) h = All-append P (references d) (found_in_items ds) h.0 (list ds h.1)

  by_name : (ms : Members) → All P (found_in_members ms) → AllMembers Named ms
  unfolding found_in
  by_name no_members h = tt
  by_name (member k d ms) h = let each = halves (references d) (found_in_members ms) h in (each.0, by_name ms each.1)

  names : (ms : Members) → AllMembers Named ms → All P (found_in_members ms)
  unfolding found_in
  names no_members h = none
  names (member k d ms) h = All-append P (references d) (found_in_members ms) h.0 (names ms h.1)

  merged : (ms ns : Members) → All P (found_in_members ms) → All P (found_in_members ns)
      → All P (found_in_members (put_members ns ms))
  merged ms ns first second =
      names (put_members ns ms) (all_put_members Named ns ms (by_name ns second) (by_name ms first))

  by_keyword : IsByKeyword Refers RefersAt
  unfolding found_in
  by_keyword = record {
    truth = λ b. none;
    parts = parts;
    whole = whole;
    schema = λ k d is. named k (codes "if") (codes "then") (codes "else") (λ x. RefersAt x d → Refers d)
        (λ h. h) (λ h. h) (λ h. h) is;
    under = λ k d is. named k (codes "if") (codes "then") (codes "else") (λ x. Refers d → RefersAt x d)
        (λ h. h) (λ h. h) (λ h. h) is;
    items = λ k ds is. named k (codes "allOf") (codes "anyOf") (codes "oneOf")
        (λ x. RefersAt x (array ds) → AllItems Refers ds) (items ds) (items ds) (items ds) is;
    list = λ k ds is. named k (codes "allOf") (codes "anyOf") (codes "oneOf")
        (λ x. AllItems Refers ds → RefersAt x (array ds)) (list ds) (list ds) (list ds) is;
    nothing = none;
    additional = none;
    unevaluated = none;
    renamed = λ d h. none;
    required = λ ds es first second. none;
    properties = merged;
    by_pattern = merged;
    unit = λ name. none;
  }

  -- under a `$ref` of both the first stays
  pub flattened-refers : (s o : Data) → All P (references s) → All P (references o) → All P (references (flattened s o))
  flattened-refers s o first second = flattened_kept Refers RefersAt by_keyword s o first second

  pub flattened_part-refers : (b : Bool) (s : Data) → All P (references s) → All P (references (flattened_part b s))
  flattened_part-refers b s h = part_kept Refers RefersAt by_keyword b s h

  pub opened_inside-refers : (s : Data) → All P (references s) → All P (references (opened_inside s))
  opened_inside-refers s h = opened_inside_kept Refers RefersAt by_keyword s h
