-- The members that values by name stand for, where one is looked up, added, replaced or removed.
use Rattle.std.proofs.Common.{◌≡◌, Bool, true, false, cond, List, [], ◌∷◌, String, Global, string_bytes, string_cmp, Option, Some, None, option_map, is_some, Ordering, Less, Equal, Greater, nat_cmp, is_eq, refl, sym, ap, ◌∙◌}
use Rattle.schemars_definitions.proofs.Words.{is_eq-slice_cmp, bytes_eq, if◌then◌else◌, All, string_eq, All-nil, All-cons, All-head, All-tail, insert_entry, slice_cmp, lookup, remove_entry, set_value, match_ordering, Data, put, get_member, Text, replaced, without, has_name, members_by, IsOrdered, AreOrdered}
use Rattle.indexmap.specs.IndexMap.{insert_entry as put_entry}
use Rattle.schemars_definitions.specs.declared.kept.Kept.{Kept}

-- nothing is replaced where nothing is found
pub set_value-absent : {K X : Type 0} (test : K → Bool) (es : List (K × X)) (v : X) → lookup test es ≡ None → set_value test es v ≡ es
set_value-absent test [] v absent = refl
set_value-absent test (e ∷ es) v absent = go (test e.0) absent (set_value-absent test es v)
  where
    go : (b : Bool) → cond b (Some e.1) (lookup test es) ≡ None → (lookup test es ≡ None → set_value test es v ≡ es)
        → cond b ((e.0, v) ∷ es) (e ∷ set_value test es v) ≡ e ∷ es
    go true absent later = cc
    go false absent later = ap (λ rest. e ∷ rest) (later absent)

module _ {X : Type 0} (data_of : X → Data) where
  found_or : (o : Ordering) (v : X) (rest : Option X) (d : Option Data) → option_map data_of rest ≡ d
      → option_map data_of (cond (is_eq o) (Some v) rest) ≡ match_ordering o d (Some (data_of v)) d
  found_or Less v rest d e = e
  found_or Equal v rest d e = refl
  found_or Greater v rest d e = e

  pub lookup-by : (name : Text) (es : List (String Global × X))
      → option_map data_of (lookup (has_name name) es) ≡ get_member name (members_by data_of es)
  lookup-by name [] = refl
  lookup-by name (e ∷ es) = found_or (slice_cmp nat_cmp name (string_bytes e.0)) e.1 _ _ (lookup-by name es)

  is_some-by : (o : Option X) → is_some (option_map data_of o) ≡ is_some o
  is_some-by None = refl
  is_some-by (Some x) = refl

  pub has_member-by : (name : Text) (es : List (String Global × X))
      → is_some (lookup (has_name name) es) ≡ is_some (get_member name (members_by data_of es))
  has_member-by name es = sym (is_some-by (lookup (has_name name) es)) ∙ ap is_some (lookup-by name es)

  pub put-by : (key : String Global) (v : X) (es : List (String Global × X))
      → members_by data_of (insert_entry string_cmp es key v) ≡ put (string_bytes key) (data_of v) (members_by data_of es)
  put-by key v [] = refl
  put-by key v (e ∷ es) = at (string_cmp key e.0) _ _ _ ∙ rw (put-by key v es)
    where
      at : (o : Ordering) (a b c : List (String Global × X)) → members_by data_of (match_ordering o a b c)
          ≡ match_ordering o (members_by data_of a) (members_by data_of b) (members_by data_of c)
      at Less a b c = refl
      at Equal a b c = refl
      at Greater a b c = refl

  either : (b c : Bool) (xs ys : List (String Global × X)) → b ≡ c
      → members_by data_of (cond b xs ys) ≡ (if c then members_by data_of xs else members_by data_of ys)
  either true c xs ys same = rw (← same) refl
  either false c xs ys same = rw (← same) refl

  pub replaced-by : (name : Text) (v : X) (es : List (String Global × X))
      → members_by data_of (set_value (has_name name) es v) ≡ replaced name (data_of v) (members_by data_of es)
  replaced-by name v [] = refl
  replaced-by name v (e ∷ es) =
      either _ (bytes_eq name (string_bytes e.0)) ((e.0, v) ∷ es) _ (is_eq-slice_cmp name (string_bytes e.0)) ∙ rw (replaced-by name v es) refl

  pub without-by : (name : Text) (es : List (String Global × X))
      → members_by data_of (remove_entry (has_name name) es) ≡ without name (members_by data_of es)
  without-by name [] = refl
  without-by name (e ∷ es) =
      either _ (bytes_eq name (string_bytes e.0)) es _ (is_eq-slice_cmp name (string_bytes e.0)) ∙ rw (without-by name es) refl

-- ---- texts that are kept

pub ordered-set : (made : Data → Data) (test : String Global → Bool) (v : Kept) (es : List (String Global × Kept))
    → IsOrdered made v → AreOrdered made es → AreOrdered made (set_value test es v)
ordered-set made test v [] h all = tt
ordered-set made test v (e ∷ es) h all = go (test e.0) (ordered-set made test v es h all.1)
  where
    go : (b : Bool) → AreOrdered made (set_value test es v) → AreOrdered made (cond b ((e.0, v) ∷ es) (e ∷ set_value test es v))
    go true later = (h, all.1)
    go false later = (all.0, later)

pub ordered-remove : (made : Data → Data) (test : String Global → Bool) (es : List (String Global × Kept)) → AreOrdered made es
    → AreOrdered made (remove_entry test es)
ordered-remove made test [] all = tt
ordered-remove made test (e ∷ es) all = go (test e.0) (ordered-remove made test es all.1)
  where
    go : (b : Bool) → AreOrdered made (remove_entry test es) → AreOrdered made (cond b es (e ∷ remove_entry test es))
    go true later = all.1
    go false later = (all.0, later)

pub ordered-put : (made : Data → Data) (key : String Global) (v : Kept) (es : List (String Global × Kept))
    → IsOrdered made v → AreOrdered made es → AreOrdered made (put_entry string_eq es key v)
ordered-put made key v [] h all = (h, tt)
ordered-put made key v (e ∷ es) h all = go (string_eq key e.0) (ordered-put made key v es h all.1)
  where
    go : (b : Bool) → AreOrdered made (put_entry string_eq es key v)
        → AreOrdered made (cond b ((e.0, v) ∷ es) (e ∷ put_entry string_eq es key v))
    go true later = (h, all.1)
    go false later = (all.0, later)

pub each_ordered : (made : Data → Data) (es : List (String Global × Kept)) → AreOrdered made es → All (λ e. IsOrdered made e.1) es
each_ordered made [] all = All-nil (λ e. IsOrdered made e.1)
each_ordered made (e ∷ es) all = All-cons (λ e. IsOrdered made e.1) e es all.0 (each_ordered made es all.1)

pub all_ordered : (made : Data → Data) (es : List (String Global × Kept)) → All (λ e. IsOrdered made e.1) es → AreOrdered made es
all_ordered made [] all = tt
all_ordered made (e ∷ es) all = (All-head (λ e. IsOrdered made e.1) e es all, all_ordered made es (All-tail (λ e. IsOrdered made e.1) e es all))
