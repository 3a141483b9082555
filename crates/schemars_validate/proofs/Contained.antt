-- What `contains` says and marks.
use Rattle.std.proofs.Common.{◌≡◌, ℕ, List, Bool, true, false, Option, Some, None, refl, sym, ap, ◌∙◌}
use Rattle.schemars_validate.proofs.Words.{◌&&◌, option_map, option_and_then, if◌then◌else◌, Data, null, boolean, number, string, array, object, Items, get_item, as_array, Yes, is_yes, Context, Judge, Part, key, position, where_some, contains_says, count_of_fitting, judged_by_contains, judge, read_data, schema_at, judge_at, positions_in, parts_of, marked, at_positions, fits_at, counted_says}
use Rattle.schemars_validate.proofs.Readings.{read_contains, read_schema}
use Rattle.schemars_validate.proofs.MarkedAlike.{marked_same, marked_none}

pub no_contains : (r counts : Bool) (c : Context) (x least most : Option Data) (v : Data) → None ≡ schema_at x
    → Yes ≡ contains_says r counts (option_map (read_data c) x) least most v
no_contains true counts c x least most v is =
    ap (λ o. where_some (judge_at c o) (λ s. where_some (as_array v) (λ vs. counted_says counts least most (count_of_fitting s vs)))) is
    ∙ read_contains true counts c x least most v
no_contains false counts c x least most v is = read_contains false counts c x least most v

pub contained : (r counts : Bool) (c : Context) (x least most : Option Data) (d v : Data) (vs : Items) (count : Option ℕ)
    → Some d ≡ schema_at x → Some vs ≡ as_array v → count ≡ count_of_fitting (judge c d) vs
    → (if r then counted_says counts least most count else Yes) ≡ contains_says r counts (option_map (read_data c) x) least most v
contained true counts c x least most d v vs count is items counted =
    ap (counted_says counts least most) counted
    ∙ (ap (λ o. where_some o (λ vs. counted_says counts least most (count_of_fitting (judge c d) vs))) items
    ∙ (ap (λ o. where_some (judge_at c o) (λ s. where_some (as_array v) (λ vs. counted_says counts least most (count_of_fitting s vs)))) is
    ∙ read_contains true counts c x least most v))
contained false counts c x least most d v vs count is items counted = read_contains false counts c x least most v

-- the items that a schema accepts, if there is one
abbrev accepted_at : Bool → Option Judge → Option Items → ℕ → Bool
accepted_at r o vs n = elim o [
  | None ↦ false
  | Some s ↦ r && elim (option_and_then (get_item n) vs) [ None ↦ false | Some w ↦ is_yes (s.fits w) ]
]

pub no_contains_marks : (r : Bool) (c : Context) (x : Option Data) (v : Data) (bs : List Bool) → None ≡ schema_at x
    → bs ≡ marked (at_positions (judged_by_contains r (option_map (read_data c) x) v)) (parts_of v) bs
no_contains_marks r c x v bs is = sym (marked_same _ (λ p. false) none (parts_of v) bs ∙ marked_none (parts_of v) bs)
  where
    none : (p : Part) → at_positions (judged_by_contains r (option_map (read_data c) x) v) p ≡ false
    none (key k) = refl
    none (position n) = ap (λ o. accepted_at r o (as_array v) n) (read_schema c x ∙ ap (judge_at c) (sym is))

list_parts : (v : Data) (vs : Items) → Some vs ≡ as_array v → positions_in 0 vs ≡ parts_of v
list_parts (array ds) vs is = let same : vs ≡ ds = cc in ap (positions_in 0) same
list_parts null vs is = cc
list_parts (boolean b) vs is = cc
list_parts (number n) vs is = cc
list_parts (string s) vs is = cc
list_parts (object ms) vs is = cc

pub contained_marks : (r : Bool) (c : Context) (x : Option Data) (d v : Data) (vs : Items) (m0 m1 : List Bool)
    → Some d ≡ schema_at x → Some vs ≡ as_array v → m1 ≡ marked (at_positions (fits_at r (judge c d) vs)) (positions_in 0 vs) m0
    → m1 ≡ marked (at_positions (judged_by_contains r (option_map (read_data c) x) v)) (parts_of v) m0
contained_marks r c x d v vs m0 m1 is items e =
    e ∙ (ap (λ ps. marked (at_positions (fits_at r (judge c d) vs)) ps m0) (list_parts v vs items)
    ∙ marked_same _ _ same (parts_of v) m0)
  where
    same : (p : Part) → at_positions (fits_at r (judge c d) vs) p ≡ at_positions (judged_by_contains r (option_map (read_data c) x) v) p
    same (key k) = refl
    same (position n) =
        ap (λ o. accepted_at r (Some (judge c d)) o n) items
        ∙ (ap (λ o. accepted_at r (judge_at c o) (as_array v) n) is
        ∙ sym (ap (λ o. accepted_at r o (as_array v) n) (read_schema c x)))
