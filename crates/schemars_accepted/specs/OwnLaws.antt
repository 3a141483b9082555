-- The rows of structs and enums of one's own, in a table whose rows are as a dictionary tells.
use Rattle.std.proofs.Common.{◌≡◌, ℕ, List, [], ◌∷◌, Bool, true, false, Option, Some, refl, sym, ap, ◌∙◌, subst, if◌then◌else◌}
use Rattle.std.proofs.lemmas.Slice.Eq.{bytes_eq-Decides}
use Rattle.std.specs.Str.{bytes_eq}
use Rattle.schemars_schema.specs.Json.{Text}
use Rattle.schemars_shapes.specs.Shape.{Entry, Field, Tagging, seq, option, struct, enum, bare_fields, without_notes}
use Rattle.schemars_types.specs.Rows.{Row, place_of}
use Rattle.schemars_types.specs.Faults.{IsChecked}
use Rattle.schemars_written.specs.Fits.{HasShape, HasFields}
use Rattle.schemars_impls.specs.Describes.{places_of, IsMade}
use Rattle.schemars_impls.specs.Dictionary.{Dictionary, TypeRow, IsLeft, IsNamed, Pending, staged, told_of, of_one}
use Rattle.schemars_impls.specs.Containers.{seq_row, option_row}
use Rattle.schemars_impls.specs.OwnRows.{called, IsMadeOf, IsSeqOf, IsOptionOf}
use Rattle.schemars_types.specs.Names.{seq_id, option_id}
use Rattle.schemars_accepted.specs.Told.{Tells, AreAsTold}
use Rattle.schemars_accepted.specs.Laws.{is_told, one_row, row_of, next_place, made_of_all}
use Rattle.schemars_accepted.specs.Numbered.{number_in, of_ids, AreNumbers, field_ids, fields_by, fields_made, FieldTold, own_as, variant_ids, variants_by, variants_made, VariantTold}

-- ---- the numbers of ids

number_head : (id : Text) (ids : List Text) (n : ℕ) (ns : List ℕ) → number_in id (id ∷ ids) (n ∷ ns) ≡ n
number_head id ids n ns = rw ((bytes_eq-Decides id id).1 refl) refl

-- behind a first id, each has its number still
behind : (rows : List Row) (i : Text) (n : ℕ) (is : List Text) (ns : List ℕ) → place_of i rows ≡ Some n → (ids : List Text)
    → AreNumbers rows (λ id. number_in id is ns) ids → AreNumbers rows (λ id. number_in id (i ∷ is) (n ∷ ns)) ids
behind rows i n is ns there [] are = tt
behind rows i n is ns there (id ∷ ids) are = (by (bytes_eq i id) refl, behind rows i n is ns there ids are.1)
  where
    by : (b : Bool) → bytes_eq i id ≡ b → place_of id rows ≡ Some (if b then n else number_in id is ns)
    by true same = subst (λ t. place_of t rows ≡ Some n) ((bytes_eq-Decides i id).0 same) there
    by false other = are.0

pub are_numbers : (rows : List Row) (ids : List Text) (ns : List ℕ) → places_of ids rows ≡ Some ns
    → AreNumbers rows (λ id. number_in id ids ns) ids
are_numbers rows [] ns placed = tt
are_numbers rows (id ∷ ids) ns placed =
    let p = next_place id ids rows ns placed in
    subst (λ ks. AreNumbers rows (λ i. number_in i (id ∷ ids) ks) (id ∷ ids)) (sym p.4)
    (p.2 ∙ ap Some (sym (number_head id ids p.0 p.1)), behind rows id p.0 ids p.1 p.2 ids (are_numbers rows ids p.1 p.3))

-- what is made of the numbers of ids
pub made_of_ids : (ids : List Text) (make : (Text → ℕ) → Entry) (rows : List Row) (e : Entry) → IsMade (of_ids ids make) rows e
    → (number : Text → ℕ) × AreNumbers rows number ids × (e ≡ make number)
made_of_ids ids make rows e made =
    let p = made_of_all (λ ns. make (λ id. number_in id ids ns)) (places_of ids rows) e made in
    ((λ id. number_in id ids p.0), are_numbers rows ids p.0 p.1, p.2)

-- ---- structs

-- The row is a struct with these fields, if that is said of fields whose types have the numbers of their ids.
pub fields_row_at : (name : Text) (closed : Bool) (list : List FieldTold) (parts : Dictionary → Type 0) (F : List Field → Type 0)
    (d : Dictionary) (rows : List Row) (n : ℕ) → Tells (own_as name (fields_made closed list) parts) d → AreAsTold d.told rows
    → IsChecked rows → place_of name rows ≡ Some n
    → ((number : Text → ℕ) → AreNumbers rows number (field_ids list) → F (fields_by number list)) → HasFields rows n F
unfolding fields_made
fields_row_at name closed list parts F d rows n tells are checked there hold =
    let r = row_of (own_as name (fields_made closed list) parts) d rows n tells are checked there in
    let p = made_of_ids (field_ids list) (λ number. without_notes false (struct (bare_fields (fields_by number list) closed)))
    rows r.described.given r.described.made in (
      fields_by p.0 list,
      closed,
      (r.entry, r.is, ap (λ (e : Entry). e.shape) r.described.is ∙ ap (λ (e : Entry). e.shape) p.2),
      hold p.0 p.1,
    )

-- ---- enums

-- The row is an enum with these variants, whose types have the numbers of their ids.
pub variants_row_at : (name : Text) (tagging : Tagging) (list : List VariantTold) (parts : Dictionary → Type 0) (d : Dictionary)
    (rows : List Row) (n : ℕ) → Tells (own_as name (variants_made tagging list) parts) d → AreAsTold d.told rows
    → IsChecked rows → place_of name rows ≡ Some n
    → (number : Text → ℕ) × HasShape rows n (enum tagging (variants_by number list)) × AreNumbers rows number (variant_ids list)
unfolding variants_made
variants_row_at name tagging list parts d rows n tells are checked there =
    let r = row_of (own_as name (variants_made tagging list) parts) d rows n tells are checked there in
    let p = made_of_ids (variant_ids list) (λ number. without_notes false (enum tagging (variants_by number list)))
    rows r.described.given r.described.made in
    (p.0, (r.entry, r.is, ap (λ (e : Entry). e.shape) r.described.is ∙ ap (λ (e : Entry). e.shape) p.2), p.1)

-- ---- rows that are made of a type's own

own_is_pending : (id : Text) (d : Dictionary) → (staged id Pending d).stage id ≡ Pending
own_is_pending id d = rw ((bytes_eq-Decides id id).1 refl) refl

made_of_own : (t made : TypeRow) (d : Dictionary) → Tells t d → Tells made (staged t.id Pending d)
    → IsMadeOf made t.id t.name (staged t.id Pending d)
made_of_own t made d tells list = record {
  own = record {
    left = subst IsLeft (sym (own_is_pending t.id d)) tt;
    named = subst (λ o. IsNamed o t.name) (sym tells.told) refl;
  };
  told = is_told (d.told made.id) made list.told;
  part = λ some. record { told = told_of t; is = tells.told; named = refl };
}

same_place : (o : Option ℕ) (k n : ℕ) → o ≡ Some k → o ≡ Some n → k ≡ n
same_place o k n one other = cc

-- lists of the type itself are in a dictionary that tells them, and their row is that of lists of the type's own
pub own_seq_in : (t : TypeRow) (d : Dictionary) → Tells t d → Tells (seq_row (called t.id t.name)) (staged t.id Pending d)
    → IsSeqOf t.id t.name (staged t.id Pending d)
unfolding IsSeqOf
own_seq_in t d tells list = made_of_own t (seq_row (called t.id t.name)) d tells list

pub own_seq_at : (t : TypeRow) (d : Dictionary) (rows : List Row) (n m : ℕ) → Tells (seq_row (called t.id t.name)) d → AreAsTold d.told rows
    → IsChecked rows → place_of t.id rows ≡ Some n → place_of (seq_id t.id) rows ≡ Some m → HasShape rows m (seq n)
unfolding seq_row of_one
own_seq_at t d rows n m list are checked own there =
    let r = one_row _ _ _ seq (called t.id t.name) d rows m list are checked there in
    subst (λ k. HasShape rows m (seq k)) (same_place (place_of t.id rows) r.0 n r.1 own) r.2

-- the same of Options of it
pub own_option_in : (t : TypeRow) (d : Dictionary) → Tells t d → Tells (option_row (called t.id t.name)) (staged t.id Pending d)
    → IsOptionOf t.id t.name (staged t.id Pending d)
unfolding IsOptionOf
own_option_in t d tells list = made_of_own t (option_row (called t.id t.name)) d tells list

pub own_option_at : (t : TypeRow) (d : Dictionary) (rows : List Row) (n m : ℕ) → Tells (option_row (called t.id t.name)) d
    → AreAsTold d.told rows → IsChecked rows → place_of t.id rows ≡ Some n → place_of (option_id t.id) rows ≡ Some m
    → HasShape rows m (option n)
unfolding option_row of_one
own_option_at t d rows n m list are checked own there =
    let r = one_row _ _ _ option (called t.id t.name) d rows m list are checked there in
    subst (λ k. HasShape rows m (option k)) (same_place (place_of t.id rows) r.0 n r.1 own) r.2
