-- What the members of an object say, one after another, is the table that it says.
use Rattle.std.proofs.Common.{◌≡◌, ℕ, List, [], ◌∷◌, Bool, true, false, ◌&&◌, Option, Some, None, option_and_then, cond, codes, refl, ap, ◌∙◌, sym, subst}
use Rattle.schemagen_input.proofs.Words.{bytes_eq, Data, Items, Members, no_items, item, object, put, as_array, get, items_of, get_member-put, get_member-put_other, Text, is_listed, Row, has_only, are_listed, are_listed-put, number_in, needed_member, rows_in, is_complete, table_names, table_in, AreBegun, AreMembersOf, IsNoTable, IsListIn}
use Rattle.schemagen_input.specs.declared.listing.Listing.{Listing}
use Rattle.schemagen_input.specs.declared.table_members.TableMembers.{TableMembers}
use Rattle.schemagen_input.proofs.OneMember.{other_name}
use Rattle.schemagen_input.proofs.RowByRow.{ends_so}

same_some : {A : Type 0} (x y : A) → Some x ≡ Some y → x ≡ y
same_some x y e = cc

-- ---- the table

rows_of_items : (o : Option Data) → option_and_then (λ e. option_and_then rows_in (as_array e)) o
    ≡ option_and_then rows_in (option_and_then as_array o)
rows_of_items None = refl
rows_of_items (Some e) = refl

-- the rows are missing, or incomplete
incomplete : (d : Data) (o : Option (List Row)) → needed_member (λ e. option_and_then rows_in (as_array e)) (codes "types") d ≡ o
    → ((rows : List Row) → o ≡ Some rows → is_complete rows ≡ false) → table_in d ≡ None
incomplete d o is none = rw is (by (has_only table_names d) o (needed_member number_in (codes "root") d) none)
  where
    by : (b : Bool) (o : Option (List Row)) (r : Option ℕ) → ((rows : List Row) → o ≡ Some rows → is_complete rows ≡ false)
        → cond b (option_and_then (λ rows. option_and_then {U = List Row × ℕ} (λ root. cond (is_complete rows) (Some (rows, root)) None) r) o) None ≡ None
    by false o r none = refl
    by true None r none = refl
    by true (Some rows) None none = refl
    by true (Some rows) (Some root) none = rw (none rows refl) refl

is_no_table : (d : Data) (ds : List Data) → option_and_then as_array (get (codes "types") d) ≡ Some (items_of ds) → IsNoTable ds
    → table_in d ≡ None
is_no_table d ds is none =
    incomplete d (rows_in (items_of ds)) (rows_of_items (get (codes "types") d) ∙ ap (option_and_then rows_in) is) none

-- each list of items is one of values
listed : (is : Items) → (ds : List Data) × (is ≡ items_of ds)
listed no_items = ([], refl)
listed (item d is) = let rest = listed is in (d ∷ rest.0, ap (item d) rest.1)

pub has_no_list : (d : Data) → IsListIn None (get (codes "types") d) → table_in d ≡ None
has_no_list d none = by (option_and_then as_array (get (codes "types") d)) refl
  where
    by : (o : Option Items) → option_and_then as_array (get (codes "types") d) ≡ o → table_in d ≡ None
    by None is = incomplete d None (rows_of_items (get (codes "types") d) ∙ ap (option_and_then rows_in) is) (λ rows e. cc)
    by (Some items) is = let l = listed items in let there = is ∙ ap Some l.1 in is_no_table d l.0 there (none l.0 there)

same_rows : (p q : List Row × ℕ) → Some p ≡ Some q → p.0 ≡ q.0
same_rows p q e = ap (λ (r : List Row × ℕ). r.0) (same_some p q e)

-- the rows of a table are those of a list
pub rows_of_table : (d : Data) (rows : List Row) (root : ℕ) → table_in d ≡ Some (rows, root) → (is : Items) × (rows_in is ≡ Some rows)
rows_of_table d rows root e =
    by (has_only table_names d) (get (codes "types") d) (needed_member number_in (codes "root") d) e
  where
    complete : (is : Items) (qs : List Row) (b : Bool) (k : ℕ) → rows_in is ≡ Some qs → cond {A = Option (List Row × ℕ)} b (Some (qs, k)) None ≡ Some (rows, root)
        → (is : Items) × (rows_in is ≡ Some rows)
    complete is qs true k said e = (is, said ∙ ap Some (same_rows (qs, k) (rows, root) e))
    complete is qs false k said e = cc

    of_items : (is : Items) (o : Option (List Row)) (r : Option ℕ) → rows_in is ≡ o
        → option_and_then (λ qs. option_and_then {U = List Row × ℕ} (λ k. cond {A = Option (List Row × ℕ)} (is_complete qs) (Some (qs, k)) None) r) o ≡ Some (rows, root)
        → (is : Items) × (rows_in is ≡ Some rows)
    of_items is None r said e = cc
    of_items is (Some qs) None said e = cc
    of_items is (Some qs) (Some k) said e = complete is qs (is_complete qs) k said e

    of_list : (o : Option Items) (r : Option ℕ)
        → option_and_then (λ qs. option_and_then {U = List Row × ℕ} (λ k. cond {A = Option (List Row × ℕ)} (is_complete qs) (Some (qs, k)) None) r)
        (option_and_then rows_in o) ≡ Some (rows, root) → (is : Items) × (rows_in is ≡ Some rows)
    of_list None r e = cc
    of_list (Some is) r e = of_items is (rows_in is) r refl e

    by : (b : Bool) (o : Option Data) (r : Option ℕ)
        → cond b (option_and_then (λ qs. option_and_then {U = List Row × ℕ} (λ k. cond {A = Option (List Row × ℕ)} (is_complete qs) (Some (qs, k)) None) r)
        (option_and_then (λ d. option_and_then rows_in (as_array d)) o)) None ≡ Some (rows, root)
        → (is : Items) × (rows_in is ≡ Some rows)
    by false o r e = cc
    by true None r e = cc
    by true (Some d) r e = of_list (as_array d) r e

-- ---- the list of the rows

pub list_in : (listing : Option Listing) (o : Option Data) (ds : List Data) → option_and_then as_array o ≡ Some (items_of ds)
    → AreBegun listing ds → IsListIn listing o
list_in (Some l) o ds is begun = (ds, is, begun)
list_in None o ds is begun = λ es e rows r.
    ends_so ds begun rows (ap rows_in (same_some (items_of ds) (items_of es) (sym is ∙ e)) ∙ r)

-- a value that is no list
pub not_listed : (d : Data) → as_array d ≡ None → IsListIn None (Some d)
not_listed d none ds is = cc

-- ---- one more member

abbrev pub AddsMember : Text → Data → TableMembers → TableMembers → Type 0
AddsMember k d old new = (ms : Members) → AreMembersOf old (object ms) → AreMembersOf new (object (put k d ms))

pub adds_types : (d : Data) (old : TableMembers) (listing : Option Listing) → IsListIn listing (Some d)
    → AddsMember (codes "types") d old (record old { listing = listing })
adds_types d old listing is ms found = record {
  only = found.only ∙ sym (are_listed-put table_names (codes "types") d ms);
  listing = subst (IsListIn listing) (sym (get_member-put (codes "types") d ms)) is;
  root = found.root ∙ ap (option_and_then number_in)
      (sym (get_member-put_other (codes "root") (codes "types") d ms (other_name (codes "types") (codes "root") refl)));
}

pub adds_root : (d : Data) (old : TableMembers) (root : Option ℕ) → root ≡ number_in d → AddsMember (codes "root") d old (record old { root = root })
adds_root d old root said ms found = record {
  only = found.only ∙ sym (are_listed-put table_names (codes "root") d ms);
  listing = subst (IsListIn old.listing)
      (sym (get_member-put_other (codes "types") (codes "root") d ms (other_name (codes "root") (codes "types") refl))) found.listing;
  root = said ∙ sym (ap (option_and_then number_in) (get_member-put (codes "root") d ms));
}

-- a member that is known and says nothing
pub adds_schema : (d : Data) (old : TableMembers) → AddsMember (codes "$schema") d old old
adds_schema d old ms found = record {
  only = found.only ∙ sym (are_listed-put table_names (codes "$schema") d ms);
  listing = subst (IsListIn old.listing)
      (sym (get_member-put_other (codes "types") (codes "$schema") d ms (other_name (codes "$schema") (codes "types") refl))) found.listing;
  root = found.root ∙ ap (option_and_then number_in)
      (sym (get_member-put_other (codes "root") (codes "$schema") d ms (other_name (codes "$schema") (codes "root") refl)));
}

pub adds_other : (k : Text) (d : Data) (old : TableMembers) → bytes_eq k (codes "types") ≡ false → bytes_eq k (codes "root") ≡ false
    → bytes_eq k (codes "$schema") ≡ false → AddsMember k d old (record old { only = false })
adds_other k d old types root schema ms found =
    let none : is_listed k table_names ≡ false = rw (types, root, schema) refl in
    record {
      only = sym (are_listed-put table_names k d ms ∙ ap (λ b. b && are_listed table_names ms) none);
      listing = subst (IsListIn old.listing) (sym (get_member-put_other (codes "types") k d ms (other_name k (codes "types") types))) found.listing;
      root = found.root ∙ ap (option_and_then number_in)
          (sym (get_member-put_other (codes "root") k d ms (other_name k (codes "root") root)));
    }
