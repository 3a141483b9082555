-- What `nullable` makes of a `type` of one name and null.
use Rattle.std.proofs.Common.{◌≡◌, Some, true, codes, refl, sym, ap, ◌∙◌}
use Rattle.schemars_parts.proofs.Words.{Option, Data, boolean, string, array, object, Items, no_items, item, Members, put, get_member, get_member-put_other, Text, inserted, replaced, without, IsSorted, nulls_in, type_without_null, null_taken_out, null_among, nullable_by, with_nullable, IsBesideNull}
use Rattle.schemars_transform.specs.declared.built_in.nullable.AddNullable.{AddNullable}
use Rattle.schemars_parts.proofs.Changed.{put-again}

by_types : (t : AddNullable) (ms : Members) (o : Option Data) → get_member (codes "type") ms ≡ o
    → with_nullable t (object ms) ≡ nullable_by t (nulls_in o) (object ms)
by_types t ms o is = ap (λ x. nullable_by t (nulls_in x) (object ms)) is

-- null beside one name
pub null_beside : (t : AddNullable) (name : Text) (ds : Items) (ms mid left new : Members) → t.remove_null_type ≡ true
    → mid ≡ put (codes "nullable") (boolean true) ms → Some (array ds) ≡ get_member (codes "type") mid → IsSorted mid
    → left ≡ without (codes "type") mid → IsBesideNull name ds → new ≡ put (codes "type") (string name) left
    → object new ≡ with_nullable t (object ms)
null_beside t name ds ms mid left new removes is found sorted rest beside made =
    let types : Items = item (string name) (item (string (codes "null")) no_items) in
    let there : get_member (codes "type") mid ≡ Some (array types) = sym found ∙ ap (λ x. Some (array x)) beside.0 in
    let other : get_member (codes "type") (put (codes "nullable") (boolean true) ms) ≡ get_member (codes "type") ms =
    get_member-put_other (codes "type") (codes "nullable") (boolean true) ms (λ same. cc) in
    let before : get_member (codes "type") ms ≡ Some (array types) = sym other ∙ (ap (get_member (codes "type")) (sym is) ∙ there) in
    let among : nullable_by t (nulls_in (Some (array types))) (object ms) ≡ null_among t (inserted (codes "nullable") (boolean true) (object ms)) =
    rw beside.1 refl in
    let taken : null_among t (object mid) ≡ null_taken_out (get_member (codes "type") mid) (object mid) = rw removes refl in
    let left_over : type_without_null (array types) ≡ string name = rw beside.1 refl in
    let changed : new ≡ replaced (codes "type") (string name) mid =
    made ∙ (ap (put (codes "type") (string name)) rest ∙ put-again (codes "type") (string name) (array ds) mid sorted found) in
    ap object changed
    ∙ (ap (λ d. object (replaced (codes "type") d mid)) (sym left_over)
    ∙ (ap (λ o. null_taken_out o (object mid)) (sym there)
    ∙ (sym taken
    ∙ (ap (λ x. null_among t (object x)) is
    ∙ (sym among ∙ sym (by_types t ms (Some (array types)) before))))))
