-- The keywords of a struct with those of what is flattened into it.
use Rattle.std.proofs.Common.{◌≡◌, List, [], ◌∷◌, ◌++◌, Option, Some, None, Bool, true, false, refl, sym, ap, ◌∙◌, subst, append-nil}
use Rattle.schemars_meaning.proofs.Words.{and-true, or-false, and_comm, bytes_eq-Decides, codes, bytes_eq, if◌then◌else◌, is_some, ◌&&◌, ◌||◌, Data, array, boolean, string, item, Members, put, get_member, items_of, get_member-put, get_member-put_other, Text, without, is_annotation, differ, get_member-without, IsSorted, sorted-put, sorted-without, united_all, appended, united_option, united_none, Keyword, VariantMatch, every_part, is_key_of_match, and_assoc, or_assoc, or_comm, keyword-plain, moved, moved_beside, contains_key, has_subschema}
use Rattle.schemars_flatten.specs.Flatten.{with_keywords}
use Rattle.schemars_meaning.proofs.MapKeywords.{sorted-with_keywords, closed_there, properties-united, required-united}
use Rattle.schemars_meaning.proofs.MapForm.{Keywords, look_up, HasKeywords}
use Rattle.schemars_meaning.proofs.Offers.{one_object}
use Rattle.schemars_meaning.proofs.StructForm.{Part, Parts, objects, all_in, one_in, choices_in, all_there, one_there, any_keywords, additional_there, unevaluated_there, additional_beside, unevaluated_beside, struct_keywords, every_part-append, claims-append}
use Rattle.schemars_meaning.proofs.Joining.{without-here, one_left, with_both, Joined, joined}

-- members in order, with these look-ups at every name that is no annotation
pub record IsForm (x : Keywords) (ms : Members) : Type 0 where
  pub sorted : IsSorted ms
  pub at : (k : Text) → is_annotation k ≡ false → get_member k ms ≡ look_up x k

pub form-keywords : (x : Keywords) (ms : Members) → IsForm x ms → HasKeywords x ms
form-keywords x ms is k key = is.at k (keyword-plain k key)

-- ---- parts of both sides

abbrev pub pair : Option Part → Option Part → List Part
pair None o = []
pair (Some p) None = []
pair (Some p) (Some q) = p ∷ q ∷ []

abbrev pub rest : Option Part → Option Part → Option Part
rest None o = o
rest (Some p) None = Some p
rest (Some p) (Some q) = None

abbrev pub join : Parts → Parts → Parts
join ps qs = record { all = (ps.all ++ qs.all) ++ pair ps.one qs.one; one = rest ps.one qs.one }

all_in-append : (ps qs : List Part) → all_in (ps ++ qs) ≡ all_in ps ++ all_in qs
all_in-append [] qs = refl
all_in-append (p ∷ ps) qs = ap (λ xs. p.choices ∷ xs) (all_in-append ps qs)

-- in another order
module _ (f : List (List VariantMatch) → Bool) (e : Bool) (op : Bool → Bool → Bool)
    (unit_left : (b : Bool) → op e b ≡ b) (unit_right : (b : Bool) → op b e ≡ b)
    (assoc : (a b d : Bool) → op (op a b) d ≡ op a (op b d)) (swap : (a b : Bool) → op a b ≡ op b a)
    (f_nil : f [] ≡ e) (f_append : (xs ys : List (List VariantMatch)) → f (xs ++ ys) ≡ op (f xs) (f ys)) where
  reorder : (a b d g : Bool) → op (op (op a b) d) g ≡ op (op a d) (op b g)
  reorder a b d g =
      ap (λ x. op x g) (assoc a b d ∙ (ap (op a) (swap b d) ∙ sym (assoc a d b)))
      ∙ assoc (op a d) b g

  parts_swapped : (o q : Option Part) → f (all_in (pair o q) ++ one_in (rest o q)) ≡ op (f (one_in o)) (f (one_in q))
  parts_swapped None q = sym (ap (λ x. op x (f (one_in q))) f_nil ∙ unit_left (f (one_in q)))
  parts_swapped (Some p) None = sym (ap (op (f (p.choices ∷ []))) f_nil ∙ unit_right (f (p.choices ∷ [])))
  parts_swapped (Some p) (Some q) = f_append (p.choices ∷ []) (q.choices ∷ [])

  pub join_same : (ps qs : Parts) → f (choices_in (join ps qs)) ≡ op (f (choices_in ps)) (f (choices_in qs))
  join_same ps qs =
      let A = all_in ps.all in
      let B = all_in qs.all in
      let C = all_in (pair ps.one qs.one) in
      let D = one_in (rest ps.one qs.one) in
      let split : all_in ((ps.all ++ qs.all) ++ pair ps.one qs.one) ≡ (A ++ B) ++ C =
      all_in-append (ps.all ++ qs.all) (pair ps.one qs.one) ∙ ap (λ xs. xs ++ C) (all_in-append ps.all qs.all) in
      ap (λ xs. f (xs ++ D)) split
      ∙ (f_append ((A ++ B) ++ C) D
      ∙ (ap (λ b. op b (f D)) (f_append (A ++ B) C ∙ ap (λ b. op b (f C)) (f_append A B))
      ∙ (assoc (op (f A) (f B)) (f C) (f D)
      ∙ (ap (op (op (f A) (f B))) (sym (f_append C D) ∙ parts_swapped ps.one qs.one)
      ∙ (sym (assoc (op (f A) (f B)) (f (one_in ps.one)) (f (one_in qs.one)))
      ∙ (reorder (f A) (f B) (f (one_in ps.one)) (f (one_in qs.one))
      ∙ (λ i. op (sym (f_append A (one_in ps.one)) i) (sym (f_append B (one_in qs.one)) i))))))))

pub join_every : (ps qs : Parts) → every_part (choices_in (join ps qs)) ≡ every_part (choices_in ps) && every_part (choices_in qs)
join_every ps qs = join_same every_part true (λ a b. a && b) (λ b. refl) and-true and_assoc and_comm refl every_part-append ps qs

pub join_claims : (ps qs : Parts) (k : Text) → is_key_of_match (choices_in (join ps qs)) k ≡ is_key_of_match (choices_in ps) k || is_key_of_match (choices_in qs) k
join_claims ps qs k =
    join_same (λ xs. is_key_of_match xs k) false (λ a b. a || b) (λ b. refl) or-false or_assoc or_comm refl
    (λ xs ys. claims-append xs ys k) ps qs

-- ---- the keyword for the rest

-- at each name that a struct has, and at each other one
pub by_seven : (P : Text → Type 0) → P (codes "type") → P (codes "properties") → P (codes "required") → P (codes "additionalProperties")
    → P (codes "allOf") → P (codes "oneOf") → P (codes "unevaluatedProperties")
    → ((q : Text) → bytes_eq q (codes "type") ≡ false → bytes_eq q (codes "properties") ≡ false → bytes_eq q (codes "required") ≡ false
    → bytes_eq q (codes "additionalProperties") ≡ false → bytes_eq q (codes "allOf") ≡ false → bytes_eq q (codes "oneOf") ≡ false
    → bytes_eq q (codes "unevaluatedProperties") ≡ false → P q)
    → (q : Text) → P q
by_seven P type properties required closed all one rest other q = go _ _ _ _ _ _ _ refl refl refl refl refl refl refl
  where
    at : (k : Text) → bytes_eq q k ≡ true → P k → P q
    at k is h = subst P (sym ((bytes_eq-Decides q k).0 is)) h

    go : (t p r c a o u : Bool) → bytes_eq q (codes "type") ≡ t → bytes_eq q (codes "properties") ≡ p → bytes_eq q (codes "required") ≡ r
        → bytes_eq q (codes "additionalProperties") ≡ c → bytes_eq q (codes "allOf") ≡ a → bytes_eq q (codes "oneOf") ≡ o
        → bytes_eq q (codes "unevaluatedProperties") ≡ u → P q
    go true p r c a o u is_t is_p is_r is_c is_a is_o is_u = at (codes "type") is_t type
    go false true r c a o u is_t is_p is_r is_c is_a is_o is_u = at (codes "properties") is_p properties
    go false false true c a o u is_t is_p is_r is_c is_a is_o is_u = at (codes "required") is_r required
    go false false false true a o u is_t is_p is_r is_c is_a is_o is_u = at (codes "additionalProperties") is_c closed
    go false false false false true o u is_t is_p is_r is_c is_a is_o is_u = at (codes "allOf") is_a all
    go false false false false false true u is_t is_p is_r is_c is_a is_o is_u = at (codes "oneOf") is_o one
    go false false false false false false true is_t is_p is_r is_c is_a is_o is_u = at (codes "unevaluatedProperties") is_u rest
    go false false false false false false false is_t is_p is_r is_c is_a is_o is_u = other q is_t is_p is_r is_c is_a is_o is_u

pub look_up-other : (x : Keywords) (q : Text) → bytes_eq q (codes "type") ≡ false → bytes_eq q (codes "properties") ≡ false
    → bytes_eq q (codes "required") ≡ false → bytes_eq q (codes "additionalProperties") ≡ false → bytes_eq q (codes "allOf") ≡ false
    → bytes_eq q (codes "oneOf") ≡ false → bytes_eq q (codes "unevaluatedProperties") ≡ false → look_up x q ≡ None
look_up-other x q t p r c a o u = rw (t, p, r, c, a, o, u) refl

-- what a part has: no keyword for the rest
abbrev pub part_keywords : Option Data → List Keyword → List Text → Parts → Keywords
part_keywords t es ns ps = any_keywords t es ns ps None None

-- a struct's keywords once further members are let in beside a choice of the other side
abbrev beside_choice : Bool → List Keyword → List Text → Parts → Bool → Keywords
beside_choice b es ns ps closed =
    any_keywords (Some (string (codes "object"))) es ns ps (if b then None else additional_there ps closed)
    (if b then closed_there closed else unevaluated_there ps closed)

abbrev pub has_parts : Parts → Bool
has_parts ps = is_some (all_there ps.all) || (is_some (one_there ps.one) || false)

module _ (es : List Keyword) (ns : List Text) (ps : Parts) (closed : Bool) (ms : Members)
    (form : IsForm (struct_keywords es ns ps closed) ms) where
  closed_either : (o : Option Data) → additional_there ps closed ≡ o
      → (o ≡ None → unevaluated_there ps closed ≡ closed_there closed) × ((d : Data) → o ≡ Some d → closed_there closed ≡ Some d)
  unfolding closed_there
  closed_either o is = go ps.all ps.one closed o is
    where
      go : (a : List Part) (q : Option Part) (b : Bool) (o : Option Data) → additional_beside a q b ≡ o
          → (o ≡ None → unevaluated_beside a q b ≡ closed_there b) × ((d : Data) → o ≡ Some d → closed_there b ≡ Some d)
      go [] None false o is = (λ e. refl, λ d e. is ∙ e)
      go [] None true o is = (λ e. let other : Some (boolean false) ≡ None = is ∙ e in cc, λ d e. is ∙ e)
      go [] (Some p) b o is = (λ e. refl, λ d e. let other : None ≡ Some d = is ∙ e in cc)
      go (p ∷ a) q b o is = (λ e. refl, λ d e. let other : None ≡ Some d = is ∙ e in cc)

  moved_form : IsForm (beside_choice true es ns ps closed) (moved ms)
  moved_form = go (get_member (codes "additionalProperties") ms) (sym (form.at (codes "additionalProperties") refl))
    where
      go : (o : Option Data) → additional_there ps closed ≡ o
          → IsForm (beside_choice true es ns ps closed) (elim o [
            | None ↦ ms
            | Some d ↦ put (codes "unevaluatedProperties") d (without (codes "additionalProperties") ms)
          ])
      go None is = record {
        sorted = form.sorted;
        at = by_seven (λ q. is_annotation q ≡ false → get_member q ms ≡ look_up (beside_choice true es ns ps closed) q)
            (form.at (codes "type")) (form.at (codes "properties")) (form.at (codes "required"))
            (λ e. form.at (codes "additionalProperties") e ∙ is) (form.at (codes "allOf")) (form.at (codes "oneOf"))
            (λ e. form.at (codes "unevaluatedProperties") e ∙ (closed_either None is).0 refl)
            (λ q t p r c a o u e. form.at q e ∙ (look_up-other (struct_keywords es ns ps closed) q t p r c a o u
            ∙ sym (look_up-other (beside_choice true es ns ps closed) q t p r c a o u)));
      }
      go (Some d) is =
          let new : Members = put (codes "unevaluatedProperties") d (without (codes "additionalProperties") ms) in
          let same : (q : Text) → bytes_eq q (codes "unevaluatedProperties") ≡ false → bytes_eq q (codes "additionalProperties") ≡ false
          → is_annotation q ≡ false → get_member q new ≡ look_up (struct_keywords es ns ps closed) q =
          λ q u c e. get_member-put_other q (codes "unevaluatedProperties") d (without (codes "additionalProperties") ms)
          (differ q (codes "unevaluatedProperties") u) ∙ (get_member-without q (codes "additionalProperties") ms c ∙ form.at q e) in
          record {
            sorted = sorted-put (codes "unevaluatedProperties") d _ (sorted-without (codes "additionalProperties") ms form.sorted);
            at = by_seven (λ q. is_annotation q ≡ false → get_member q new ≡ look_up (beside_choice true es ns ps closed) q)
                (same (codes "type") refl refl) (same (codes "properties") refl refl) (same (codes "required") refl refl)
                (λ e. get_member-put_other (codes "additionalProperties") (codes "unevaluatedProperties") d
                (without (codes "additionalProperties") ms) (differ (codes "additionalProperties") (codes "unevaluatedProperties") refl)
                ∙ without-here (codes "additionalProperties") ms form.sorted)
                (same (codes "allOf") refl refl) (same (codes "oneOf") refl refl)
                (λ e. get_member-put (codes "unevaluatedProperties") d (without (codes "additionalProperties") ms)
                ∙ sym ((closed_either (Some d) is).1 d refl))
                (λ q t p r c a o u e. same q u c e ∙ (look_up-other (struct_keywords es ns ps closed) q t p r c a o u
                ∙ sym (look_up-other (beside_choice true es ns ps closed) q t p r c a o u)));
          }

  left_form : (b : Bool) → IsForm (beside_choice b es ns ps closed) (if b then moved ms else ms)
  left_form true = moved_form
  left_form false = form

-- ---- each keyword of both sides

appended-objects : (ps qs : List Part) → appended (items_of (objects ps)) (items_of (objects qs)) ≡ items_of (objects (ps ++ qs))
appended-objects [] qs = refl
appended-objects (p ∷ ps) qs = ap (item (one_object p.items)) (appended-objects ps qs)

all_united : (ps qs : List Part) → united_option (codes "allOf") (all_there ps) (all_there qs) ≡ all_there (ps ++ qs)
unfolding all_there
all_united [] qs = refl
all_united (p ∷ ps) [] = ap all_there (sym (append-nil (p ∷ ps)))
all_united (p ∷ ps) (q ∷ qs) = ap (λ ds. Some (array ds)) (appended-objects (p ∷ ps) (q ∷ qs))

pair_united : (x : List Part) (o q : Option Part) → with_both (one_there o) (one_there q) (all_there x) ≡ all_there (x ++ pair o q)
unfolding one_there all_there
pair_united x None q = ap all_there (sym (append-nil x))
pair_united x (Some p) None = ap all_there (sym (append-nil x))
pair_united x (Some p) (Some q) = all_united x (p ∷ q ∷ [])

one_united : (o q : Option Part) → one_left (one_there o) (one_there q) ≡ one_there (rest o q)
unfolding one_there
one_united None q = refl
one_united (Some p) None = refl
one_united (Some p) (Some q) = refl

type_united : (t : Option Data) → united_option (codes "type") (Some (string (codes "object"))) t ≡ Some (string (codes "object"))
type_united None = refl
type_united (Some d) = refl

additional_joined : (a : List Part) (o : Option Part) (b : List Part) (q : Option Part) (closed : Bool)
    → (if has_parts (record { all = b; one = q }) then None else additional_beside a o closed)
    ≡ additional_beside ((a ++ b) ++ pair o q) (rest o q) closed
unfolding all_there one_there
additional_joined a None [] None closed = ap (λ x. additional_beside x None closed) (sym (append-nil (a ++ []) ∙ append-nil a))
additional_joined a (Some p) [] None closed = ap (λ x. additional_beside x (Some p) closed) (sym (append-nil (a ++ []) ∙ append-nil a))
additional_joined [] None [] (Some q) closed = refl
additional_joined [] (Some p) [] (Some q) closed = refl
additional_joined (x ∷ a) o [] (Some q) closed = refl
additional_joined [] o (y ∷ b) q closed = refl
additional_joined (x ∷ a) o (y ∷ b) q closed = refl

unevaluated_joined : (a : List Part) (o : Option Part) (b : List Part) (q : Option Part) (closed : Bool)
    → (if has_parts (record { all = b; one = q }) then closed_there closed else unevaluated_beside a o closed)
    ≡ unevaluated_beside ((a ++ b) ++ pair o q) (rest o q) closed
unfolding all_there one_there
unevaluated_joined a None [] None closed = ap (λ x. unevaluated_beside x None closed) (sym (append-nil (a ++ []) ∙ append-nil a))
unevaluated_joined a (Some p) [] None closed = ap (λ x. unevaluated_beside x (Some p) closed) (sym (append-nil (a ++ []) ∙ append-nil a))
unevaluated_joined [] None [] (Some q) closed = refl
unevaluated_joined [] (Some p) [] (Some q) closed = refl
unevaluated_joined (x ∷ a) o [] (Some q) closed = refl
unevaluated_joined [] o (y ∷ b) q closed = refl
unevaluated_joined (x ∷ a) o (y ∷ b) q closed = refl

-- ---- the whole

module _ (es1 : List Keyword) (ns1 : List Text) (ps1 : Parts) (closed : Bool) (m1 : Members)
    (form1 : IsForm (struct_keywords es1 ns1 ps1 closed) m1) (t : Option Data) (es2 : List Keyword) (ns2 : List Text) (ps2 : Parts)
    (m2 : Members) (form2 : IsForm (part_keywords t es2 ns2 ps2) m2) where
  abbrev y : Keywords
  y = part_keywords t es2 ns2 ps2

  abbrev whole : Keywords
  whole = struct_keywords (es1 ++ es2) (ns1 ++ ns2) (join ps1 ps2) closed

  -- the first side as the second finds it
  abbrev opened : Members
  opened = if has_parts ps2 then moved m1 else m1

  opened_same : moved_beside m2 m1 ≡ opened
  opened_same = rw (
    form2.at (codes "unevaluatedProperties") refl,
    form2.at (codes "if") refl,
    form2.at (codes "allOf") refl,
    form2.at (codes "anyOf") refl,
    form2.at (codes "oneOf") refl,
    form2.at (codes "$ref") refl,
  ) refl

  second_stays : (xs : Members) → moved_beside xs m2 ≡ m2
  second_stays xs = go (contains_key (codes "unevaluatedProperties") xs || has_subschema xs)
    where
      go : (b : Bool) → (if b then moved m2 else m2) ≡ m2
      go true = rw (form2.at (codes "additionalProperties") refl, moved) refl
      go false = refl

  united_same : united_all m1 m2 ≡ with_keywords m2 opened
  united_same =
      ap (λ xs. with_keywords xs (moved_beside m2 m1)) (second_stays (moved_beside m2 m1))
      ∙ ap (with_keywords m2) opened_same

  first : IsForm (beside_choice (has_parts ps2) es1 ns1 ps1 closed) opened
  first = left_form es1 ns1 ps1 closed m1 form1 (has_parts ps2)

  J : Joined m2 opened
  J = joined m2 opened form2.sorted first.sorted (form2.at (codes "anyOf") refl)

  abbrev At : Text → Type 0
  At q = is_annotation q ≡ false → get_member q (with_keywords m2 opened) ≡ look_up whole q

  here : (q : Text) → bytes_eq q (codes "oneOf") ≡ false → bytes_eq q (codes "allOf") ≡ false → is_annotation q ≡ false
      → (z : Option Data) → united_option q (look_up (beside_choice (has_parts ps2) es1 ns1 ps1 closed) q) (look_up y q) ≡ z
      → get_member q (with_keywords m2 opened) ≡ z
  here q no_one no_all e z is = J.beside q no_one no_all ∙ ((λ i. united_option q (first.at q e i) (form2.at q e i)) ∙ is)

  pub united_form : IsForm whole (united_all m1 m2)
  united_form = subst (IsForm whole) (sym united_same) (record {
    sorted = sorted-with_keywords m2 opened first.sorted;
    at = by_seven At
        (λ e. here (codes "type") refl refl e _ (type_united t))
        (λ e. here (codes "properties") refl refl e _ (properties-united es1 es2))
        (λ e. here (codes "required") refl refl e _ (required-united ns1 ns2))
        (λ e. here (codes "additionalProperties") refl refl e _
        (united_none (codes "additionalProperties") _ ∙ additional_joined ps1.all ps1.one ps2.all ps2.one closed))
        (λ e. J.at_all ∙ ((λ i. with_both (first.at (codes "oneOf") refl i) (form2.at (codes "oneOf") refl i)
        (united_option (codes "allOf") (first.at (codes "allOf") refl i) (form2.at (codes "allOf") refl i)))
        ∙ (ap (with_both (one_there ps1.one) (one_there ps2.one)) (all_united ps1.all ps2.all)
        ∙ pair_united (ps1.all ++ ps2.all) ps1.one ps2.one)))
        (λ e. J.at_one ∙ ((λ i. one_left (first.at (codes "oneOf") refl i) (form2.at (codes "oneOf") refl i))
        ∙ one_united ps1.one ps2.one))
        (λ e. here (codes "unevaluatedProperties") refl refl e _
        (united_none (codes "unevaluatedProperties") _ ∙ unevaluated_joined ps1.all ps1.one ps2.all ps2.one closed))
        (λ q t p r c a o u e. here q o a e _
        ((λ i. united_option q (look_up-other (beside_choice (has_parts ps2) es1 ns1 ps1 closed) q t p r c a o u i)
        (look_up-other y q t p r c a o u i)) ∙ sym (look_up-other whole q t p r c a o u)));
  })
