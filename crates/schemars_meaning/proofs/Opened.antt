-- What becomes of the documents of maps and choices where they are parts of another object.
use Rattle.std.proofs.Common.{◌≡◌, List, [], ◌∷◌, map, Option, Some, None, Bool, true, false, option_map, refl, sym, ap, ◌∙◌, subst}
use Rattle.schemars_meaning.proofs.Words.{bytes_eq-Decides, codes, bytes_eq, Data, array, object, item, Members, no_members, member, get_member, items_of, Text, without, is_annotation, NoSchemas, get_member-later, get_member-here, get_member-without, IsSorted, sorted-without, opened, Keyword, IsAbove, form_at, forms, in_items, in_keywords, opening, opened_here, opened_at, same_object_place}
use Rattle.schemars_meaning.proofs.MapDocument.{AllNotes}
use Rattle.schemars_meaning.proofs.MapKeywords.{noted, noted-beside, sorted-noted, keywords, sorted-keywords, type-at, properties-at, required-at, closed-at, keyword-lacks, closed_there}
use Rattle.schemars_meaning.proofs.MapForm.{Keywords, look_up}
use Rattle.schemars_meaning.proofs.Offers.{one_object}
use Rattle.schemars_meaning.proofs.StructForm.{Part, Parts, objects, all_there, one_there, additional_there, unevaluated_there, additional_beside, unevaluated_beside, any_keywords, struct_keywords}
use Rattle.schemars_meaning.proofs.Joining.{without-here}
use Rattle.schemars_meaning.proofs.Uniting.{IsForm, by_seven, look_up-other, part_keywords}

-- ---- maps with notes

abbrev pub no_parts : Parts
no_parts = record { all = []; one = None }

pub map_form : (notes : List Members) (es : List Keyword) (r : List Text) (closed : Bool) → AllNotes notes
    → IsForm (struct_keywords es r no_parts closed) (noted notes (keywords es r closed))
unfolding all_there one_there
map_form notes es r closed all = record {
  sorted = sorted-noted notes (keywords es r closed) (sorted-keywords es r closed);
  at =
      by_seven (λ q. is_annotation q ≡ false → get_member q (noted notes (keywords es r closed)) ≡ look_up
      (struct_keywords es r no_parts closed) q)
      (λ e. here (codes "type") e _ (type-at es r closed)) (λ e. here (codes "properties") e _ (properties-at es r closed))
      (λ e. here (codes "required") e _ (required-at es r closed)) (λ e. here (codes "additionalProperties") e _ (closed-at es r closed))
      (λ e. here (codes "allOf") e _ (keyword-lacks (codes "allOf") refl refl refl refl es r closed))
      (λ e. here (codes "oneOf") e _ (keyword-lacks (codes "oneOf") refl refl refl refl es r closed))
      (λ e. here (codes "unevaluatedProperties") e _ (keyword-lacks (codes "unevaluatedProperties") refl refl refl refl es r closed))
      (λ q t p n c a o u e. here q e _ (keyword-lacks q t p n c es r closed)
      ∙ sym (look_up-other (struct_keywords es r no_parts closed) q t p n c a o u));
}
  where
    here : (q : Text) → is_annotation q ≡ false → (z : Option Data) → get_member q (keywords es r closed) ≡ z
        → get_member q (noted notes (keywords es r closed)) ≡ z
    here q e z is = noted-beside q notes (keywords es r closed) e all ∙ is

-- ---- the value of each name after opening

get_in_keywords : (k : Text) (ms : Members) → get_member k (in_keywords opening tt ms)
    ≡ option_map (λ d. form_at (same_object_place k) d (forms opening tt d)) (get_member k ms)
unfolding in_keywords
get_in_keywords k no_members = refl
get_in_keywords k (member l d ms) = go (bytes_eq k l) refl (get_in_keywords k ms)
  where
    go : (b : Bool) → bytes_eq k l ≡ b → get_member k (in_keywords opening tt ms)
        ≡ option_map (λ d. form_at (same_object_place k) d (forms opening tt d)) (get_member k ms)
        → get_member k (member l (form_at (same_object_place l) d (forms opening tt d)) (in_keywords opening tt ms))
        ≡ option_map (λ d. form_at (same_object_place k) d (forms opening tt d)) (get_member k (member l d ms))
    go true is later =
        let name = (bytes_eq-Decides k l).0 is in
        subst (λ j. get_member j (member l (form_at (same_object_place l) d (forms opening tt d)) (in_keywords opening tt ms))
        ≡ option_map (λ d. form_at (same_object_place j) d (forms opening tt d)) (get_member j (member l d ms))) (sym name)
        (get_member-here l (form_at (same_object_place l) d (forms opening tt d)) (in_keywords opening tt ms)
        ∙ sym (ap (option_map (λ d. form_at (same_object_place l) d (forms opening tt d))) (get_member-here l d ms)))
    go false is later =
        get_member-later k l (form_at (same_object_place l) d (forms opening tt d)) (in_keywords opening tt ms) is
        ∙ (later ∙ sym (ap (option_map (λ d. form_at (same_object_place k) d (forms opening tt d))) (get_member-later k l d ms is)))

before_in_keywords : (j : Text) (ms : Members) → IsAbove j ms → IsAbove j (in_keywords opening tt ms)
unfolding in_keywords
before_in_keywords j no_members h = tt
before_in_keywords j (member l d ms) h = (h.0, before_in_keywords j ms h.1)

sorted_in_keywords : (ms : Members) → IsSorted ms → IsSorted (in_keywords opening tt ms)
unfolding in_keywords
sorted_in_keywords no_members h = tt
sorted_in_keywords (member l d ms) h = (before_in_keywords l ms h.0, sorted_in_keywords ms h.1)

pub in_items_of : (ts : List Data) → in_items opening tt (items_of ts) ≡ items_of (map opened ts)
unfolding in_items
in_items_of [] = refl
in_items_of (t ∷ ts) = ap (item (opened t)) (in_items_of ts)

opened_object : (ts : List Data) → opened (one_object ts) ≡ one_object (map opened ts)
unfolding forms
opened_object ts = ap (λ ds. object (member (codes "oneOf") (array ds) no_members)) (in_items_of ts)

-- ---- a keyword that refuses the rest goes

record Gone (k : Text) (n : Members) : Type 0 where
  left : Members
  is : opened_at k (object n) ≡ object left
  sorted : IsSorted left
  none : get_member k left ≡ None
  others : (q : Text) → bytes_eq q k ≡ false → get_member q left ≡ get_member q n

gone : (k : Text) (n : Members) (b : Bool) → IsSorted n → get_member k n ≡ closed_there b → Gone k n
unfolding closed_there
gone k n false h at = record { left = n; is = rw at refl; sorted = h; none = at; others = λ q e. refl }
gone k n true h at = record {
  left = without k n;
  is = rw at refl;
  sorted = sorted-without k n h;
  none = without-here k n h;
  others = λ q e. get_member-without q k n e;
}

opened_members : (ms : Members) → opened (object ms) ≡ opened_here (object (in_keywords opening tt ms))
unfolding forms
opened_members ms = refl

-- ---- structs with parts

abbrev pub opened_part : Part → Part
opened_part p = record { items = map opened p.items; choices = p.choices }

abbrev pub opened_one : Option Part → Option Part
opened_one o = option_map opened_part o

abbrev pub opened_parts : Parts → Parts
opened_parts ps = record { all = map opened_part ps.all; one = opened_one ps.one }

in_objects : (ps : List Part) → in_items opening tt (items_of (objects ps)) ≡ items_of (objects (map opened_part ps))
unfolding in_items
in_objects [] = refl
in_objects (p ∷ ps) = λ i. item (opened_object p.items i) (in_objects ps i)

abbrev as_list : Data → Data
as_list d = form_at (same_object_place (codes "oneOf")) d (forms opening tt d)

all_opened : (ps : List Part) → option_map as_list (all_there ps) ≡ all_there (map opened_part ps)
unfolding all_there forms
all_opened [] = refl
all_opened (p ∷ ps) = ap (λ ds. Some (array ds)) (in_objects (p ∷ ps))

one_opened : (o : Option Part) → option_map as_list (one_there o) ≡ one_there (opened_one o)
unfolding one_there forms
one_opened None = refl
one_opened (Some p) = ap (λ ds. Some (array ds)) (in_items_of p.items)

stays : (o : Option Data) → option_map (λ d. form_at NoSchemas d (forms opening tt d)) o ≡ o
stays None = refl
stays (Some d) = refl

-- where further members are let in there is no keyword for the rest
pub rest_open : (ps : Parts) → (additional_there ps false ≡ None) × (unevaluated_there ps false ≡ None)
unfolding closed_there
rest_open ps = go ps.all ps.one
  where
    go : (a : List Part) (o : Option Part) → (additional_beside a o false ≡ None) × (unevaluated_beside a o false ≡ None)
    go [] None = (refl, refl)
    go [] (Some p) = (refl, refl)
    go (q ∷ a) o = (refl, refl)

-- its document where it is a part
pub record Part_form (t : Option Data) (es : List Keyword) (ns : List Text) (ps : Parts) (s : Data) : Type 0 where
  pub members : Members
  pub is : s ≡ object members
  pub form : IsForm (part_keywords t es ns ps) members

pub opened_form : (t : Option Data) (es : List Keyword) (ns : List Text) (ps : Parts) (a u : Bool) (ms : Members)
    → IsForm (any_keywords t es ns ps (closed_there a) (closed_there u)) ms
    → Part_form t es ns (opened_parts ps) (opened (object ms))
opened_form t es ns ps a u ms form =
    let n : Members = in_keywords opening tt ms in
    let x : Keywords = any_keywords t es ns ps (closed_there a) (closed_there u) in
    let same : (q : Text) → is_annotation q ≡ false → same_object_place q ≡ NoSchemas → get_member q n ≡ look_up x q =
    λ q e place. get_in_keywords q ms ∙ (ap (λ p. option_map (λ d. form_at p d (forms opening tt d)) (get_member q ms)) place
    ∙ (stays (get_member q ms) ∙ form.at q e)) in
    let first : Gone (codes "additionalProperties") n =
    gone (codes "additionalProperties") n a (sorted_in_keywords ms form.sorted) (same (codes "additionalProperties") refl refl) in
    let second : Gone (codes "unevaluatedProperties") first.left =
    gone (codes "unevaluatedProperties") first.left u first.sorted
    (first.others (codes "unevaluatedProperties") refl ∙ same (codes "unevaluatedProperties") refl refl) in
    let both : (q : Text) → bytes_eq q (codes "unevaluatedProperties") ≡ false → bytes_eq q (codes "additionalProperties") ≡ false
    → get_member q second.left ≡ get_member q n = λ q e f. second.others q e ∙ first.others q f in
    record {
      members = second.left;
      is = opened_members ms ∙ (ap (opened_at (codes "unevaluatedProperties")) first.is ∙ second.is);
      form = record {
        sorted = second.sorted;
        at = by_seven (λ q. is_annotation q ≡ false → get_member q second.left ≡ look_up (part_keywords t es ns (opened_parts ps)) q)
            (λ e. both (codes "type") refl refl ∙ same (codes "type") refl refl)
            (λ e. both (codes "properties") refl refl ∙ same (codes "properties") refl refl)
            (λ e. both (codes "required") refl refl ∙ same (codes "required") refl refl)
            (λ e. second.others (codes "additionalProperties") refl ∙ first.none)
            (λ e. both (codes "allOf") refl refl ∙ (get_in_keywords (codes "allOf") ms
            ∙ (ap (option_map as_list) (form.at (codes "allOf") refl) ∙ all_opened ps.all)))
            (λ e. both (codes "oneOf") refl refl ∙ (get_in_keywords (codes "oneOf") ms
            ∙ (ap (option_map as_list) (form.at (codes "oneOf") refl) ∙ one_opened ps.one)))
            (λ e. second.none)
            (λ q y p n c a o u e. both q u c ∙
            (get_in_keywords q ms ∙ (ap (option_map (λ d. form_at (same_object_place q) d (forms opening tt d)))
            (form.at q e ∙ look_up-other x q y p n c a o u)
            ∙ sym (look_up-other (part_keywords t es ns (opened_parts ps)) q y p n c a o u))));
      };
    }
