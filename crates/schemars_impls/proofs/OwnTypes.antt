-- The fields of types of one's own: that their numbers are those of rows.
use Rattle.std.proofs.Common.{◌≡◌, ◌<◌, ℕ, List, [], ◌∷◌, ◌++◌, Bool, true, false, Some, None, cond, length, find, nat_le, map, refl, sym, subst, ap, ◌∙◌, append-nil, append_assoc}
use Rattle.schemars_impls.proofs.Words.{Text, Field, Flattened, bare_fields, no_payload, newtype_payload, tuple_payload, struct_payload, Required, Variant, payload_numbers, variant_numbers, Row, place_of, Dictionary, TypeRow, IsInPart, KeepsTo, RefusesAs, Describes, RefusesPart, nat_le-above, place_of-below, FieldsAreKnown, NumbersAreKnown, PartsAreKnown, VariantsAreKnown, bare_variant, fields_with, plain_field, part, Keeps, KeepsRows, IsReserved, IsOptionOf, IsSeqOf, IsSetOf, IsArrayOf, IsMapOf}
use Rattle.schemars_types.specs.declared.error.TypesError.{TypesError}
use Rattle.schemars_impls.proofs.Keeping.{keeps-refl, keeps-same, keeps-trans, numbers-kept, known-one, place_of-kept, reserved_keeps}
use Rattle.schemars_impls.proofs.Placing.{known_more, place_added, adds_none, adds_then, adds_placed}
use Rattle.schemars_impls.proofs.Composing.{keeps_to_refl, keeps_to_part, refuses_memory, refuses_part, describes_none, describes_then, part_memory, part_refuses, rows_none, rows_then}
use Rattle.schemars_impls.proofs.OwnRows.{self_reserved, reserve_follows, numbers_memory, numbers_unknown, part_placed, part_number, placed_number, through_none, through_then, map_follows, map_refuses, row_of_keeps}

-- no fields, and fields in a table that keeps its rows
pub no_fields : (rows : List Row) → FieldsAreKnown rows []
no_fields rows = record { known = refl }

pub fields_kept : {old new : List Row} {fields : List Field} → Keeps old new → FieldsAreKnown old fields → FieldsAreKnown new fields
fields_kept {old = old} {new = new} {fields = fields} h k =
    record { known = numbers-kept old new (map (λ f. f.ty) fields) h k.known }

joined : (rows : List Row) (f : Field) (fields : List Field) → nat_le (length rows) f.ty ≡ false
    → find (λ m. nat_le (length rows) m) (map (λ g. g.ty) fields) ≡ None
    → find (λ m. nat_le (length rows) m) (map (λ g. g.ty) (fields ++ f ∷ [])) ≡ None
joined rows f [] below known = rw below refl
joined rows f (g ∷ gs) below known = by (nat_le (length rows) g.ty) known (joined rows f gs below)
  where
    by : (b : Bool) → cond b (Some g.ty) (find (λ m. nat_le (length rows) m) (map (λ g. g.ty) gs)) ≡ None
        → (find (λ m. nat_le (length rows) m) (map (λ g. g.ty) gs) ≡ None
        → find (λ m. nat_le (length rows) m) (map (λ g. g.ty) (gs ++ f ∷ [])) ≡ None)
        → cond b (Some g.ty) (find (λ m. nat_le (length rows) m) (map (λ g. g.ty) (gs ++ f ∷ []))) ≡ None
    by true e rest = cc
    by false e rest = rest e

-- one field more
pub field_added : (rows : List Row) (before after : List Field) (name : Text) (n : ℕ) (required : Required) → n < length rows
    → after ≡ before ++ plain_field name n required ∷ [] → FieldsAreKnown rows before → FieldsAreKnown rows after
field_added rows before after name n required below is h =
    subst (λ t. FieldsAreKnown rows t) (sym is)
    (record { known = joined rows (plain_field name n required) before (nat_le-above (length rows) n below) h.known })

-- ---- flattened parts

pub no_parts : (rows : List Row) → PartsAreKnown rows []
no_parts rows = record { known = refl }

pub parts_kept : {old new : List Row} {parts : List Flattened} → Keeps old new → PartsAreKnown old parts → PartsAreKnown new parts
parts_kept {old = old} {new = new} {parts = parts} h k =
    record { known = numbers-kept old new (map (λ p. p.ty) parts) h k.known }

-- numbers of rows, and further ones
pub both_known : (len : ℕ) (ns ms : List ℕ) → find (λ m. nat_le len m) ns ≡ None → find (λ m. nat_le len m) ms ≡ None
    → find (λ m. nat_le len m) (ns ++ ms) ≡ None
both_known len [] ms h k = k
both_known len (n ∷ ns) ms h k = by (nat_le len n) h (λ r. both_known len ns ms r k)
  where
    by : (b : Bool) → cond b (Some n) (find (λ m. nat_le len m) ns) ≡ None
        → (find (λ m. nat_le len m) ns ≡ None → find (λ m. nat_le len m) (ns ++ ms) ≡ None)
        → cond b (Some n) (find (λ m. nat_le len m) (ns ++ ms)) ≡ None
    by true e rest = cc
    by false e rest = rest e

pub one_known : (rows : List Row) (n : ℕ) → n < length rows → find (λ m. nat_le (length rows) m) (n ∷ []) ≡ None
one_known rows n below = rw (nat_le-above (length rows) n below) refl

types-joined : (parts : List Flattened) (p : Flattened) → map (λ q. q.ty) (parts ++ p ∷ []) ≡ map (λ q. q.ty) parts ++ p.ty ∷ []
types-joined [] p = refl
types-joined (q ∷ parts) p = ap (λ t. q.ty ∷ t) (types-joined parts p)

pub part_added : (rows : List Row) (before after : List Flattened) (n : ℕ) (required : Required) → n < length rows
    → after ≡ before ++ part n required ∷ [] → PartsAreKnown rows before → PartsAreKnown rows after
part_added rows before after n required below is h = subst (λ t. PartsAreKnown rows t) (sym is) (record {
  known = subst (λ ns. find (λ m. nat_le (length rows) m) ns ≡ None) (sym (types-joined before (part n required)))
      (both_known (length rows) (map (λ q. q.ty) before) (n ∷ []) h.known (one_known rows n below));
})

-- ---- variants

pub no_variants : (rows : List Row) → VariantsAreKnown rows []
no_variants rows = record { known = refl }

pub variants_kept : {old new : List Row} {xs : List Variant} → Keeps old new → VariantsAreKnown old xs → VariantsAreKnown new xs
variants_kept {old = old} {new = new} {xs = xs} h k = record { known = numbers-kept old new (variant_numbers xs) h k.known }

numbers-joined : (xs : List Variant) (x : Variant) → variant_numbers (xs ++ x ∷ []) ≡ variant_numbers xs ++ payload_numbers x.payload
numbers-joined [] x = append-nil (payload_numbers x.payload)
numbers-joined (y ∷ xs) x =
    ap (λ t. payload_numbers y.payload ++ t) (numbers-joined xs x)
    ∙ sym (append_assoc (payload_numbers y.payload) (variant_numbers xs) (payload_numbers x.payload))

pub variant_added : (rows : List Row) (before after : List Variant) (x : Variant)
    → find (λ m. nat_le (length rows) m) (payload_numbers x.payload) ≡ None → after ≡ before ++ x ∷ [] → VariantsAreKnown rows before
    → VariantsAreKnown rows after
variant_added rows before after x known is h = subst (λ t. VariantsAreKnown rows t) (sym is) (record {
  known = subst (λ ns. find (λ m. nat_le (length rows) m) ns ≡ None) (sym (numbers-joined before x))
      (both_known (length rows) (variant_numbers before) (payload_numbers x.payload) h.known known);
})

pub unit_added : (rows : List Row) (before after : List Variant) (name : Text) → after ≡ before ++ bare_variant name no_payload ∷ []
    → VariantsAreKnown rows before → VariantsAreKnown rows after
unit_added rows before after name is h = variant_added rows before after (bare_variant name no_payload) refl is h

pub newtype_added : (rows : List Row) (before after : List Variant) (name : Text) (n : ℕ) → n < length rows
    → after ≡ before ++ bare_variant name (newtype_payload n) ∷ [] → VariantsAreKnown rows before → VariantsAreKnown rows after
newtype_added rows before after name n below is h =
    variant_added rows before after (bare_variant name (newtype_payload n)) (one_known rows n below) is h

pub tuple_added : (rows : List Row) (before after : List Variant) (name : Text) (ns : List ℕ)
    → NumbersAreKnown rows ns → after ≡ before ++ bare_variant name (tuple_payload ns) ∷ []
    → VariantsAreKnown rows before → VariantsAreKnown rows after
tuple_added rows before after name ns known is h = variant_added rows before after (bare_variant name (tuple_payload ns)) known.known is h

pub struct_added : (rows : List Row) (before after : List Variant) (name : Text) (fields : List Field) (closed : Bool)
    → FieldsAreKnown rows fields → after ≡ before ++ bare_variant name (struct_payload (bare_fields fields closed)) ∷ []
    → VariantsAreKnown rows before → VariantsAreKnown rows after
struct_added rows before after name fields closed known is h =
    variant_added rows before after (bare_variant name (struct_payload (bare_fields fields closed)))
    (both_known (length rows) (map (λ f. f.ty) fields) [] known.known refl) is h

pub flat_known : (rows : List Row) (fields : List Field) (parts : List Flattened) → FieldsAreKnown rows fields → PartsAreKnown rows parts
    → find (λ m. nat_le (length rows) m) (map (λ f. f.ty) fields ++ map (λ p. p.ty) parts) ≡ None
flat_known rows fields parts h k = both_known (length rows) (map (λ f. f.ty) fields) (map (λ p. p.ty) parts) h.known k.known

pub flat_struct_added : (rows : List Row) (before after : List Variant) (name : Text) (fields : List Field) (parts : List Flattened)
    (closed : Bool) → FieldsAreKnown rows fields → PartsAreKnown rows parts
    → after ≡ before ++ bare_variant name (struct_payload (fields_with fields parts closed)) ∷ []
    → VariantsAreKnown rows before → VariantsAreKnown rows after
flat_struct_added rows before after name fields parts closed known parts_known is h =
    variant_added rows before after (bare_variant name (struct_payload (fields_with fields parts closed)))
    (flat_known rows fields parts known parts_known) is h

-- ---- numbers

pub no_numbers : (rows : List Row) → NumbersAreKnown rows []
no_numbers rows = record { known = refl }

pub numbers_kept : {old new : List Row} {ns : List ℕ} → Keeps old new → NumbersAreKnown old ns → NumbersAreKnown new ns
numbers_kept {old = old} {new = new} {ns = ns} h k = record { known = numbers-kept old new ns h k.known }

pub number_added : (rows : List Row) (before after : List ℕ) (n : ℕ) → n < length rows → after ≡ before ++ n ∷ []
    → NumbersAreKnown rows before → NumbersAreKnown rows after
number_added rows before after n below is h = subst (λ ns. NumbersAreKnown rows ns) (sym is) (record {
  known = both_known (length rows) before (n ∷ []) h.known (one_known rows n below);
})

-- what the calls need that add numbers
pub ruleset adding_numbers = (
  keeps-refl,
  keeps-same,
  place_of-below,
  numbers_kept,
  number_added,
  numbers_memory,
  numbers_unknown,
  place_of-kept,
  known-one,
  known_more,
  place_added,
  adds_none,
  adds_then,
  adds_placed,
  keeps_to_refl,
  keeps_to_part,
  refuses_memory,
  refuses_part,
)

-- what the calls need that add fields, variants and rows
pub ruleset adding = (
  keeps-refl,
  keeps-same,
  fields_kept,
  parts_kept,
  variants_kept,
  place_of-below,
  field_added,
  part_added,
  unit_added,
  newtype_added,
  tuple_added,
  struct_added,
  flat_struct_added,
  flat_known,
  reserve_follows,
  row_of_keeps,
  reserved_keeps,
  numbers_memory,
  numbers_unknown,
  placed_number,
  map_follows,
  map_refuses,
  one_known,
  known-one,
  keeps_to_refl,
  keeps_to_part,
  refuses_memory,
  refuses_part,
)

-- ---- several calls, one after another

pub describes_two : {t : TypeRow} {P Q : Dictionary → Type 0} {a b c d : List Row} → KeepsTo P a b → KeepsTo Q b c → Describes t c d
    → ((x : Dictionary) → IsInPart t x → P x) → ((x : Dictionary) → IsInPart t x → Q x) → Describes t a d
describes_two p q rest within_p within_q = describes_then p (describes_then q rest within_q) within_p

pub describes_four : {t : TypeRow} {P Q R S : Dictionary → Type 0} {a b c d e f : List Row} → KeepsTo P a b → KeepsTo Q b c
    → KeepsTo R c d → KeepsTo S d e → Describes t e f → ((x : Dictionary) → IsInPart t x → P x) → ((x : Dictionary) → IsInPart t x → Q x)
    → ((x : Dictionary) → IsInPart t x → R x) → ((x : Dictionary) → IsInPart t x → S x) → Describes t a f
describes_four p q r s rest within_p within_q within_r within_s =
    describes_two p q (describes_two r s rest within_r within_s) within_p within_q

pub describes_eight : {t : TypeRow} {P Q R S U V W X : Dictionary → Type 0} {a b c d e f g h i j : List Row} → KeepsTo P a b → KeepsTo Q b c
    → KeepsTo R c d → KeepsTo S d e → KeepsTo U e f → KeepsTo V f g → KeepsTo W g h → KeepsTo X h i → Describes t i j
    → ((x : Dictionary) → IsInPart t x → P x) → ((x : Dictionary) → IsInPart t x → Q x) → ((x : Dictionary) → IsInPart t x → R x)
    → ((x : Dictionary) → IsInPart t x → S x) → ((x : Dictionary) → IsInPart t x → U x) → ((x : Dictionary) → IsInPart t x → V x)
    → ((x : Dictionary) → IsInPart t x → W x) → ((x : Dictionary) → IsInPart t x → X x) → Describes t a j
describes_eight p q r s u v w x rest within_p within_q within_r within_s within_u within_v within_w within_x =
    describes_four p q r s (describes_four u v w x rest within_u within_v within_w within_x) within_p within_q within_r within_s

-- a call that refuses behind others
pub part_after : {t : TypeRow} {P : Dictionary → Type 0} {old mid : List Row} {e : TypesError} → RefusesAs P mid e → Describes t old mid
    → ((d : Dictionary) → IsInPart t d → P d) → RefusesPart t old e
part_after p before within = record { each = λ d h f. p.each d (within d h) (before.each d h f) }

-- the rows, over several calls
pub rows_two : {a b c d : List Row} → Keeps a b → Keeps b c → KeepsRows c d → KeepsRows a d
rows_two p q rest = rows_then p (rows_then q rest)

pub rows_four : {a b c d e f : List Row} → Keeps a b → Keeps b c → Keeps c d → Keeps d e → KeepsRows e f → KeepsRows a f
rows_four p q r s rest = rows_two p q (rows_two r s rest)

pub rows_eight : {a b c d e f g h i j : List Row} → Keeps a b → Keeps b c → Keeps c d → Keeps d e → Keeps e f → Keeps f g → Keeps g h
    → Keeps h i → KeepsRows i j → KeepsRows a j
rows_eight p q r s u v w x rest = rows_four p q r s (rows_four u v w x rest)

-- ---- groups of calls

pub rows_and : {a b c : List Row} → KeepsRows a b → KeepsRows b c → KeepsRows a c
rows_and h rest = record { keeps = λ u. keeps-trans (h.keeps tt) (rest.keeps tt) }

pub describes_and : {t : TypeRow} {a b c : List Row} → Describes t a b → Describes t b c → Describes t a c
describes_and p rest = record { each = λ d h f. rest.each d h (p.each d h f) }

-- a group that refuses behind others
pub part_behind : {t : TypeRow} {old mid : List Row} {e : TypesError} → RefusesPart t mid e → Describes t old mid → RefusesPart t old e
part_behind p before = record { each = λ d h f. p.each d h (before.each d h f) }

-- fields, flattened parts, variants and numbers in a table that keeps its rows over a group
pub fields_stay : {old new : List Row} {fields : List Field} → KeepsRows old new → FieldsAreKnown old fields → FieldsAreKnown new fields
fields_stay h k = fields_kept (h.keeps tt) k

pub parts_stay : {old new : List Row} {parts : List Flattened} → KeepsRows old new → PartsAreKnown old parts → PartsAreKnown new parts
parts_stay h k = parts_kept (h.keeps tt) k

pub variants_stay : {old new : List Row} {xs : List Variant} → KeepsRows old new → VariantsAreKnown old xs → VariantsAreKnown new xs
variants_stay h k = variants_kept (h.keeps tt) k

pub numbers_stay : {old new : List Row} {ns : List ℕ} → KeepsRows old new → NumbersAreKnown old ns → NumbersAreKnown new ns
numbers_stay h k = numbers_kept (h.keeps tt) k

-- ---- rows that are named by texts that the code makes

named-same : (W : Text → Text → Dictionary → Type 0) (d : Dictionary) {id made is name made_name name_is : Text} → id ≡ made → made ≡ is
    → name ≡ made_name → made_name ≡ name_is → W is name_is d → W id name d
named-same W d {id = id} {is = is} {name = name} p q r s h =
    subst (λ i. W i name d) (sym (p ∙ q)) (subst (λ n. W is n d) (sym (r ∙ s)) h)

pub reserved_same : (d : Dictionary) {id made is name made_name name_is : Text} → id ≡ made → made ≡ is → name ≡ made_name
    → made_name ≡ name_is → IsReserved is name_is d → IsReserved id name d
reserved_same d = named-same IsReserved d

pub option_same : (d : Dictionary) {id made is name made_name name_is : Text} → id ≡ made → made ≡ is → name ≡ made_name
    → made_name ≡ name_is → IsOptionOf is name_is d → IsOptionOf id name d
option_same d = named-same IsOptionOf d

pub seq_same : (d : Dictionary) {id made is name made_name name_is : Text} → id ≡ made → made ≡ is → name ≡ made_name
    → made_name ≡ name_is → IsSeqOf is name_is d → IsSeqOf id name d
seq_same d = named-same IsSeqOf d

pub set_same : (d : Dictionary) {id made is name made_name name_is : Text} → id ≡ made → made ≡ is → name ≡ made_name
    → made_name ≡ name_is → IsSetOf is name_is d → IsSetOf id name d
set_same d = named-same IsSetOf d

pub array_same : (len : ℕ) (d : Dictionary) {id made is name made_name name_is : Text} → id ≡ made → made ≡ is → name ≡ made_name
    → made_name ≡ name_is → IsArrayOf len is name_is d → IsArrayOf len id name d
array_same len d = named-same (IsArrayOf len) d

pub map_same : (key : TypeRow) (d : Dictionary) {id made is name made_name name_is : Text} → id ≡ made → made ≡ is → name ≡ made_name
    → made_name ≡ name_is → IsMapOf key is name_is d → IsMapOf key id name d
map_same key d = named-same (IsMapOf key) d

-- What a type of one's own needs whose fields join one after another: `using` names it in the crate of the type.
pub ruleset own_types = (
  no_fields,
  no_parts,
  no_variants,
  no_numbers,
  fields_kept,
  parts_kept,
  variants_kept,
  numbers_kept,
  numbers-kept,
  place_of-kept,
  known-one,
  rows_none,
  rows_eight,
  rows_four,
  rows_two,
  rows_then,
  self_reserved,
  describes_none,
  describes_eight,
  describes_four,
  describes_two,
  describes_then,
  part_memory,
  part_placed,
  part_number,
  through_none,
  through_then,
  part_refuses,
  part_after,
  rows_and,
  describes_and,
  part_behind,
  fields_stay,
  parts_stay,
  variants_stay,
  numbers_stay,
  keeps_to_part,
  refuses_memory,
  refuses_part,
  reserved_same,
  option_same,
  seq_same,
  set_same,
  array_same,
  map_same,
)
