-- Keywords of one schema once null is allowed: the type, and the values.
use Rattle.std.proofs.Common.{◌≡◌, ◌⊎◌, inl, inr, List, [], ◌∷◌, ◌++◌, Option, Some, None, Bool, true, false, refl, sym, ap, ◌∙◌, true≢false}
use Rattle.schemars_builders.proofs.Words.{codes, bytes_eq, ◌||◌, ◌&&◌, if◌then◌else◌, Data, null, boolean, number, string, array, object, Items, no_items, item, or_assoc, or-false, or-true, Verdict, Yes, both, verdict, Text, json_eq, alike, is_among, is_listed, type_says, const_says, enum_says, texts_in, type_names, are_type_names, is_of_type, is_of_some_type, is_null, holds_text, with_item, holds_null, type_with_null, enum_with_null, text_items, HasTypeForm}

-- ---- truth values

-- ---- the type with null

no_null_type : (v : Data) → is_null v ≡ false → is_of_type (codes "null") v ≡ false
no_null_type null h = absurd (true≢false h)
no_null_type _ h = refl

types_append : (ts : List Text) (v : Data) → is_null v ≡ false → is_of_some_type (ts ++ codes "null" ∷ []) v ≡ is_of_some_type ts v
types_append [] v h = rw (no_null_type v h)
types_append (t ∷ ts) v h = ap (λ b. is_of_type t v || b) (types_append ts v h)

types_null : (ts : List Text) → is_of_some_type (ts ++ codes "null" ∷ []) null ≡ true
types_null [] = refl
types_null (t ∷ ts) = rw (types_null ts) (or-true (bytes_eq t (codes "null")))

pub are_names_append : (ts : List Text) → are_type_names ts ≡ true → are_type_names (ts ++ codes "null" ∷ []) ≡ true
are_names_append [] h = refl
are_names_append (t ∷ ts) h = go (is_listed t type_names) (are_names_append ts) h
  where
    go : (b : Bool) → (are_type_names ts ≡ true → are_type_names (ts ++ codes "null" ∷ []) ≡ true) → b && are_type_names ts ≡ true
        → b && are_type_names (ts ++ codes "null" ∷ []) ≡ true
    go true later h = later h
    go false later h = h

pub texts_in-text_items : (ts : List Text) → texts_in (text_items ts) ≡ Some ts
texts_in-text_items [] = refl
texts_in-text_items (t ∷ ts) = rw (texts_in-text_items ts)

pub with_item-text_items : (t : Text) (ts : List Text) → with_item (text_items ts) (string t) ≡ text_items (ts ++ t ∷ [])
with_item-text_items t [] = refl
with_item-text_items t (s ∷ ts) = ap (item (string s)) (with_item-text_items t ts)

holds_text-text_items : (ts : List Text) → holds_text (codes "null") (text_items ts) ≡ is_of_some_type ts null
holds_text-text_items [] = refl
holds_text-text_items (t ∷ ts) = ap (λ b. bytes_eq t (codes "null") || b) (holds_text-text_items ts)

unfoldable pub type_plus : Option Data → Option Data
type_plus None = None
type_plus (Some d) = Some (type_with_null d)

abbrev Says : Option Data → Data → Verdict
Says type v = type_says false type None v

names_say : (ts : List Text) → are_type_names ts ≡ true → (v : Data)
    → Says (Some (array (text_items ts))) v ≡ verdict (is_of_some_type ts v)
names_say ts h v = rw (texts_in-text_items ts, h)

name_says : (t : Text) → is_listed t type_names ≡ true → (v : Data) → Says (Some (string t)) v ≡ verdict (is_of_type t v)
name_says t h v = rw h (ap verdict (or-false (is_of_type t v)))

pub type_other : (d : Option Data) → HasTypeForm d → (v : Data) → is_null v ≡ false → Says (type_plus d) v ≡ Says d v
unfolding type_plus
type_other None h v other = refl
type_other (Some (string t)) h v other = go (bytes_eq t (codes "null"))
  where
    go : (b : Bool) → Says (Some (if b then string t else array (item (string t) (item (string (codes "null")) no_items)))) v
        ≡ Says (Some (string t)) v
    go true = refl
    go false = rw (h, no_null_type v other)
type_other (Some (array ds)) h v other = rw h.1 (go (holds_text (codes "null") (text_items h.0)))
  where
    go : (b : Bool) → Says (Some (if b then array (text_items h.0) else array (with_item (text_items h.0) (string (codes "null"))))) v
        ≡ Says (Some (array (text_items h.0))) v
    go true = refl
    go false = rw with_item-text_items (names_say (h.0 ++ codes "null" ∷ []) (are_names_append h.0 h.2) v
        ∙ (ap verdict (types_append h.0 v other) ∙ sym (names_say h.0 h.2 v)))
type_other (Some null) h v other = absurd h
type_other (Some (boolean b)) h v other = absurd h
type_other (Some (number n)) h v other = absurd h
type_other (Some (object ms)) h v other = absurd h

pub type_null : (d : Option Data) → HasTypeForm d → Says (type_plus d) null ≡ Yes
unfolding type_plus
type_null None h = refl
type_null (Some (string t)) h = go (bytes_eq t (codes "null")) refl
  where
    go : (b : Bool) → bytes_eq t (codes "null") ≡ b → Says (Some (if b then string t else
        array (item (string t) (item (string (codes "null")) no_items)))) null ≡ Yes
    go true e = name_says t h null ∙ ap verdict e
    go false e = rw (h, e)
type_null (Some (array ds)) h = rw h.1 (go (holds_text (codes "null") (text_items h.0)) refl)
  where
    go : (b : Bool) → holds_text (codes "null") (text_items h.0) ≡ b
        → Says (Some (if b then array (text_items h.0) else array (with_item (text_items h.0) (string (codes "null"))))) null ≡ Yes
    go true e = names_say h.0 h.2 null ∙ ap verdict (sym (holds_text-text_items h.0) ∙ e)
    go false e = rw with_item-text_items (names_say (h.0 ++ codes "null" ∷ []) (are_names_append h.0 h.2) null
        ∙ ap verdict (types_null h.0))
type_null (Some null) h = absurd h
type_null (Some (boolean b)) h = absurd h
type_null (Some (number n)) h = absurd h
type_null (Some (object ms)) h = absurd h

-- ---- the values with null

json_eq-null : (v : Data) → json_eq v null ≡ is_null v
unfolding alike
json_eq-null null = refl
json_eq-null _ = refl

pub null-json_eq : (v : Data) → json_eq null v ≡ is_null v
unfolding alike
null-json_eq null = refl
null-json_eq _ = refl

is_among-with_null : (ds : Items) (v : Data) → is_among (with_item ds null) v ≡ is_among ds v || is_null v
is_among-with_null no_items v = rw null-json_eq (or-false (is_null v))
is_among-with_null (item d ds) v = rw (is_among-with_null ds v) (sym (or_assoc (json_eq d v) (is_among ds v) (is_null v)))

is_among-null : (ds : Items) → is_among ds null ≡ holds_null ds
is_among-null no_items = refl
is_among-null (item d ds) = rw (json_eq-null d, is_among-null ds) refl

unfoldable pub enum_plus : Option Data → Option Data
enum_plus None = None
enum_plus (Some d) = Some (enum_with_null d)

enum_other : (d : Option Data) (v : Data) → is_null v ≡ false → enum_says (enum_plus d) v ≡ enum_says d v
unfolding enum_plus
enum_other None v other = refl
enum_other (Some (array ds)) v other = go (holds_null ds)
  where
    go : (b : Bool) → enum_says (Some (if b then array ds else array (with_item ds null))) v ≡ enum_says (Some (array ds)) v
    go true = refl
    go false = ap verdict (is_among-with_null ds v ∙ rw other (or-false (is_among ds v)))
enum_other (Some null) v other = refl
enum_other (Some (boolean b)) v other = refl
enum_other (Some (number n)) v other = refl
enum_other (Some (string s)) v other = refl
enum_other (Some (object ms)) v other = refl

enum_null : (d : Option Data) → enum_says (enum_plus d) null ≡ Yes
unfolding enum_plus
enum_null None = refl
enum_null (Some (array ds)) = go (holds_null ds) refl
  where
    go : (b : Bool) → holds_null ds ≡ b → enum_says (Some (if b then array ds else array (with_item ds null))) null ≡ Yes
    go true e = ap verdict (is_among-null ds ∙ e)
    go false e = ap verdict (is_among-with_null ds null ∙ or-true (is_among ds null))
enum_null (Some null) = refl
enum_null (Some (boolean b)) = refl
enum_null (Some (number n)) = refl
enum_null (Some (string s)) = refl
enum_null (Some (object ms)) = refl

-- ---- one value, or null in its place

unfoldable pub const_plus : Option Data → Option Data
const_plus None = None
const_plus (Some c) = if is_null c then Some c else None

unfoldable pub values_plus : Option Data → Option Data → Option Data
values_plus None values = enum_plus values
values_plus (Some c) values = if is_null c then values else Some (array (item c (item null no_items)))

pub const_null : (o : Option Data) → const_says true (const_plus o) null ≡ Yes
unfolding const_plus
const_null None = refl
const_null (Some c) = go (is_null c) refl
  where
    go : (b : Bool) → is_null c ≡ b → const_says true (if b then Some c else None) null ≡ Yes
    go true e = ap verdict (json_eq-null c ∙ e)
    go false e = refl

pub values_null : (o values : Option Data) → (o ≡ None) ⊎ (values ≡ None) → enum_says (values_plus o values) null ≡ Yes
unfolding values_plus
values_null None values one = enum_null values
values_null (Some c) values (inl none) = cc
values_null (Some c) values (inr no_enum) = rw no_enum (go (is_null c))
  where
    go : (b : Bool) → enum_says (if b then None else Some (array (item c (item null no_items)))) null ≡ Yes
    go true = refl
    go false = rw null-json_eq (ap verdict (or-true (json_eq c null)))

pub values_other : (o values : Option Data) → (o ≡ None) ⊎ (values ≡ None) → (v : Data) → is_null v ≡ false
    → (rest : Verdict)
    → both (const_says true (const_plus o) v) (both (enum_says (values_plus o values) v) rest)
    ≡ both (const_says true o v) (both (enum_says values v) rest)
unfolding const_plus values_plus
values_other None values one v other rest = rw (enum_other values v other) refl
values_other (Some c) values (inl none) v other rest = cc
values_other (Some c) values (inr no_enum) v other rest = rw no_enum (go (is_null c))
  where
    go : (b : Bool) → both (const_says true (if b then Some c else None) v)
        (both (enum_says (if b then None else Some (array (item c (item null no_items)))) v) rest)
        ≡ both (verdict (json_eq c v)) rest
    go true = refl
    go false = rw (null-json_eq, other, or-false) refl
