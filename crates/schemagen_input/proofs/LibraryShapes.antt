-- What is read has the library's shapes.
use Rattle.std.proofs.Common.{◌≡◌, List, [], ◌∷◌, Bool, true, false, Option, Some, None, is_some, option_map, option_and_then, cond, codes, refl, subst}
use Rattle.schemagen_input.proofs.Words.{list_all, option_map_or, Data, null, boolean, number, string, array, object, Items, no_items, item, Members, get, Text, Payload, no_payload, newtype_payload, tuple_payload, struct_payload, Variant, Entry, enum, by_tag, Row, with_entry, lone_in, read_each, items_under, variant_in, variant_inside, payload_inside, internal_variant_in, internals_in, needed_member, internal_in, adjacent_in, shape_named, shape_under, plain_under, list_under, fixed_under, literal_in, shape_in, entry_in, heading_in, row_in, rows_in, is_library_shape, has_library_shape}

-- what is said, if anything, passes
record Passes {A : Type 0} (p : A → Bool) (o : Option A) : Type 0 where
  pub holds : option_map_or p o true ≡ true

none_passes : {A : Type 0} (p : A → Bool) → Passes p None
none_passes p = record { holds = refl }

some_passes : {A : Type 0} (p : A → Bool) (a : A) → p a ≡ true → Passes p (Some a)
some_passes p a h = record { holds = h }

either_passes : {A : Type 0} (p : A → Bool) (b : Bool) (x y : Option A) → Passes p x → Passes p y → Passes p (cond b x y)
either_passes p true x y h k = h
either_passes p false x y h k = k

map_passes : {A B : Type 0} (p : B → Bool) (f : A → B) (o : Option A) → ((a : A) → p (f a) ≡ true) → Passes p (option_map f o)
map_passes p f None h = none_passes p
map_passes p f (Some a) h = some_passes p (f a) (h a)

then_passes : {A B : Type 0} (p : B → Bool) (f : A → Option B) (o : Option A) → ((a : A) → Passes p (f a))
    → Passes p (option_and_then f o)
then_passes p f None h = none_passes p
then_passes p f (Some a) h = h a

-- one more that passes, before others that do
cons_passes : {A : Type 0} (p : A → Bool) (a : A) (o : Option (List A)) → p a ≡ true → Passes (list_all p) o
    → Passes (list_all p) (option_map (λ rest. a ∷ rest) o)
cons_passes p a None one all = none_passes (list_all p)
cons_passes p a (Some rest) one all = some_passes (list_all p) (a ∷ rest) (rw (one, all.holds) refl)

-- where what it comes from passes
map_keeps : {A B : Type 0} (q : A → Bool) (p : B → Bool) (f : A → B) (o : Option A) → ((a : A) → q a ≡ true → p (f a) ≡ true)
    → Passes q o → Passes p (option_map f o)
map_keeps q p f None h k = none_passes p
map_keeps q p f (Some a) h k = some_passes p (f a) (h a k.holds)

then_keeps : {A B : Type 0} (q : A → Bool) (p : B → Bool) (f : A → Option B) (o : Option A)
    → ((a : A) → q a ≡ true → Passes p (f a)) → Passes q o → Passes p (option_and_then f o)
then_keeps q p f None h k = none_passes p
then_keeps q p f (Some a) h k = h a k.holds

-- what each item of a list says passes
each_passes : {A : Type 0} (p : A → Bool) (says : Data → Option A) → ((d : Data) → Passes p (says d)) → (ds : Items)
    → Passes (list_all p) (read_each says ds)
each_passes p says h no_items = some_passes (list_all p) [] refl
each_passes p says h (item d ds) =
    then_keeps p (list_all p) (λ x. option_map (λ xs. x ∷ xs) (read_each says ds)) (says d)
    (λ x one. cons_passes p x (read_each says ds) one (each_passes p says h ds)) (h d)

-- ---- variants beside a tag

abbrev is_inside : Variant → Bool
is_inside x = is_some (payload_inside x.payload)

variant_passes : (x : Variant) → Passes is_inside (variant_inside x)
variant_passes x = by x.payload
  where
    by : (p : Payload) → Passes is_inside (option_map (λ q. record { name = x.name; payload = q; notes = x.notes }) (payload_inside p))
    by no_payload = some_passes is_inside _ refl
    by (newtype_payload n) = some_passes is_inside _ refl
    by (tuple_payload ns) = none_passes is_inside
    by (struct_payload fields) = some_passes is_inside _ refl

internal_variant_passes : (d : Data) → Passes is_inside (internal_variant_in d)
internal_variant_passes d = then_passes is_inside variant_inside (variant_in d) variant_passes

said_pass : (d : Data) → Passes (list_all is_inside) (internals_in d)
said_pass d =
    then_passes (list_all is_inside) (read_each internal_variant_in) (items_under (codes "variants") d)
    (each_passes is_inside internal_variant_in internal_variant_passes)

-- ---- shapes

internal_passes : (d : Data) → Passes is_library_shape (internal_in d)
internal_passes d = search (either_passes, then_passes, none_passes, inside)
  where
    inside : (tag : Text) (closed : Bool) → Passes is_library_shape (option_map (enum (by_tag tag closed)) (internals_in d))
    inside tag closed =
        map_keeps (list_all is_inside) is_library_shape (enum (by_tag tag closed)) (internals_in d) (λ xs all. all) (said_pass d)

adjacent_passes : (d : Data) → Passes is_library_shape (adjacent_in d)
adjacent_passes d = search (either_passes, then_passes, map_passes, none_passes) depth 12

literal_passes : (d : Data) → Passes is_library_shape (literal_in d)
literal_passes null = none_passes is_library_shape
literal_passes (boolean b) = some_passes is_library_shape _ refl
literal_passes (number n) = none_passes is_library_shape
literal_passes (string t) = none_passes is_library_shape
literal_passes (array ds) = none_passes is_library_shape
literal_passes (object ms) = some_passes is_library_shape _ refl

named_passes : (t : Text) → Passes is_library_shape (shape_named t)
named_passes t = search (either_passes, some_passes, none_passes) depth 12

fixed_passes : (name : Text) (d : Data) → Passes is_library_shape (fixed_under name d)
fixed_passes name d = search (either_passes, map_passes, none_passes) depth 12

list_passes : (name : Text) (d : Data) → Passes is_library_shape (list_under name d)
list_passes name d = search (either_passes, map_passes, fixed_passes) depth 12

plain_passes : (name : Text) (d : Data) → Passes is_library_shape (plain_under name d)
plain_passes name d = search (either_passes, map_passes, literal_passes, list_passes) depth 12

under_passes : (name : Text) (d : Data) → Passes is_library_shape (shape_under name d)
under_passes name d = search (either_passes, map_passes, internal_passes, adjacent_passes, plain_passes) depth 12

shape_passes : (d : Data) → Passes is_library_shape (shape_in d)
shape_passes null = none_passes is_library_shape
shape_passes (boolean b) = none_passes is_library_shape
shape_passes (number n) = none_passes is_library_shape
shape_passes (string t) = named_passes t
shape_passes (array ds) = none_passes is_library_shape
shape_passes (object ms) = then_passes is_library_shape (λ m. shape_under m.0 m.1) (lone_in ms) (λ m. under_passes m.0 m.1)

-- ---- rows

abbrev entry_has_library_shape : Entry → Bool
entry_has_library_shape e = is_library_shape e.shape

entry_passes : (d : Data) → Passes entry_has_library_shape (entry_in d)
entry_passes d = search (then_passes, inside)
  where
    inside : (inline : Bool) (notes : Members) → Passes entry_has_library_shape
        (option_map (λ shape. record { inline = inline; notes = notes; shape = shape }) (needed_member shape_in (codes "shape") d))
    inside inline notes =
        map_keeps is_library_shape entry_has_library_shape (λ shape. record { inline = inline; notes = notes; shape = shape })
        (needed_member shape_in (codes "shape") d) (λ s one. one) (then_passes is_library_shape shape_in (get (codes "shape") d) shape_passes)

row_passes : (d : Data) → Passes has_library_shape (row_in d)
row_passes d =
    then_passes has_library_shape (λ r. option_map (λ e. with_entry e r) (entry_in d)) (heading_in d) (λ r.
    map_keeps entry_has_library_shape has_library_shape (λ e. with_entry e r) (entry_in d) (λ e one. one) (entry_passes d))

rows_pass : (ds : Items) → Passes (list_all has_library_shape) (rows_in ds)
rows_pass ds = each_passes has_library_shape row_in row_passes ds

pub rows_have_library_shapes : (ds : Items) (rows : List Row) → rows_in ds ≡ Some rows → list_all has_library_shape rows ≡ true
rows_have_library_shapes ds rows is = (subst (λ (o : Option (List Row)). Passes (list_all has_library_shape) o) is (rows_pass ds)).holds
