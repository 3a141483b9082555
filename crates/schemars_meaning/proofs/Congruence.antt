-- What a shape has depends on what its parts have of the values inside, and, where a part has the value itself, of values as deep.
use Rattle.std.proofs.Common.{◌≡◌, ◌<◌, ◌≤◌, ℕ, suc, List, [], ◌∷◌, map, Bool, true, false, not, Some, is_some, ◌&&◌, ◌||◌, cond, Contains, refl, ap, ◌∙◌, arith}
use Rattle.schemars_meaning.proofs.Words.{bytes_eq, codes, ◌==◌, nat_le, list_any, option_map_or, Contains-append_left, Contains-append_right, Data, null, boolean, number, string, array, object, Items, no_items, item, Members, no_members, member, depth, items_depth, members_depth, as_array, as_object, get_member, items_len, Text, are_distinct, without, Patterns, is_null, Shape, Field, Flattened, Fields, Tagging, by_name, by_nothing, by_tag, by_tag_and_content, Payload, Variant, no_payload, newtype_payload, tuple_payload, struct_payload, flattened_rows, payload_flattened, payload_same, payload_same_by, of_variants, same_value_numbers, flattened_numbers, KeyOptions, is_key_allowed, flattened_enums, enum_at, expanded_fields, expanded_payload, expanded_variant, expanded_shape, VariantMatch, Member, holds, every_item, each_of, every_member, exactly_one, every_part, excludes_key, matches_of, member_named, has_each, are_members, has_members, must_have, has_member, has_members_with, tag_member, tagged_fields, field_named, field_member, has_payload, has_variant, internal_choice, external_choice, is_tagged_map, shape_choices, has_shape}
use Rattle.schemars_shapes.specs.Shape as shape
use Rattle.schemars_types.specs.declared.contract.Contract.{Contract}
use Rattle.schemars_types.specs.Meaning.{is_text}

-- ---- items and members

every_item_same : (f g : Data → Bool) (vs : Items) → ((w : Data) → depth w ≤ items_depth vs → f w ≡ g w) → every_item f vs ≡ every_item g vs
every_item_same f g no_items h = refl
every_item_same f g (item v vs) h = λ i. h v (omega arith) i && every_item_same f g vs (λ w deep. h w (omega arith)) i

each_of_same : (f g : ℕ → Data → Bool) (ns : List ℕ) (vs : Items) → ((j : ℕ) (w : Data) → depth w ≤ items_depth vs → f j w ≡ g j w)
    → each_of f ns vs ≡ each_of g ns vs
each_of_same f g [] no_items h = refl
each_of_same f g [] (item v vs) h = refl
each_of_same f g (n ∷ ns) no_items h = refl
each_of_same f g (n ∷ ns) (item v vs) h = λ i. h n v (omega arith) i && each_of_same f g ns vs (λ j w deep. h j w (omega arith)) i

every_member_same : (f g : Text → Data → Bool) (ms : Members) → ((k : Text) (w : Data) → depth w ≤ members_depth ms → f k w ≡ g k w)
    → every_member f ms ≡ every_member g ms
every_member_same f g no_members h = refl
every_member_same f g (member k v ms) h = λ i. h k v (omega arith) i && every_member_same f g ms (λ l w deep. h l w (omega arith)) i

pub without-shallow : (k : Text) (ms : Members) → members_depth (without k ms) ≤ members_depth ms
without-shallow k no_members = omega arith
without-shallow k (member l v ms) = by (bytes_eq k l) (without-shallow k ms)
  where
    by : (b : Bool) → members_depth (without k ms) ≤ members_depth ms
        → members_depth (cond b ms (member l v (without k ms))) ≤ members_depth (member l v ms)
    by true h = omega arith
    by false h = omega arith

on_array : (f g : Items → Bool) (v : Data) → ((vs : Items) → suc (items_depth vs) ≡ depth v → f vs ≡ g vs)
    → holds (as_array v) f ≡ holds (as_array v) g
on_array f g (array vs) h = h vs refl
on_array f g null h = refl
on_array f g (boolean b) h = refl
on_array f g (number n) h = refl
on_array f g (string s) h = refl
on_array f g (object ms) h = refl

on_object : (f g : Members → Bool) (v : Data) → ((ms : Members) → suc (members_depth ms) ≡ depth v → f ms ≡ g ms)
    → holds (as_object v) f ≡ holds (as_object v) g
on_object f g (object ms) h = h ms refl
on_object f g null h = refl
on_object f g (boolean b) h = refl
on_object f g (number n) h = refl
on_object f g (string s) h = refl
on_object f g (array vs) h = refl

-- ---- maps by their members

-- the same names, required alike, and with the same values below this depth
abbrev Alike : ℕ → List Member → List Member → Type 0
Alike h [] [] = Unit {0}
Alike h [] (b ∷ ys) = ⊥
Alike h (a ∷ xs) [] = ⊥
Alike h (a ∷ xs) (b ∷ ys) = (a.name ≡ b.name) × (a.required ≡ b.required) × ((w : Data) → depth w < h → a.has w ≡ b.has w) × Alike h xs ys

named_same : (h : ℕ) (xs ys : List Member) → Alike h xs ys → (others : Bool) (k : Text) (w : Data) → depth w < h
    → option_map_or (λ m. m.has w) (member_named xs k) others ≡ option_map_or (λ m. m.has w) (member_named ys k) others
named_same h [] [] alike others k w less = refl
named_same h [] (b ∷ ys) alike others k w less = absurd alike
named_same h (a ∷ xs) [] alike others k w less = absurd alike
named_same h (a ∷ xs) (b ∷ ys) alike others k w less =
    ap (λ n. option_map_or (λ m. m.has w) (cond (bytes_eq n k) (Some a) (member_named xs k)) others) alike.0
    ∙ by (bytes_eq b.name k) (named_same h xs ys alike.3 others k w less)
  where
    by : (t : Bool) → option_map_or (λ m. m.has w) (member_named xs k) others ≡ option_map_or (λ m. m.has w) (member_named ys k) others
        → option_map_or (λ m. m.has w) (cond t (Some a) (member_named xs k)) others
        ≡ option_map_or (λ m. m.has w) (cond t (Some b) (member_named ys k)) others
    by true rest = alike.2 w less
    by false rest = rest

each_same : (h : ℕ) (xs ys : List Member) → Alike h xs ys → (ms : Members) → has_each xs ms ≡ has_each ys ms
each_same h [] [] alike ms = refl
each_same h [] (b ∷ ys) alike ms = absurd alike
each_same h (a ∷ xs) [] alike ms = absurd alike
each_same h (a ∷ xs) (b ∷ ys) alike ms =
    λ i. (not (alike.1 i) || is_some (get_member (alike.0 i) ms)) && each_same h xs ys alike.3 ms i

members_same : (h : ℕ) (xs ys : List Member) → Alike h xs ys → (others : Text → Bool) (ms : Members) → members_depth ms < h
    → are_members xs others ms ≡ are_members ys others ms
members_same h xs ys alike others ms less =
    λ i. every_member_same (λ k w. option_map_or (λ m. m.has w) (member_named xs k) (others k))
    (λ k w. option_map_or (λ m. m.has w) (member_named ys k) (others k)) ms
    (λ k w deep. named_same h xs ys alike (others k) k w (omega arith)) i && each_same h xs ys alike ms i

map_same : (xs ys : List Member) (others : Text → Bool) (v : Data) → Alike (depth v) xs ys → has_members xs others v
    ≡ has_members ys others v
map_same xs ys others v alike = on_object (are_members xs others) (are_members ys others) v
    (λ ms deep. members_same (depth v) xs ys alike others ms (omega arith))

one_same : (name : Text) (p q : Data → Bool) (closed : Bool) (v : Data) → ((w : Data) → depth w < depth v → p w ≡ q w)
    → has_member name p closed v ≡ has_member name q closed v
one_same name p q closed v same = map_same (must_have name p ∷ []) (must_have name q ∷ []) (λ k. not closed) v (refl, refl, same, tt)

map_with_same : (parts others : List (List VariantMatch)) (xs ys : List Member) (closed : Bool) (v : Data) → parts ≡ others
    → Alike (depth v) xs ys → has_members_with parts xs closed v ≡ has_members_with others ys closed v
map_with_same parts others xs ys closed v same alike =
    ap (λ ps. has_members_with ps xs closed v) same
    ∙ on_object (λ ms. every_part others && are_members xs (λ k. not (excludes_key closed others k)) ms)
    (λ ms. every_part others && are_members ys (λ k. not (excludes_key closed others k)) ms) v
    (λ ms deep. ap (λ t. every_part others && t)
    (members_same (depth v) xs ys alike (λ k. not (excludes_key closed others k)) ms (omega arith)))

-- ---- two meanings of rows, and two lists of what variants of enums offer

module _ (contract : Contract) (p q : ℕ → Data → Bool) (C D : ℕ → Data → List VariantMatch) where
  -- they agree on values below this depth
  pub record AreSameBelow (h : ℕ) : Type 0 where
    pub rows : (j : ℕ) (w : Data) → depth w < h → p j w ≡ q j w
    pub enums : (j : ℕ) (w : Data) → depth w < h → C j w ≡ D j w

  shrink : (h l : ℕ) → l ≤ h → AreSameBelow h → AreSameBelow l
  shrink h l less same = record { rows = λ j w deep. same.rows j w (omega arith); enums = λ j w deep. same.enums j w (omega arith) }

  fields_alike : (h : ℕ) → AreSameBelow h → (list : List Field)
      → Alike h (map (field_member contract p) list) (map (field_member contract q) list)
  fields_alike h same [] = tt
  fields_alike h same (f ∷ fs) = (refl, refl, λ w less. same.rows f.ty w less, fields_alike h same fs)

  matches_same : (v : Data) → ((j : ℕ) → C j v ≡ D j v) → (ps : List Flattened) → matches_of C ps v ≡ matches_of D ps v
  matches_same v same [] = refl
  matches_same v same (x ∷ xs) = λ i. same x.ty i ∷ matches_same v same xs i

  -- what is needed of v itself for a payload
  abbrev PayloadIsSame : Payload → Data → Type 0
  PayloadIsSame no_payload v = Unit {0}
  PayloadIsSame (newtype_payload n) v = p n v ≡ q n v
  PayloadIsSame (tuple_payload ns) v = Unit {0}
  PayloadIsSame (struct_payload x) v = matches_of C x.flatten v ≡ matches_of D x.flatten v

  payload_same_at : (x : Payload) (v : Data) → AreSameBelow (depth v) → PayloadIsSame x v
      → has_payload contract p C x v ≡ has_payload contract q D x v
  payload_same_at no_payload v below same = refl
  payload_same_at (newtype_payload n) v below same = same
  payload_same_at (tuple_payload ns) v below same =
      on_array (each_of p ns) (each_of q ns) v (λ vs deep. each_of_same p q ns vs (λ j w less. below.rows j w (omega arith)))
  payload_same_at (struct_payload x) v below same =
      map_with_same (matches_of C x.flatten v) (matches_of D x.flatten v) (map (field_member contract p) x.list)
      (map (field_member contract q) x.list) x.closed v same (fields_alike (depth v) below x.list)

  smaller_same : (x : Payload) (h : ℕ) (w : Data) → AreSameBelow h → depth w < h → PayloadIsSame x w
  smaller_same no_payload h w below less = tt
  smaller_same (newtype_payload n) h w below less = below.rows n w less
  smaller_same (tuple_payload ns) h w below less = tt
  smaller_same (struct_payload x) h w below less = matches_same w (λ j. below.enums j w less) x.flatten

  inside_same : (x : Payload) (h : ℕ) (w : Data) → AreSameBelow h → depth w < h → has_payload contract p C x w
      ≡ has_payload contract q D x w
  inside_same x h w below less = payload_same_at x w (shrink h (depth w) (omega arith) below) (smaller_same x h w below less)

  -- ---- variants, of which parts agree on values as deep as v, and enums on v

  abbrev SameAt : Data → ℕ → Type 0
  SameAt v j = (w : Data) → depth w ≤ depth v → p j w ≡ q j w

  abbrev EnumsAt : Data → Type 0
  EnumsAt v = (j : ℕ) → C j v ≡ D j v

  module _ (part : Flattened → List Field) (enums : Flattened → List ℕ) where
    spread_same : (v : Data) (ps : List Flattened) → ((j : ℕ) → Contains (map (λ x. x.ty) ps) j → EnumsAt v)
        → matches_of C (map enum_at (flattened_enums enums ps)) v ≡ matches_of D (map enum_at (flattened_enums enums ps)) v
    spread_same v [] same = refl
    spread_same v (x ∷ xs) same = matches_same v (same x.ty (0, omega arith, refl)) (map enum_at (flattened_enums enums (x ∷ xs)))

    struct_same : (v : Data) (y : Fields) → AreSameBelow (depth v) → ((j : ℕ) → Contains (flattened_rows y) j → EnumsAt v)
        → has_payload contract p C (struct_payload (expanded_fields part enums y)) v
        ≡ has_payload contract q D (struct_payload (expanded_fields part enums y)) v
    struct_same v y below same = payload_same_at (struct_payload (expanded_fields part enums y)) v below (spread_same v y.flatten same)

    untagged_same : (x : Payload) (v : Data) → AreSameBelow (depth v) → ((j : ℕ) → Contains (payload_same x) j → SameAt v j)
        → ((j : ℕ) → Contains (payload_flattened x) j → EnumsAt v)
        → has_payload contract p C (expanded_payload part enums x) v ≡ has_payload contract q D (expanded_payload part enums x) v
    untagged_same no_payload v below same flat = refl
    untagged_same (newtype_payload n) v below same flat = same n (0, omega arith, refl) v (omega arith)
    untagged_same (tuple_payload ns) v below same flat = payload_same_at (tuple_payload ns) v below tt
    untagged_same (struct_payload y) v below same flat = struct_same v y below flat

    content_same : (n : ℕ) (tag name : Text) (v : Data) → SameAt v n
        → holds (as_object v) (λ ms. holds (get_member tag ms) (is_text name) && p n (object (without tag ms)))
        ≡ holds (as_object v) (λ ms. holds (get_member tag ms) (is_text name) && q n (object (without tag ms)))
    content_same n tag name v same =
        on_object (λ ms. holds (get_member tag ms) (is_text name) && p n (object (without tag ms)))
        (λ ms. holds (get_member tag ms) (is_text name) && q n (object (without tag ms))) v
        (λ ms deep. ap (λ t. holds (get_member tag ms) (is_text name) && t)
        (same (object (without tag ms)) (omega (arith, without-shallow tag ms))))

    beside_same : (tag name content : Text) (x : Payload) (closed : Bool) (v : Data) → AreSameBelow (depth v)
        → has_members (tag_member tag name ∷ must_have content (has_payload contract p C x) ∷ []) (λ k. not closed) v
        ≡ has_members (tag_member tag name ∷ must_have content (has_payload contract q D x) ∷ []) (λ k. not closed) v
    beside_same tag name content x closed v below =
        map_same (tag_member tag name ∷ must_have content (has_payload contract p C x) ∷ [])
        (tag_member tag name ∷ must_have content (has_payload contract q D x) ∷ []) (λ k. not closed) v
        (refl, refl, λ w less. refl, (refl, refl, λ w less. inside_same x (depth v) w below less, tt))

    variant_same : (tagging : Tagging) (name : Text) (x : Payload) (notes : Members) (v : Data) → AreSameBelow (depth v)
        → ((j : ℕ) → Contains (payload_same_by tagging x) j → SameAt v j) → ((j : ℕ) → Contains (payload_flattened x) j → EnumsAt v)
        → has_variant contract p C tagging v (record { name = name; payload = expanded_payload part enums x; notes = notes })
        ≡ has_variant contract q D tagging v (record { name = name; payload = expanded_payload part enums x; notes = notes })
    variant_same by_name name no_payload notes v below same flat = refl
    variant_same by_name name (newtype_payload n) notes v below same flat =
        one_same name (p n) (q n) true v (λ w less. below.rows n w less)
    variant_same by_name name (tuple_payload ns) notes v below same flat =
        one_same name (has_payload contract p C (tuple_payload ns)) (has_payload contract q D (tuple_payload ns)) true v
        (λ w less. inside_same (tuple_payload ns) (depth v) w below less)
    variant_same by_name name (struct_payload y) notes v below same flat =
        let z = struct_payload (expanded_fields part enums y) in
        one_same name (has_payload contract p C z) (has_payload contract q D z) true v (λ w less. inside_same z (depth v) w below less)
    variant_same by_nothing name x notes v below same flat = untagged_same x v below same flat
    variant_same (by_tag tag closed) name no_payload notes v below same flat = refl
    variant_same (by_tag tag closed) name (newtype_payload n) notes v below same flat =
        content_same n tag name v (same n (0, omega arith, refl))
    variant_same (by_tag tag closed) name (tuple_payload ns) notes v below same flat = refl
    variant_same (by_tag tag closed) name (struct_payload y) notes v below same flat =
        let z = expanded_fields part enums y in
        map_with_same (matches_of C z.flatten v) (matches_of D z.flatten v) (tag_member tag name ∷ map (field_member contract p) z.list)
        (tag_member tag name ∷ map (field_member contract q) z.list) z.closed v (spread_same v y.flatten flat)
        (refl, refl, λ w less. refl, fields_alike (depth v) below z.list)
    variant_same (by_tag_and_content tag content closed) name no_payload notes v below same flat = refl
    variant_same (by_tag_and_content tag content closed) name (newtype_payload n) notes v below same flat =
        beside_same tag name content (newtype_payload n) closed v below
    variant_same (by_tag_and_content tag content closed) name (tuple_payload ns) notes v below same flat =
        beside_same tag name content (tuple_payload ns) closed v below
    variant_same (by_tag_and_content tag content closed) name (struct_payload y) notes v below same flat =
        beside_same tag name content (struct_payload (expanded_fields part enums y)) closed v below

    variants_same : (tagging : Tagging) (xs : List Variant) (v : Data) → AreSameBelow (depth v)
        → ((j : ℕ) → Contains (of_variants (payload_same_by tagging) xs) j → SameAt v j)
        → ((j : ℕ) → Contains (of_variants payload_flattened xs) j → EnumsAt v)
        → list_any (has_variant contract p C tagging v) (map (expanded_variant part enums) xs)
        ≡ list_any (has_variant contract q D tagging v) (map (expanded_variant part enums) xs)
    variants_same tagging [] v below same flat = refl
    variants_same tagging (x ∷ xs) v below same flat =
        λ i. variant_same tagging x.name x.payload x.notes v below
        (λ j c. same j (Contains-append_left (payload_same_by tagging x.payload) (of_variants (payload_same_by tagging) xs) j c))
        (λ j c. flat j (Contains-append_left (payload_flattened x.payload) (of_variants payload_flattened xs) j c)) i
        || variants_same tagging xs v below
        (λ j c. same j (Contains-append_right (payload_same_by tagging x.payload) (of_variants (payload_same_by tagging) xs) j c))
        (λ j c. flat j (Contains-append_right (payload_flattened x.payload) (of_variants payload_flattened xs) j c)) i

    -- ---- shapes

    member_same : (name : Text) (n : ℕ) (closed : Bool) (v : Data) → AreSameBelow (depth v)
        → has_member name (p n) closed v ≡ has_member name (q n) closed v
    member_same name n closed v below = one_same name (p n) (q n) closed v (λ w less. below.rows n w less)

    items_same : (n : ℕ) (v : Data) → AreSameBelow (depth v) → (vs : Items) → suc (items_depth vs) ≡ depth v
        → every_item (p n) vs ≡ every_item (q n) vs
    items_same n v below vs deep = every_item_same (p n) (q n) vs (λ w less. below.rows n w (omega arith))

    pub shape_same : (patterns : Patterns) (keys : ℕ → KeyOptions) (s : Shape) (v : Data) → AreSameBelow (depth v)
        → ((j : ℕ) → Contains (same_value_numbers s) j → SameAt v j) → ((j : ℕ) → Contains (flattened_numbers s) j → EnumsAt v)
        → has_shape contract patterns keys C p (expanded_shape part enums s) v
        ≡ has_shape contract patterns keys D q (expanded_shape part enums s) v
    shape_same patterns keys (shape.option n) v below same flat = λ i. is_null v || same n (0, omega arith, refl) v (omega arith) i
    shape_same patterns keys (shape.newtype n) v below same flat = same n (0, omega arith, refl) v (omega arith)
    shape_same patterns keys (shape.seq n) v below same flat =
        on_array (every_item (p n)) (every_item (q n)) v (λ vs deep. items_same n v below vs deep)
    shape_same patterns keys (shape.set n) v below same flat =
        on_array (λ vs. are_distinct vs && every_item (p n) vs) (λ vs. are_distinct vs && every_item (q n) vs) v
        (λ vs deep. ap (λ t. are_distinct vs && t) (items_same n v below vs deep))
    shape_same patterns keys (shape.array n len) v below same flat =
        on_array (λ vs. (items_len vs == len) && every_item (p n) vs) (λ vs. (items_len vs == len) && every_item (q n) vs) v
        (λ vs deep. ap (λ t. (items_len vs == len) && t) (items_same n v below vs deep))
    shape_same patterns keys (shape.up_to n cap) v below same flat =
        on_array (λ vs. nat_le (items_len vs) cap && every_item (p n) vs) (λ vs. nat_le (items_len vs) cap && every_item (q n) vs) v
        (λ vs deep. ap (λ t. nat_le (items_len vs) cap && t) (items_same n v below vs deep))
    shape_same patterns keys (shape.tuple ns) v below same flat = payload_same_at (tuple_payload ns) v below tt
    shape_same patterns keys (shape.struct x) v below same flat = struct_same v x below flat
    shape_same patterns keys (shape.result t e) v below same flat =
        λ i. exactly_one (member_same (codes "Ok") t false v below i ∷ member_same (codes "Err") e false v below i ∷ [])
    shape_same patterns keys (shape.bound n) v below same flat =
        λ i. exactly_one (member_same (codes "Included") n false v below i ∷ member_same (codes "Excluded") n false v below i
        ∷ is_text (codes "Unbounded") v ∷ [])
    shape_same patterns keys (shape.range n) v below same flat =
        map_same (must_have (codes "start") (p n) ∷ must_have (codes "end") (p n) ∷ [])
        (must_have (codes "start") (q n) ∷ must_have (codes "end") (q n) ∷ []) (λ k. true) v
        (refl, refl, λ w less. below.rows n w less, (refl, refl, λ w less. below.rows n w less, tt))
    shape_same patterns keys (shape.either l r) v below same flat =
        λ i. exactly_one (member_same (codes "Left") l true v below i ∷ member_same (codes "Right") r true v below i ∷ [])
    shape_same patterns keys (shape.map_from key value) v below same flat =
        on_object (every_member (λ k w. is_key_allowed patterns (keys key) k && p value w))
        (every_member (λ k w. is_key_allowed patterns (keys key) k && q value w)) v
        (λ ms deep. every_member_same (λ k w. is_key_allowed patterns (keys key) k && p value w)
        (λ k w. is_key_allowed patterns (keys key) k && q value w) ms
        (λ k w less. ap (λ t. is_key_allowed patterns (keys key) k && t) (below.rows value w (omega arith))))
    shape_same patterns keys (shape.enum tagging xs) v below same flat = variants_same tagging xs v below same flat
    shape_same patterns keys _ v below same flat = refl

    -- ---- what the variants of an enum offer

    offer_same : (name : Text) (x : Payload) (notes : Members) (v : Data) → AreSameBelow (depth v)
        → external_choice contract p C v (record { name = name; payload = expanded_payload part enums x; notes = notes })
        ≡ external_choice contract q D v (record { name = name; payload = expanded_payload part enums x; notes = notes })
    offer_same name x notes v below =
        let z = expanded_payload part enums x in
        ap (λ t. record { fits = t; has_key = bytes_eq name })
        (one_same name (has_payload contract p C z) (has_payload contract q D z) false v (λ w less. inside_same z (depth v) w below less))

    tagged_same : (tag name : Text) (x : Payload) (notes : Members) (v : Data) → AreSameBelow (depth v)
        → is_tagged_map contract p tag v (record { name = name; payload = expanded_payload part enums x; notes = notes })
        ≡ is_tagged_map contract q tag v (record { name = name; payload = expanded_payload part enums x; notes = notes })
    tagged_same tag name no_payload notes v below = refl
    tagged_same tag name (newtype_payload n) notes v below = refl
    tagged_same tag name (tuple_payload ns) notes v below = refl
    tagged_same tag name (struct_payload y) notes v below =
        let z = expanded_fields part enums y in
        map_with_same [] [] (tag_member tag name ∷ map (field_member contract p) z.list)
        (tag_member tag name ∷ map (field_member contract q) z.list) false v refl
        (refl, refl, λ w less. refl, fields_alike (depth v) below z.list)

    pub offers_same : (s : Shape) (v : Data) → AreSameBelow (depth v)
        → shape_choices contract p C (expanded_shape part enums s) v ≡ shape_choices contract q D (expanded_shape part enums s) v
    offers_same (shape.enum by_name xs) v below = go xs
      where
        go : (xs : List Variant) → map (external_choice contract p C v) (map (expanded_variant part enums) xs)
            ≡ map (external_choice contract q D v) (map (expanded_variant part enums) xs)
        go [] = refl
        go (x ∷ xs) = λ i. offer_same x.name x.payload x.notes v below i ∷ go xs i
    offers_same (shape.enum (by_tag tag closed) xs) v below = go xs
      where
        go : (xs : List Variant) → map (internal_choice contract p tag v) (map (expanded_variant part enums) xs)
            ≡ map (internal_choice contract q tag v) (map (expanded_variant part enums) xs)
        go [] = refl
        go (x ∷ xs) = λ i. record {
          fits = tagged_same tag x.name x.payload x.notes v below i;
          has_key = λ k. bytes_eq tag k || is_some (field_named (tagged_fields (expanded_payload part enums x.payload)) k);
        } ∷ go xs i
    offers_same _ v below = refl
