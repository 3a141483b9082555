-- What the document of an enum says whose variants have their names as keys, and whose payloads may have enums among their members.
use Rattle.std.proofs.Common.{◌≡◌, ℕ, List, [], ◌∷◌, ◌++◌, map, Option, Some, None, Bool, true, false, refl, sym, ap, ◌∙◌, subst, true≢false}
use Rattle.schemars_meaning.proofs.Words.{bytes_eq, if◌then◌else◌, not, ◌||◌, list_any, option_map_or, and_parts, bytes_eq-Decides, Data, string, object, Members, no_members, member, Text, IsJson, verdict, Judge, Patterns, context2020_12, Field, Flattened, Payload, Variant, no_payload, newtype_payload, tuple_payload, struct_payload, is_bare_unit, none, exactly_one, VariantMatch, has_payload, AreDistinctVariants, Ask, Template, noted, asks_of, filled, member_template, payload_template, named_template, bare_units, other_items, units_template, choice_of, external_template, expanded_payload, expanded_variant, has_external, has_member, must_have}
use Rattle.schemars_types.specs.declared.contract.Contract.{Contract}
use Rattle.schemars_types.specs.Meaning.{is_text}
use Rattle.schemars_meaning.proofs.Filling.{without_end}
use Rattle.schemars_meaning.proofs.UnitMembers.{kept, none-middle, one-middle}
use Rattle.schemars_meaning.proofs.SmallMaps.{one_means}
use Rattle.schemars_meaning.proofs.Choices.{unit_says, units_say}
use Rattle.schemars_meaning.proofs.OneOf.{one_if_any, AreTold, Tells, TellsInside, AllTell, one_tells, noted_tells}

-- ---- a value tells the name of its variant

abbrev claimed : Data → Option Text
claimed (string s) = Some s
claimed (object (member k d ms)) = Some k
claimed _ = None

text_claimed : (k : Text) (v : Data) → is_text k v ≡ true → claimed v ≡ Some k
text_claimed k (string s) h = ap Some (sym ((bytes_eq-Decides k s).0 h))
text_claimed k _ h = absurd (true≢false (sym h))

map_claimed : (k : Text) (p : Data → Bool) (v : Data) → has_member k p true v ≡ true → claimed v ≡ Some k
map_claimed k p (object (member l w ms)) h = go (bytes_eq k l) refl (and_parts _ _ (and_parts _ _ h).0).0
  where
    go : (b : Bool) → bytes_eq k l ≡ b → option_map_or (λ m. m.has w) (if b then Some (must_have k p) else None) false ≡ true
        → Some l ≡ Some k
    go true here fits = ap Some (sym ((bytes_eq-Decides k l).0 here))
    go false other fits = absurd (true≢false (sym fits))
map_claimed k p _ h = absurd (true≢false (sym h))

-- ---- an item that some share comes first

-- `first` says whether one of those that share an item has the value, `others` and `each` whether each other and each does
abbrev Parted : Bool → List Bool → List Bool → Bool → Type 0
Parted first others each any =
    (none (first ∷ others) ≡ none each) × (exactly_one each ≡ any → exactly_one (first ∷ others) ≡ any)

one_shares : (b s : Bool) (os bs : List Bool) (any : Bool) → Parted s os bs any → Parted (b || s) os (b ∷ bs) (b || any)
one_shares true s os bs any h = (refl, λ one. (and_parts (not s) (none os) (h.0 ∙ one)).1)
one_shares false s os bs any h = h

one_beside : (b s : Bool) (os bs : List Bool) (any : Bool) → Parted s os bs any → Parted s (b ∷ os) (b ∷ bs) (b || any)
one_beside true s os bs any h = (none-middle (s ∷ []) true os, λ one. one-middle (s ∷ []) true os ∙ (h.0 ∙ one))
one_beside false s os bs any h = (none-middle (s ∷ []) false os ∙ h.0, λ one. one-middle (s ∷ []) false os ∙ h.1 one)

module _ (patterns : Patterns) (f : Text → Judge) (contract : Contract) (A : Ask → Data → Type 0) (M : ℕ → Data → Bool)
    (C : ℕ → Data → List VariantMatch) (v : Data) (part_fields : Flattened → List Field) (enums : Flattened → List ℕ) where
  abbrev has : Variant → Bool
  has = has_external contract M C v

  abbrev named : Text → Payload → Bool
  named name p = has (record { name = name; payload = p; notes = no_members })

  variant_claimed : (name : Text) (p : Payload) → named name p ≡ true → claimed v ≡ Some name
  variant_claimed name no_payload h = text_claimed name v h
  variant_claimed name (newtype_payload n) h = map_claimed name (M n) v h
  variant_claimed name (tuple_payload ns) h = map_claimed name (has_payload contract M C (tuple_payload ns)) v h
  variant_claimed name (struct_payload y) h = map_claimed name (has_payload contract M C (struct_payload y)) v h

  abbrev each : Variant → Variant
  each = expanded_variant part_fields enums

  abbrev has_inside : Payload → Data → Bool
  has_inside p = has_payload contract M C (expanded_payload part_fields enums p)

  -- ---- units without notes share the first item

  abbrev is_one_of : List Text → Bool
  is_one_of ks = list_any (λ k. is_text k v) ks

  abbrev others : List Variant → List Bool
  others xs = map (λ x. has (each x)) (kept is_bare_unit xs)

  unit_same : (name : Text) (p : Payload) (notes : Members)
      → is_bare_unit (record { name = name; payload = p; notes = notes }) ≡ true
      → named name (expanded_payload part_fields enums p) ≡ is_text name v
  unit_same name no_payload notes h = refl
  unit_same name _ notes h = absurd (true≢false (sym h))

  abbrev AreParted : List Variant → Type 0
  AreParted xs = Parted (is_one_of (bare_units xs)) (others xs) (map has (map each xs)) (list_any has (map each xs))

  units_first : (xs : List Variant) → AreParted xs
  units_first [] = (refl, λ one. one)
  units_first (x ∷ xs) = go (is_bare_unit x) refl (units_first xs)
    where
      go : (b : Bool) → is_bare_unit x ≡ b → AreParted xs
          → Parted (is_one_of (if b then x.name ∷ bare_units xs else bare_units xs))
          (map (λ y. has (each y)) (if b then kept is_bare_unit xs else x ∷ kept is_bare_unit xs))
          (has (each x) ∷ map has (map each xs)) (has (each x) || list_any has (map each xs))
      go true unit later =
          subst (λ b. Parted (b || is_one_of (bare_units xs)) (others xs) (has (each x) ∷ map has (map each xs))
          (has (each x) || list_any has (map each xs)))
          (unit_same x.name x.payload x.notes unit)
          (one_shares (has (each x)) (is_one_of (bare_units xs)) (others xs) (map has (map each xs)) (list_any has (map each xs)) later)
      go false other later =
          one_beside (has (each x)) (is_one_of (bare_units xs)) (others xs) (map has (map each xs)) (list_any has (map each xs)) later

  lone : (b : Bool) → b ≡ exactly_one (b ∷ [])
  lone true = refl
  lone false = refl

  choice_tells : (ks : List Text) (ts : List Template) (bs : List Bool) → AllTell patterns f A v ts bs
      → Tells patterns f A v (choice_of ks ts) (exactly_one (is_one_of ks ∷ bs))
  choice_tells [] ts bs h = one_tells patterns f A v ts bs h
  choice_tells (k ∷ ks) [] [] h = λ us fit. (tt, units_say patterns f (k ∷ ks) v ∙ ap verdict (lone (is_one_of (k ∷ ks))))
  choice_tells (k ∷ ks) [] (b ∷ bs) h = absurd h
  choice_tells (k ∷ ks) (t ∷ ts) bs h =
      one_tells patterns f A v (units_template (k ∷ ks) ∷ t ∷ ts) (is_one_of (k ∷ ks) ∷ bs)
      (λ us fit. (tt, units_say patterns f (k ∷ ks) v), h)

  -- ---- the whole

  module _ (Told : Payload → Type 0) (json : IsJson v)
      (tells : (p : Payload) → Told p → TellsInside patterns f A v (payload_template contract p) (has_inside p)) where
    keyed_tells : (name : Text) (p : Payload) → Told p → Tells patterns f A v (member_template true name (payload_template contract p))
        (has_member name (has_inside p) true v)
    keyed_tells name p told us fit =
        let t = payload_template contract p in
        let say = tells p told us (without_end A (asks_of t) us (without_end A (asks_of t ++ []) us fit)) in (
          tt,
          one_means (context2020_12 patterns f) refl v name (has_inside p)
              (filled t us) true say.0 say.1 json,
        )

    named_tells : (name : Text) (p : Payload) → Told p
        → Tells patterns f A v (named_template contract name p) (named name (expanded_payload part_fields enums p))
    named_tells name no_payload told = λ us fit. (tt, unit_says patterns f name v)
    named_tells name (newtype_payload n) told = keyed_tells name (newtype_payload n) told
    named_tells name (tuple_payload ns) told = keyed_tells name (tuple_payload ns) told
    named_tells name (struct_payload y) told = keyed_tells name (struct_payload y) told

    others_tell : (xs : List Variant) → AreTold Told xs → AllTell patterns f A v (other_items contract xs) (others xs)
    others_tell [] told = tt
    others_tell (x ∷ xs) told = go (is_bare_unit x) (others_tell xs told.1)
      where
        go : (b : Bool) → AllTell patterns f A v (other_items contract xs) (others xs)
            → AllTell patterns f A v (if b then other_items contract xs
            else noted x.notes (named_template contract x.name x.payload) ∷ other_items contract xs)
            (map (λ y. has (each y)) (if b then kept is_bare_unit xs else x ∷ kept is_bare_unit xs))
        go true later = later
        go false later = (
          noted_tells patterns f A v x.notes (named_template contract x.name x.payload) (has (each x)) told.0.1
              (named_tells x.name x.payload told.0.0),
          later,
        )

    -- the document of the enum says what the enum means
    pub external_says : (xs : List Variant) → AreDistinctVariants (map each xs) → AreTold Told xs
        → Tells patterns f A v (external_template contract xs) (list_any has (map each xs))
    external_says xs apart told us fit =
        let choice = choice_tells (bare_units xs) (other_items contract xs) (others xs) (others_tell xs told) us fit in
        let one = one_if_any has (claimed v) (λ x. variant_claimed x.name x.payload) (map each xs) apart in
        (choice.0, choice.1 ∙ ap verdict ((units_first xs).1 one))
