-- JSON values, and numbers.
use Rattle.std.proofs.Common.{◌≡◌, inl, inr, ℕ, List, true, false, Option, Some, None, Float, refl, subst, arith}
use Rattle.schemars_written.proofs.Words.{option_map, codes, float_is_finite, common_steps, Json, Log, Logs, InSeq, Then, Num, unsigned, negative, float, Data, null, boolean, number, string, array, object, Items, no_items, item, Members, no_members, member, number_event, items_len, members_len, SendsValue, SendsItems, SendsMembers, get, get_member, number_of, State, Takes, TakesFloat, ReadsAsSingle, ReadsAsDouble, Text, where_given, Row, IsPlain, Gives, GivesItems, GivesMembers, Done, Struct, IsArray, IsObject, First, FirstMember, NoItems, NoMembers, Fits, Means, HasShape, HasNumbers, IsFreeOfBounds, IsNumberRow}
use Rattle.json.specs.Json as json
use Rattle.serde.specs.Event as event
use Rattle.serde.specs.declared.name.Case.TheVariants.{AsIs}
use Rattle.schemars_shapes.specs.Shape as shape
use Rattle.schemars_written.specs.Gives.{Field}
use Rattle.schemars_written.proofs.Atoms.{Added, one, weaker, step, Some_same, unsigned_gives, signed_gives, null_gives}
use Rattle.schemars_written.proofs.Lists.{no_items_give, then_give, in_seq_gives}
use Rattle.schemars_written.proofs.Objects.{done_gives, member_gives, field_key_gives, struct_gives}

-- ---- numbers

-- a float is a number, or null where it is not finite
float_added : (Reads : Float → List ℕ → Type 0) (x : Float) (P : Json → Type 0) → ((s : List ℕ) → P (json.number s))
    → (float_is_finite x ≡ false → P json.null) → (s mid : State) → IsPlain s → TakesFloat Reads s x mid → Added P s mid
float_added Reads x P numbers other s mid plain (inl took) =
    (json.number took.1, numbers took.1, grind (arith, common_steps, took.4), grind (arith, common_steps, took.4))
float_added Reads x P numbers other s mid plain (inr took) =
    (json.null, other took.0, grind (arith, common_steps, took.2), grind (arith, common_steps, took.2))

pub double_gives : (x : Float) (P : Json → Type 0) → ((s : List ℕ) → P (json.number s)) → (float_is_finite x ≡ false → P json.null)
    → Gives (λ old new. Logs old new (event.double x)) P
double_gives x P numbers other = one (event.double x) P (λ s mid plain took. float_added ReadsAsDouble x P numbers other s mid plain took)

pub single_gives : (x : Float) (P : Json → Type 0) → ((s : List ℕ) → P (json.number s)) → (float_is_finite x ≡ false → P json.null)
    → Gives (λ old new. Logs old new (event.single x)) P
single_gives x P numbers other = one (event.single x) P taken
  where
    taken : (s mid : State) → IsPlain s → Takes s (event.single x) mid → Added P s mid
    taken s mid plain (inl took) = float_added ReadsAsDouble x P numbers other s mid plain took.1
    taken s mid plain (inr took) = float_added ReadsAsSingle x P numbers other s mid plain took.1

number_gives : (n : Num) (P : Json → Type 0) → ((s : List ℕ) → P (json.number s)) → P json.null
    → Gives (λ old new. Logs old new (number_event n)) P
number_gives (unsigned v) P numbers nothing = unsigned_gives v P (numbers _)
number_gives (negative z) P numbers nothing = signed_gives z P (numbers _)
number_gives (float x) P numbers nothing = double_gives x P numbers (λ no. nothing)

-- whatever a number's digits are read as is a number
number_parts : (o : Option Num) (d : Data) → option_map number o ≡ Some d → (x : Num) × (number x ≡ d)
number_parts None d h = absurd (cc)
number_parts (Some x) d h = (x, Some_same (number x) d h)

pub number_means : (rows : List Row) (n : ℕ) → HasShape rows n shape.number → (s : List ℕ) → Means rows n (json.number s)
number_means rows n is s patterns takes d reads =
    let x = number_parts (number_of s) d reads in
    subst (λ v. Fits rows patterns n v) x.1 (step rows patterns n shape.number (number x.0) is (λ steps low. refl))

-- and so it is in a row that has every number
numeral_means : (rows : List Row) (n : ℕ) → IsNumberRow rows n → (s : List ℕ) → Means rows n (json.number s)
numeral_means rows n (inl is) s = number_means rows n is s
numeral_means rows n (inr is) s = λ patterns takes d reads.
    let x = number_parts (number_of s) d reads in
    subst (λ v. Fits rows patterns n v) x.1 (step rows patterns n (shape.literal is.0) (number x.0) is.1 (λ steps low. is.2 patterns x.0))

pub double_agrees : (rows : List Row) (n : ℕ) (x : Float) → IsNumberRow rows n → float_is_finite x ≡ true
    → Gives (λ old new. Logs old new (event.double x)) (Means rows n)
double_agrees rows n x is finite = double_gives x (Means rows n) (numeral_means rows n is) (λ no. absurd (cc))

pub single_agrees : (rows : List Row) (n : ℕ) (x : Float) → IsNumberRow rows n → float_is_finite x ≡ true
    → Gives (λ old new. Logs old new (event.single x)) (Means rows n)
single_agrees rows n x is finite = single_gives x (Means rows n) (numeral_means rows n is) (λ no. absurd (cc))

-- a literal of numbers that asks nothing else
pub asks_for_numbers : (d : Data) → get (codes "type") d ≡ Some (string (codes "number")) → IsFreeOfBounds d → HasNumbers d
asks_for_numbers null type free = absurd (cc)
asks_for_numbers (boolean b) type free = absurd (cc)
asks_for_numbers (number n) type free = absurd (cc)
asks_for_numbers (string s) type free = absurd (cc)
asks_for_numbers (array ds) type free = absurd (cc)
asks_for_numbers (object ms) type none = λ patterns x.
    rw (type, none.0, none.1, none.2, none.3, free (codes "minLength"), free (codes "maxLength"), free (codes "pattern"), free (codes "minItems"), free (codes "maxItems")) refl
  where
    any : {A : Type 0} (o : Option A) → where_given o (λ a. true) ≡ true
    any None = refl
    any (Some a) = refl

    free : (k : Text) → where_given (get_member k ms) (λ d. true) ≡ true
    free k = any (get_member k ms)

-- ---- values

abbrev pub Any : Json → Type 0
Any j = Unit {0}

abbrev AnyItems : json.Items → Type 0
AnyItems js = Unit {0}

abbrev AnyMembers : json.Members → Type 0
AnyMembers ms = Unit {0}

abbrev Each : Items → Log → Log → Type 0
Each no_items old new = new ≡ old
Each (item d ds) old new = Then (SendsValue d) (Each ds) old new

abbrev EachMember : Members → Log → Log → Type 0
EachMember no_members old new = Done old new
EachMember (member k d ms) old new = Field k (SendsValue d) (EachMember ms) old new

up_to_end : (ds : Items) (old new : Log) → SendsItems ds old new → (mid : Log) × Each ds old mid × Logs mid new event.seq_ends
up_to_end no_items old new h = (old, refl, h)
up_to_end (item d ds) old new h = let more = up_to_end ds h.0 new h.2 in (more.0, (h.0, h.1, more.1), more.2)

members_up_to_end : (ms : Members) (old new : Log) → SendsMembers ms old new → (mid : Log) × EachMember ms old mid × Logs mid new event.map_ends
members_up_to_end no_members old new h = (old, refl, h)
members_up_to_end (member k d ms) old new h =
    let more = members_up_to_end ms h.1 new h.4 in (more.0, (h.0, h.1, h.2, h.3, more.1), more.2)

any_items : (w : Log → Log → Type 0) (P : json.Items → Type 0) → GivesItems w P → GivesItems w AnyItems
any_items w P given es new sent =
    let g = given es new sent in
    (g.0, g.1, λ rest s last plain run. let a = g.2 rest s last plain run in (a.0, a.1, tt, a.3, a.4, a.5))

any_members : (w : Log → Log → Type 0) (P : json.Members → Type 0) → GivesMembers w P → GivesMembers w AnyMembers
any_members w P given es new sent =
    let g = given es new sent in
    (g.0, g.1, λ rest s last plain run. let a = g.2 rest s last plain run in (a.0, a.1, tt, a.3, a.4, a.5))

mutual
  value_gives : (d : Data) → Gives (SendsValue d) Any
  value_gives null = null_gives Any tt
  value_gives (boolean b) = one (event.boolean b) Any (λ s mid plain took.
      (json.boolean b, tt, grind (arith, common_steps, took), grind (arith, common_steps, took)))
  value_gives (number n) = number_gives n Any (λ s. tt) tt
  value_gives (string t) = one (event.text t) Any (λ s mid plain took.
      (json.string t, tt, grind (arith, common_steps, took), grind (arith, common_steps, took)))
  value_gives (array ds) = λ es new sent.
      let more = up_to_end ds sent.0 new sent.2 in
      weaker (InSeq (items_len ds) (Each ds)) (IsArray AnyItems) Any (λ j is. tt) (in_seq_gives (items_len ds) (Each ds) AnyItems (items_give ds)) es new
      (sent.0, more.0, sent.1, more.1, more.2)
  value_gives (object ms) = λ es new sent.
      let more = members_up_to_end ms sent.0 new sent.2 in
      weaker (Struct (members_len ms) (EachMember ms)) (IsObject AnyMembers) Any (λ j is. tt) (struct_gives (members_len ms) (EachMember ms) AnyMembers (members_give ms)) es new
      (sent.0, more.0, sent.1, more.1, more.2)

  items_give : (ds : Items) → GivesItems (Each ds) AnyItems
  items_give no_items = any_items (Each no_items) NoItems no_items_give
  items_give (item d ds) = any_items (Each (item d ds)) (First Any AnyItems) (then_give (SendsValue d) (Each ds) Any AnyItems (value_gives d) (items_give ds))

  members_give : (ms : Members) → GivesMembers (EachMember ms) AnyMembers
  members_give no_members = any_members (EachMember no_members) NoMembers done_gives
  members_give (member k d ms) = any_members (EachMember (member k d ms)) (FirstMember k Any AnyMembers)
      (member_gives k (λ old new. Logs old new (event.field_key k AsIs)) (SendsValue d) (EachMember ms) Any AnyMembers
      (field_key_gives k) (value_gives d) (members_give ms))

pub value_agrees : (rows : List Row) (n : ℕ) (d : Data) → HasShape rows n shape.any → Gives (SendsValue d) (Means rows n)
value_agrees rows n d is = weaker (SendsValue d) Any (Means rows n)
    (λ j any patterns takes v reads. step rows patterns n shape.any v is (λ steps low. refl)) (value_gives d)
