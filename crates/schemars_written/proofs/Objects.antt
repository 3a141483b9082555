-- Maps and structs.
use Rattle.std.proofs.Common.{◌≡◌, ◌⊎◌, inl, inr, ℕ, suc, ◌*◌, ◌<◌, ◌≤◌, List, [], ◌∷◌, ◌++◌, length, map, Bool, true, false, not, ◌||◌, Option, Some, None, is_some, refl, sym, ap, ◌∙◌, subst, arith, append_assoc, append-nil}
use Rattle.schemars_written.proofs.Words.{option_map, option_and_then, Contains, bytes_eq, if◌then◌else◌, IsDistinct, AllByRecursion, option_map_or, common_steps, bytes_eq-Decides, Json, json_tokens, members_tokens, Event, Log, Logs, spelled-AsIs, Data, depth, members_depth, object, Members, no_members, member, put, get_member, of_json, of_members, State, Takes, TakesAll, get_member-put, get_member-put_other, Text, Patterns, differ, Entry, Field, names_of, AreDistinctLists, AllMembers, all_put, Row, rank, IsChecked, belongs_within, every_member, field_named, has_fields, is_required, IsPlain, Gives, GivesMembers, SpellsMembers, NoMembers, FirstMember, IsObject, Struct, Fits, MeansUnder, HasShape}
use Rattle.json.specs.Json as json
use Rattle.json.specs.Token as token
use Rattle.serde.specs.Event as event
use Rattle.serde.specs.declared.name.Case.TheVariants.{AsIs}
use Rattle.serde.specs.declared.name.NameKind.TheVariants as kind
use Rattle.schemars_shapes.specs.Shape as shape
use Rattle.schemars_written.proofs.Members.{field_fits, has_each_field, member_at}
use Rattle.schemars_types.specs.declared.contract.Contract.TheVariants.{Serialize}
use Rattle.schemars_written.specs.Gives as gives
use Rattle.schemars_written.proofs.Atoms.{weaker, step, part_low, known, Some_same}
use Rattle.schemars_written.proofs.Lists.{closer, shallower, both_true}

-- ---- how members are sent

-- what is sent is this key
abbrev pub GivesKey : (Log → Log → Type 0) → Text → Type 0
GivesKey sends k = (es : List Event) (new : Log) → sends (Some es) new
    → (added : List Event) × (new ≡ Some (es ++ added)) ×
    ((rest : List Event) (s last : State) → IsPlain s → TakesAll s (added ++ rest) last
    → (mid : State) × IsPlain mid × (mid.tokens ≡ s.tokens ++ token.key k ∷ []) × TakesAll mid rest last)

pub field_key_gives : (name : Text) → GivesKey (λ old new. Logs old new (event.field_key name AsIs)) name
field_key_gives name es new sent = (
  event.field_key name AsIs ∷ [],
  sent,
  λ rest s last plain run.
      (run.0, grind (arith, common_steps, run.1), grind (arith, common_steps, run.1, spelled-AsIs kind.Field name), run.2),
)

pub done_gives : GivesMembers (λ old new. new ≡ old) NoMembers
done_gives es new sent = (
  [],
  sent ∙ ap Some (sym (append-nil es)),
  λ rest s last plain run.
      (run.0, json.no_members, tt, map_ended s run.0 plain run.1, ended_tokens s run.0 plain run.1, run.2),
)
  where
    map_ended : (s m : State) → IsPlain s → Takes s event.map_ends m → IsPlain m
    map_ended s m plain step = elim step [
      | inl flat ↦ absurd (grind (arith, common_steps, flat.1, plain.2))
      | inr braced ↦ grind (arith, common_steps, braced.1)
    ]

    ended_tokens : (s m : State) → IsPlain s → Takes s event.map_ends m → m.tokens ≡ s.tokens ++ token.end_object ∷ []
    ended_tokens s m plain step = elim step [
      | inl flat ↦ absurd (grind (arith, common_steps, flat.1, plain.2))
      | inr braced ↦ grind (arith, common_steps, braced.1)
    ]

pub member_gives : (k : Text) (key w ws : Log → Log → Type 0) (P : Json → Type 0) (Q : json.Members → Type 0) → GivesKey key k → Gives w P
    → GivesMembers ws Q → GivesMembers (λ old new. (a b : Log) × key old a × w a b × ws b new) (FirstMember k P Q)
member_gives k key w ws P Q first value others es new sent =
    let n = first es sent.0 sent.2 in
    let a = value (es ++ n.0) sent.1 (subst (λ (l : Log). w l sent.1) n.1 sent.3) in
    let b = others ((es ++ n.0) ++ a.0) new (subst (λ (l : Log). ws l new) a.1 sent.4) in (
      n.0 ++ (a.0 ++ b.0),
      b.1 ∙ ap Some (append_assoc (es ++ n.0) a.0 b.0 ∙ append_assoc es n.0 (a.0 ++ b.0)),
      λ rest s last plain run.
          let more : List Event = a.0 ++ (b.0 ++ event.map_ends ∷ rest) in
          let whole : (n.0 ++ (a.0 ++ b.0)) ++ event.map_ends ∷ rest ≡ n.0 ++ more =
          append_assoc n.0 (a.0 ++ b.0) (event.map_ends ∷ rest) ∙ ap (λ xs. n.0 ++ xs) (append_assoc a.0 b.0 (event.map_ends ∷ rest)) in
          let m = n.2 more s last plain (subst (λ xs. TakesAll s xs last) whole run) in
          let c = a.2 (b.0 ++ event.map_ends ∷ rest) m.0 last m.1 m.3 in
          let d = b.2 rest c.0 last c.3 c.5 in (
            d.0,
            json.member k c.1 d.1,
            (refl, c.2, d.2),
            d.3,
            d.4 ∙ ap (λ xs. xs ++ members_tokens d.1) (c.4 ∙ ap (λ xs. xs ++ json_tokens c.1) m.2)
                ∙ append_assoc (s.tokens ++ token.key k ∷ []) (json_tokens c.1) (members_tokens d.1)
                ∙ append_assoc s.tokens (token.key k ∷ []) (json_tokens c.1 ++ members_tokens d.1),
            d.5,
          ),
    )

pub struct_gives : (n : ℕ) (w : Log → Log → Type 0) (P : json.Members → Type 0) → GivesMembers w P → Gives (Struct n w) (IsObject P)
struct_gives n w P given es new sent =
    let begun = es ++ event.map_begins (Some n) ∷ [] in
    let a = given begun sent.1 (subst (λ (l : Log). w l sent.1) sent.2 sent.3) in
    let ended : new ≡ Some ((begun ++ a.0) ++ event.map_ends ∷ []) = subst (λ (l : Log). Logs l new event.map_ends) a.1 sent.4 in (
      event.map_begins (Some n) ∷ (a.0 ++ event.map_ends ∷ []),
      ended ∙ ap Some (append_assoc begun a.0 (event.map_ends ∷ []) ∙ append_assoc es (event.map_begins (Some n) ∷ []) (a.0 ++ event.map_ends ∷ [])),
      λ rest s last plain run.
          let opened : IsPlain run.0 × (run.0.tokens ≡ s.tokens ++ token.begin_object ∷ []) = grind (arith, common_steps, run.1.1) in
          let c = a.2 rest run.0 last opened.0 (subst (λ xs. TakesAll run.0 xs last) (append_assoc a.0 (event.map_ends ∷ []) rest) run.2) in (
            c.0,
            json.object c.1,
            c.2,
            c.3,
            c.4 ∙ ap (λ xs. xs ++ members_tokens c.1) opened.1 ∙ append_assoc s.tokens
                (token.begin_object ∷ []) (members_tokens c.1),
            c.5,
          ),
    )

-- ---- how members are read

-- of each member this is said
abbrev pub EachJson : (Text → Json → Type 0) → json.Members → Type 0
EachJson P json.no_members = Unit {0}
EachJson P (json.member k j ms) = P k j × EachJson P ms

pub member_parts : (o : Option Data) (f : Data → Option Members) (all : Members) → option_and_then f o ≡ Some all
    → (d : Data) × (o ≡ Some d) × (f d ≡ Some all)
member_parts None f all h = absurd (cc)
member_parts (Some d) f all h = (d, refl, h)

pub read_members : (Q : Text → Data → Type 0) (ms : json.Members) (found all : Members)
    → EachJson (λ k j. (d : Data) → of_json j ≡ Some d → Q k d) ms → AllMembers Q found → of_members ms found ≡ Some all → AllMembers Q all
read_members Q json.no_members found all each held reads = subst (λ (x : Members). AllMembers Q x) (Some_same found all reads) held
read_members Q (json.member k j ms) found all each held reads =
    let r = member_parts (of_json j) (λ d. of_members ms (put k d found)) all reads in
    read_members Q ms (put k r.0 found) all each.1 (all_put Q k r.0 found (each.0 r.0 r.1) held) r.2

pub object_parts : (os : Option Members) (d : Data) → option_map object os ≡ Some d → (ds : Members) × (os ≡ Some ds) × (object ds ≡ d)
object_parts None d h = absurd (cc)
object_parts (Some ds) d h = (ds, refl, Some_same (object ds) d h)

-- a key that was there, or comes, is there
abbrev pub HasKey : Text → json.Members → Type 0
HasKey k json.no_members = ⊥
HasKey k (json.member l j ms) = (l ≡ k) ⊎ HasKey k ms

put_stays : (k l : Text) (d : Data) (ms : Members) → is_some (get_member k ms) ≡ true → is_some (get_member k (put l d ms)) ≡ true
put_stays k l d ms held = go (bytes_eq k l) refl
  where
    go : (b : Bool) → bytes_eq k l ≡ b → is_some (get_member k (put l d ms)) ≡ true
    go true is = ap is_some (ap (λ (x : Text). get_member x (put l d ms)) ((bytes_eq-Decides k l).0 is) ∙ get_member-put l d ms)
    go false is = ap is_some (get_member-put_other k l d ms (differ k l is)) ∙ held

pub stays : (k : Text) (ms : json.Members) (found all : Members) → is_some (get_member k found) ≡ true → of_members ms found ≡ Some all
    → is_some (get_member k all) ≡ true
stays k json.no_members found all held reads = subst (λ (x : Members). is_some (get_member k x) ≡ true) (Some_same found all reads) held
stays k (json.member l j ms) found all held reads =
    let r = member_parts (of_json j) (λ d. of_members ms (put l d found)) all reads in
    stays k ms (put l r.0 found) all (put_stays k l r.0 found held) r.2

pub comes : (k : Text) (ms : json.Members) (found all : Members) → HasKey k ms → of_members ms found ≡ Some all
    → is_some (get_member k all) ≡ true
comes k json.no_members found all held reads = absurd held
comes k (json.member l j ms) found all (inl same) reads =
    let r = member_parts (of_json j) (λ d. of_members ms (put l d found)) all reads in
    stays k ms (put l r.0 found) all
    (ap is_some (ap (λ (x : Text). get_member x (put l r.0 found)) (sym same) ∙ get_member-put l r.0 found)) r.2
comes k (json.member l j ms) found all (inr later) reads =
    let r = member_parts (of_json j) (λ d. of_members ms (put l d found)) all reads in
    comes k ms (put l r.0 found) all later r.2

-- ---- structs

-- the members are those of these fields, in order; one that need not be written may be left out
abbrev pub Matches : (Patterns → Type 0) → List Row → List Field → json.Members → Type 0
Matches reading rows [] ms = NoMembers ms
Matches reading rows (f ∷ fs) ms =
    FirstMember f.name (MeansUnder reading rows f.ty) (Matches reading rows fs) ms ⊎
    ((f.required.serialize ≡ false) × Matches reading rows fs ms)

-- a member is of the field of its name
abbrev pub OfField : (Patterns → Type 0) → List Row → List Field → Text → Json → Type 0
OfField reading rows fs k j = (f : Field) × (field_named fs k ≡ Some f) × MeansUnder reading rows f.ty j

-- the names of fields differ
abbrev pub Apart : List Field → Type 0
Apart fs = IsDistinct bytes_eq (map (λ f. f.name) fs)

named_here : (f : Field) (fs : List Field) (k : Text) → k ≡ f.name → field_named (f ∷ fs) k ≡ Some f
named_here f fs k same =
    ap (λ (b : Bool). if b then Some f else field_named fs k) ((bytes_eq-Decides f.name k).1 (sym same))

named_later : (f : Field) (fs : List Field) (k : Text) → bytes_eq f.name k ≡ false → field_named (f ∷ fs) k ≡ field_named fs k
named_later f fs k other = ap (λ (b : Bool). if b then Some f else field_named fs k) other

pub name_of_found : (g : Field) (fs : List Field) (t : Text) (k : Text) → AllByRecursion (λ y. bytes_eq t y ≡ false) (map (λ x. x.name) fs)
    → field_named fs k ≡ Some g → bytes_eq t k ≡ false
name_of_found g [] t k apart at = absurd (cc)
name_of_found g (h ∷ fs) t k apart at = go (bytes_eq h.name k) refl (name_of_found g fs t k apart.1)
  where
    go : (b : Bool) → bytes_eq h.name k ≡ b → (field_named fs k ≡ Some g → bytes_eq t k ≡ false) → bytes_eq t k ≡ false
    go true is later = subst (λ (x : Text). bytes_eq t x ≡ false) ((bytes_eq-Decides h.name k).0 is) apart.0
    go false is later = later (sym (named_later h fs k is) ∙ at)

wider : (reading : Patterns → Type 0) (rows : List Row) (f : Field) (fs : List Field)
    → AllByRecursion (λ y. bytes_eq f.name y ≡ false) (map (λ x. x.name) fs)
    → (ms : json.Members) → EachJson (OfField reading rows fs) ms → EachJson (OfField reading rows (f ∷ fs)) ms
wider reading rows f fs apart json.no_members each = tt
wider reading rows f fs apart (json.member k j ms) each =
    ((each.0.0, named_later f fs k (name_of_found each.0.0 fs f.name k apart each.0.1) ∙ each.0.1, each.0.2), wider reading rows f fs apart ms each.1)

pub of_fields : (reading : Patterns → Type 0) (rows : List Row) (fs : List Field) → Apart fs → (ms : json.Members)
    → Matches reading rows fs ms → EachJson (OfField reading rows fs) ms
unfolding IsDistinct
of_fields reading rows [] apart json.no_members given = tt
of_fields reading rows [] apart (json.member k j ms) given = absurd given
of_fields reading rows (f ∷ fs) apart json.no_members (inl given) = absurd given
of_fields reading rows (f ∷ fs) apart (json.member k j ms) (inl given) =
    ((f, named_here f fs k given.0, given.1), wider reading rows f fs apart.0 ms (of_fields reading rows fs apart.1 ms given.2))
of_fields reading rows (f ∷ fs) apart ms (inr given) = wider reading rows f fs apart.0 ms (of_fields reading rows fs apart.1 ms given.1)

-- a field whose row is a row
pub named_number : (fs : List Field) (k : Text) (f : Field) → field_named fs k ≡ Some f → Contains (map (λ x. x.ty) fs) f.ty
named_number [] k f at = absurd (cc)
named_number (g ∷ fs) k f at = go (bytes_eq g.name k) refl (named_number fs k f)
  where
    go : (b : Bool) → bytes_eq g.name k ≡ b → (field_named fs k ≡ Some f → Contains (map (λ x. x.ty) fs) f.ty)
        → Contains (map (λ x. x.ty) (g ∷ fs)) f.ty
    go true is later = (0, omega arith, ap (λ (x : Field). x.ty) (Some_same g f (sym (ap (λ (b : Bool). if b then Some g else field_named fs k) is) ∙ at)))
    go false is later =
        let c = later (sym (named_later g fs k is) ∙ at) in
        (suc c.0, omega (arith, c.1), c.2)

-- a value that is small enough belongs to a row
abbrev pub Small : List Row → Patterns → ℕ → ℕ → Data → Type 0
Small rows patterns steps h d = (depth d ≤ h) → (m : ℕ) → m < length rows → rank rows m < length rows → Fits rows patterns m d
    → belongs_within rows Serialize patterns steps m d ≡ true

pub small : (rows : List Row) (patterns : Patterns) (steps h : ℕ) (d : Data) → suc h * length rows ≤ steps → Small rows patterns steps h d
small rows patterns steps h d many deep m known low fits =
    let near = closer h (suc h) (length rows) (rank rows m) (omega arith) low in
    shallower rows patterns m d fits h steps deep (omega arith)

fields_hold : (rows : List Row) (patterns : Patterns) (fs list : List Field) (closed : Bool) (steps h : ℕ) (ms : Members)
    → ((m : ℕ) → Contains (map (λ x. x.ty) fs) m → (m < length rows) × (rank rows m < length rows))
    → (list ≡ fs) → suc h * length rows ≤ steps → members_depth ms ≤ h
    → AllMembers (λ k d. (f : Field) × (field_named fs k ≡ Some f) × Fits rows patterns f.ty d) ms
    → every_member (λ k w. field_fits (belongs_within rows Serialize patterns steps) list closed k w) ms ≡ true
fields_hold rows patterns fs list closed steps h no_members known same many deep all = refl
fields_hold rows patterns fs list closed steps h (member k d ms) known same many deep all =
    let f = all.0.0 in
    let low = known f.ty (named_number fs k f all.0.1) in
    let first : field_fits (belongs_within rows Serialize patterns steps) list closed k d ≡ true =
    ap (λ (l : List Field). field_fits (belongs_within rows Serialize patterns steps) l closed k d) same
    ∙ member_at (belongs_within rows Serialize patterns steps) fs k d (not closed)
    ∙ ap (λ (o : Option Field). option_map_or (λ g. belongs_within rows Serialize patterns steps g.ty d) o (not closed)) all.0.1
    ∙ small rows patterns steps h d many (omega arith) f.ty low.0 low.1 all.0.2 in
    both_true (field_fits (belongs_within rows Serialize patterns steps) list closed k d)
    (every_member (λ k w. field_fits (belongs_within rows Serialize patterns steps) list closed k w) ms) first
    (fields_hold rows patterns fs list closed steps h ms known same many (omega arith) all.1)

pub has_keys_of : (reading : Patterns → Type 0) (rows : List Row) (part : ℕ → Data → Bool) (fs : List Field) (ms : json.Members)
    → Matches reading rows fs ms → (all found : Members) → of_members ms found ≡ Some all
    → has_each_field part fs all ≡ true
has_keys_of reading rows part [] ms given all found reads = refl
has_keys_of reading rows part (f ∷ fs) json.no_members (inl given) all found reads = absurd given
has_keys_of reading rows part (f ∷ fs) (json.member k j ms) (inl given) all found reads =
    let r = member_parts (of_json j) (λ d. of_members ms (put k d found)) all reads in
    let here : is_some (get_member f.name all) ≡ true =
    ap is_some (ap (λ (x : Text). get_member x all) (sym given.0))
    ∙ stays k ms (put k r.0 found) all (ap is_some (get_member-put k r.0 found)) r.2 in
    both_true (not (is_required Serialize f.required) || is_some (get_member f.name all)) (has_each_field part fs all)
    (or_right (not (is_required Serialize f.required)) (is_some (get_member f.name all)) here)
    (has_keys_of reading rows part fs ms given.2 all (put k r.0 found) r.2)
  where
    or_right : (a b : Bool) → b ≡ true → (a || b) ≡ true
    or_right true b h = refl
    or_right false b h = h
has_keys_of reading rows part (f ∷ fs) ms (inr given) all found reads =
    both_true (not (is_required Serialize f.required) || is_some (get_member f.name all)) (has_each_field part fs all)
    (ap (λ (b : Bool). not b || is_some (get_member f.name all)) given.0)
    (has_keys_of reading rows part fs ms given.1 all found reads)

members_are : (reading : Patterns → Type 0) (rows : List Row) (fs : List Field) (patterns : Patterns) → reading patterns
    → (ms : json.Members) → EachJson (OfField reading rows fs) ms
    → EachJson (λ k j. (d : Data) → of_json j ≡ Some d → (f : Field) × (field_named fs k ≡ Some f) × Fits rows patterns f.ty d) ms
members_are reading rows fs patterns takes json.no_members each = tt
members_are reading rows fs patterns takes (json.member k j ms) each =
    (λ d reads. (each.0.0, each.0.1, each.0.2 patterns takes d reads), members_are reading rows fs patterns takes ms each.1)

abbrev pub plain_fields : List Field → Bool → shape.Fields
plain_fields fs closed = record { list = fs; flatten = []; closed = closed }

-- members of fields are what a struct of them has
pub fields_belong : (reading : Patterns → Type 0) (rows : List Row) (patterns : Patterns) → reading patterns
    → (fs : List Field) (closed : Bool) (ms : json.Members) (d : Data) (steps : ℕ)
    → ((m : ℕ) → Contains (map (λ f. f.ty) fs) m → (m < length rows) × (rank rows m < length rows)) → Apart fs → Matches reading rows fs ms
    → of_json (json.object ms) ≡ Some d → depth d * length rows ≤ steps
    → has_fields Serialize (belongs_within rows Serialize patterns steps) [] (fs ++ []) closed d ≡ true
fields_belong reading rows patterns takes fs closed ms d steps low apart all reads few =
    let r = object_parts (of_members ms no_members) d reads in
    let enough : suc (members_depth r.0) * length rows ≤ steps = subst (λ v. depth v * length rows ≤ steps) (sym r.2) few in
    let each = read_members (λ k d. (f : Field) × (field_named fs k ≡ Some f) × Fits rows patterns f.ty d) ms no_members r.0
    (members_are reading rows fs patterns takes ms (of_fields reading rows fs apart ms all)) tt r.1 in
    subst (λ v. has_fields Serialize (belongs_within rows Serialize patterns steps) [] (fs ++ []) closed v ≡ true) r.2
    (both_true (every_member (λ k w. field_fits (belongs_within rows Serialize patterns steps) (fs ++ []) closed k w) r.0)
    (has_each_field (belongs_within rows Serialize patterns steps) (fs ++ []) r.0)
    (fields_hold rows patterns fs (fs ++ []) closed steps (members_depth r.0) r.0 low (append-nil fs) enough (omega arith) each)
    (subst (λ (l : List Field). has_each_field (belongs_within rows Serialize patterns steps) l r.0 ≡ true) (sym (append-nil fs))
    (has_keys_of reading rows (belongs_within rows Serialize patterns steps) fs ms all r.0 no_members r.1)))

-- the own names of a struct differ
pub names_apart : (rows : List Row) → IsChecked rows → (n : ℕ) (x : shape.Fields) → HasShape rows n (shape.struct x) → Apart x.list
names_apart rows checked n x is = (subst (λ (ls : List (List Text)). AreDistinctLists ls)
    (ap (λ o. option_map_or (λ (e : Entry). names_of e.shape) o []) is.1 ∙ ap names_of is.2) (checked.names_differ n)).0

pub struct_means : (reading : Patterns → Type 0) (rows : List Row) → IsChecked rows → (n : ℕ) (fs : List Field) (closed : Bool)
    → HasShape rows n (shape.struct (plain_fields fs closed))
    → (j : Json) → IsObject (Matches reading rows fs) j → MeansUnder reading rows n j
struct_means reading rows checked n fs closed is json.null all = absurd all
struct_means reading rows checked n fs closed is (json.boolean b) all = absurd all
struct_means reading rows checked n fs closed is (json.number s) all = absurd all
struct_means reading rows checked n fs closed is (json.string s) all = absurd all
struct_means reading rows checked n fs closed is (json.array js) all = absurd all
struct_means reading rows checked n fs closed is (json.object ms) all = λ patterns takes d reads.
    step rows patterns n (shape.struct (plain_fields fs closed)) d is (λ steps few.
    fields_belong reading rows patterns takes fs closed ms d steps
    (λ m c. let low = part_low rows checked n m (shape.struct (plain_fields fs closed)) is
    (subst (λ (xs : List ℕ). Contains xs m) (sym (append-nil (map (λ f. f.ty) fs))) c) in (low, checked.rank_bound m low))
    (names_apart rows checked n (plain_fields fs closed) is) all reads (omega arith))

pub struct_agrees : (reading : Patterns → Type 0) (rows : List Row) → IsChecked rows → (n : ℕ) (fs : List Field) (closed : Bool)
    → HasShape rows n (shape.struct (plain_fields fs closed))
    → (count : ℕ) (w : Log → Log → Type 0) → GivesMembers w (Matches reading rows fs) → Gives (Struct count w) (MeansUnder reading rows n)
struct_agrees reading rows checked n fs closed is count w given =
    weaker (Struct count w) (IsObject (Matches reading rows fs)) (MeansUnder reading rows n)
    (struct_means reading rows checked n fs closed is)
    (struct_gives count w (Matches reading rows fs) given)

-- a field, and then the others
pub field_gives : (reading : Patterns → Type 0) (rows : List Row) (name : Text) (f : Field) (fs : List Field) (w ws : Log → Log → Type 0)
    → f.name ≡ name
    → Gives w (MeansUnder reading rows f.ty) → GivesMembers ws (Matches reading rows fs)
    → GivesMembers (gives.Field name w ws) (Matches reading rows (f ∷ fs))
field_gives reading rows name f fs w ws same value others es new sent =
    let a = member_gives name (λ old new. Logs old new (event.field_key name AsIs)) w ws (MeansUnder reading rows f.ty)
    (Matches reading rows fs)
    (field_key_gives name) value others es new sent in
    let b = subst (λ (k : Text). (added : List Event) × (new ≡ Some (es ++ added)) × SpellsMembers (FirstMember k (MeansUnder reading rows f.ty) (Matches reading rows fs)) added) (sym same) a in
    (b.0, b.1, λ rest s last plain run. let c = b.2 rest s last plain run in (c.0, c.1, inl c.2, c.3, c.4, c.5))

-- a field that may be left out, and then the others
pub field_if_gives : (reading : Patterns → Type 0) (rows : List Row) (b : Bool) (name : Text) (f : Field) (fs : List Field)
    (w ws : Log → Log → Type 0) → f.name ≡ name
    → f.required.serialize ≡ false → Gives w (MeansUnder reading rows f.ty) → GivesMembers ws (Matches reading rows fs)
    → GivesMembers (gives.FieldIf b name w ws) (Matches reading rows (f ∷ fs))
field_if_gives reading rows true name f fs w ws same free value others = field_gives reading rows name f fs w ws same value others
field_if_gives reading rows false name f fs w ws same free value others = λ es new sent.
    let a = others es new sent in
    (a.0, a.1, λ rest s last plain run. let c = a.2 rest s last plain run in (c.0, c.1, inr (free, c.2), c.3, c.4, c.5))
