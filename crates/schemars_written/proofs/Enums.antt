-- Variants of enums, by how their names are written.
use Rattle.std.proofs.Common.{◌≡◌, ◌⊎◌, inl, inr, ℕ, suc, ◌+◌, ◌*◌, ◌<◌, ◌≤◌, List, [], ◌∷◌, ◌++◌, length, map, Bool, true, false, not, Option, Some, None, refl, sym, ap, ◌∙◌, subst, arith, append-nil}
use Rattle.schemars_written.proofs.Words.{bytes_eq, Contains, is_some, ◌&&◌, if◌then◌else◌, IsDistinct, option_map_or, common_steps, bytes_eq-Decides, Json, Log, Logs, spelled, Data, string, object, Members, no_members, member, members_depth, depth, put, get_member, of_json, of_members, get_member-here, Text, Patterns, AllMembers, Field, Tagging, by_name, by_nothing, by_tag, Variant, Payload, no_payload, newtype_payload, tuple_payload, struct_payload, payload_numbers, payload_same, Row, rank, IsChecked, expanded_variant, expanded_payload, flattened_in, part_enums, belongs_within, choices_within, has_variant, has_payload, has_tagged, field_named, is_text, every_member, Member, member_named, must_have, tag_member, field_member, has_member, Gives, GivesMembers, Named, Beside, Tagged, Struct, IsObject, FirstMember, NoMembers, Done, Fits, MeansUnder, HasVariantAt, AvoidsTag}
use Rattle.json.specs.Json as json
use Rattle.serde.specs.Event as event
use Rattle.serde.specs.declared.name.Case.{Case}
use Rattle.serde.specs.declared.name.Case.TheVariants.{AsIs}
use Rattle.serde.specs.declared.name.NameKind.TheVariants as kind
use Rattle.schemars_shapes.specs.Shape as shape
use Rattle.schemars_written.proofs.Members.{field_fits, beside_tag_fits, has_each_field, member_at}
use Rattle.schemars_types.specs.declared.contract.Contract.TheVariants.{Serialize}
use Rattle.schemars_written.proofs.Atoms.{one, step, weaker, same_lower, Some_same}
use Rattle.schemars_written.proofs.Lists.{both_true, closer}
use Rattle.schemars_written.proofs.Objects.{EachJson, OfField, Matches, small, object_parts, member_parts, read_members, stays, named_number, name_of_found, of_fields, has_keys_of, plain_fields, GivesKey, field_key_gives, member_gives, done_gives, struct_gives}
use Rattle.schemars_written.proofs.Payloads.{listed, variant_number, payload_low, payload_apart, PayloadMeans, Enough, payload_holds}

-- ---- variants

abbrev variant : Text → Payload → Members → Variant
variant name p notes = record { name = name; payload = p; notes = notes }

-- whether a variant of this name has a value, in a table
abbrev pub Fitting : List Row → Patterns → ℕ → Tagging → Text → Payload → Members → Data → Type 0
Fitting rows patterns steps tagging name p notes d = has_variant Serialize (belongs_within rows Serialize patterns steps)
    (choices_within rows Serialize patterns steps) tagging d
    (expanded_variant (flattened_in rows) (part_enums rows) (variant name p notes)) ≡ true

-- what a variant has, its enum has
pub enum_fits : (rows : List Row) (patterns : Patterns) (n : ℕ) (tagging : Tagging) (name : Text) (p : Payload)
    → (row : HasVariantAt rows n tagging name p)
    → (d : Data)
    → ((steps : ℕ) (notes : Members) → depth d * length rows + rank rows n < suc steps → Fitting rows patterns steps tagging name p notes d)
    → Fits rows patterns n d
enum_fits rows patterns n tagging name p row d each =
    step rows patterns n (shape.enum tagging row.0) d row.1 (λ steps few.
    listed (has_variant Serialize (belongs_within rows Serialize patterns steps) (choices_within rows Serialize patterns steps) tagging d)
    (expanded_variant (flattened_in rows) (part_enums rows)) name p row.0 row.2
    (λ x same is. subst (λ t. Fitting rows patterns steps tagging t x.payload x.notes d) (sym same)
    (subst (λ q. Fitting rows patterns steps tagging name q x.notes d) (sym is) (each steps x.notes few))))

-- one step inside there are enough steps for a payload
pub inside_enough : (rows : List Row) (p : Payload) (h steps : ℕ)
    → ((m : ℕ) → Contains (payload_numbers p) m → (m < length rows) × (rank rows m < length rows))
    → suc h * length rows ≤ steps → Enough rows p h steps
inside_enough rows no_payload h steps low few = tt
inside_enough rows (newtype_payload m) h steps low few =
    omega (arith, closer h (suc h) (length rows) (rank rows m) (omega arith) (low m (0, omega arith, refl)).1)
inside_enough rows (tuple_payload ns) h steps low few = omega arith
inside_enough rows (struct_payload x) h steps low few = omega arith

-- no unit
abbrev pub IsFull : Payload → Type 0
IsFull no_payload = ⊥
IsFull (newtype_payload m) = Unit {0}
IsFull (tuple_payload ns) = Unit {0}
IsFull (struct_payload x) = Unit {0}

abbrev pub IsName : Text → Json → Type 0
IsName t j = j ≡ json.string t

pub named_gives : (name : Text) (case : Case) → Gives (Named name case) (IsName (spelled case kind.Variant name))
named_gives name case = one (event.unit_variant name case) (IsName (spelled case kind.Variant name)) (λ s mid plain took.
    (json.string (spelled case kind.Variant name), refl, grind (arith, common_steps, took), grind (arith, common_steps, took)))

-- ---- tagged by names

pub unit_agrees : (reading : Patterns → Type 0) (rows : List Row) (n : ℕ) (name : Text) (case : Case)
    → HasVariantAt rows n by_name (spelled case kind.Variant name) no_payload
    → Gives (Named name case) (MeansUnder reading rows n)
unit_agrees reading rows n name case row =
    let t = spelled case kind.Variant name in
    weaker (Named name case) (IsName t) (MeansUnder reading rows n) (λ j is patterns takes d reads.
    subst (λ v. Fits rows patterns n v) (Some_same (string t) d (ap of_json (sym is) ∙ reads))
    (enum_fits rows patterns n by_name t no_payload row (string t) (λ steps notes few. (bytes_eq-Decides t t).1 refl)))
    (named_gives name case)

variant_key_gives : (name : Text) (case : Case)
    → GivesKey (λ old new. Logs old new (event.variant_key name case)) (spelled case kind.Variant name)
variant_key_gives name case es new sent = (
  event.variant_key name case ∷ [],
  sent,
  λ rest s last plain run.
      (run.0, grind (arith, common_steps, run.1), grind (arith, common_steps, run.1), run.2),
)

-- a map with this key alone
map_of : (name k : Text) (test : Data → Bool) (d : Data) → k ≡ name → test d ≡ true
    → has_member name test true (object (member k d no_members)) ≡ true
map_of name k test d same passes =
    let fits = ap (λ (b : Bool). option_map_or (λ (m : Member). m.has d) (if b then Some (must_have name test) else None) false)
    ((bytes_eq-Decides name k).1 (sym same)) ∙ passes in
    let there = subst (λ (t : Text). is_some (get_member t (member k d no_members)) ≡ true) same
    (ap is_some (get_member-here k d no_members)) in
    both_true (option_map_or (λ (m : Member). m.has d) (if bytes_eq name k then Some (must_have name test) else None) false && true)
    (is_some (get_member name (member k d no_members)) && true)
    (both_true (option_map_or (λ (m : Member). m.has d) (if bytes_eq name k then Some (must_have name test) else None) false) true fits refl)
    (both_true (is_some (get_member name (member k d no_members))) true there refl)

one_deep : (k : Text) (d : Data) → depth (object (member k d no_members)) ≡ suc (depth d)
one_deep k d = omega arith

-- a full payload has its value under the name
under_name : (rows : List Row) (patterns : Patterns) (steps : ℕ) (name : Text) (p : Payload) (notes : Members) (d : Data) → IsFull p
    → has_member name (has_payload Serialize (belongs_within rows Serialize patterns steps) (choices_within rows Serialize patterns steps)
    (expanded_payload (flattened_in rows) (part_enums rows) p)) true d ≡ true
    → Fitting rows patterns steps by_name name p notes d
under_name rows patterns steps name no_payload notes d full is = absurd full
under_name rows patterns steps name (newtype_payload m) notes d full is = is
under_name rows patterns steps name (tuple_payload ns) notes d full is = is
under_name rows patterns steps name (struct_payload x) notes d full is = is

external_means : (reading : Patterns → Type 0) (rows : List Row) → IsChecked rows → (n : ℕ) (name : Text) (p : Payload)
    → HasVariantAt rows n by_name name p → IsFull p → (j : Json)
    → IsObject (FirstMember name (PayloadMeans reading rows p) NoMembers) j → MeansUnder reading rows n j
external_means reading rows checked n name p row full json.null all = absurd all
external_means reading rows checked n name p row full (json.boolean b) all = absurd all
external_means reading rows checked n name p row full (json.number s) all = absurd all
external_means reading rows checked n name p row full (json.string s) all = absurd all
external_means reading rows checked n name p row full (json.array js) all = absurd all
external_means reading rows checked n name p row full (json.object json.no_members) all = absurd all
external_means reading rows checked n name p row full (json.object (json.member k j (json.member l i ms))) all = absurd all.2
external_means reading rows checked n name p row full (json.object (json.member k j json.no_members)) all = λ patterns takes d reads.
    let r = object_parts (of_members (json.member k j json.no_members) no_members) d reads in
    let v = member_parts (of_json j) (λ e. of_members json.no_members (put k e no_members)) r.0 r.1 in
    let whole : object (member k v.0 no_members) ≡ d = ap object (Some_same (put k v.0 no_members) r.0 v.2) ∙ r.2 in
    let low = payload_low rows checked n by_name row.0 row.1 name p row.2 in
    subst (λ x. Fits rows patterns n x) whole
    (enum_fits rows patterns n by_name name p row (object (member k v.0 no_members)) (λ steps notes few.
    under_name rows patterns steps name p notes (object (member k v.0 no_members)) full
    (map_of name k (has_payload Serialize (belongs_within rows Serialize patterns steps) (choices_within rows Serialize patterns steps)
    (expanded_payload (flattened_in rows) (part_enums rows) p)) v.0 all.0
    (payload_holds reading rows patterns takes p j v.0 steps low (payload_apart rows checked n by_name row.0 row.1 name p row.2) all.1 v.1
    (inside_enough rows p (depth v.0) steps low
    (omega (arith, subst (λ h. h * length rows + rank rows n < suc steps) (one_deep k v.0) few)))))))

pub external_agrees : (reading : Patterns → Type 0) (rows : List Row) → IsChecked rows → (n : ℕ) (name : Text) (case : Case) (p : Payload)
    → HasVariantAt rows n by_name (spelled case kind.Variant name) p → IsFull p → (w : Log → Log → Type 0)
    → Gives w (PayloadMeans reading rows p)
    → Gives (Tagged name case w) (MeansUnder reading rows n)
external_agrees reading rows checked n name case p row full w given =
    let t = spelled case kind.Variant name in
    weaker (Tagged name case w) (IsObject (FirstMember t (PayloadMeans reading rows p) NoMembers)) (MeansUnder reading rows n)
    (external_means reading rows checked n t p row full)
    (struct_gives 1 (λ old new. (named mid : Log) × Logs old named (event.variant_key name case) × w named mid × Done mid new)
    (FirstMember t (PayloadMeans reading rows p) NoMembers)
    (member_gives t (λ old new. Logs old new (event.variant_key name case)) w Done (PayloadMeans reading rows p) NoMembers
    (variant_key_gives name case) given done_gives))

-- ---- not tagged

own_enough : (rows : List Row) → IsChecked rows → (n : ℕ) (name : Text) (p : Payload) → HasVariantAt rows n by_nothing name p
    → (h steps : ℕ)
    → ((m : ℕ) → Contains (payload_numbers p) m → (m < length rows) × (rank rows m < length rows))
    → h * length rows + rank rows n < suc steps → Enough rows p h steps
own_enough rows checked n name no_payload row h steps low few = tt
own_enough rows checked n name (newtype_payload m) row h steps low few =
    let here : Contains (payload_same (newtype_payload m)) m = (0, omega arith, refl) in
    let less = same_lower rows checked n m (shape.enum by_nothing row.0) row.1
    (variant_number payload_same name (newtype_payload m) row.0 m row.2 here) (low m here).0 in
    omega arith
own_enough rows checked n name (tuple_payload ns) row h steps low few = omega arith
own_enough rows checked n name (struct_payload x) row h steps low few = omega arith

pub untagged_agrees : (reading : Patterns → Type 0) (rows : List Row) → IsChecked rows → (n : ℕ) (name : Text) (p : Payload)
    → HasVariantAt rows n by_nothing name p
    → (w : Log → Log → Type 0) → Gives w (PayloadMeans reading rows p) → Gives w (MeansUnder reading rows n)
untagged_agrees reading rows checked n name p row w given =
    weaker w (PayloadMeans reading rows p) (MeansUnder reading rows n) (λ j means patterns takes d reads.
    let low = payload_low rows checked n by_nothing row.0 row.1 name p row.2 in
    enum_fits rows patterns n by_nothing name p row d (λ steps notes few.
    payload_holds reading rows patterns takes p j d steps low (payload_apart rows checked n by_nothing row.0 row.1 name p row.2) means reads
    (own_enough rows checked n name p row (depth d) steps low few))) given

-- ---- tagged inside

-- a name under the tag, and then other members
pub at_tag : (reading : Patterns → Type 0) (rows : List Row) (n : ℕ) (tag name : Text) (Q : json.Members → Type 0)
    → ((ms : json.Members) → Q ms → MeansUnder reading rows n (json.object (json.member tag (json.string name) ms)))
    → (j : Json) → IsObject (FirstMember tag (IsName name) Q) j → MeansUnder reading rows n j
at_tag reading rows n tag name Q each json.null all = absurd all
at_tag reading rows n tag name Q each (json.boolean b) all = absurd all
at_tag reading rows n tag name Q each (json.number s) all = absurd all
at_tag reading rows n tag name Q each (json.string s) all = absurd all
at_tag reading rows n tag name Q each (json.array js) all = absurd all
at_tag reading rows n tag name Q each (json.object json.no_members) all = absurd all
at_tag reading rows n tag name Q each (json.object (json.member k j ms)) all =
    subst (λ (t : Text). MeansUnder reading rows n (json.object (json.member t j ms))) (sym all.0)
    (subst (λ i. MeansUnder reading rows n (json.object (json.member tag i ms))) (sym all.1) (each ms all.2))

-- the tag with its name, or a field
abbrev InTagged : List Row → Patterns → Text → Text → List Field → Text → Data → Type 0
InTagged rows patterns tag name fs k d = ((k ≡ tag) × (d ≡ string name))
    ⊎ ((bytes_eq tag k ≡ false) × ((f : Field) × (field_named fs k ≡ Some f) × Fits rows patterns f.ty d))

fields_in : (reading : Patterns → Type 0) (rows : List Row) (patterns : Patterns) → reading patterns → (tag name : Text) (fs : List Field)
    → AvoidsTag tag fs → (ms : json.Members)
    → EachJson (OfField reading rows fs) ms → EachJson (λ k j. (d : Data) → of_json j ≡ Some d → InTagged rows patterns tag name fs k d) ms
fields_in reading rows patterns takes tag name fs avoids json.no_members each = tt
fields_in reading rows patterns takes tag name fs avoids (json.member k j ms) each = (
  λ d reads. inr (name_of_found each.0.0 fs tag k avoids each.0.1, (each.0.0, each.0.1, each.0.2 patterns takes d reads)),
  fields_in reading rows patterns takes tag name fs avoids ms each.1,
)

pub is_name : (name : Text) (d : Data) → d ≡ string name → is_text name d ≡ true
is_name name d same = subst (λ v. is_text name v ≡ true) (sym same) ((bytes_eq-Decides name name).1 refl)

tagged_hold : (rows : List Row) (patterns : Patterns) (tag name : Text) (fs list : List Field) (closed : Bool) (steps h : ℕ) (ms : Members)
    → ((m : ℕ) → Contains (map (λ x. x.ty) fs) m → (m < length rows) × (rank rows m < length rows))
    → list ≡ fs → suc h * length rows ≤ steps → members_depth ms ≤ h → AllMembers (InTagged rows patterns tag name fs) ms
    → every_member (λ k w. beside_tag_fits (belongs_within rows Serialize patterns steps) list closed tag name k w) ms ≡ true
tagged_hold rows patterns tag name fs list closed steps h no_members low same many deep all = refl
tagged_hold rows patterns tag name fs list closed steps h (member k d ms) low same many deep all =
    both_true (beside_tag_fits (belongs_within rows Serialize patterns steps) list closed tag name k d)
    (every_member (λ k w. beside_tag_fits (belongs_within rows Serialize patterns steps) list closed tag name k w) ms) (first all.0)
    (tagged_hold rows patterns tag name fs list closed steps h ms low same many (omega arith) all.1)
  where
    first : InTagged rows patterns tag name fs k d
        → option_map_or (λ (m : Member). m.has d)
        (if bytes_eq tag k then Some (tag_member tag name) else member_named
        (map (field_member Serialize (belongs_within rows Serialize patterns steps)) list) k)
        (not closed) ≡ true
    first (inl here) =
        ap (λ (b : Bool). option_map_or (λ (m : Member). m.has d)
        (if b then Some (tag_member tag name) else member_named
        (map (field_member Serialize (belongs_within rows Serialize patterns steps)) list) k) (not closed))
        ((bytes_eq-Decides tag k).1 (sym here.0)) ∙ is_name name d here.1
    first (inr field) =
        let f = field.1.0 in
        let known = low f.ty (named_number fs k f field.1.1) in
        ap (λ (b : Bool). option_map_or (λ (m : Member). m.has d)
        (if b then Some (tag_member tag name) else member_named
        (map (field_member Serialize (belongs_within rows Serialize patterns steps)) list) k) (not closed)) field.0
        ∙ ap (λ (l : List Field). field_fits (belongs_within rows Serialize patterns steps) l closed k d) same
        ∙ member_at (belongs_within rows Serialize patterns steps) fs k d (not closed)
        ∙ ap (λ (o : Option Field). option_map_or (λ g. belongs_within rows Serialize patterns steps g.ty d) o (not closed)) field.1.1
        ∙ small rows patterns steps h d many (omega arith) f.ty known.0 known.1 field.1.2

pub tagged_holds : (reading : Patterns → Type 0) (rows : List Row) (patterns : Patterns) → reading patterns
    → (tag name : Text) (fs : List Field) (closed : Bool) (ms : json.Members) (d : Data) (steps : ℕ)
    → ((m : ℕ) → Contains (map (λ f. f.ty) fs) m → (m < length rows) × (rank rows m < length rows))
    → IsDistinct bytes_eq (map (λ f. f.name) fs) → AvoidsTag tag fs → Matches reading rows fs ms
    → of_json (json.object (json.member tag (json.string name) ms)) ≡ Some d → depth d * length rows ≤ steps
    → has_tagged Serialize (belongs_within rows Serialize patterns steps) [] tag (fs ++ []) closed name d ≡ true
tagged_holds reading rows patterns takes tag name fs closed ms d steps low apart avoids all reads few =
    let found = member tag (string name) no_members in
    let r = object_parts (of_members (json.member tag (json.string name) ms) no_members) d reads in
    let enough : suc (members_depth r.0) * length rows ≤ steps = subst (λ v. depth v * length rows ≤ steps) (sym r.2) few in
    let each = read_members (InTagged rows patterns tag name fs) ms found r.0
    (fields_in reading rows patterns takes tag name fs avoids ms (of_fields reading rows fs apart ms all)) (inl (refl, refl), tt) r.1 in
    subst (λ v. has_tagged Serialize (belongs_within rows Serialize patterns steps) [] tag (fs ++ []) closed name v ≡ true) r.2
    (both_true (every_member (λ k w. beside_tag_fits (belongs_within rows Serialize patterns steps) (fs ++ []) closed tag name k w) r.0)
    (is_some (get_member tag r.0) && has_each_field (belongs_within rows Serialize patterns steps) (fs ++ []) r.0)
    (tagged_hold rows patterns tag name fs (fs ++ []) closed steps (members_depth r.0) r.0 low (append-nil fs) enough (omega arith) each)
    (both_true (is_some (get_member tag r.0)) (has_each_field (belongs_within rows Serialize patterns steps) (fs ++ []) r.0)
    (stays tag ms found r.0 (ap is_some (get_member-here tag (string name) no_members)) r.1)
    (subst (λ (l : List Field). has_each_field (belongs_within rows Serialize patterns steps) l r.0 ≡ true) (sym (append-nil fs))
    (has_keys_of reading rows (belongs_within rows Serialize patterns steps) fs ms all r.0 found r.1))))

pub beside_gives : (tag name : Text) (case : Case) (w : Log → Log → Type 0) (Q : json.Members → Type 0) → GivesMembers w Q
    → GivesMembers (Beside tag name case w) (FirstMember tag (IsName (spelled case kind.Variant name)) Q)
beside_gives tag name case w Q given = member_gives tag (λ old new. Logs old new (event.field_key tag AsIs)) (Named name case) w
    (IsName (spelled case kind.Variant name)) Q (field_key_gives tag) (named_gives name case) given

pub internal_unit_agrees : (reading : Patterns → Type 0) (rows : List Row) → IsChecked rows
    → (n : ℕ) (tag : Text) (closed : Bool) (name : Text) (case : Case)
    → HasVariantAt rows n (by_tag tag closed) (spelled case kind.Variant name) no_payload → (count : ℕ)
    → Gives (Struct count (Beside tag name case Done)) (MeansUnder reading rows n)
unfolding IsDistinct
internal_unit_agrees reading rows checked n tag closed name case row count =
    let t = spelled case kind.Variant name in
    weaker (Struct count (Beside tag name case Done)) (IsObject (FirstMember tag (IsName t) NoMembers)) (MeansUnder reading rows n)
    (at_tag reading rows n tag t NoMembers (λ ms none patterns takes d reads.
    enum_fits rows patterns n (by_tag tag closed) t no_payload row d (λ steps notes few.
    tagged_holds reading rows patterns takes tag t [] closed ms d steps (λ m c. absurd (omega (arith, c.1))) tt tt none reads
    (omega arith))))
    (struct_gives count (Beside tag name case Done) (FirstMember tag (IsName t) NoMembers)
    (beside_gives tag name case Done NoMembers done_gives))

pub internal_struct_agrees : (reading : Patterns → Type 0) (rows : List Row) → IsChecked rows
    → (n : ℕ) (tag : Text) (closed : Bool) (name : Text) (case : Case) (fs : List Field) (own : Bool)
    → HasVariantAt rows n (by_tag tag closed) (spelled case kind.Variant name) (struct_payload (plain_fields fs own)) → AvoidsTag tag fs
    → (count : ℕ) (w : Log → Log → Type 0) → GivesMembers w (Matches reading rows fs)
    → Gives (Struct count (Beside tag name case w)) (MeansUnder reading rows n)
internal_struct_agrees reading rows checked n tag closed name case fs own row avoids count w given =
    let t = spelled case kind.Variant name in
    let p = struct_payload (plain_fields fs own) in
    let low = payload_low rows checked n (by_tag tag closed) row.0 row.1 t p row.2 in
    weaker (Struct count (Beside tag name case w)) (IsObject (FirstMember tag (IsName t) (Matches reading rows fs)))
    (MeansUnder reading rows n)
    (at_tag reading rows n tag t (Matches reading rows fs) (λ ms all patterns takes d reads.
    enum_fits rows patterns n (by_tag tag closed) t p row d (λ steps notes few.
    tagged_holds reading rows patterns takes tag t fs own ms d steps
    (λ m c. low m (subst (λ (xs : List ℕ). Contains xs m) (sym (append-nil (map (λ f. f.ty) fs))) c))
    (payload_apart rows checked n (by_tag tag closed) row.0 row.1 t p row.2) avoids all reads (omega arith))))
    (struct_gives count (Beside tag name case w) (FirstMember tag (IsName t) (Matches reading rows fs))
    (beside_gives tag name case w (Matches reading rows fs) given))
