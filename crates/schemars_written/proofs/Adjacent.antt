-- Variants of enums whose names stand beside a content, under keys of their own.
use Rattle.std.proofs.Common.{◌≡◌, ◌⊎◌, inl, inr, ℕ, suc, ◌*◌, ◌<◌, ◌≤◌, List, [], ◌∷◌, length, Bool, true, false, not, Some, None, refl, sym, ap, ◌∙◌, subst, arith}
use Rattle.schemars_written.proofs.Words.{bytes_eq, Contains, is_some, ◌&&◌, if◌then◌else◌, IsDistinct, option_map_or, mul-le, bytes_eq-Decides, Json, Log, Logs, spelled, Data, string, Members, no_members, member, members_depth, depth, get_member, of_json, of_members, get_member-here, Text, Patterns, AllMembers, by_tag_and_content, Payload, no_payload, newtype_payload, tuple_payload, struct_payload, payload_numbers, Row, rank, IsChecked, expanded_payload, flattened_in, part_enums, belongs_within, choices_within, has_payload, has_beside, every_member, Member, member_named, must_have, tag_member, Gives, Beside, Struct, IsObject, FirstMember, NoMembers, Done, MeansUnder, HasVariantAt}
use Rattle.json.specs.Json as json
use Rattle.serde.specs.Event as event
use Rattle.serde.specs.declared.name.Case.{Case}
use Rattle.serde.specs.declared.name.Case.TheVariants.{AsIs}
use Rattle.serde.specs.declared.name.NameKind.TheVariants as kind
use Rattle.schemars_types.specs.declared.contract.Contract.TheVariants.{Serialize}
use Rattle.schemars_written.specs.Gives as gives
use Rattle.schemars_written.proofs.Atoms.{weaker}
use Rattle.schemars_written.proofs.Lists.{both_true}
use Rattle.schemars_written.proofs.Objects.{object_parts, read_members, stays, comes, field_key_gives, member_gives, done_gives, struct_gives}
use Rattle.schemars_written.proofs.Payloads.{payload_low, payload_apart, keys_apart, PayloadMeans, Enough, Holds, payload_holds}
use Rattle.schemars_written.proofs.Enums.{Fitting, enum_fits, inside_enough, IsFull, IsName, at_tag, is_name, tagged_holds, beside_gives}

pub adjacent_unit_agrees : (reading : Patterns → Type 0) (rows : List Row) → IsChecked rows
    → (n : ℕ) (tag content : Text) (closed : Bool) (name : Text) (case : Case)
    → HasVariantAt rows n (by_tag_and_content tag content closed) (spelled case kind.Variant name) no_payload → (count : ℕ)
    → Gives (Struct count (Beside tag name case Done)) (MeansUnder reading rows n)
unfolding IsDistinct
adjacent_unit_agrees reading rows checked n tag content closed name case row count =
    let t = spelled case kind.Variant name in
    weaker (Struct count (Beside tag name case Done)) (IsObject (FirstMember tag (IsName t) NoMembers)) (MeansUnder reading rows n)
    (at_tag reading rows n tag t NoMembers (λ ms none patterns takes d reads.
    enum_fits rows patterns n (by_tag_and_content tag content closed) t no_payload row d (λ steps notes few.
    tagged_holds reading rows patterns takes tag t [] closed ms d steps (λ m c. absurd (omega (arith, c.1))) tt tt none reads
    (omega arith))))
    (struct_gives count (Beside tag name case Done) (FirstMember tag (IsName t) NoMembers)
    (beside_gives tag name case Done NoMembers done_gives))

-- what a member may have, beside a tag and a content
abbrev beside_fits : Text → Text → Text → (Data → Bool) → Bool → Text → Data → Bool
beside_fits tag name content test closed k w =
    option_map_or (λ (m : Member). m.has w) (member_named (tag_member tag name ∷ must_have content test ∷ []) k) (not closed)

-- the tag with its name, or the content
abbrev InAdjacent : Text → Text → Text → Json → Text → Data → Type 0
InAdjacent tag name content j k d = ((k ≡ tag) × (d ≡ string name)) ⊎ ((k ≡ content) × (of_json j ≡ Some d))

adjacent_hold : (tag name content : Text) (test : Data → Bool) (closed : Bool) (j : Json) (h : ℕ) (ms : Members)
    → bytes_eq tag content ≡ false
    → ((d : Data) → of_json j ≡ Some d → depth d ≤ h → test d ≡ true) → members_depth ms ≤ h → AllMembers (InAdjacent tag name content j) ms
    → every_member (beside_fits tag name content test closed) ms ≡ true
adjacent_hold tag name content test closed j h no_members differ passes deep all = refl
adjacent_hold tag name content test closed j h (member k d ms) differ passes deep all =
    both_true (beside_fits tag name content test closed k d) (every_member (beside_fits tag name content test closed) ms) (first all.0)
    (adjacent_hold tag name content test closed j h ms differ passes (omega arith) all.1)
  where
    at : Bool → Bool → Bool
    at b c = option_map_or (λ (m : Member). m.has d)
        (if b then Some (tag_member tag name) else if c then Some (must_have content test) else None) (not closed)

    first : InAdjacent tag name content j k d → at (bytes_eq tag k) (bytes_eq content k) ≡ true
    first (inl here) = ap (λ (b : Bool). at b (bytes_eq content k)) ((bytes_eq-Decides tag k).1 (sym here.0)) ∙ is_name name d here.1
    first (inr there) =
        ap (λ (b : Bool). at b (bytes_eq content k)) (subst (λ (t : Text). bytes_eq tag t ≡ false) (sym there.0) differ)
        ∙ ap (λ (b : Bool). at false b) ((bytes_eq-Decides content k).1 (sym there.0))
        ∙ passes d there.1 (omega arith)

-- a full payload has its value under the content's key
under_content : (rows : List Row) (patterns : Patterns) (steps : ℕ) (tag content : Text) (closed : Bool) (name : Text) (p : Payload)
    (notes : Members) (d : Data)
    → IsFull p
    → has_beside tag name content
    (has_payload Serialize (belongs_within rows Serialize patterns steps) (choices_within rows Serialize patterns steps)
    (expanded_payload (flattened_in rows) (part_enums rows) p)) closed d ≡ true
    → Fitting rows patterns steps (by_tag_and_content tag content closed) name p notes d
under_content rows patterns steps tag content closed name no_payload notes d full is = absurd full
under_content rows patterns steps tag content closed name (newtype_payload m) notes d full is = is
under_content rows patterns steps tag content closed name (tuple_payload ns) notes d full is = is
under_content rows patterns steps tag content closed name (struct_payload x) notes d full is = is

beside_holds : (rows : List Row) (patterns : Patterns) (tag content : Text) (closed : Bool) (name : Text) (p : Payload) (j : Json)
    (d : Data) (steps : ℕ)
    → ((m : ℕ) → Contains (payload_numbers p) m → (m < length rows) × (rank rows m < length rows))
    → bytes_eq tag content ≡ false
    → ((v : Data) → of_json j ≡ Some v → Enough rows p (depth v) steps → Holds rows patterns steps p v)
    → of_json (json.object (json.member tag (json.string name) (json.member content j json.no_members))) ≡ Some d
    → depth d * length rows ≤ steps
    → has_beside tag name content
    (has_payload Serialize (belongs_within rows Serialize patterns steps) (choices_within rows Serialize patterns steps)
    (expanded_payload (flattened_in rows) (part_enums rows) p)) closed d ≡ true
beside_holds rows patterns tag content closed name p j d steps low differ passes reads few =
    let test = has_payload Serialize (belongs_within rows Serialize patterns steps) (choices_within rows Serialize patterns steps)
    (expanded_payload (flattened_in rows) (part_enums rows) p) in
    let found = member tag (string name) no_members in
    let ms = json.member content j json.no_members in
    let r = object_parts (of_members (json.member tag (json.string name) ms) no_members) d reads in
    let enough : suc (members_depth r.0) * length rows ≤ steps = subst (λ v. depth v * length rows ≤ steps) (sym r.2) few in
    let each = read_members (InAdjacent tag name content j) ms found r.0 (λ v is. inr (refl, is), tt) (inl (refl, refl), tt) r.1 in
    subst (λ v. has_beside tag name content test closed v ≡ true) r.2
    (both_true (every_member (beside_fits tag name content test closed) r.0)
    (is_some (get_member tag r.0) && (is_some (get_member content r.0) && true))
    (adjacent_hold tag name content test closed j (members_depth r.0) r.0 differ
    (λ v is deep. passes v is (inside_enough rows p (depth v) steps low (wide (depth v) (members_depth r.0) deep enough)))
    (omega arith) each)
    (both_true (is_some (get_member tag r.0)) (is_some (get_member content r.0) && true)
    (stays tag ms found r.0 (ap is_some (get_member-here tag (string name) no_members)) r.1)
    (both_true (is_some (get_member content r.0)) true (comes content ms found r.0 (inl refl) r.1) refl)))
  where
    wide : (a h : ℕ) → a ≤ h → suc h * length rows ≤ steps → suc a * length rows ≤ steps
    wide a h less few = omega (arith, mul-le (suc a) (length rows) (suc h) (length rows) (omega arith) (omega arith))

pub adjacent_agrees : (reading : Patterns → Type 0) (rows : List Row) → IsChecked rows
    → (n : ℕ) (tag content : Text) (closed : Bool) (name : Text) (case : Case) (p : Payload)
    → HasVariantAt rows n (by_tag_and_content tag content closed) (spelled case kind.Variant name) p → IsFull p
    → (count : ℕ) (w : Log → Log → Type 0)
    → Gives w (PayloadMeans reading rows p)
    → Gives (Struct count (Beside tag name case (gives.Field content w Done))) (MeansUnder reading rows n)
adjacent_agrees reading rows checked n tag content closed name case p row full count w given =
    let t = spelled case kind.Variant name in
    let tagging = by_tag_and_content tag content closed in
    let Q : json.Members → Type 0 = FirstMember content (PayloadMeans reading rows p) NoMembers in
    let low = payload_low rows checked n tagging row.0 row.1 t p row.2 in
    weaker (Struct count (Beside tag name case (gives.Field content w Done))) (IsObject (FirstMember tag (IsName t) Q))
    (MeansUnder reading rows n)
    (at_tag reading rows n tag t Q (content_means low))
    (struct_gives count (Beside tag name case (gives.Field content w Done)) (FirstMember tag (IsName t) Q)
    (beside_gives tag name case (gives.Field content w Done) Q
    (member_gives content (λ old new. Logs old new (event.field_key content AsIs)) w Done (PayloadMeans reading rows p) NoMembers
    (field_key_gives content) given done_gives)))
  where
    content_means : ((m : ℕ) → Contains (payload_numbers p) m → (m < length rows) × (rank rows m < length rows)) → (ms : json.Members)
        → FirstMember content (PayloadMeans reading rows p) NoMembers ms
        → MeansUnder reading rows n (json.object (json.member tag (json.string (spelled case kind.Variant name)) ms))
    content_means low json.no_members all = absurd all
    content_means low (json.member k j (json.member l i ms)) all = absurd all.2
    content_means low (json.member k j json.no_members) all =
        let t = spelled case kind.Variant name in
        let tagging = by_tag_and_content tag content closed in
        subst (λ (c : Text). MeansUnder reading rows n (json.object (json.member tag (json.string t) (json.member c j json.no_members))))
        (sym all.0)
        (λ patterns takes d reads. enum_fits rows patterns n tagging t p row d (λ steps notes few.
        under_content rows patterns steps tag content closed t p notes d full
        (beside_holds rows patterns tag content closed t p j d steps low (keys_apart rows checked n tag content closed row.0 row.1)
        (λ v is enough. payload_holds reading rows patterns takes p j v steps low
        (payload_apart rows checked n tagging row.0 row.1 t p row.2) all.1 is enough)
        reads (omega arith))))
