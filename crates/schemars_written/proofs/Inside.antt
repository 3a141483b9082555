-- A variant with its name under a tag, beside the members of its value.
use Rattle.std.proofs.Common.{◌≡◌, inl, inr, ℕ, ◌≤◌, max, List, [], ◌∷◌, length, Bool, true, false, Option, Some, refl, sym, ap, ◌∙◌, subst, arith}
use Rattle.schemars_written.proofs.Words.{Contains, option_map, option_and_then, bytes_eq, if◌then◌else◌, mul-le, bytes_eq-Decides, Log, spelled, Data, string, object, Members, no_members, member, members_depth, depth, put, get_member, of_json, of_members, get_member-put, get_member-put_other, differ, get_member-here, Text, Patterns, without, get_member-without, without-put, IsSorted, sorted-put, sorted-without, same_members, Field, by_tag, newtype_payload, payload_same, Row, IsChecked, belongs_within, holds, is_text, Gives, GivesMembers, Struct, Beside, IsObject, FirstMember, Fits, MeansUnder, HasShape, HasVariantAt, AvoidsTag}
use Rattle.json.specs.Json as json
use Rattle.serde.specs.declared.name.Case.{Case}
use Rattle.serde.specs.declared.name.NameKind.TheVariants as kind
use Rattle.schemars_shapes.specs.Shape as shape
use Rattle.schemars_types.specs.declared.contract.Contract.TheVariants.{Serialize}
use Rattle.schemars_written.proofs.Atoms.{weaker, same_lower, Some_same}
use Rattle.schemars_written.proofs.Lists.{both_true}
use Rattle.schemars_written.proofs.Objects.{EachJson, Matches, plain_fields, object_parts, member_parts, struct_means, struct_gives}
use Rattle.schemars_written.proofs.Payloads.{variant_number, payload_low}
use Rattle.schemars_written.proofs.Enums.{IsName, enum_fits, at_tag, beside_gives}

-- ---- a member that is taken out

-- another member that is put in doesn't matter
without_put : (k l : Text) (d : Data) (ms : Members) → bytes_eq k l ≡ false → IsSorted ms → without k (put l d ms) ≡ put l d (without k ms)
without_put k l d ms other sorted =
    same_members (without k (put l d ms)) (put l d (without k ms))
    (sorted-without k (put l d ms) (sorted-put l d ms sorted)) (sorted-put l d (without k ms) (sorted-without k ms sorted))
    (λ q. at_key q (bytes_eq q k) refl (bytes_eq q l) refl)
  where
    at_key : (q : Text) (a : Bool) → bytes_eq q k ≡ a → (b : Bool) → bytes_eq q l ≡ b
        → get_member q (without k (put l d ms)) ≡ get_member q (put l d (without k ms))
    at_key q true is b at_l =
        subst (λ (t : Text). get_member t (without k (put l d ms)) ≡ get_member t (put l d (without k ms))) (sym
        ((bytes_eq-Decides q k).0 is))
        (without-put k l d ms other ∙ sym (get_member-put_other k l d (without k ms) (differ k l other)))
    at_key q false is true at_l =
        get_member-without q k (put l d ms) is
        ∙ subst (λ (t : Text). get_member t (put l d ms) ≡ get_member t (put l d (without k ms))) (sym ((bytes_eq-Decides q l).0 at_l))
        (get_member-put l d ms ∙ sym (get_member-put l d (without k ms)))
    at_key q false is false at_l =
        get_member-without q k (put l d ms) is
        ∙ get_member-put_other q l d ms (differ q l at_l)
        ∙ sym (get_member-put_other q l d (without k ms) (differ q l at_l) ∙ get_member-without q k ms is)

-- a member that comes first stays, and the others are read as they are without it, if none of them has its key
taken : (k : Text) (v : Data) (ms : json.Members) (found rest all : Members) → EachJson (λ l j. bytes_eq k l ≡ false) ms → IsSorted found
    → rest ≡ without k found → get_member k found ≡ Some v → of_members ms found ≡ Some all
    → (of_members ms rest ≡ Some (without k all)) × (get_member k all ≡ Some v)
taken k v json.no_members found rest all apart sorted is held reads =
    let same = Some_same found all reads in
    (ap Some (is ∙ ap (λ (x : Members). without k x) same), ap (λ (x : Members). get_member k x) (sym same) ∙ held)
taken k v (json.member l j ms) found rest all apart sorted is held reads =
    let r = member_parts (of_json j) (λ d. of_members ms (put l d found)) all reads in
    let more = taken k v ms (put l r.0 found) (put l r.0 rest) all apart.1 (sorted-put l r.0 found sorted)
    (ap (λ (x : Members). put l r.0 x) is ∙ sym (without_put k l r.0 found apart.0 sorted))
    (get_member-put_other k l r.0 found (differ k l apart.0) ∙ held) r.2 in
    (ap (λ (o : Option Data). option_and_then (λ d. of_members ms (put l d rest)) o) r.1 ∙ more.0, more.1)

members_depth-without : (k : Text) (ms : Members) → members_depth (without k ms) ≤ members_depth ms
members_depth-without k no_members = omega arith
members_depth-without k (member l d ms) = go (bytes_eq k l) (members_depth-without k ms)
  where
    go : (b : Bool) → members_depth (without k ms) ≤ members_depth ms
        → members_depth (if b then ms else member l d (without k ms)) ≤ max (depth d) (members_depth ms)
    go true less = omega arith
    go false less = omega arith

-- members of fields that avoid a tag do not have it as a key
no_tag : (reading : Patterns → Type 0) (rows : List Row) (tag : Text) (fs : List Field) → AvoidsTag tag fs → (ms : json.Members)
    → Matches reading rows fs ms
    → EachJson (λ k j. bytes_eq tag k ≡ false) ms
no_tag reading rows tag [] avoids json.no_members given = tt
no_tag reading rows tag [] avoids (json.member k j ms) given = absurd given
no_tag reading rows tag (f ∷ fs) avoids json.no_members (inl given) = absurd given
no_tag reading rows tag (f ∷ fs) avoids (json.member k j ms) (inl given) =
    (subst (λ (t : Text). bytes_eq tag t ≡ false) (sym given.0) avoids.0, no_tag reading rows tag fs avoids.1 ms given.2)
no_tag reading rows tag (f ∷ fs) avoids ms (inr given) = no_tag reading rows tag fs avoids.1 ms given.1

-- ---- the variant

name_is : (name : Text) (o : Option Data) → o ≡ Some (string name) → holds o (is_text name) ≡ true
name_is name o is = ap (λ (x : Option Data). holds x (is_text name)) is ∙ (bytes_eq-Decides name name).1 refl

-- the tag's member and those of the value are what the variant has
members_mean : (reading : Patterns → Type 0) (rows : List Row) → IsChecked rows
    → (n m : ℕ) (tag : Text) (closed : Bool) (name : Text) (fs : List Field) (own : Bool)
    → HasVariantAt rows n (by_tag tag closed) name (newtype_payload m) → HasShape rows m (shape.struct (plain_fields fs own))
    → AvoidsTag tag fs
    → (ms : json.Members) → Matches reading rows fs ms → MeansUnder reading rows n (json.object (json.member tag (json.string name) ms))
members_mean reading rows checked n m tag closed name fs own row part avoids ms all patterns takes d reads =
    let first = member tag (string name) no_members in
    let r = object_parts (of_members (json.member tag (json.string name) ms) no_members) d reads in
    let alone : no_members ≡ without tag first = sym (ap (λ (b : Bool). if b then no_members else first)
    ((bytes_eq-Decides tag tag).1 refl)) in
    let out = taken tag (string name) ms first no_members r.0 (no_tag reading rows tag fs avoids ms all) (tt, tt) alone (get_member-here tag
    (string name) no_members) r.1 in
    let fits : Fits rows patterns m (object (without tag r.0)) =
    struct_means reading rows checked m fs own part (json.object ms) all patterns takes (object (without tag r.0))
    (ap (option_map object) out.0) in
    let here : Contains (payload_same (newtype_payload m)) m = (0, omega arith, refl) in
    let low = payload_low rows checked n (by_tag tag closed) row.0 row.1 name (newtype_payload m) row.2 m here in
    let lower = same_lower rows checked n m (shape.enum (by_tag tag closed) row.0) row.1
    (variant_number payload_same name (newtype_payload m) row.0 m row.2 here) low.0 in
    let less = mul-le (members_depth (without tag r.0)) (length rows) (members_depth r.0) (length rows) (members_depth-without tag r.0)
    (omega arith) in
    subst (λ v. Fits rows patterns n v) r.2 (enum_fits rows patterns n (by_tag tag closed) name (newtype_payload m) row (object r.0)
    (λ steps notes few.
    both_true (holds (get_member tag r.0) (is_text name)) (belongs_within rows Serialize patterns steps m (object (without tag r.0)))
    (name_is name (get_member tag r.0) out.1)
    (fits steps (omega (arith, less, lower)))))

pub internal_newtype_agrees : (reading : Patterns → Type 0) (rows : List Row) → IsChecked rows
    → (n m : ℕ) (tag : Text) (closed : Bool) (name : Text) (case : Case) (fs : List Field)
    (own : Bool) → HasVariantAt rows n (by_tag tag closed) (spelled case kind.Variant name) (newtype_payload m)
    → HasShape rows m (shape.struct (plain_fields fs own)) → AvoidsTag tag fs → (count : ℕ) (w : Log → Log → Type 0)
    → GivesMembers w (Matches reading rows fs)
    → Gives (Struct count (Beside tag name case w)) (MeansUnder reading rows n)
internal_newtype_agrees reading rows checked n m tag closed name case fs own row part avoids count w given =
    let t = spelled case kind.Variant name in
    weaker (Struct count (Beside tag name case w)) (IsObject (FirstMember tag (IsName t) (Matches reading rows fs)))
    (MeansUnder reading rows n)
    (at_tag reading rows n tag t (Matches reading rows fs) (members_mean reading rows checked n m tag closed t fs own row part avoids))
    (struct_gives count (Beside tag name case w) (FirstMember tag (IsName t) (Matches reading rows fs)) (beside_gives tag name case w
    (Matches reading rows fs) given))
