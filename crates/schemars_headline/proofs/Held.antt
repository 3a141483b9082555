-- What is in schemas is of a class, whatever is asked of the schemas themselves: so it stays as they are flattened and opened.
use Rattle.std.proofs.Common.{◌≡◌, List, [], ◌∷◌, Bool, true, false, refl, sym, subst, true≢false}
use Rattle.schemars_headline.proofs.Words.{bytes_eq-Decides, AllByRecursion, ◌||◌, bytes_eq, codes, if◌then◌else◌, Data, array, object, Items, no_items, item, Members, no_members, member, put, Text, is_listed, put_members, Place, NoSchemas, OneSchema, SchemaList, SchemaOrList, SchemasByName, place_under, flattened, flattened_part, Everywhere, demanded, asked_of_items, asked_of_members, asked_of_keywords, with_same_object, with_same_objects, null_schema, same_object_place, unit_object, AllMembers, IsByKeyword, asked}
use Rattle.schemars_flatten.proofs.Kept.{AllItems}
use Rattle.schemars_flatten.proofs.Kept as kept
use Rattle.schemars_headline.proofs.Changes.{Demand, Class, nothing, good}
use Rattle.schemars_headline.proofs.Documents.{type-good, member-good, asked-named}

-- ---- one of a list of names

pub by_listed : (P : Text → Type 0) (k : Text) (ls : List Text) → AllByRecursion P ls → is_listed k ls ≡ true → P k
by_listed P k [] all is = absurd (true≢false (sym is))
by_listed P k (l ∷ ls) all is = go (bytes_eq k l) refl is (by_listed P k ls all.1)
  where
    go : (b : Bool) → bytes_eq k l ≡ b → b || is_listed k ls ≡ true → (is_listed k ls ≡ true → P k) → P k
    go true same is later = subst P (sym ((bytes_eq-Decides k l).0 same)) all.0
    go false same is later = later is

-- ---- what is in schemas

-- by the value of a keyword: a schema of the same object, a list of these, or anything else
abbrev pub by_place : Place → Type 0 → Type 0 → Type 0 → Type 0
by_place OneSchema one each other = one
by_place SchemaList one each other = each
by_place NoSchemas one each other = other
by_place SchemaOrList one each other = other
by_place SchemasByName one each other = other

-- C holds of all schema objects inside it, but for those that judge the same object, of which just what is in them is asked
unfoldable mutual
  pub Holds : (Members → Type 0) → Data → Type 0
  Holds C (object ms) = HoldsUnder C ms
  Holds C _ = Unit {0}

  pub HoldsList : (Members → Type 0) → Data → Type 0
  HoldsList C (array ds) = HoldsEach C ds
  HoldsList C _ = Unit {0}

  pub HoldsEach : (Members → Type 0) → Items → Type 0
  HoldsEach C no_items = Unit {0}
  HoldsEach C (item d ds) = Holds C d × HoldsEach C ds

  pub HoldsUnder : (Members → Type 0) → Members → Type 0
  HoldsUnder C no_members = Unit {0}
  HoldsUnder C (member k d ms) =
      by_place (same_object_place k) (Holds C d) (HoldsList C d) (demanded (place_under k) (asked C d)) × HoldsUnder C ms

abbrev pub HoldsAt : (Members → Type 0) → Text → Data → Type 0
HoldsAt C k d = by_place (same_object_place k) (Holds C d) (HoldsList C d) (demanded (place_under k) (asked C d))

module _ (C : Members → Type 0) where
  -- what a keyword with schemas of the same object holds
  holds-at : (k : Text) (d : Data) → ((asked C d).as_schema → Holds C d) → ((asked C d).as_list → HoldsList C d)
      → demanded (place_under k) (asked C d) → HoldsAt C k d
  holds-at k d one each a = go (is_listed k with_same_object) (is_listed k with_same_objects) refl refl a
    where
      go : (holds lists : Bool) → is_listed k with_same_object ≡ holds → is_listed k with_same_objects ≡ lists
          → demanded (place_under k) (asked C d)
          → by_place (if holds then OneSchema else if lists then SchemaList else NoSchemas) (Holds C d) (HoldsList C d)
          (demanded (place_under k) (asked C d))
      go true lists is also a =
          by_listed (λ x. demanded (place_under x) (asked C d) → Holds C d) k with_same_object (one, (one, (one, tt))) is a
      go false true is also a =
          by_listed (λ x. demanded (place_under x) (asked C d) → HoldsList C d) k with_same_objects (each, (each, (each, tt))) also a
      go false false is also a = a

  mutual
    unfolding asked Holds

    -- a schema of the class
    pub holds-everywhere : (d : Data) → Everywhere C d → Holds C d
    holds-everywhere (object ms) a = holds-under ms a.1
    holds-everywhere _ a = tt

    holds-list : (d : Data) → (asked C d).as_list → HoldsList C d
    holds-list (array ds) a = holds-each ds a
    holds-list _ a = tt

    holds-each : (ds : Items) → asked_of_items C ds → HoldsEach C ds
    holds-each no_items a = tt
    holds-each (item d ds) a = (holds-everywhere d a.0, holds-each ds a.1)

    holds-under : (ms : Members) → asked_of_keywords C ms → HoldsUnder C ms
    holds-under no_members a = tt
    holds-under (member k d ms) a = (holds-at k d (holds-everywhere d) (holds-list d) a.0, holds-under ms a.1)

  pub held-members : (ms : Members) → Holds C (object ms) → AllMembers (HoldsAt C) ms
  unfolding Holds
  held-members no_members h = tt
  held-members (member k d ms) h = (h.0, held-members ms h.1)

  holds-members : (ms : Members) → AllMembers (HoldsAt C) ms → Holds C (object ms)
  unfolding Holds
  holds-members no_members h = tt
  holds-members (member k d ms) h = (h.0, holds-members ms h.1)

  held-items : (ds : Items) → HoldsEach C ds → AllItems (Holds C) ds
  unfolding Holds
  held-items no_items h = tt
  held-items (item d ds) h = (h.0, held-items ds h.1)

  holds-items : (ds : Items) → AllItems (Holds C) ds → HoldsEach C ds
  unfolding Holds
  holds-items no_items h = tt
  holds-items (item d ds) h = (h.0, holds-items ds h.1)

module _ (R : Demand) where
  merged : (ms ns : Members) → asked_of_members (Class R) ms → asked_of_members (Class R) ns
      → asked_of_members (Class R) (put_members ns ms)
  unfolding asked
  merged ms no_members first second = first
  merged ms (member k d ns) first second = merged (put k d ms) ns (asked-named R k d ms second.0 first) second.1

  unit-holds : (name : Text) → Holds (Class R) (unit_object name)
  unit-holds name =
      holds-everywhere (Class R) (unit_object name) (member-good R false name null_schema (type-good R (codes "null"))).everywhere

  by_keyword : IsByKeyword (Holds (Class R)) (HoldsAt (Class R))
  unfolding asked Holds
  by_keyword = record {
    truth = λ b. tt;
    parts = held-members (Class R);
    whole = holds-members (Class R);
    schema = λ k d is. by_listed (λ x. HoldsAt (Class R) x d → Holds (Class R) d) k with_same_object
        (λ h. h, (λ h. h, (λ h. h, tt))) is;
    under = λ k d is. by_listed (λ x. Holds (Class R) d → HoldsAt (Class R) x d) k with_same_object
        (λ h. h, (λ h. h, (λ h. h, tt))) is;
    items = λ k ds is. by_listed (λ x. HoldsAt (Class R) x (array ds) → AllItems (Holds (Class R)) ds) k with_same_objects
        (held-items (Class R) ds, (held-items (Class R) ds, (held-items (Class R) ds, tt))) is;
    list = λ k ds is. by_listed (λ x. AllItems (Holds (Class R)) ds → HoldsAt (Class R) x (array ds)) k with_same_objects
        (holds-items (Class R) ds, (holds-items (Class R) ds, (holds-items (Class R) ds, tt))) is;
    nothing = (good R no_members (nothing R)).everywhere;
    additional = tt;
    unevaluated = tt;
    renamed = λ d h. tt;
    required = λ ds es first second. tt;
    properties = merged;
    by_pattern = merged;
    unit = unit-holds;
  }

  pub flattened-holds : (s o : Data) → Holds (Class R) s → Holds (Class R) o → Holds (Class R) (flattened s o)
  flattened-holds = kept.flattened_kept (Holds (Class R)) (HoldsAt (Class R)) by_keyword

  pub part-holds : (b : Bool) (s : Data) → Holds (Class R) s → Holds (Class R) (flattened_part b s)
  part-holds = kept.part_kept (Holds (Class R)) (HoldsAt (Class R)) by_keyword
