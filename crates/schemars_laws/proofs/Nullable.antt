-- `nullable` in place of null among types, for readers that know it.
use Rattle.std.proofs.Common.{List, ◌≡◌, ◌≢◌, ◌⊎◌, inl, inr, Option, Some, None, Bool, true, false, codes, refl, sym, ap, ◌∙◌, subst, true≢false}
use Rattle.schemars_laws.proofs.Words.{option_map, bytes_eq, if◌then◌else◌, ◌&&◌, ◌||◌, Data, null, boolean, number, string, array, object, Items, no_items, item, Members, put, get_member, get_member-put, get_member-put_other, Text, is_listed, IsSchema, without, replaced, holds_text, Verdict, Yes, No, Open, both, verdict, Dialect, Context, judge, keywords, truth_value, read_members, reading_at, is_null, type_says, type_fits, types_in, is_of_some_type, where_some, items_say, enum_says, differ, get_member-replaced, null-json_eq, all_null, nulls_in, type_without_null, null_taken_out, nullable_by, with_nullable, IsTypes, is_null_alone, HasPlainType, plain_nullable, with_nullable_read, without_nullable_read, read_data}
use Rattle.schemars_laws.proofs.Looked.{without-other, walked, raw-walked, Change}
use Rattle.schemars_laws.proofs.Apart.{four_of, four_by, look_up, says-moved, placed-agree, outside}
use Rattle.schemars_laws.proofs.Siblings.{replaced-other}
use Rattle.schemars_laws.proofs.TypeNames.{text-missing, list-missing, text-alone, list-alone, list-among}

-- ---- the members of one schema

abbrev nulled : Members → Members
nulled ms = put (codes "nullable") (boolean true) ms

abbrev alone_members : Members → Members
alone_members ms = without (codes "type") (put (codes "const") null (nulled ms))

abbrev among_members : Data → Members → Members
among_members t ms = replaced (codes "type") (type_without_null t) (nulled ms)

type-nulled : (ms : Members) → get_member (codes "type") (nulled ms) ≡ get_member (codes "type") ms
type-nulled ms = get_member-put_other (codes "type") (codes "nullable") (boolean true) ms (differ (codes "type") (codes "nullable") refl)

alone-other : (k : Text) (ms : Members) → k ≢ codes "type" → k ≢ codes "const" → k ≢ codes "nullable"
    → get_member k (alone_members ms) ≡ get_member k ms
alone-other k ms type const nullable =
    without-other (codes "type") k (put (codes "const") null (nulled ms)) type
    ∙ (get_member-put_other k (codes "const") null (nulled ms) const ∙ get_member-put_other k (codes "nullable") (boolean true) ms nullable)

among-other : (t : Data) (k : Text) (ms : Members) → k ≢ codes "type" → k ≢ codes "nullable"
    → get_member k (among_members t ms) ≡ get_member k ms
among-other t k ms type nullable =
    replaced-other (codes "type") k (type_without_null t) (nulled ms) type
    ∙ get_member-put_other k (codes "nullable") (boolean true) ms nullable

alone-const : (ms : Members) → get_member (codes "const") (alone_members ms) ≡ Some null
alone-const ms =
    without-other (codes "type") (codes "const") (put (codes "const") null (nulled ms)) (differ (codes "const") (codes "type") refl)
    ∙ get_member-put (codes "const") null (nulled ms)

alone-nullable : (ms : Members) → get_member (codes "nullable") (alone_members ms) ≡ Some (boolean true)
alone-nullable ms =
    without-other (codes "type") (codes "nullable") (put (codes "const") null (nulled ms)) (differ (codes "nullable") (codes "type") refl)
    ∙ (get_member-put_other (codes "nullable") (codes "const") null (nulled ms) (differ (codes "nullable") (codes "const") refl)
    ∙ get_member-put (codes "nullable") (boolean true) ms)

among-type : (t : Data) (ms : Members) → get_member (codes "type") ms ≡ Some t
    → get_member (codes "type") (among_members t ms) ≡ Some (type_without_null t)
among-type t ms is = get_member-replaced (codes "type") (type_without_null t) t (nulled ms) (type-nulled ms ∙ is)

among-nullable : (t : Data) (ms : Members) → get_member (codes "nullable") (among_members t ms) ≡ Some (boolean true)
among-nullable t ms =
    replaced-other (codes "type") (codes "nullable") (type_without_null t) (nulled ms) (differ (codes "nullable") (codes "type") refl)
    ∙ get_member-put (codes "nullable") (boolean true) ms

-- ---- what they say

or-true : (a b : Bool) → a || (b || true) ≡ true
or-true true b = refl
or-true false true = refl
or-true false false = refl

-- beside the `const` null and `nullable` a type says nothing more
null-fits : (o : Option Data) → type_says true o (Some (boolean true)) null ≡ Yes
null-fits None = refl
null-fits (Some t) = go (types_in t)
  where
    go : (ts : Option (List _)) → where_some ts (λ ts. verdict (type_fits true (Some (boolean true)) ts null)) ≡ Yes
    go None = refl
    go (Some ts) = ap verdict (or-true (is_listed (codes "null") ts) (is_of_some_type ts null))

no-twice : (b : Bool) (x : Verdict) → both No (both (verdict b) x) ≡ both No x
no-twice true x = refl
no-twice false Yes = refl
no-twice false No = refl
no-twice false Open = refl

said : (o n : Option Data) (v : Data) (x : Verdict) → both No (both (type_says true o n v) x) ≡ both No x
said None n v x = refl
said (Some t) n v x = go (types_in t)
  where
    go : (ts : Option (List _)) → both No (both (where_some ts (λ ts. verdict (type_fits true n ts v))) x) ≡ both No x
    go None = refl
    go (Some ts) = no-twice (type_fits true n ts v) x

left-over : (o : Option Data) (v : Data) (x : Verdict)
    → both (verdict (is_null v)) (both (type_says true o (Some (boolean true)) v) x) ≡ both (verdict (is_null v)) x
left-over o null x = ap (λ y. both Yes (both y x)) (null-fits o)
left-over o (boolean b) x = said o (Some (boolean true)) (boolean b) x
left-over o (number n) x = said o (Some (boolean true)) (number n) x
left-over o (string s) x = said o (Some (boolean true)) (string s) x
left-over o (array ds) x = said o (Some (boolean true)) (array ds) x
left-over o (object ms) x = said o (Some (boolean true)) (object ms) x

module _ (c : Context) (d : Dialect) (p i a e : Option Data) (v : Data) (x : Verdict) where
  four-missing : (k t : Option Data) → type_says true t None v ≡ type_says false t None v
      → four_of c (with_nullable_read d) p i a e k t None v x ≡ four_of c (without_nullable_read d) p i a e k t None v x
  unfolding four_of
  four-missing k t is = rw is refl

  four-alone : (t left : Option Data) → type_says false t None v ≡ verdict (is_null v)
      → four_of c (with_nullable_read d) p i a e (Some null) left (Some (boolean true)) v x
      ≡ four_of c (without_nullable_read d) p i a e None t None v x
  unfolding four_of
  four-alone t left is =
      rw (is, null-json_eq v)
      (ap (λ y. both
      (items_say d.reads_prefix_items (option_map (read_data c) p) (option_map (read_data c) i) (option_map (read_data c) a) v)
      (both (enum_says e v) y)) (left-over left v x))

  four-among : (k t n : Option Data) → type_says true n (Some (boolean true)) v ≡ type_says false t None v
      → four_of c (with_nullable_read d) p i a e k n (Some (boolean true)) v x ≡ four_of c (without_nullable_read d) p i a e k t None v x
  unfolding four_of
  four-among k t n is = rw is refl

module _ (c : Context) (d : Dialect) (ms : Members) (is : c.dialect ≡ with_nullable_read d)
    (none : get_member (codes "nullable") ms ≡ None) where
  abbrev Says : Members → Type 0
  Says ns = judge c (object ns) ≡ keywords (record c { dialect = without_nullable_read d }) (look_up ms) (reading_at (read_members c ms))

  judge-missing : ((v : Data)
      → type_says true (get_member (codes "type") ms) None v ≡ type_says false (get_member (codes "type") ms) None v) → Says ms
  judge-missing type =
      says-moved c (without_nullable_read d) (with_nullable_read d) ms ms is refl refl (inl refl) (λ k out. refl)
      (λ v x. rw none
      (four-missing c d (get_member (codes "prefixItems") ms) (get_member (codes "items") ms) (get_member (codes "additionalItems") ms)
      (get_member (codes "enum") ms) v x (get_member (codes "const") ms) (get_member (codes "type") ms) (type v)))
      (λ v n. placed-agree c (with_nullable_read d) (without_nullable_read d) (look_up ms) (look_up ms) v n refl refl refl refl refl)

  judge-alone : get_member (codes "const") ms ≡ None
      → ((v : Data) → type_says false (get_member (codes "type") ms) None v ≡ verdict (is_null v)) → Says (alone_members ms)
  judge-alone const type =
      says-moved c (without_nullable_read d) (with_nullable_read d) ms (alone_members ms) is refl refl (inl refl)
      (λ k out. alone-other k ms (outside k (codes "type") out refl) (outside k (codes "const") out refl)
      (outside k (codes "nullable") out refl))
      same
      (λ v n. placed-agree c (with_nullable_read d) (without_nullable_read d) (look_up (alone_members ms)) (look_up ms) v n refl
      (other (codes "prefixItems") refl refl refl) (other (codes "items") refl refl refl) (other (codes "additionalItems") refl refl refl)
      (other (codes "contains") refl refl refl))
    where
      other : (k : Text) → bytes_eq k (codes "type") ≡ false → bytes_eq k (codes "const") ≡ false → bytes_eq k (codes "nullable") ≡ false
          → get_member k (alone_members ms) ≡ get_member k ms
      other k t l n = alone-other k ms (differ k (codes "type") t) (differ k (codes "const") l) (differ k (codes "nullable") n)

      same : (v : Data) (x : Verdict)
          → four_by c (with_nullable_read d) (look_up (alone_members ms)) v x ≡ four_by c (without_nullable_read d) (look_up ms) v x
      same v x =
          rw (
            other (codes "prefixItems") refl refl refl,
            other (codes "items") refl refl refl,
            other (codes "additionalItems") refl refl refl,
            other (codes "enum") refl refl refl,
            alone-const ms,
            alone-nullable ms,
            const,
            none,
          )
          (four-alone c d (get_member (codes "prefixItems") ms) (get_member (codes "items") ms) (get_member (codes "additionalItems") ms)
          (get_member (codes "enum") ms) v x (get_member (codes "type") ms) (get_member (codes "type") (alone_members ms)) (type v))

  judge-among : (t : Data) → get_member (codes "type") ms ≡ Some t
      → ((v : Data) → type_says true (Some (type_without_null t)) (Some (boolean true)) v ≡ type_says false (Some t) None v)
      → Says (among_members t ms)
  judge-among t here type =
      says-moved c (without_nullable_read d) (with_nullable_read d) ms (among_members t ms) is refl refl (inl refl)
      (λ k out. among-other t k ms (outside k (codes "type") out refl) (outside k (codes "nullable") out refl)) same
      (λ v n. placed-agree c (with_nullable_read d) (without_nullable_read d) (look_up (among_members t ms)) (look_up ms) v n refl
      (other (codes "prefixItems") refl refl) (other (codes "items") refl refl) (other (codes "additionalItems") refl refl)
      (other (codes "contains") refl refl))
    where
      other : (k : Text) → bytes_eq k (codes "type") ≡ false → bytes_eq k (codes "nullable") ≡ false
          → get_member k (among_members t ms) ≡ get_member k ms
      other k e n = among-other t k ms (differ k (codes "type") e) (differ k (codes "nullable") n)

      same : (v : Data) (x : Verdict)
          → four_by c (with_nullable_read d) (look_up (among_members t ms)) v x ≡ four_by c (without_nullable_read d) (look_up ms) v x
      same v x =
          rw (
            other (codes "prefixItems") refl refl,
            other (codes "items") refl refl,
            other (codes "additionalItems") refl refl,
            other (codes "enum") refl refl,
            other (codes "const") refl refl,
            among-type t ms here,
            among-nullable t ms,
            here,
            none,
          )
          (four-among c d (get_member (codes "prefixItems") ms) (get_member (codes "items") ms) (get_member (codes "additionalItems") ms)
          (get_member (codes "enum") ms) v x (get_member (codes "const") ms) (Some t) (Some (type_without_null t)) (type v))

-- ---- the change of one schema

abbrev pub nullable_change : Data → Data
nullable_change s = with_nullable plain_nullable s

-- by what stands under `type`
abbrev changed_for : Option Data → Data → Data
changed_for o s = nullable_by plain_nullable (nulls_in o) s

-- what `type` holds: no null, null alone, or null among others
among-changed : (o : Option Data) (t : Data) (ms : Members) → get_member (codes "type") (nulled ms) ≡ o → o ≡ Some t
    → null_taken_out o (object (nulled ms)) ≡ object (among_members t ms)
among-changed None t ms here is = cc
among-changed (Some u) t ms here is = let same : u ≡ t = cc in ap (λ x. object (among_members x ms)) same

module _ (P : Data → Type 0) (ms : Members) where
  by_text : (s : Text) → (bytes_eq s (codes "null") ≡ false → P (object ms))
      → (bytes_eq s (codes "null") ≡ true → P (object (alone_members ms)))
      → P (changed_for (Some (string s)) (object ms))
  by_text s missing alone = go (bytes_eq s (codes "null")) refl
    where
      go : (b : Bool) → bytes_eq s (codes "null") ≡ b
          → P (nullable_by plain_nullable
          (if b then nulls_in (Some (string (codes "null"))) else nulls_in None) (object ms))
      go true is = alone is
      go false is = missing is

  by_list : (ds : Items) → get_member (codes "type") ms ≡ Some (array ds) → (holds_text (codes "null") ds ≡ false → P (object ms))
      → (holds_text (codes "null") ds ≡ true → all_null ds ≡ true → P (object (alone_members ms)))
      → (holds_text (codes "null") ds ≡ true → P (object (among_members (array ds) ms)))
      → P (changed_for (Some (array ds)) (object ms))
  by_list ds here missing alone among = go (holds_text (codes "null") ds) refl (all_null ds) refl
    where
      go : (b : Bool) → holds_text (codes "null") ds ≡ b → (a : Bool) → all_null ds ≡ a
          → P (nullable_by plain_nullable
          (if b then
          (if a then nulls_in (Some (string (codes "null"))) else nulls_in
          (Some (array (item (string (codes "null")) (item null no_items))))) else nulls_in None)
          (object ms))
      go false is a all = missing is
      go true is true all = alone is all
      go true is false all =
          subst P (sym (among-changed (get_member (codes "type") (nulled ms)) (array ds) ms refl (type-nulled ms ∙ here))) (among is)

-- what holds of each outcome
module _ (P : Data → Type 0) (ms : Members) (missing : P (object ms)) (alone : P (object (alone_members ms)))
    (among : (t : Data) → P (object (among_members t ms))) where
  by_kind : (o : Option Data) → get_member (codes "type") ms ≡ o → P (changed_for o (object ms))
  by_kind None here = missing
  by_kind (Some null) here = missing
  by_kind (Some (boolean b)) here = missing
  by_kind (Some (number n)) here = missing
  by_kind (Some (string s)) here = by_text P ms s (λ lacks. missing) (λ is. alone)
  by_kind (Some (array ds)) here = by_list P ms ds here (λ lacks. missing) (λ holds all. alone) (λ holds. among (array ds))
  by_kind (Some (object es)) here = missing

judge-nullable : (c : Context) (d : Dialect) (ms : Members) → c.dialect ≡ with_nullable_read d → HasPlainType ms
    → judge c (nullable_change (object ms))
    ≡ keywords (record c { dialect = without_nullable_read d }) (look_up ms) (reading_at (read_members c ms))
judge-nullable c d ms is plain = go (get_member (codes "type") ms) refl plain.0 plain.2
  where
    Goal : Data → Type 0
    Goal s = judge c s ≡ keywords (record c { dialect = without_nullable_read d }) (look_up ms) (reading_at (read_members c ms))

    unread : (t : Data) → get_member (codes "type") ms ≡ Some t
        → ((v : Data) → type_says true (Some t) None v ≡ type_says false (Some t) None v) → Goal (object ms)
    unread t here same =
        judge-missing c d ms is plain.1
        (λ v. ap (λ o. type_says true o None v) here ∙ (same v ∙ ap (λ o. type_says false o None v) (sym here)))

    const-none : (t : Data) → get_member (codes "type") ms ≡ Some t → is_null_alone (Some t) ≡ true
        → (is_null_alone (get_member (codes "type") ms) ≡ false) ⊎ (get_member (codes "const") ms ≡ None)
        → get_member (codes "const") ms ≡ None
    const-none t here alone_is (inl not_alone) = absurd (true≢false (sym alone_is ∙ (sym (ap is_null_alone here) ∙ not_alone)))
    const-none t here alone_is (inr none) = none

    alone : (t : Data) → get_member (codes "type") ms ≡ Some t → is_null_alone (Some t) ≡ true
        → (is_null_alone (get_member (codes "type") ms) ≡ false) ⊎ (get_member (codes "const") ms ≡ None)
        → ((v : Data) → type_says false (Some t) None v ≡ verdict (is_null v)) → Goal (object (alone_members ms))
    alone t here alone_is one same =
        judge-alone c d ms is plain.1 (const-none t here alone_is one) (λ v. ap (λ o. type_says false o None v) here ∙ same v)

    go : (o : Option Data) → get_member (codes "type") ms ≡ o → IsTypes (get_member (codes "type") ms)
        → (is_null_alone (get_member (codes "type") ms) ≡ false) ⊎ (get_member (codes "const") ms ≡ None)
        → Goal (changed_for (get_member (codes "type") ms) (object ms))
    go None here types one =
        subst (λ o. Goal (changed_for o (object ms))) (sym here)
        (judge-missing c d ms is plain.1 (λ v. ap (λ o. type_says true o None v) here ∙ ap (λ o. type_says false o None v) (sym here)))
    go (Some (string s)) here types one =
        subst (λ o. Goal (changed_for o (object ms))) (sym here)
        (by_text Goal ms s (λ lacks. unread (string s) here (λ v. text-missing s v lacks))
        (λ null_is. alone (string s) here null_is one (λ v. text-alone s v null_is)))
    go (Some (array ds)) here types one =
        let are = subst IsTypes here types in
        subst (λ o. Goal (changed_for o (object ms))) (sym here)
        (by_list Goal ms ds here (λ lacks. unread (array ds) here (λ v. list-missing ds v are lacks))
        (λ holds all. alone (array ds) here (ap (λ b. b && all_null ds) holds ∙ all) one (λ v. list-alone ds v are holds all))
        (λ holds. judge-among c d ms is plain.1 (array ds) here (λ v. list-among ds v are holds)))
    go (Some null) here types one =
        subst (λ o. Goal (changed_for o (object ms))) (sym here) (unread null here (λ v. refl))
    go (Some (boolean b)) here types one =
        subst (λ o. Goal (changed_for o (object ms))) (sym here) (unread (boolean b) here (λ v. refl))
    go (Some (number n)) here types one =
        subst (λ o. Goal (changed_for o (object ms))) (sym here) (unread (number n) here (λ v. refl))
    go (Some (object es)) here types one =
        subst (λ o. Goal (changed_for o (object ms))) (sym here) (unread (object es) here (λ v. refl))

schema-nullable : (s : Data) → IsSchema s → IsSchema (nullable_change s)
schema-nullable (boolean b) is = tt
schema-nullable (object ms) is = by_kind IsSchema ms tt tt (λ t. tt) (get_member (codes "type") ms) refl
schema-nullable _ is = absurd is

truth-nullable : (c : Context) (b : Bool) → judge c (nullable_change (boolean b)) ≡ truth_value b
unfolding read_data
truth-nullable c b = refl

definitions-stay : (key : Text) (ms : Members) → key ≢ codes "type" → key ≢ codes "const" → key ≢ codes "nullable"
    → (ns : Members) × (nullable_change (object ms) ≡ object ns) × (get_member key ns ≡ get_member key ms)
definitions-stay key ms type const nullable =
    by_kind (λ s. (ns : Members) × (s ≡ object ns) × (get_member key ns ≡ get_member key ms)) ms
    (ms, refl, refl) (alone_members ms, refl, alone-other key ms type const nullable)
    (λ t. (among_members t ms, refl, among-other t key ms type nullable)) (get_member (codes "type") ms) refl

plain-walked : (ms : Members) → HasPlainType ms → HasPlainType (walked nullable_change ms)
plain-walked ms plain = (
  subst IsTypes (sym (raw-walked nullable_change (codes "type") ms refl)) plain.0,
  raw-walked nullable_change (codes "nullable") ms refl ∙ plain.1,
  one plain.2,
)
  where
    one : (is_null_alone (get_member (codes "type") ms) ≡ false) ⊎ (get_member (codes "const") ms ≡ None)
        → (is_null_alone (get_member (codes "type") (walked nullable_change ms)) ≡ false)
        ⊎ (get_member (codes "const") (walked nullable_change ms) ≡ None)
    one (inl other) = inl (ap is_null_alone (raw-walked nullable_change (codes "type") ms refl) ∙ other)
    one (inr none) = inr (raw-walked nullable_change (codes "const") ms refl ∙ none)

pub nullable : (key : Text) (d : Dialect) → key ≢ codes "type" → key ≢ codes "const" → key ≢ codes "nullable"
    → Change nullable_change key (without_nullable_read d) (with_nullable_read d) HasPlainType
nullable key d type const null_is = record {
  schema = schema-nullable;
  of_truth = λ c b is. truth-nullable c b;
  of_object = λ c ms is plain. judge-nullable c d (walked nullable_change ms) is (plain-walked ms plain);
  definitions = λ ms. definitions-stay key ms type const null_is;
}
