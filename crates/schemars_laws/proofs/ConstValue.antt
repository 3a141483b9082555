-- An `enum` of one value in place of `const`, for readers that do not know `const`.
use Rattle.std.proofs.Common.{◌≡◌, ◌≢◌, ◌⊎◌, inl, inr, Option, Some, None, Bool, false, codes, refl, sym, ap, ◌∙◌}
use Rattle.schemars_laws.proofs.Words.{or-false, bytes_eq, Data, boolean, array, object, no_items, item, Members, put, get_member, get_member-put, get_member-put_other, Text, json_eq, IsSchema, without, Verdict, Dialect, Context, judge, keywords, truth_value, read_members, reading_at, differ, const_as_enum, value_as_enum, IsOnce, of_draft06, IsConstAlone, without_const, with_const, read_data}
use Rattle.schemars_laws.proofs.Looked.{without-other, walked, raw-walked, once-walked, nones-walked, Change}
use Rattle.schemars_laws.proofs.Apart.{four_of, four_by, look_up, says-moved, placed-agree, outside}

abbrev const_members : Option Data → Members → Members
const_members None ms = without (codes "const") ms
const_members (Some w) ms = put (codes "enum") (array (item w no_items)) (without (codes "const") ms)

changed : (o : Option Data) (ms : Members) → value_as_enum o (object (without (codes "const") ms)) ≡ object (const_members o ms)
changed None ms = refl
changed (Some w) ms = refl

get-other : (o : Option Data) (k : Text) (ms : Members) → k ≢ codes "const" → k ≢ codes "enum"
    → get_member k (const_members o ms) ≡ get_member k ms
get-other None k ms const enum = without-other (codes "const") k ms const
get-other (Some w) k ms const enum =
    get_member-put_other k (codes "enum") (array (item w no_items)) (without (codes "const") ms) enum
    ∙ without-other (codes "const") k ms const

other : (o : Option Data) (k : Text) (ms : Members) → bytes_eq k (codes "const") ≡ false → bytes_eq k (codes "enum") ≡ false
    → get_member k (const_members o ms) ≡ get_member k ms
other o k ms const enum = get-other o k ms (differ k (codes "const") const) (differ k (codes "enum") enum)

module _ (c : Context) (d : Dialect) (p i a t n : Option Data) (v : Data) (x : Verdict) where
  no_const : (e : Option Data) → four_of c (without_const d) p i a e None t n v x ≡ four_of c (with_const d) p i a e None t n v x
  unfolding four_of
  no_const e = refl

  as_enum : (w : Data) → four_of c (without_const d) p i a (Some (array (item w no_items))) None t n v x
      ≡ four_of c (with_const d) p i a None (Some w) t n v x
  unfolding four_of
  as_enum w = rw (or-false (json_eq w v)) refl

module _ (c : Context) (d : Dialect) (ms : Members) (once : IsOnce (codes "const") ms) (v : Data) (x : Verdict) where
  none-same : get_member (codes "const") ms ≡ None
      → four_by c (without_const d) (look_up (const_members None ms)) v x ≡ four_by c (with_const d) (look_up ms) v x
  none-same none =
      rw (
        other None (codes "prefixItems") ms refl refl,
        other None (codes "items") ms refl refl,
        other None (codes "additionalItems") ms refl refl,
        without-other (codes "const") (codes "enum") ms (differ (codes "enum") (codes "const") refl),
        once,
        other None (codes "type") ms refl refl,
        other None (codes "nullable") ms refl refl,
        none,
      )
      (no_const c d (get_member (codes "prefixItems") ms) (get_member (codes "items") ms) (get_member (codes "additionalItems") ms)
      (get_member (codes "type") ms) (get_member (codes "nullable") ms) v x (get_member (codes "enum") ms))

  some-same : (w : Data) → get_member (codes "const") ms ≡ Some w → get_member (codes "enum") ms ≡ None
      → four_by c (without_const d) (look_up (const_members (Some w) ms)) v x ≡ four_by c (with_const d) (look_up ms) v x
  some-same w const enum =
      rw (
        other (Some w) (codes "prefixItems") ms refl refl,
        other (Some w) (codes "items") ms refl refl,
        other (Some w) (codes "additionalItems") ms refl refl,
        get_member-put (codes "enum") (array (item w no_items)) (without (codes "const") ms),
        get_member-put_other (codes "const") (codes "enum") (array (item w no_items)) (without (codes "const") ms)
            (differ (codes "const") (codes "enum") refl),
        once,
        other (Some w) (codes "type") ms refl refl,
        other (Some w) (codes "nullable") ms refl refl,
        const,
        enum,
      )
      (as_enum c d (get_member (codes "prefixItems") ms) (get_member (codes "items") ms) (get_member (codes "additionalItems") ms)
      (get_member (codes "type") ms) (get_member (codes "nullable") ms) v x w)

-- a schema says as much with `enum`, where `const` is not known
judge-const : (c : Context) (d : Dialect) (ms : Members) → c.dialect ≡ without_const d → IsConstAlone ms
    → judge c (const_as_enum (object ms)) ≡ keywords (record c { dialect = with_const d }) (look_up ms) (reading_at (read_members c ms))
judge-const c d ms is alone = go (get_member (codes "const") ms) refl alone.1
  where
    moved : (o : Option Data)
        → ((v : Data) (x : Verdict)
        → four_by c (without_const d) (look_up (const_members o ms)) v x ≡ four_by c (with_const d) (look_up ms) v x)
        → judge c (value_as_enum o (object (without (codes "const") ms)))
        ≡ keywords (record c { dialect = with_const d }) (look_up ms) (reading_at (read_members c ms))
    moved o same =
        ap (judge c) (changed o ms)
        ∙ says-moved c (with_const d) (without_const d) ms (const_members o ms) is refl refl (inr alone.2)
        (λ k out. get-other o k ms (outside k (codes "const") out refl) (outside k (codes "enum") out refl)) same
        (λ v n. placed-agree c (without_const d) (with_const d) (look_up (const_members o ms)) (look_up ms) v n refl
        (other o (codes "prefixItems") ms refl refl) (other o (codes "items") ms refl refl) (other o (codes "additionalItems") ms refl refl)
        (other o (codes "contains") ms refl refl))

    go : (o : Option Data) → get_member (codes "const") ms ≡ o
        → (get_member (codes "const") ms ≡ None) ⊎ (get_member (codes "enum") ms ≡ None)
        → judge c (value_as_enum (get_member (codes "const") ms) (object (without (codes "const") ms)))
        ≡ keywords (record c { dialect = with_const d }) (look_up ms) (reading_at (read_members c ms))
    go None there one = rw there (moved None (λ v x. none-same c d ms alone.0 v x there))
    go (Some w) there (inr enum) = rw there (moved (Some w) (λ v x. some-same c d ms alone.0 v x w there enum))
    go (Some w) there (inl none) = absurd (apart (sym none ∙ there))
      where
        apart : None ≡ Some w → ⊥
        apart e = cc

schema-const : (s : Data) → IsSchema s → IsSchema (const_as_enum s)
schema-const (boolean b) is = tt
schema-const (object ms) is = kept (get_member (codes "const") ms)
  where
    kept : (o : Option Data) → IsSchema (value_as_enum o (object (without (codes "const") ms)))
    kept None = tt
    kept (Some w) = tt
schema-const _ is = absurd is

truth-const : (c : Context) (b : Bool) → judge c (const_as_enum (boolean b)) ≡ truth_value b
unfolding read_data
truth-const c b = refl

alone-walked : (ms : Members) → IsConstAlone ms → IsConstAlone (walked const_as_enum ms)
alone-walked ms alone =
    (once-walked const_as_enum (codes "const") ms alone.0, one alone.1, nones-walked const_as_enum of_draft06 ms alone.2)
  where
    one : (get_member (codes "const") ms ≡ None) ⊎ (get_member (codes "enum") ms ≡ None)
        → (get_member (codes "const") (walked const_as_enum ms) ≡ None) ⊎ (get_member (codes "enum") (walked const_as_enum ms) ≡ None)
    one (inl none) = inl (raw-walked const_as_enum (codes "const") ms refl ∙ none)
    one (inr none) = inr (raw-walked const_as_enum (codes "enum") ms refl ∙ none)

pub const_value : (key : Text) (d : Dialect) → key ≢ codes "const" → key ≢ codes "enum"
    → Change const_as_enum key (with_const d) (without_const d) IsConstAlone
const_value key d const enum = record {
  schema = schema-const;
  of_truth = λ c b is. truth-const c b;
  of_object = λ c ms is alone. judge-const c d (walked const_as_enum ms) is (alone-walked ms alone);
  definitions = λ ms. (
    const_members (get_member (codes "const") ms) ms,
    changed (get_member (codes "const") ms) ms,
    get-other (get_member (codes "const") ms) key ms const enum,
  );
}
