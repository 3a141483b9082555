-- The keywords of which dialects read some in another way, apart from all others.
use Rattle.std.proofs.Common.{◌≡◌, ◌≢◌, ◌⊎◌, ℕ, inl, inr, List, [], ◌∷◌, Option, Bool, true, false, codes, option_map, refl, sym, ap, ◌∙◌, subst, true≢false}
use Rattle.schemars_laws.proofs.Words.{fun_ext, ◌++◌, if◌then◌else◌, ◌&&◌, ◌||◌, not, Data, object, Members, get_member, Text, is_listed, Verdict, Yes, No, Open, both, all_of, Dialect, Context, Raw, Readings, Judge, Part, key, position, judges_rest, judged_by_items, judged_by_contains, judged_by_list, judged_by_condition, judged_by_dependents, judged_by_reference, is_covered, has_schema, keywords, items_say, reference_says, type_says, const_says, enum_says, each_says, judged_beside, reference_alone, is_reference, judge, read_members, reading_at, reading_at-members, HasNone, of_draft06, all_keywords, read_data}
use Rattle.schemars_laws.proofs.Keywords.{counts_say, members_say, last_say, fits-all, left_out, AgreeOutside, left_out-agree, AllNone, left_out-none}
use Rattle.schemars_laws.proofs.Seen.{judge_ext}

-- ---- verdicts in another order

pub swap : (x y z : Verdict) → both x (both y z) ≡ both y (both x z)
swap Yes y z = refl
swap Open Yes z = refl
swap Open Open z = refl
swap Open No Yes = refl
swap Open No No = refl
swap Open No Open = refl
swap No Yes z = refl
swap No Open Yes = refl
swap No Open No = refl
swap No Open Open = refl
swap No No z = refl

pub pulled : (xs : List Verdict) (y : Verdict) (ys : List Verdict) → all_of (xs ++ y ∷ ys) ≡ both y (all_of (xs ++ ys))
pulled [] y ys = refl
pulled (x ∷ xs) y ys = ap (both x) (pulled xs y ys) ∙ swap x y (all_of (xs ++ ys))

-- ---- the other keywords

-- whether an item is judged by its position, or by `contains`
abbrev pub placed_by : Context → Readings → Data → ℕ → Bool
placed_by c read v n =
    judged_by_items c.dialect.reads_prefix_items (read (codes "prefixItems")) (read (codes "items")) (read (codes "additionalItems")) n
    || judged_by_contains c.dialect.reads_prefix_items (read (codes "contains")) v n

-- which parts are judged, where these items are
abbrev itself_where : Context → Readings → (ℕ → Bool) → Part → Bool
itself_where c read placed p = elim p [
  | key k ↦ is_covered c.patterns (read (codes "properties")) (read (codes "patternProperties")) k
      || has_schema (read (codes "additionalProperties"))
  | position n ↦ placed n
]

abbrev judged_where : Context → Raw → Readings → (ℕ → Bool) → Data → Part → Bool
judged_where c raw read placed v p =
    itself_where c read placed p
    || (judged_by_list (read (codes "allOf")) v p
    || (judged_by_list (read (codes "anyOf")) v p
    || (judged_by_list (read (codes "oneOf")) v p
    || (judged_by_condition c.dialect.reads_const (read (codes "if")) (read (codes "then")) (read (codes "else")) v p
    || (judged_by_dependents c.dialect.reads_unevaluated (read (codes "dependentSchemas")) v p
    || judged_by_reference c.follow (raw (codes "$ref")) v p)))))

-- from `contains` on
abbrev behind_items : Context → Raw → Readings → (Part → Bool) → Data → List Verdict
behind_items c raw read judged v = members_say c raw read v ++ each_says all_of (read (codes "allOf")) v ∷ last_say c raw read judged v

others : Context → Raw → Readings → (Data → ℕ → Bool) → Judge
others c raw read placed = record {
  fits = λ v. all_of (reference_says c.follow (raw (codes "$ref")) v ∷ counts_say c raw v
      ++ behind_items c raw read (judged_where c raw read (placed v) v) v);
  judges = λ v p. judged_where c raw read (placed v) v p || (c.dialect.reads_unevaluated && judges_rest read p);
}

-- what these four say, and then all others
abbrev pub four_and : Context → Raw → Readings → Data → Verdict → Verdict
four_and c raw read v x =
    both (items_say c.dialect.reads_prefix_items (read (codes "prefixItems")) (read (codes "items")) (read (codes "additionalItems")) v)
    (both (enum_says (raw (codes "enum")) v)
    (both (const_says c.dialect.reads_const (raw (codes "const")) v)
    (both (type_says c.dialect.reads_nullable (raw (codes "type")) (raw (codes "nullable")) v) x)))

fits-apart : (c : Context) (raw : Raw) (read : Readings) (v : Data)
    → (all_keywords c raw read).fits v ≡ four_and c raw read v ((others c raw read (placed_by c read)).fits v)
unfolding others
fits-apart c raw read v =
    let r = reference_says c.follow (raw (codes "$ref")) v in
    let t = type_says c.dialect.reads_nullable (raw (codes "type")) (raw (codes "nullable")) v in
    let k = const_says c.dialect.reads_const (raw (codes "const")) v in
    let e = enum_says (raw (codes "enum")) v in
    let i = items_say c.dialect.reads_prefix_items (read (codes "prefixItems")) (read (codes "items")) (read (codes "additionalItems")) v in
    let first = counts_say c raw v in
    let last = behind_items c raw read (judged_beside c raw read v) v in
    fits-all c raw read v
    ∙ (pulled (r ∷ t ∷ k ∷ e ∷ first) i last
    ∙ ap (both i) (pulled (r ∷ t ∷ k ∷ []) e (first ++ last)
    ∙ ap (both e) (pulled (r ∷ t ∷ []) k (first ++ last)
    ∙ ap (both k) (pulled (r ∷ []) t (first ++ last)))))

judges-apart : (c : Context) (raw : Raw) (read : Readings) (v : Data) (p : Part)
    → (all_keywords c raw read).judges v p ≡ (others c raw read (placed_by c read)).judges v p
unfolding all_keywords others
judges-apart c raw read v p = refl

-- ---- the others without those

-- the keywords of these four
abbrev pub four : List Text
four = codes "type" ∷ codes "nullable" ∷ codes "const" ∷ codes "enum" ∷ codes "prefixItems" ∷ codes "items" ∷ codes "additionalItems" ∷ []

others-left_out : (c : Context) (raw : Raw) (read : Readings) (placed : Data → ℕ → Bool)
    → others c (left_out four raw) (left_out four read) placed ≡ others c raw read placed
unfolding others
others-left_out c raw read placed = refl

others-agree : (c : Context) (f g : Raw) (read reread : Readings) (placed : Data → ℕ → Bool) → AgreeOutside four f g
    → AgreeOutside four read reread
    → others c f read placed ≡ others c g reread placed
others-agree c f g read reread placed e h =
    sym (others-left_out c f read placed)
    ∙ (ap (λ raw. others c raw (left_out four read) placed) (fun_ext (left_out-agree four f g e))
    ∙ (ap (λ x. others c (left_out four g) x placed) (fun_ext (left_out-agree four read reread h))
    ∙ others-left_out c g reread placed))

-- Two dialects with the same keywords but for these four and, where those are missing, the ones that are read with `const`.
-- What the four say is told once for all that the others may say.
module _ (c : Context) (old new : Dialect) (siblings : new.judges_siblings ≡ old.judges_siblings)
    (unevaluated : new.reads_unevaluated ≡ old.reads_unevaluated)
    (f g : Raw) (read reread : Readings)
    (const : (new.reads_const ≡ old.reads_const) ⊎ (AllNone of_draft06 f × AllNone of_draft06 read))
    (e : AgreeOutside four g f) (h : AgreeOutside four reread read)
    (same : (v : Data) (x : Verdict)
    → four_and (record c { dialect = new }) g reread v x ≡ four_and (record c { dialect = old }) f read v x)
    (place : (v : Data) (n : ℕ) → placed_by (record c { dialect = new }) reread v n ≡ placed_by (record c { dialect = old }) read v n) where
  abbrev switched : Bool → Bool → Context
  switched k u = record c { dialect = record old { reads_const = k; reads_unevaluated = u } }

  abbrev placed : Data → ℕ → Bool
  placed = placed_by (record c { dialect = old }) read

  others-switched : others (record c { dialect = new }) f read placed ≡ others (record c { dialect = old }) f read placed
  unfolding others
  others-switched = go const
    where
      go : (new.reads_const ≡ old.reads_const) ⊎ (AllNone of_draft06 f × AllNone of_draft06 read)
          → others (record c { dialect = new }) f read placed ≡ others (record c { dialect = old }) f read placed
      go (inl same) =
          ap (λ k. others (switched k new.reads_unevaluated) f read placed) same
          ∙ ap (λ u. others (switched old.reads_const u) f read placed) unevaluated
      go (inr none) =
          subst (λ x. others (record c { dialect = new }) x read placed ≡ others (record c { dialect = old }) x read placed)
          (fun_ext (left_out-none of_draft06 f none.0))
          (subst (λ x. others (record c { dialect = new }) (left_out of_draft06 f) x placed
          ≡ others (record c { dialect = old }) (left_out of_draft06 f) x placed)
          (fun_ext (left_out-none of_draft06 read none.1))
          (ap (λ u. others (switched new.reads_const u) (left_out of_draft06 f) (left_out of_draft06 read) placed) unevaluated))

  others-moved : others (record c { dialect = new }) g reread (placed_by (record c { dialect = new }) reread)
      ≡ others (record c { dialect = old }) f read placed
  others-moved =
      ap (others (record c { dialect = new }) g reread) (fun_ext (λ v. fun_ext (place v)))
      ∙ (others-agree (record c { dialect = new }) g f reread read placed e h ∙ others-switched)

  fits-moved : (v : Data)
      → (all_keywords (record c { dialect = new }) g reread).fits v ≡ (all_keywords (record c { dialect = old }) f read).fits v
  fits-moved v =
      fits-apart (record c { dialect = new }) g reread v
      ∙ (ap (λ j. four_and (record c { dialect = new }) g reread v (j.fits v)) others-moved
      ∙ (same v ((others (record c { dialect = old }) f read placed).fits v)
      ∙ sym (fits-apart (record c { dialect = old }) f read v)))

  judges-moved : (v : Data) (p : Part) → (all_keywords (record c { dialect = new }) g reread).judges v p
      ≡ (all_keywords (record c { dialect = old }) f read).judges v p
  judges-moved v p =
      judges-apart (record c { dialect = new }) g reread v p
      ∙ (ap (λ j. j.judges v p) others-moved ∙ sym (judges-apart (record c { dialect = old }) f read v p))

  reference-moved : g (codes "$ref") ≡ f (codes "$ref")
  reference-moved = e (codes "$ref") refl

  pub keywords-moved : keywords (record c { dialect = new }) g reread ≡ keywords (record c { dialect = old }) f read
  keywords-moved =
      ap (λ o. if not new.judges_siblings
      && is_reference o then reference_alone c (λ k. o) else all_keywords (record c { dialect = new }) g reread) reference-moved
      ∙ (ap (λ b. if not b
      && is_reference (f (codes "$ref")) then reference_alone c f else all_keywords (record c { dialect = new }) g reread) siblings
      ∙ ap (λ j. if not old.judges_siblings && is_reference (f (codes "$ref")) then reference_alone c f else j)
      (judge_ext _ _ fits-moved judges-moved))

-- ---- by look-ups

-- a key outside the four is none of theirs
pub outside : (k l : Text) → is_listed k four ≡ false → is_listed l four ≡ true → k ≢ l
outside k l out in_four same = true≢false (sym in_four ∙ (ap (λ x. is_listed x four) (sym same) ∙ out))

-- what the four say, by what stands under their keywords
unfoldable pub four_of : Context → Dialect → Option Data → Option Data → Option Data → Option Data → Option Data → Option Data → Option Data
    → Data
    → Verdict → Verdict
four_of c d prefix items additional enum const type nullable v x =
    both (items_say d.reads_prefix_items (option_map (read_data c) prefix) (option_map (read_data c) items)
    (option_map (read_data c) additional) v)
    (both (enum_says enum v) (both (const_says d.reads_const const v) (both (type_says d.reads_nullable type nullable v) x)))

abbrev pub four_by : Context → Dialect → Raw → Data → Verdict → Verdict
four_by c d raw v x =
    four_of c d (raw (codes "prefixItems")) (raw (codes "items")) (raw (codes "additionalItems")) (raw (codes "enum")) (raw (codes "const"))
    (raw (codes "type")) (raw (codes "nullable")) v x

abbrev pub look_up : Members → Raw
look_up ms k = get_member k ms

four-looked : (c : Context) (d : Dialect) (ms : Members) (v : Data) (x : Verdict)
    → four_and (record c { dialect = d }) (look_up ms) (reading_at (read_members c ms)) v x ≡ four_by c d (look_up ms) v x
unfolding four_of
four-looked c d ms v x = ap (λ read. four_and (record c { dialect = d }) (look_up ms) read v x) (fun_ext (reading_at-members c ms))

-- which items are judged by what stands under the keywords for items
unfoldable pub placed_of : Context → Dialect → Option Data → Option Data → Option Data → Option Data → Data → ℕ → Bool
placed_of c d prefix items additional contains v n =
    judged_by_items d.reads_prefix_items (option_map (read_data c) prefix) (option_map (read_data c) items)
    (option_map (read_data c) additional) n
    || judged_by_contains d.reads_prefix_items (option_map (read_data c) contains) v n

abbrev pub placed_in : Context → Dialect → Raw → Data → ℕ → Bool
placed_in c d raw v n =
    placed_of c d (raw (codes "prefixItems")) (raw (codes "items")) (raw (codes "additionalItems")) (raw (codes "contains")) v n

placed-looked : (c : Context) (d : Dialect) (ms : Members) (v : Data) (n : ℕ)
    → placed_by (record c { dialect = d }) (reading_at (read_members c ms)) v n ≡ placed_in c d (look_up ms) v n
unfolding placed_of
placed-looked c d ms v n = ap (λ read. placed_by (record c { dialect = d }) read v n) (fun_ext (reading_at-members c ms))

-- in two dialects alike, if both read `prefixItems` or neither does
pub placed-agree : (c : Context) (new old : Dialect) (f g : Raw) (v : Data) (n : ℕ) → new.reads_prefix_items ≡ old.reads_prefix_items
    → f (codes "prefixItems") ≡ g (codes "prefixItems") → f (codes "items") ≡ g (codes "items")
    → f (codes "additionalItems") ≡ g (codes "additionalItems")
    → f (codes "contains") ≡ g (codes "contains") → placed_in c new f v n ≡ placed_in c old g v n
unfolding placed_of
placed-agree c new old f g v n reads prefix items additional contains = rw (reads, prefix, items, additional, contains) refl

-- what is not there is not read
pub read-none : (c : Context) (ks : List Text) (ms : Members) → HasNone ks ms → AllNone ks (reading_at (read_members c ms))
read-none c [] ms none = tt
read-none c (k ∷ ks) ms none =
    (reading_at-members c ms k ∙ ap (option_map (read_data c)) none.0, read-none c ks ms none.1)

pub says-moved : (c : Context) (old new : Dialect) (ms ns : Members) → c.dialect ≡ new → new.judges_siblings ≡ old.judges_siblings
    → new.reads_unevaluated ≡ old.reads_unevaluated → (new.reads_const ≡ old.reads_const) ⊎ HasNone of_draft06 ms
    → ((k : Text) → is_listed k four ≡ false → get_member k ns ≡ get_member k ms)
    → ((v : Data) (x : Verdict) → four_by c new (look_up ns) v x ≡ four_by c old (look_up ms) v x)
    → ((v : Data) (n : ℕ) → placed_in c new (look_up ns) v n ≡ placed_in c old (look_up ms) v n)
    → judge c (object ns) ≡ keywords (record c { dialect = old }) (look_up ms) (reading_at (read_members c ms))
unfolding read_data
says-moved c old new ms ns is siblings unevaluated const agree same place =
    ap (λ d. keywords (record c { dialect = d }) (look_up ns) (reading_at (read_members c ns))) is
    ∙ keywords-moved c old new siblings unevaluated (look_up ms) (look_up ns) (reading_at (read_members c ms))
    (reading_at (read_members c ns)) (by_look_up const) agree
    (λ k other. reading_at-members c ns k ∙ (ap (option_map (read_data c)) (agree k other) ∙ sym (reading_at-members c ms k)))
    (λ v x. four-looked c new ns v x ∙ (same v x ∙ sym (four-looked c old ms v x)))
    (λ v n. placed-looked c new ns v n ∙ (place v n ∙ sym (placed-looked c old ms v n)))
  where
    by_look_up : (new.reads_const ≡ old.reads_const) ⊎ HasNone of_draft06 ms
        → (new.reads_const ≡ old.reads_const) ⊎ (AllNone of_draft06 (look_up ms) × AllNone of_draft06 (reading_at (read_members c ms)))
    by_look_up (inl same) = inl same
    by_look_up (inr none) = inr (none, read-none c of_draft06 ms none)
