-- What `register` makes of a table, in the words of its clauses.
use Rattle.std.proofs.Common.{◌≡◌, ◌<◌, ℕ, zero, suc, List, [], ◌∷◌, ◌++◌, Bool, true, false, not, Option, Some, None, length, nat_le, is_some, option_and_then, refl, ap, sym, ◌∙◌, subst, arith, if◌then◌else◌}
use Rattle.schemars_impls.proofs.Words.{option_map_or, Text, entry_eq, Entry, refusal_of, first_unknown, Row, place_of, entry_at, name_at, reserved, defined, unknown_in, place_of-below, nat_le-above, place_of-reserved, reserved-absent, IsMade, IsDescribed, entry_under, Told, Defined, Pending, Open, Dictionary, staged, IsNamed, IsEntryOf, IsAtStage, Follows, TypeRow, IsTold, IsLeft, IsTypeIn, IsIn, IsInPart, KeepsTo, RefusesAs, Describes, RefusesPart, Completes, Keeps, AllContinue}
use Rattle.schemars_types.specs.declared.error.TypesError.{TypesError}
use Rattle.schemars_types.specs.declared.error.TypesError.TheVariants.{AlreadyDefined, UnknownType}
use Rattle.schemars_impls.proofs.Keeping.{place_of-kept, defined-there}
use Rattle.schemars_impls.proofs.Following.{made-kept, name_at-last, staged-same, restaged, restaged-twice, follows-open, follows-reserved, follows-defined, follows-settled}

pub named : (o : Option Told) (t : TypeRow) → IsTold o t → IsNamed o t.name
named None t h = tt
named (Some x) t h = ap (λ (y : Told). y.name) (sym h)

pub described : (o : Option Told) (t : TypeRow) (rows : List Row) (given : Entry) → IsTold o t → IsMade t.making rows given
    → IsEntryOf o rows (Some (record given { inline = t.inline }))
described None t rows given h made = tt
described (Some x) t rows given h made =
    subst (λ (y : Told). IsDescribed y.making y.inline rows (record given { inline = t.inline })) (sym h)
    (record { given = given; made = made; is = refl })

pub type_in : (t : TypeRow) (d : Dictionary) → IsIn t d → IsTypeIn t d
unfolding IsIn
type_in t d h = h

pub is_in : (t : TypeRow) (d : Dictionary) → IsTypeIn t d → IsIn t d
unfolding IsIn
is_in t d h = h

in_part : (t : TypeRow) (d : Dictionary) → IsTypeIn t d → IsInPart t (staged t.id Pending d)
in_part t d h = record { told = h.told; pending = staged-same t.id Pending d; parts = h.parts }

-- ---- a row that is described

module _ (t : TypeRow) (old mid last : List Row) (n : ℕ) (mid_is : mid ≡ reserved t.id t.name old) (there : place_of t.id mid ≡ Some n)
    (missing : is_some (entry_at mid n) ≡ false) where
  -- its row is reserved, and has no entry
  described-mid : (d : Dictionary) → IsTypeIn t d → Follows d old → Follows (staged t.id Pending d) mid
  described-mid d h f =
      let left : IsLeft ((staged t.id Open d).stage t.id) = subst IsLeft (sym (staged-same t.id Open d)) tt in
      let reserved_open : Follows (staged t.id Open d) mid = subst (Follows (staged t.id Open d)) (sym mid_is)
      (follows-reserved (staged t.id Open d) t.id t.name old (follows-open d t.id old f) left (named (d.told t.id) t h.told)) in
      restaged-twice d t.id Pending Open mid
      (restaged (staged t.id Open d) t.id Pending mid reserved_open
      (λ m placed. let ms : Some m ≡ Some n = sym placed ∙ there in let m_is : n ≡ m = cc in
      ap (λ k. is_some (entry_at mid k)) (sym m_is) ∙ missing) (λ is. ap is_some there))

  pub part-refused : (e : TypesError) → RefusesPart t mid e → RefusesAs (IsIn t) old e
  part-refused e inside = record {
    each = λ d is f.
        let h = type_in t d is in
        let why = inside.each (staged t.id Pending d) (in_part t d h) (described-mid d h f) in record { cause = why.cause };
  }

  completed : (b : Bool) (given : Entry) (new : List Row) → b ≡ t.inline → Keeps mid last → Describes t mid last
      → IsMade t.making last given → new ≡ defined n (record given { inline = b }) last → Keeps last new → (d : Dictionary) → IsTypeIn t d
      → Follows d old → Follows (staged t.id Defined d) new
  completed b given new b_is kept inside made new_is kept_new d h f =
      let e : Entry = record given { inline = t.inline } in
      let later = inside.each (staged t.id Pending d) (in_part t d h) (described-mid d h f) in
      let is : new ≡ defined n e last = new_is ∙ ap (λ x. defined n (record given { inline = x }) last) b_is in
      let placed = place_of-kept t.id n kept there in
      let kept_defined : Keeps last (defined n e last) = subst (Keeps last) is kept_new in
      subst (Follows (staged t.id Defined d)) (sym is)
      (follows-defined d t.id n e last later placed (defined-there t.id last (defined n e last) n e placed refl) kept_defined
      (described (d.told t.id) t (defined n e last) given h.told (made-kept t.making last (defined n e last) given kept_defined made)))

  pub registered-completes : (b : Bool) (given : Entry) (new : List Row) → b ≡ t.inline → Keeps mid last → Describes t mid last
      → IsMade t.making last given → new ≡ defined n (record given { inline = b }) last → Keeps last new → Completes t old new
  registered-completes b given new b_is kept inside made new_is kept_new =
      record { each = λ d is f. completed b given new b_is kept inside made new_is kept_new d (type_in t d is) f }

  pub registered-follows : (b : Bool) (given : Entry) (new : List Row) → b ≡ t.inline → Keeps mid last → Describes t mid last
      → IsMade t.making last given → new ≡ defined n (record given { inline = b }) last → Keeps last new → KeepsTo (IsIn t) old new
  registered-follows b given new b_is kept inside made new_is kept_new = record {
    each = λ d is f.
        let h = type_in t d is in
        follows-settled d t.id new h.free (completed b given new b_is kept inside made new_is kept_new d h f);
  }

  -- so `define` never refuses it
  pub never-refused : (e : Entry) (err : TypesError) → Keeps mid last → Describes t mid last → unknown_in last e.shape ≡ None
      → Some err ≡ refusal_of last n e → RefusesAs (IsIn t) old err
  never-refused e err kept inside known refused = record {
    each = λ d is f.
        let h = type_in t d is in
        let later = inside.each (staged t.id Pending d) (in_part t d h) (described-mid d h f) in
        let placed = place_of-kept t.id n kept there in
        let empty : is_some (entry_at last n) ≡ false = subst (λ s. IsAtStage s (is_some (entry_at last n))) (staged-same t.id Pending d)
        ((later.each t.id n placed).stage) in
        let above : nat_le (length last) n ≡ false = nat_le-above (length last) n (place_of-below t.id last n placed) in
        let never : Some err ≡ None = refused ∙ by-none above known (entry_at last n) empty in
        cc;
  }
    where
      by-none : nat_le (length last) n ≡ false → unknown_in last e.shape ≡ None → (o : Option Entry) → is_some o ≡ false
          → option_map_or (λ m. Some (UnknownType m)) (first_unknown last n e.shape)
          (if option_map_or (λ f. not (entry_eq f e)) o false then Some (AlreadyDefined n) else None) ≡ None
      by-none above all_known None none = rw (above, all_known) refl
      by-none above all_known (Some f) none = cc

-- ---- an id with a row that is defined, or without one

pub nothing-under : (o : Option Entry) → false ≡ is_some o → o ≡ None
nothing-under None h = refl
nothing-under (Some e) h = cc

pub never-under : (o : Option Entry) → o ≡ None → is_some o ≡ true → ⊥
never-under o none present = let never : true ≡ false = sym present ∙ ap is_some none in cc

-- a row that is there is complete
pub present-completes : (t : TypeRow) (rows : List Row) (n : ℕ) → place_of t.id rows ≡ Some n
    → is_some (entry_under t.id rows) ≡ true → Completes t rows rows
present-completes t rows n there present = record {
  each = λ d h f.
      restaged d t.id Defined rows f
      (λ m placed. ap (λ o. is_some (option_and_then (λ k. entry_at rows k) o)) (sym placed) ∙ present) (λ is. cc);
}

-- ---- names

name-continues : (old new : List Row) (n : ℕ) → AllContinue old new → n < length old → name_at new n ≡ name_at old n
name-continues [] new n h below = let never : ⊥ = omega (arith, below) in absurd never
name-continues (r ∷ rs) [] n h below = absurd h
name-continues (r ∷ rs) (s ∷ ss) zero h below = h.0.1
name-continues (r ∷ rs) (s ∷ ss) (suc n) h below = name-continues rs ss n h.1 (omega (arith, below))

pub reserved-name : (id name : Text) (old mid new : List Row) (n : ℕ) → mid ≡ reserved id name old → place_of id mid ≡ Some n
    → Keeps mid new → place_of id old ≡ None → name_at new n ≡ name
reserved-name id name old mid new n is there kept none =
    let last : Some (length old) ≡ Some n = sym (place_of-reserved id name old none) ∙ ap (place_of id) (sym is) ∙ there in
    let n_is : n ≡ length old = cc in
    name-continues mid new n kept.rows (place_of-below id mid n there)
    ∙ ap (λ r. name_at r n) (is ∙ reserved-absent id name old none)
    ∙ ap (name_at (old ++ (record { id = id; name = name; entry = None }) ∷ [])) n_is
    ∙ name_at-last old (record { id = id; name = name; entry = None })
