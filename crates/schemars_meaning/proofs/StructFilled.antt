-- What fills the template of a struct is the document of a struct with its own fields and enums and those of the rows flattened into
-- it, whatever these are.
use Rattle.std.proofs.Common.{◌≡◌, ℕ, List, [], ◌∷◌, ◌++◌, Bool, true, refl, sym, subst, append_assoc, append-nil}
use Rattle.schemars_meaning.proofs.Words.{Data, Context, flattened, Field, Flattened, Fields, is_required, VariantMatch, required_names, Ask, part, members_of, Template, asked, asks_of, filled, first, with_flattened, struct_template, fields_template, flattened_fields, with_keywords}
use Rattle.schemars_types.specs.declared.contract.Contract.{Contract}
use Rattle.schemars_meaning.proofs.MapKeywords.{keywords}
use Rattle.schemars_meaning.proofs.Flattened.{map_fills}
use Rattle.schemars_meaning.proofs.Filling.{Fit, parted}
use Rattle.schemars_meaning.proofs.Spread.{field_keywords}
use Rattle.schemars_meaning.proofs.Opened.{no_parts, map_form}
use Rattle.schemars_meaning.proofs.StructDocuments.{IsStruct, IsPart, flattened_struct}

-- what the enums offer of all that is flattened
abbrev pub all_offers : (Flattened → List (List VariantMatch)) → List Flattened → List (List VariantMatch)
all_offers matches_of [] = []
all_offers matches_of (p ∷ ps) = matches_of p ++ all_offers matches_of ps

-- ---- what fills templates of fields

module _ (A : Ask → Data → Type 0) where
  abbrev W : ℕ → Data → Type 0
  W j = A (part j)

  -- ---- with flattened rows

  module _ (c : Context) (on : c.dialect.reads_unevaluated ≡ true) (contract : Contract) (v : Data) (has : Flattened → List Field)
      (matches_of : Flattened → List (List VariantMatch)) (Known : Flattened → Type 0)
      (answers : (p : Flattened) (t : Data) → Known p → A (members_of p.ty (is_required contract p.required)) t
      → IsPart c on contract W v (has p) (matches_of p) t) where
    abbrev pub AllKnown : List Flattened → Type 0
    AllKnown [] = Unit {0}
    AllKnown (p ∷ ps) = Known p × AllKnown ps

    abbrev StructFills : Template → List Field → List (List VariantMatch) → Bool → Type 0
    StructFills t xs os closed = (us : List Data) → Fit A (asks_of t) us → IsStruct c on contract W v xs os closed (filled t us)

    own_fill : (xs : List Field) (closed : Bool) → StructFills (fields_template contract xs closed) xs [] closed
    own_fill xs closed us fit =
        let all = map_fills A xs (required_names contract xs) closed us fit in record {
          written = all.0;
          are_written = all.1;
          parts = no_parts;
          members = keywords (field_keywords xs all.0) (required_names contract xs) closed;
          is = all.2;
          form = map_form [] (field_keywords xs all.0) (required_names contract xs) closed tt;
          every = refl;
          claimed = λ k. refl;
          choices = (tt, tt);
          bare = λ e. refl;
        }

    part_fills : (p : Flattened) (t : Template) (xs : List Field) (os : List (List VariantMatch)) (closed : Bool) → Known p
        → StructFills t xs os closed
        → StructFills (with_keywords t (asked (members_of p.ty (is_required contract p.required)))) (xs ++ has p) (os ++ matches_of p) closed
    part_fills p t xs os closed known own us fit =
        let ask : Ask = members_of p.ty (is_required contract p.required) in
        let s = parted A t (ask ∷ []) us fit in
        let P : Data → Type 0 = λ d. IsStruct c on contract W v (xs ++ has p) (os ++ matches_of p) closed d in
        subst P (λ i. flattened (sym s.4 i) (first (sym s.5 i)))
        (flattened_struct c on contract W v xs (has p) os (matches_of p) closed (filled t s.0) (first s.1) (own s.0 s.2) (answered s.1 s.3))
      where
        answered : (b : List Data) → Fit A (members_of p.ty (is_required contract p.required) ∷ []) b
            → IsPart c on contract W v (has p) (matches_of p) (first b)
        answered [] h = absurd h
        answered (u ∷ b) h = answers p u known h.0

    parts_fill : (ps : List Flattened) (t : Template) (xs : List Field) (os : List (List VariantMatch)) (closed : Bool) → AllKnown ps
        → StructFills t xs os closed
        → StructFills (with_flattened contract ps t) (xs ++ flattened_fields has ps) (os ++ all_offers matches_of ps) closed
    parts_fill [] t xs os closed known own us fit =
        subst (λ ys. IsStruct c on contract W v ys (os ++ []) closed (filled t us)) (sym (append-nil xs))
        (subst (λ qs. IsStruct c on contract W v xs qs closed (filled t us)) (sym (append-nil os)) (own us fit))
    parts_fill (p ∷ ps) t xs os closed known own us fit =
        let u : Template = with_keywords t (asked (members_of p.ty (is_required contract p.required))) in
        subst (λ ys. IsStruct c on contract W v ys (os ++ all_offers matches_of (p ∷ ps)) closed (filled (with_flattened contract ps u) us))
        (append_assoc xs (has p) (flattened_fields has ps))
        (subst (λ qs. IsStruct c on contract W v ((xs ++ has p) ++ flattened_fields has ps) qs closed
        (filled (with_flattened contract ps u) us))
        (append_assoc os (matches_of p) (all_offers matches_of ps))
        (parts_fill ps u (xs ++ has p) (os ++ matches_of p) closed known.1 (part_fills p t xs os closed known.0 own) us fit))

    -- a struct's own fields come first, and those of the rows that are flattened into it behind them, and so the enums
    pub struct_fills : (x : Fields) → AllKnown x.flatten → (us : List Data) → Fit A (asks_of (struct_template contract x)) us
        → IsStruct c on contract W v (x.list ++ flattened_fields has x.flatten) (all_offers matches_of x.flatten) x.closed
        (filled (struct_template contract x) us)
    struct_fills x known =
        parts_fill x.flatten (fields_template contract x.list x.closed) x.list [] x.closed known (own_fill x.list x.closed)
