-- The members that fields are, with those of rows that are flattened.
use Rattle.std.proofs.Common.{◌≡◌, ℕ, suc, List, [], ◌∷◌, ◌++◌, Option, Some, None, Bool, true, false, refl, sym, ap, ◌∙◌, map, append_assoc, append-nil, ◌<◌, ◌+◌, length, get_or, drop}
use Rattle.schemars_belonging.proofs.Words.{◌&&◌, is_some, if◌then◌else◌, option_and_then, map-append, drop_more, option_map_or, Shape, Field, Flattened, Fields, Required, flattened_of, Entry, Row, entry_at, option_at, without_options, fields_within, effective, flattened_fields, part_fields, required_only_if, shape_fields, is_required, Given, of_row, field_given, still_needed, struct_of}
use Rattle.schemars_shapes.specs.Shape as shape
use Rattle.schemars_shapes.specs.declared.shape.Flattened as src
use Rattle.schemars_types.specs.declared.contract.Contract.{Contract}
use Rattle.schemars_types.specs.declared.contract.Contract.TheVariants.{Deserialize, Serialize}

and_assoc : (a b c : Bool) → a && (b && c) ≡ (a && b) && c
and_assoc true b c = refl
and_assoc false b c = refl

one_weaker : (needed : Bool) (contract : Contract) (r : Required) (f : Field)
    → field_given needed contract (required_only_if r f) ≡ field_given (needed && is_required contract r) contract f
one_weaker needed Deserialize r f = ap (λ (b : Bool). record { name = f.name; required = b; values = of_row f.ty })
    (and_assoc needed r.deserialize f.required.deserialize)
one_weaker needed Serialize r f = ap (λ (b : Bool). record { name = f.name; required = b; values = of_row f.ty })
    (and_assoc needed r.serialize f.required.serialize)

weaker : (needed : Bool) (contract : Contract) (r : Required) (fs : List Field)
    → map (field_given needed contract) (map (required_only_if r) fs) ≡ map (field_given (needed && is_required contract r) contract) fs
weaker needed contract r [] = refl
weaker needed contract r (f ∷ fs) = λ i. one_weaker needed contract r f i ∷ weaker needed contract r fs i

part_given : (needed : Bool) (contract : Contract) (rows : List Row) (own : ℕ → List Field) (p : Flattened)
    → map (field_given needed contract) (part_fields rows own p)
    ≡ map (field_given (still_needed needed contract rows p) contract) (own (without_options rows p.ty))
part_given needed contract rows own p = go (is_some (option_at rows p.ty))
  where
    go : (b : Bool)
        → map (field_given needed contract)
        (if b then map (required_only_if p.required) (own (without_options rows p.ty)) else own (without_options rows p.ty))
        ≡ map (field_given (if b then needed && is_required contract p.required else needed) contract) (own (without_options rows p.ty))
    go true = weaker needed contract p.required (own (without_options rows p.ty))
    go false = refl

part_joins : (needed : Bool) (contract : Contract) (found : List Given) (rows : List Row) (own : ℕ → List Field) (p : Flattened)
    (ps : List Flattened)
    → (found ++ map (field_given (still_needed needed contract rows p) contract) (own (without_options rows p.ty)))
    ++ map (field_given needed contract) (flattened_fields (part_fields rows own) ps)
    ≡ found ++ map (field_given needed contract) (flattened_fields (part_fields rows own) (p ∷ ps))
part_joins needed contract found rows own p ps =
    let g : Field → Given = field_given needed contract in
    let later = map g (flattened_fields (part_fields rows own) ps) in
    append_assoc found (map (field_given (still_needed needed contract rows p) contract) (own (without_options rows p.ty))) later
    ∙ ap (λ s. found ++ s) (
    ap (λ s. s ++ later) (sym (part_given needed contract rows own p))
    ∙ sym (map-append g (part_fields rows own p) (flattened_fields (part_fields rows own) ps)))

-- one more part
pub part_step : (needed still : Bool) (contract : Contract) (found more : List Given) (rows : List Row) (own : ℕ → List Field)
    (items : List src.Flattened) (i m : ℕ) (d : src.Flattened) (whole : List Given) → i < length items
    → still ≡ still_needed needed contract rows (flattened_of (get_or items i d)) → m ≡ without_options rows (get_or items i d).ty
    → more ≡ found ++ map (field_given still contract) (own m)
    → found ++ map (field_given needed contract) (flattened_fields (part_fields rows own) (map flattened_of (drop i items))) ≡ whole
    → more ++ map (field_given needed contract) (flattened_fields (part_fields rows own) (map flattened_of (drop (i + 1) items))) ≡ whole
part_step needed still contract found more rows own items i m d whole below kept at joins before =
    let g : Field → Given = field_given needed contract in
    let rest = map flattened_of (drop (i + 1) items) in
    ap (λ s. s ++ map g (flattened_fields (part_fields rows own) rest))
    (joins ∙ (λ k. found ++ map (field_given (kept k) contract) (own (at k))))
    ∙ (part_joins needed contract found rows own (flattened_of (get_or items i d)) rest
    ∙ (ap (λ ps. found ++ map g (flattened_fields (part_fields rows own) (map flattened_of ps)))
    (sym (drop_more items i d below)) ∙ before))

-- ---- rows

own_fields : (part : Flattened → List Field) (o : Option Entry)
    → option_map_or (λ e. shape_fields part e.shape) o [] ≡ option_map_or (effective part) (option_and_then (λ e. struct_of e.shape) o) []
own_fields part None = refl
own_fields part (Some e) = go e.shape
  where
    go : (s : Shape) → shape_fields part s ≡ option_map_or (effective part) (struct_of s) []
    go (shape.struct x) = refl
    go _ = refl

within_struct : (rows : List Row) (steps n : ℕ)
    → fields_within rows (suc steps) n
    ≡ option_map_or (effective (part_fields rows (fields_within rows steps)))
    (option_and_then (λ e. struct_of e.shape) (entry_at rows n)) []
unfolding fields_within
within_struct rows steps n = own_fields (part_fields rows (fields_within rows steps)) (entry_at rows n)

pub within_none : (rows : List Row) (n : ℕ) → fields_within rows 0 n ≡ []
unfolding fields_within
within_none rows n = refl

pub some_struct : (rows : List Row) (steps below n : ℕ) (x : Fields) → suc below ≡ steps
    → Some x ≡ option_and_then (λ e. struct_of e.shape) (entry_at rows n)
    → fields_within rows steps n ≡ effective (part_fields rows (fields_within rows below)) x
some_struct rows steps below n x one is =
    ap (λ k. fields_within rows k n) (sym one)
    ∙ (within_struct rows below n ∙ ap (λ o. option_map_or (effective (part_fields rows (fields_within rows below))) o []) (sym is))

pub no_struct : (rows : List Row) (steps below n : ℕ) → suc below ≡ steps
    → None ≡ option_and_then (λ e. struct_of e.shape) (entry_at rows n) → fields_within rows steps n ≡ []
no_struct rows steps below n one is =
    ap (λ k. fields_within rows k n) (sym one)
    ∙ (within_struct rows below n ∙ ap (λ o. option_map_or (effective (part_fields rows (fields_within rows below))) o []) (sym is))

-- nothing is added
pub adds_none : (g : Field → Given) (found : List Given) (fs : List Field) → fs ≡ [] → found ≡ found ++ map g fs
adds_none g found fs none = sym (ap (λ xs. found ++ map g xs) none ∙ append-nil found)

-- their names are those of the fields
pub names_given : (contract : Contract) (fs : List Field) → map (λ g. g.name) (map (field_given true contract) fs) ≡ map (λ f. f.name) fs
names_given contract [] = refl
names_given contract (f ∷ fs) = ap (λ ts. f.name ∷ ts) (names_given contract fs)
