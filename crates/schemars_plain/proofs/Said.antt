-- Fields of structs and of the rows flattened into them.
use Rattle.std.proofs.Common.{◌≡◌, ℕ, suc, List, [], ◌∷◌, ◌++◌, Option, Some, None, Bool, true, false, refl, sym, ap, ◌∙◌, map, append_assoc, append-nil, ◌<◌, ◌+◌, length, get_or, drop, subst}
use Rattle.schemars_plain.proofs.Words.{is_some, if◌then◌else◌, bytes_eq, map-append, drop_more, option_map_or, Field, Flattened, Fields, Entry, Required, flattened_of, Row, entry_at, option_at, without_options, fields_within, effective, flattened_fields, part_fields, required_only_if, shape_fields, IsNoName, AreDistinct, AreNoted, AreNoNames, AreApart, Text, AreNotes, Said, as_said}
use Rattle.schemars_shapes.specs.declared.shape.Flattened as src

-- ---- what is said of fields

-- whether a field has to be there does not count
weakened_said : (r : Required) (fs : List Field) → map as_said (map (required_only_if r) fs) ≡ map as_said fs
weakened_said r [] = refl
weakened_said r (f ∷ fs) = ap (λ rest. as_said f ∷ rest) (weakened_said r fs)

part_said : (rows : List Row) (own : ℕ → List Field) (p : Flattened)
    → map as_said (part_fields rows own p) ≡ map as_said (own (without_options rows p.ty))
part_said rows own p = go (is_some (option_at rows p.ty))
  where
    go : (b : Bool)
        → map as_said (if b then map (required_only_if p.required) (own (without_options rows p.ty)) else own (without_options rows p.ty))
        ≡ map as_said (own (without_options rows p.ty))
    go true = weakened_said p.required (own (without_options rows p.ty))
    go false = refl

pub part_joins : (found : List Said) (rows : List Row) (own : ℕ → List Field) (p : Flattened) (ps : List Flattened)
    → (found ++ map as_said (own (without_options rows p.ty))) ++ map as_said (flattened_fields (part_fields rows own) ps)
    ≡ found ++ map as_said (flattened_fields (part_fields rows own) (p ∷ ps))
part_joins found rows own p ps =
    append_assoc found (map as_said (own (without_options rows p.ty))) (map as_said (flattened_fields (part_fields rows own) ps))
    ∙ ap (λ s. found ++ s) (
    ap (λ s. s ++ map as_said (flattened_fields (part_fields rows own) ps)) (sym (part_said rows own p))
    ∙ sym (map-append as_said (part_fields rows own p) (flattened_fields (part_fields rows own) ps)))

pub own_joins : (found : List Said) (part : Flattened → List Field) (x : Fields)
    → (found ++ map as_said x.list) ++ map as_said (flattened_fields part x.flatten) ≡ found ++ map as_said (effective part x)
own_joins found part x =
    append_assoc found (map as_said x.list) (map as_said (flattened_fields part x.flatten))
    ∙ ap (λ s. found ++ s) (sym (map-append as_said x.list (flattened_fields part x.flatten)))

-- ---- fields of which the same is said

head_said : (f g : Field) (fs gs : List Field) → map as_said (f ∷ fs) ≡ map as_said (g ∷ gs)
    → (f.name ≡ g.name) × (f.notes ≡ g.notes) × (map as_said fs ≡ map as_said gs)
head_said f g fs gs same =
    let head : as_said f ≡ as_said g = cc in
    (ap (λ s. s.0) head, ap (λ s. s.1) head, cc)

pub no_name_said : (k : Text) (fs gs : List Field) → map as_said fs ≡ map as_said gs → IsNoName k fs → IsNoName k gs
no_name_said k fs [] same h = tt
no_name_said k [] (g ∷ gs) same h = cc
no_name_said k (f ∷ fs) (g ∷ gs) same h =
    let head = head_said f g fs gs same in
    (ap (λ l. bytes_eq l k) (sym head.0) ∙ h.0, no_name_said k fs gs head.2 h.1)

pub distinct_said : (fs gs : List Field) → map as_said fs ≡ map as_said gs → AreDistinct fs → AreDistinct gs
distinct_said fs [] same h = tt
distinct_said [] (g ∷ gs) same h = cc
distinct_said (f ∷ fs) (g ∷ gs) same h =
    let head = head_said f g fs gs same in
    (subst (λ k. IsNoName k gs) head.0 (no_name_said f.name fs gs head.2 h.0), distinct_said fs gs head.2 h.1)

pub noted_said : (fs gs : List Field) → map as_said fs ≡ map as_said gs → AreNoted fs → AreNoted gs
noted_said fs [] same h = tt
noted_said [] (g ∷ gs) same h = cc
noted_said (f ∷ fs) (g ∷ gs) same h =
    let head = head_said f g fs gs same in
    (subst AreNotes head.1 h.0, noted_said fs gs head.2 h.1)

no_names_said : (fs gs : List Field) (ks : List Text) → map as_said fs ≡ map as_said gs → AreNoNames fs ks → AreNoNames gs ks
no_names_said fs gs [] same h = tt
no_names_said fs gs (k ∷ ks) same h = (no_name_said k fs gs same h.0, no_names_said fs gs ks same h.1)

pub apart_said : (fs gs : List Field) (lists : List (List Text)) → map as_said fs ≡ map as_said gs → AreApart fs lists → AreApart gs lists
apart_said fs gs [] same h = tt
apart_said fs gs (ks ∷ rest) same h = (no_names_said fs gs ks same h.0, h.1, apart_said fs gs rest same h.2)

said_names : (fs : List Field) → map (λ s. s.0) (map as_said fs) ≡ map (λ f. f.name) fs
said_names [] = refl
said_names (f ∷ fs) = ap (λ ks. f.name ∷ ks) (said_names fs)

pub names_said : (fs gs : List Field) → map as_said fs ≡ map as_said gs → map (λ f. f.name) fs ≡ map (λ f. f.name) gs
names_said fs gs same = sym (said_names fs) ∙ (ap (map (λ s. s.0)) same ∙ said_names gs)

-- ---- rows

within_none : (rows : List Row) (n : ℕ) → fields_within rows 0 n ≡ []
unfolding fields_within
within_none rows n = refl

abbrev fields_of_row : List Row → ℕ → Option Entry → List Field
fields_of_row rows steps o = option_map_or (λ e. shape_fields (part_fields rows (fields_within rows steps)) e.shape) o []

within_row : (rows : List Row) (steps n : ℕ) → fields_within rows (suc steps) n ≡ fields_of_row rows steps (entry_at rows n)
unfolding fields_within
within_row rows steps n = refl

pub some_row : (rows : List Row) (steps below n : ℕ) (e : Entry) → suc below ≡ steps → Some e ≡ entry_at rows n
    → fields_within rows steps n ≡ shape_fields (part_fields rows (fields_within rows below)) e.shape
some_row rows steps below n e one is =
    ap (λ k. fields_within rows k n) (sym one) ∙ (within_row rows below n ∙ ap (fields_of_row rows below) (sym is))

-- nothing is added
adds_none : (found : List Said) (fs : List Field) → fs ≡ [] → found ≡ found ++ map as_said fs
adds_none found fs none = sym (ap (λ gs. found ++ map as_said gs) none ∙ append-nil found)

pub no_steps : (found : List Said) (rows : List Row) (steps n : ℕ) → steps ≡ 0 → found ≡ found ++ map as_said (fields_within rows steps n)
no_steps found rows steps n none =
    adds_none found (fields_within rows steps n) (ap (λ k. fields_within rows k n) none ∙ within_none rows n)

pub no_row : (found : List Said) (rows : List Row) (steps below n : ℕ) → suc below ≡ steps → None ≡ entry_at rows n
    → found ≡ found ++ map as_said (fields_within rows steps n)
no_row found rows steps below n one is =
    adds_none found (fields_within rows steps n)
    (ap (λ k. fields_within rows k n) (sym one) ∙ (within_row rows below n ∙ ap (fields_of_row rows below) (sym is)))

-- one more part
pub part_step : (found more : List Said) (rows : List Row) (own : ℕ → List Field) (items : List src.Flattened) (i m : ℕ) (d : src.Flattened)
    (whole : List Said) → i < length items → m ≡ without_options rows (get_or items i d).ty → more ≡ found ++ map as_said (own m)
    → found ++ map as_said (flattened_fields (part_fields rows own) (map flattened_of (drop i items))) ≡ whole
    → more ++ map as_said (flattened_fields (part_fields rows own) (map flattened_of (drop (i + 1) items))) ≡ whole
part_step found more rows own items i m d whole below at joins before =
    let rest = map flattened_of (drop (i + 1) items) in
    ap (λ s. s ++ map as_said (flattened_fields (part_fields rows own) rest)) (joins ∙ ap (λ n. found ++ map as_said (own n)) at)
    ∙ (part_joins found rows own (flattened_of (get_or items i d)) rest
    ∙ (ap (λ ps. found ++ map as_said (flattened_fields (part_fields rows own) (map flattened_of ps)))
    (sym (drop_more items i d below)) ∙ before))
