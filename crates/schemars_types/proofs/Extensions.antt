-- Which tables begin with which.
use Rattle.std.proofs.Common.{◌≡◌, ◌&&◌, true, false, List, [], ◌∷◌, length, take, Option, Some, None, refl, ap, sym, true≢false}
use Rattle.schemars_types.proofs.Words.{option_eq, option_map_or, bytes_eq, and_parts, or_parts, bytes_eq-Decides, Entry, entry_eq, entry_has_float, Row, row_eq, begins_with, rows_have_float, same_entry, entry_eq-refl}

-- ---- equal rows are the same

same_entries : (x y : Option Entry) → option_eq entry_eq x y ≡ true → x ≡ y
same_entries None None h = refl
same_entries (Some a) (Some b) h = ap Some (same_entry a b h)
same_entries x y h = cc

same_row : (r s : Row) → row_eq r s ≡ true → r ≡ s
same_row r s h =
    let ids = and_parts (bytes_eq r.id s.id) (bytes_eq r.name s.name && option_eq entry_eq r.entry s.entry) h in
    let rest = and_parts (bytes_eq r.name s.name) (option_eq entry_eq r.entry s.entry) ids.1 in
    let id : r.id ≡ s.id = (bytes_eq-Decides r.id s.id).0 ids.0 in
    let name : r.name ≡ s.name = (bytes_eq-Decides r.name s.name).0 rest.0 in
    let entry : r.entry ≡ s.entry = same_entries r.entry s.entry rest.1 in
    λ i. record { id = id i; name = name i; entry = entry i }

pub begins-same : (rows first : List Row) → begins_with rows first ≡ true → take (length first) rows ≡ first
begins-same rows [] h = refl
begins-same [] (f ∷ first) h = absurd (true≢false (sym h))
begins-same (r ∷ rows) (f ∷ first) h =
    let parts = and_parts (row_eq r f) (begins_with rows first) h in
    λ i. same_row r f parts.0 i ∷ begins-same rows first parts.1 i

-- ---- what holds no decimal equals itself

entries_eq-refl : (o : Option Entry) → option_map_or entry_has_float o false ≡ false → option_eq entry_eq o o ≡ true
entries_eq-refl None h = refl
entries_eq-refl (Some e) h = entry_eq-refl e h

row_eq-refl : (r : Row) → option_map_or entry_has_float r.entry false ≡ false → row_eq r r ≡ true
row_eq-refl r h = rw ((bytes_eq-Decides r.id r.id).1 refl, (bytes_eq-Decides r.name r.name).1 refl, entries_eq-refl r.entry h) refl

-- a table begins with its own first rows
pub begins-first : (rows first : List Row) → rows_have_float first ≡ false → take (length first) rows ≡ first
    → begins_with rows first ≡ true
begins-first rows [] plain is = refl
begins-first [] (f ∷ first) plain is = cc
begins-first (r ∷ rows) (f ∷ first) plain is =
    let parts = or_parts (option_map_or entry_has_float f.entry false) (rows_have_float first) plain in
    let head : r ≡ f = cc in
    let tail : take (length first) rows ≡ first = cc in
    rw (head, row_eq-refl f parts.0, begins-first rows first parts.1 tail) refl
