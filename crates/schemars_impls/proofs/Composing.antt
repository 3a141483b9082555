-- Calls that keep to dictionaries, one after another, and what they refuse.
use Rattle.std.proofs.Common.{◌≡◌, inl, List, sym, subst}
use Rattle.schemars_types.specs.declared.error.TypesError.{TypesError}
use Rattle.schemars_types.specs.declared.error.TypesError.TheVariants.{OutOfMemory}
use Rattle.schemars_impls.proofs.Words.{Row, Dictionary, Follows, TypeRow, IsInPart, KeepsTo, RefusesAs, Describes, RefusesPart, RefusesType, Keeps, KeepsRows}
use Rattle.schemars_impls.proofs.Keeping.{keeps-refl, keeps-same, keeps-trans, place_of-kept, known-one, known-two, known_cons}
use Rattle.schemars_impls.proofs.Placing.{known_more, place_added, adds_none, adds_then, adds_placed}

pub keeps_to_refl : {R : Dictionary → Type 0} {rows : List Row} → KeepsTo R rows rows
keeps_to_refl = record { each = λ d h f. f }

pub keeps_to_same : {R : Dictionary → Type 0} {old new : List Row} → new ≡ old → KeepsTo R old new
keeps_to_same is = record { each = λ d h f. subst (Follows d) (sym is) f }

-- the last call, or one call
pub keeps_to_part : {R P : Dictionary → Type 0} {old new : List Row} → KeepsTo P old new → ((d : Dictionary) → R d → P d) → KeepsTo R old new
keeps_to_part p within = record { each = λ d h f. p.each d (within d h) f }

-- one call before others
pub keeps_to_then : {R P : Dictionary → Type 0} {a b c : List Row} → KeepsTo P a b → ((d : Dictionary) → R d → P d) → KeepsTo R b c
    → KeepsTo R a c
keeps_to_then p within rest = record { each = λ d h f. rest.each d h (p.each d (within d h) f) }

pub refuses_memory : {R : Dictionary → Type 0} {old : List Row} {e : TypesError} → e ≡ OutOfMemory → RefusesAs R old e
refuses_memory is = record { each = λ d h f. record { cause = inl is } }

pub refuses_type_memory : {t : TypeRow} {old : List Row} {e : TypesError} → e ≡ OutOfMemory → RefusesType t old e
refuses_type_memory is = record { present = λ there. is; as_told = refuses_memory is }

-- the first call
pub refuses_part : {R P : Dictionary → Type 0} {old : List Row} {e : TypesError} → RefusesAs P old e → ((d : Dictionary) → R d → P d)
    → RefusesAs R old e
refuses_part p within = record { each = λ d h f. p.each d (within d h) f }

-- a call behind others
pub refuses_after : {R P : Dictionary → Type 0} {old mid : List Row} {e : TypesError} → RefusesAs P mid e → ((d : Dictionary) → R d → P d)
    → KeepsTo R old mid → RefusesAs R old e
refuses_after p within before = record { each = λ d h f. p.each d (within d h) (before.each d h f) }

-- ---- a type that is described

pub rows_none : {rows : List Row} → KeepsRows rows rows
rows_none {rows = rows} = record { keeps = λ u. keeps-refl rows }

pub rows_kept : {old new : List Row} → Keeps old new → KeepsRows old new
rows_kept h = record { keeps = λ u. h }

-- one call before others
pub rows_then : {a b c : List Row} → Keeps a b → KeepsRows b c → KeepsRows a c
rows_then h rest = record { keeps = λ u. keeps-trans h (rest.keeps tt) }

pub describes_none : {t : TypeRow} {rows : List Row} → Describes t rows rows
describes_none = record { each = λ d h f. f }

-- one call before others
pub describes_then : {t : TypeRow} {P : Dictionary → Type 0} {a b c : List Row} → KeepsTo P a b → Describes t b c
    → ((d : Dictionary) → IsInPart t d → P d) → Describes t a c
describes_then p rest within = record { each = λ d h f. rest.each d h (p.each d (within d h) f) }

pub describes_by : {t : TypeRow} {P : Dictionary → Type 0} {a b : List Row} → KeepsTo P a b → ((d : Dictionary) → IsInPart t d → P d)
    → Describes t a b
describes_by p within = record { each = λ d h f. p.each d (within d h) f }

pub part_memory : {t : TypeRow} {old : List Row} {e : TypesError} → e ≡ OutOfMemory → RefusesPart t old e
part_memory is = record { each = λ d h f. record { cause = inl is } }

pub part_refuses : {t : TypeRow} {P : Dictionary → Type 0} {old : List Row} {e : TypesError} → RefusesAs P old e
    → ((d : Dictionary) → IsInPart t d → P d) → RefusesPart t old e
part_refuses p within = record { each = λ d h f. p.each d (within d h) f }

-- what implementations need
pub ruleset keeping = (
  keeps-refl,
  keeps-same,
  keeps-trans,
  place_of-kept,
  known-one,
  known-two,
  known_cons,
  known_more,
  place_added,
  adds_none,
  adds_then,
  adds_placed,
  keeps_to_refl,
  keeps_to_same,
  keeps_to_part,
  keeps_to_then,
  refuses_memory,
  refuses_type_memory,
  refuses_part,
  refuses_after,
  rows_none,
  rows_kept,
  describes_none,
  describes_by,
  part_memory,
  part_refuses,
)
