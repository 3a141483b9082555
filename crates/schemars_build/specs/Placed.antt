-- Which parts of a document are in place, and which are references.
use Rattle.std.specs.Prelude.{◌≡◌, ◌||◌, ◌&&◌, ℕ, zero, suc, List, Bool, true, false, not, if◌then◌else◌, nat_eq}
use Rattle.std.specs.List.{list_any}
use Rattle.serde_json.specs.Data.{Data}
use Rattle.indexmap.specs.IndexSet.{insert_key}
use Rattle.schemars_schema.specs.Json.{Text}
use Rattle.schemars_types.specs.Rows.{Row, entry_at}
use Rattle.schemars_types.specs.Edges.{is_inline_at}
use Rattle.schemars_documents.specs.Basis.{Basis}
use Rattle.schemars_documents.specs.Describes.{IsOwnDocument, IsWritten, IsAnswered}

-- a row is pending while its document is made
abbrev pub is_pending : List ℕ → ℕ → Bool
is_pending pending n = list_any (nat_eq n) pending

-- where rows are inlined, those that are pending while the document of row n is made: n too
abbrev pub pending_in : Bool → List ℕ → ℕ → List ℕ
pending_in inlines pending n = if inlines then insert_key nat_eq pending n else pending

-- row n is in place: it is inline, or rows are inlined and it is not pending
abbrev pub is_in_place : List Row → Bool → List ℕ → ℕ → Bool
is_in_place rows inlines pending n = is_inline_at rows n || (inlines && not (is_pending pending n))

-- a part is the row's own document, where the row is in place, and elsewhere a reference
abbrev pub IsPlaced : List Row → Bool → List ℕ → (ℕ → Text → Type 0) → (ℕ → Data → Type 0) → ℕ → Data → Type 0
IsPlaced rows inlines pending Refers Own =
    IsWritten (λ n r. Refers n r × (is_in_place rows inlines pending n ≡ false))
    (λ n s. Own n s × (is_in_place rows inlines pending n ≡ true))

-- A document of row n with at most `depth` documents within one another: its parts are placed while these rows are pending,
-- and what is in its own maps, by members or beside a tag, is made while the same rows are.
unfoldable pub IsFilledWithin : Basis → Bool → (ℕ → Text → Type 0) → ℕ → List ℕ → ℕ → Data → Type 0
IsFilledWithin basis inlines Refers zero pending n s = ⊥
IsFilledWithin basis inlines Refers (suc depth) pending n s =
    IsOwnDocument (IsAnswered basis.rows (λ m b. b ≡ (is_inline_at basis.rows m || inlines))
    (IsPlaced basis.rows inlines pending Refers (λ m. IsFilledWithin basis inlines Refers depth (pending_in inlines pending m) m))
    (IsFilledWithin basis inlines Refers depth pending)) basis (entry_at basis.rows n) s

-- the same, however many documents are within one another
abbrev pub IsFilled : Basis → Bool → (ℕ → Text → Type 0) → List ℕ → ℕ → Data → Type 0
IsFilled basis inlines Refers pending n s = (depth : ℕ) × IsFilledWithin basis inlines Refers depth pending n s

-- s is the document of row n, made while these rows are pending; n is pending meanwhile
abbrev pub IsDocument : Basis → Bool → (ℕ → Text → Type 0) → List ℕ → ℕ → Data → Type 0
IsDocument basis inlines Refers pending n s = IsFilled basis inlines Refers (pending_in inlines pending n) n s
