-- Whether a document is taken, and why not.
use Rattle.std.specs.Prelude.{◌≡◌, Bool, true, false, List, length, nat_lt, string_bytes, Contains}
use Rattle.serde_json.specs.Data.{Data}
use Rattle.schemars_schema.specs.Json.{Text}
use Rattle.schemars_schema.specs.SchemaData.{is_schema}
use Rattle.schemars_readable.specs.declared.draft.Draft as named
use Rattle.schemars_readable.specs.declared.refusal.Refusal as refusal
use Rattle.schemars_readable.specs.Unread.{IsUnreadAt, told}
use Rattle.schemars_readable.specs.Expressions.{IsAskedAt, IsRefused}

abbrev pub has_some : {X : Type 0} → List X → Bool
has_some xs = nat_lt 0 (length xs)

-- the document is a schema, and all that judges values in it is read
abbrev pub IsRead : named.Draft → Data → Type 0
IsRead draft document = (is_schema document ≡ true) × ((place keyword : Text) → IsUnreadAt draft document place keyword → ⊥)

-- the refusal is so: there are keywords that are not read, and each of them is told, and no other one; or a pattern is refused
abbrev pub IsRefusal : named.Draft → Data → refusal.Refusal → Type 0
IsRefusal draft document refusal.TheVariants.OutOfMemory = is_schema document ≡ true
IsRefusal draft document refusal.TheVariants.NotASchema = is_schema document ≡ false
IsRefusal draft document (refusal.TheVariants.Unread us) = (has_some us.items ≡ true) × ((place keyword : Text)
    → (IsUnreadAt draft document place keyword → Contains (told us.items) (place, keyword))
    × (Contains (told us.items) (place, keyword) → IsUnreadAt draft document place keyword))
IsRefusal draft document (refusal.TheVariants.Pattern u) = IsRead draft document
    × IsAskedAt document (string_bytes u.place) (string_bytes u.keyword) × IsRefused (string_bytes u.keyword)
