-- What enums of the other three forms send, and which rows describe them.
use Rattle.std.specs.Prelude.{ℕ, ◌<◌, ◌^◌, Bool, List, codes, string_bytes, is_some, FitsSigned, if◌then◌else◌}
use Rattle.std.specs.Int.{w8}
use Rattle.serde.specs.Event.{Log, Sends, text, nothing, signed, unsigned, InSeq, Then, WritesOption}
use Rattle.serde.specs.declared.name.Case.TheVariants.{AsIs}
use Rattle.schemars_shapes.specs.Shape as shape
use Rattle.schemars_shapes.specs.Shape.{by_nothing, by_tag, by_tag_and_content}
use Rattle.schemars_shapes.specs.declared.shape.IntKind.TheVariants.{U32, U64}
use Rattle.schemars_types.specs.Rows.{Row}
use Rattle.schemars_written.specs.Gives.{Struct, Field, FieldIf, Done, Beside}
use Rattle.schemars_written.specs.Fits.{HasShape, HasUnit, HasNewtype, HasTuple, HasStruct, NextItem, LastItem, NextField, NextOptional, LastField}
use Rattle.example_agreement.specs.Events.{IsText, MovedItems}
use Rattle.example_agreement.specs.declared.amount.Amount.{Amount}
use Rattle.example_agreement.specs.declared.amount.Amount.TheVariants as amount
use Rattle.example_agreement.specs.declared.message.Message.{Message}
use Rattle.example_agreement.specs.declared.message.Message.TheVariants as message
use Rattle.example_agreement.specs.declared.order.Order.{Order}
use Rattle.example_agreement.specs.declared.order.Order.TheVariants as order

-- ---- not tagged

abbrev pub amount_writes : Amount → Log → Log → Type 0
amount_writes amount.Unknown = Sends nothing
amount_writes (amount.Count v) = Sends (unsigned v)
amount_writes (amount.Between a b) = InSeq 2 (Then (Sends (unsigned a)) (Sends (unsigned b)))
amount_writes (amount.Named name) = Struct 1 (Field (codes "name") (Sends (text (string_bytes name))) Done)

abbrev pub IsAmount : Amount → Type 0
IsAmount amount.Unknown = Unit {0}
IsAmount (amount.Count v) = v < 2 ^ 64
IsAmount (amount.Between a b) = (a < 2 ^ 64) × (b < 2 ^ 64)
IsAmount (amount.Named name) = Unit {0}

abbrev pub IsU64 : List Row → ℕ → Type 0
IsU64 rows n = HasShape rows n (shape.int U64)

abbrev pub NameField : List Row → List shape.Field → Type 0
NameField rows = NextField (codes "name") (IsText rows) LastField

abbrev pub BetweenItems : List Row → List ℕ → Type 0
BetweenItems rows = NextItem (IsU64 rows) (NextItem (IsU64 rows) LastItem)

abbrev pub IsAmountRow : List Row → ℕ → Type 0
IsAmountRow rows n = HasUnit rows n by_nothing (codes "unknown")
    × HasNewtype rows n by_nothing (codes "count") (IsU64 rows)
    × HasTuple rows n by_nothing (codes "between") (BetweenItems rows)
    × HasStruct rows n by_nothing (codes "named") (NameField rows)

-- ---- tagged inside

abbrev pub message_writes : Message → Log → Log → Type 0
message_writes message.Ping = Struct 1 (Beside (codes "type") (codes "ping") AsIs Done)
message_writes (message.Text body to) = Struct (if is_some to then 3 else 2)
    (Beside (codes "type") (codes "text") AsIs
    (Field (codes "body") (Sends (text (string_bytes body)))
    (FieldIf (is_some to) (codes "to") (WritesOption (λ s. Sends (text (string_bytes s))) to) Done)))

abbrev pub IsOptionalText : List Row → ℕ → Type 0
IsOptionalText rows n = (m : ℕ) × HasShape rows n (shape.option m) × HasShape rows m shape.text

abbrev pub ToField : List Row → List shape.Field → Type 0
ToField rows = NextOptional (codes "to") (IsOptionalText rows) LastField

abbrev pub TextFields : List Row → List shape.Field → Type 0
TextFields rows = NextField (codes "body") (IsText rows) (ToField rows)

abbrev pub IsMessageRow : List Row → ℕ → Type 0
IsMessageRow rows n = ((closed : Bool) × HasUnit rows n (by_tag (codes "type") closed) (codes "ping"))
    × ((closed : Bool) × HasStruct rows n (by_tag (codes "type") closed) (codes "text") (TextFields rows))

-- ---- tagged beside a content

abbrev pub order_writes : Order → Log → Log → Type 0
order_writes order.Stop = Struct 1 (Beside (codes "kind") (codes "stop") AsIs Done)
order_writes (order.Wait v) = Struct 2 (Beside (codes "kind") (codes "wait") AsIs (Field (codes "with") (Sends (unsigned v)) Done))
order_writes (order.Move x y) = Struct 2 (Beside (codes "kind") (codes "move") AsIs
    (Field (codes "with") (InSeq 2 (Then (Sends (signed x)) (Sends (signed y)))) Done))
order_writes (order.Say words) = Struct 2 (Beside (codes "kind") (codes "say") AsIs
    (Field (codes "with") (Struct 1 (Field (codes "words") (Sends (text (string_bytes words))) Done)) Done))

abbrev pub IsOrder : Order → Type 0
IsOrder order.Stop = Unit {0}
IsOrder (order.Wait v) = v < 2 ^ 32
IsOrder (order.Move x y) = FitsSigned w8 x × FitsSigned w8 y
IsOrder (order.Say words) = Unit {0}

abbrev pub IsU32 : List Row → ℕ → Type 0
IsU32 rows n = HasShape rows n (shape.int U32)

abbrev pub WordsField : List Row → List shape.Field → Type 0
WordsField rows = NextField (codes "words") (IsText rows) LastField

abbrev pub IsOrderRow : List Row → ℕ → Type 0
IsOrderRow rows n = ((closed : Bool) × HasUnit rows n (by_tag_and_content (codes "kind") (codes "with") closed) (codes "stop"))
    × ((closed : Bool) × HasNewtype rows n (by_tag_and_content (codes "kind") (codes "with") closed) (codes "wait") (IsU32 rows))
    × ((closed : Bool) × HasTuple rows n (by_tag_and_content (codes "kind") (codes "with") closed) (codes "move") (MovedItems rows))
    × ((closed : Bool) × HasStruct rows n (by_tag_and_content (codes "kind") (codes "with") closed) (codes "say") (WordsField rows))
