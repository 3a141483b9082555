-- What enums of the other three forms send belongs to their rows.
use Rattle.std.proofs.Common.{ℕ, List, Option, Some, None, refl}
use Rattle.std.specs.Prelude.{codes, string_bytes, is_some, if◌then◌else◌, String, ⊤}
use Rattle.std.specs.declared.alloc.Global.{Global}
use Rattle.serde.specs.Event.{Sends, text, signed, unsigned, Then, WritesOption}
use Rattle.serde.specs.declared.name.Case.TheVariants.{AsIs}
use Rattle.schemars_shapes.specs.Shape as shape
use Rattle.schemars_shapes.specs.Shape.{by_tag, by_tag_and_content}
use Rattle.schemars_types.specs.Rows.{Row}
use Rattle.schemars_types.specs.Faults.{IsChecked}
use Rattle.schemars_written.specs.Gives.{Gives, Field, FieldIf, Done}
use Rattle.schemars_written.specs.Fits.{Means, HasShape, HasUnit, HasNewtype, HasTuple, HasStruct, NextItem, LastItem, LastField, OfSome}
use Rattle.schemars_written.proofs.Atoms.{text_agrees}
use Rattle.schemars_written.proofs.Laws.{i8_law, u32_law, u64_law, option_law, next_field, next_field_if, last_field}
use Rattle.schemars_written.proofs.Variants.{untagged_unit_law, untagged_newtype_law, untagged_tuple_law, untagged_fields_law, internal_unit_law, internal_fields_law, next_avoids, optional_avoids, last_avoids, adjacent_unit_law, adjacent_newtype_law, adjacent_tuple_law, adjacent_fields_law, next_item, last_item}
use Rattle.example_agreement.specs.Orders.{amount_writes, IsAmount, IsAmountRow, IsU64, NameField, BetweenItems, message_writes, IsMessageRow, IsOptionalText, ToField, TextFields, order_writes, IsOrder, IsOrderRow, IsU32, WordsField}
use Rattle.example_agreement.specs.Events.{IsText, IsI8, MovedItems}
use Rattle.example_agreement.specs.declared.amount.Amount.{Amount}
use Rattle.example_agreement.specs.declared.amount.Amount.TheVariants as amount
use Rattle.example_agreement.specs.declared.message.Message.{Message}
use Rattle.example_agreement.specs.declared.message.Message.TheVariants as message
use Rattle.example_agreement.specs.declared.order.Order.{Order}
use Rattle.example_agreement.specs.declared.order.Order.TheVariants as order
use Rattle.example_agreement.specs.EventLaws.{as_is}

pub amount_law : (rows : List Row) (n : ℕ) (x : Amount) → IsChecked rows → IsAmountRow rows n → IsAmount x
    → Gives (amount_writes x) (Means rows n)
amount_law rows n amount.Unknown checked row valid = untagged_unit_law rows checked n (codes "unknown") row.0
amount_law rows n (amount.Count v) checked row valid =
    untagged_newtype_law rows checked n (codes "count") (IsU64 rows) row.1 (Sends (unsigned v)) (λ m r. u64_law rows m v checked r valid)
amount_law rows n (amount.Between a b) checked row valid =
    untagged_tuple_law rows checked n (codes "between") (BetweenItems rows) row.2 2 (Then (Sends (unsigned a)) (Sends (unsigned b)))
    (next_item rows (IsU64 rows) (NextItem (IsU64 rows) LastItem) (Sends (unsigned a)) (Sends (unsigned b))
    (λ m r. u64_law rows m a checked r valid.0)
    (last_item rows (IsU64 rows) (Sends (unsigned b)) (λ m r. u64_law rows m b checked r valid.1)))
amount_law rows n (amount.Named name) checked row valid =
    untagged_fields_law rows checked n (codes "named") (NameField rows) row.3 1
    (Field (codes "name") (Sends (text (string_bytes name))) Done)
    (next_field rows (codes "name") (IsText rows) LastField (Sends (text (string_bytes name))) Done
    (λ m r. text_agrees rows m (string_bytes name) r) (last_field rows))

-- of a text nothing is asked
anything : (x : Option (String Global)) → OfSome (λ s. ⊤) x
anything None = tt
anything (Some s) = tt

pub message_law : (rows : List Row) (n : ℕ) (x : Message) → IsChecked rows → IsMessageRow rows n → ⊤
    → Gives (message_writes x) (Means rows n)
message_law rows n message.Ping checked row valid = internal_unit_law rows checked n (codes "type") row.0.0 (codes "ping") AsIs
    (as_is (HasUnit rows n (by_tag (codes "type") row.0.0)) (codes "ping") row.0.1) 1
message_law rows n (message.Text body to) checked row valid =
    let to_sent = WritesOption (λ s. Sends (text (string_bytes s))) to in
    let others = FieldIf (is_some to) (codes "to") to_sent Done in
    internal_fields_law rows checked n (codes "type") row.1.0 (codes "text") AsIs (TextFields rows)
    (as_is (λ t. HasStruct rows n (by_tag (codes "type") row.1.0) t (TextFields rows)) (codes "text") row.1.1)
    (next_avoids (codes "type") (codes "body") (IsText rows) (ToField rows) refl
    (optional_avoids (codes "type") (codes "to") (IsOptionalText rows) LastField refl (last_avoids (codes "type"))))
    (if is_some to then 3 else 2) (Field (codes "body") (Sends (text (string_bytes body))) others)
    (next_field rows (codes "body") (IsText rows) (ToField rows) (Sends (text (string_bytes body))) others
    (λ m r. text_agrees rows m (string_bytes body) r)
    (next_field_if rows (is_some to) (codes "to") (IsOptionalText rows) LastField to_sent Done
    (λ m r. option_law rows checked m (λ s. Sends (text (string_bytes s))) (λ s. ⊤) (λ rows k. HasShape rows k shape.text)
    (λ k s is any. text_agrees rows k (string_bytes s) is) r to (anything to))
    (last_field rows)))

pub order_law : (rows : List Row) (n : ℕ) (x : Order) → IsChecked rows → IsOrderRow rows n → IsOrder x
    → Gives (order_writes x) (Means rows n)
order_law rows n order.Stop checked row valid = adjacent_unit_law rows checked n (codes "kind") (codes "with") row.0.0 (codes "stop") AsIs
    (as_is (HasUnit rows n (by_tag_and_content (codes "kind") (codes "with") row.0.0)) (codes "stop") row.0.1) 1
order_law rows n (order.Wait v) checked row valid = adjacent_newtype_law rows checked n (codes "kind") (codes "with") row.1.0
    (codes "wait") AsIs (IsU32 rows)
    (as_is (λ t. HasNewtype rows n (by_tag_and_content (codes "kind") (codes "with") row.1.0) t (IsU32 rows)) (codes "wait") row.1.1)
    (Sends (unsigned v)) (λ m r. u32_law rows m v checked r valid) 2
order_law rows n (order.Move x y) checked row valid =
    adjacent_tuple_law rows checked n (codes "kind") (codes "with") row.2.0 (codes "move") AsIs (MovedItems rows)
    (as_is (λ t. HasTuple rows n (by_tag_and_content (codes "kind") (codes "with") row.2.0) t (MovedItems rows)) (codes "move") row.2.1) 2
    (Then (Sends (signed x)) (Sends (signed y)))
    (next_item rows (IsI8 rows) (NextItem (IsI8 rows) LastItem) (Sends (signed x)) (Sends (signed y))
    (λ m r. i8_law rows m x checked r valid.0)
    (last_item rows (IsI8 rows) (Sends (signed y)) (λ m r. i8_law rows m y checked r valid.1))) 2
order_law rows n (order.Say words) checked row valid =
    adjacent_fields_law rows checked n (codes "kind") (codes "with") row.3.0 (codes "say") AsIs (WordsField rows)
    (as_is (λ t. HasStruct rows n (by_tag_and_content (codes "kind") (codes "with") row.3.0) t (WordsField rows)) (codes "say") row.3.1) 1
    (Field (codes "words") (Sends (text (string_bytes words))) Done)
    (next_field rows (codes "words") (IsText rows) LastField (Sends (text (string_bytes words))) Done
    (λ m r. text_agrees rows m (string_bytes words) r) (last_field rows)) 2
