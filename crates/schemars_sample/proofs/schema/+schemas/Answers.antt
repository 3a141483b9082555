-- Each step of a loop takes one example more; what is left of them stays to be seen.
use Rattle.std.proofs.Common.{◌≡◌, ◌∷◌, ◌++◌, ◌+◌, ◌∙◌, [], map, drop, ap, sym, append_assoc, option_map, subst, IfOk, rules}
use Rattle.schemars_sample.proofs.Words.{at_drop_more, at_drop_all, map-append, string_bytes, put, view, members_view, example_of, examples_view, entries_view, struct, collected_map, sample_schema, item_schemas, entry_schemas, value_schemas, one_beside}
use Rattle.schemars_sample.proofs.Seen.{seen_true, once_more, all_at_once, with_seen, one_shared, none_shared, kept_alone}
use Rattle.schemars_sample.proofs.Views.{example_of-Map, example_of-CollectMap, example_of-Struct}
use Rattle.schemars_sample.proofs.schema.+schemas.Goals as goal

pub schema_of-returns-in-Map : goal.schema_of-returns-in-Map
schema_of-returns-in-Map t c =
    let seen : example_of c.args.sample.now ≡ struct [] (entries_view c.in-Map.entries.items) =
    ap example_of c.in-Map.is ∙ example_of-Map c.in-Map.entries in
    search rules

pub schema_of-returns-in-Struct : goal.schema_of-returns-in-Struct
schema_of-returns-in-Struct t c =
    let seen : example_of c.args.sample.now ≡ struct (string_bytes c.in-Struct.field-0) (entries_view c.in-Struct.entries.items) =
    ap example_of c.in-Struct.is ∙ example_of-Struct c.in-Struct.field-0 c.in-Struct.entries in
    search rules

pub schema_of-returns-in_ok-values-in-CollectMap : goal.schema_of-returns-in_ok-values-in-CollectMap
schema_of-returns-in_ok-values-in-CollectMap t c =
    let seen : example_of c.args.sample.now ≡ collected_map (entries_view c.in-CollectMap.entries.items) =
    ap example_of c.in-CollectMap.is ∙ example_of-CollectMap c.in-CollectMap.entries in
    search rules

pub schema_of_each-loop-item-preserved : goal.schema_of_each-loop-item-preserved
schema_of_each-loop-item-preserved t c =
    let items = c.args.items.now in
    let i = c.loop-item.item-index in
    let x = c.item-item.result in
    let seen = map view c.loop-item.seen.items in
    let rest = item_schemas (examples_view (drop (i + 1) items)) in
    let d = view c.to_value-schema.result in
    let same : d ≡ sample_schema (example_of x) = c.to_value-schema.ensures.value ∙ c.in_ok-schema_of.ensures in
    ap (λ ds. one_beside ds rest) c.in_ok-add_once.ensures
    ∙ (once_more seen d rest (sym c.is_everything.ensures ∙ c.if-is_everything.false)
    ∙ (ap (λ e. one_beside seen (e ∷ rest)) same
    ∙ (ap (λ y. one_beside seen (sample_schema (example_of y) ∷ rest)) c.item-item.is
    ∙ (sym (at_drop_more (λ ys. one_beside seen (item_schemas (examples_view ys))) items i x c.loop-item-test.true)
    ∙ c.loop-item.invariant))))

pub schema_of_each-returns : goal.schema_of_each-returns
schema_of_each-returns t c =
    let items = c.args.items.now in
    let seen = map view c.loop-item.seen.items in
    let all =
    sym (at_drop_all (λ ys. one_beside seen (item_schemas (examples_view ys))) items c.loop-item.item-index c.loop-item-test.false)
    ∙ c.loop-item.invariant in
    subst (λ d. IfOk c.choice_of.result (λ v. view v ≡ d)) all c.choice_of.ensures

pub schema_of_each-returns-then-is_everything : goal.schema_of_each-returns-then-is_everything
schema_of_each-returns-then-is_everything t c =
    let items = c.args.items.now in
    let i = c.loop-item.item-index in
    let x = c.item-item.result in
    let seen = map view c.loop-item.seen.items in
    let rest = item_schemas (examples_view (drop (i + 1) items)) in
    let d = view c.to_value-schema.result in
    let same : d ≡ sample_schema (example_of x) = c.to_value-schema.ensures.value ∙ c.in_ok-schema_of.ensures in
    seen_true ∙ (all_at_once seen d rest (sym c.is_everything.ensures ∙ c.if-is_everything.true)
    ∙ (ap (λ e. one_beside seen (e ∷ rest)) same
    ∙ (ap (λ y. one_beside seen (sample_schema (example_of y) ∷ rest)) c.item-item.is
    ∙ (sym (at_drop_more (λ ys. one_beside seen (item_schemas (examples_view ys))) items i x c.loop-item-test.true)
    ∙ c.loop-item.invariant))))

pub tuple_schema-loop-part-preserved : goal.tuple_schema-loop-part-preserved
tuple_schema-loop-part-preserved t c =
    let parts = c.args.parts.now in
    let i = c.loop-part.part-index in
    let x = c.part-item.result in
    let before = map view c.loop-part.schemas.items in
    let rest = item_schemas (examples_view (drop (i + 1) parts)) in
    let pushed : map view c.push.new.list.items ≡ before ++ sample_schema (example_of x) ∷ [] =
    ap (map view) c.in_ok-push.ensures.ok
    ∙ (map-append view c.loop-part.schemas.items (c.to_value.result ∷ [])
    ∙ ap (λ d. before ++ d ∷ []) (c.to_value.ensures.value ∙ c.in_ok-schema_of.ensures)) in
    ap (λ ds. ds ++ rest) pushed
    ∙ (append_assoc before (sample_schema (example_of x) ∷ []) rest
    ∙ (ap (λ y. before ++ sample_schema (example_of y) ∷ rest) c.part-item.is
    ∙ (sym (at_drop_more (λ ys. before ++ item_schemas (examples_view ys)) parts i x c.loop-part-test.true)
    ∙ c.loop-part.invariant)))

pub struct_schema-loop-key-preserved : goal.struct_schema-loop-key-preserved
struct_schema-loop-key-preserved t c =
    let entries = c.args.entries.now in
    let i = c.loop-key.key-index in
    let x = c.loop-key-item.result in
    let before = members_view c.loop-key.properties.entries in
    let rest = entries_view (drop (i + 1) entries) in
    let same = c.to_value.ensures.value ∙ c.in_ok-schema.ensures in
    let one = c.in_ok-put.ensures.ok
    ∙ (ap (λ d. put c.as_str.result.now d before) same
    ∙ ap (λ k. put k (sample_schema (example_of x.1)) before) c.as_str.ensures.value) in
    ap (entry_schemas rest) one
    ∙ (ap (λ y. entry_schemas rest (put (string_bytes y.0) (sample_schema (example_of y.1)) before)) c.loop-key-item.is
    ∙ (sym (at_drop_more (λ ys. entry_schemas (entries_view ys) before) entries i x c.loop-key-test.true)
    ∙ c.loop-key.invariant))

pub shared_schema-loop-sample-preserved : goal.shared_schema-loop-sample-preserved
shared_schema-loop-sample-preserved t c =
    let entries = c.args.entries.now in
    let i = c.loop-sample.sample-index in
    let x = c.loop-sample-item.result in
    let kept = option_map view c.loop-sample.shared in
    let rest = value_schemas (entries_view (drop (i + 1) entries)) in
    let d = view c.to_value-schema.result in
    let same : d ≡ sample_schema (example_of x.1) = c.to_value-schema.ensures.value ∙ c.in_ok-schema_of.ensures in
    ap (λ s. with_seen s rest) c.agrees.ensures.kept
    ∙ (one_shared kept d rest (sym c.agrees.ensures.equal ∙ c.if-not-agrees.false)
    ∙ (ap (λ e. with_seen kept (e ∷ rest)) same
    ∙ (ap (λ y. with_seen kept (sample_schema (example_of y.1) ∷ rest)) c.loop-sample-item.is
    ∙ (sym (at_drop_more (λ ys. with_seen kept (value_schemas (entries_view ys))) entries i x c.loop-sample-test.true)
    ∙ c.loop-sample.invariant))))

pub shared_schema-returns-then-not-agrees : goal.shared_schema-returns-then-not-agrees
shared_schema-returns-then-not-agrees t c =
    let entries = c.args.entries.now in
    let i = c.loop-sample.sample-index in
    let x = c.loop-sample-item.result in
    let kept = option_map view c.loop-sample.shared in
    let rest = value_schemas (entries_view (drop (i + 1) entries)) in
    let d = view c.to_value-schema.result in
    let same : d ≡ sample_schema (example_of x.1) = c.to_value-schema.ensures.value ∙ c.in_ok-schema_of.ensures in
    seen_true
    ∙ (none_shared kept d rest (sym c.agrees.ensures.equal ∙ c.if-not-agrees.true)
    ∙ (ap (λ e. with_seen kept (e ∷ rest)) same
    ∙ (ap (λ y. with_seen kept (sample_schema (example_of y.1) ∷ rest)) c.loop-sample-item.is
    ∙ (sym (at_drop_more (λ ys. with_seen kept (value_schemas (entries_view ys))) entries i x c.loop-sample-test.true)
    ∙ c.loop-sample.invariant))))

pub shared_schema-returns : goal.shared_schema-returns
shared_schema-returns t c =
    let entries = c.args.entries.now in
    let kept = option_map view c.loop-sample.shared in
    ap view c.unwrap_or.ensures
    ∙ (kept_alone c.loop-sample.shared
    ∙ (sym (at_drop_all
    (λ ys. with_seen kept (value_schemas (entries_view ys))) entries c.loop-sample.sample-index c.loop-sample-test.false)
    ∙ c.loop-sample.invariant))
