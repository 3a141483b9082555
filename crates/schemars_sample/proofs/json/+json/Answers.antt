-- Each step of a loop takes one example more; what is left of them stays to be written.
use Rattle.std.proofs.Common.{◌≡◌, ◌∷◌, ◌++◌, ◌+◌, ◌∙◌, [], Some, map, option_map, drop, ap, sym, append-nil, rules}
use Rattle.schemars_sample.proofs.Words.{at_drop_more, at_drop_all, map-append, string_bytes, option_and_then, object, put, view, members_view, example_of, examples_view, entries_view, struct, collected_map, struct_variant, sample_json, items_json, entries_json, json_array, view-Object}
use Rattle.schemars_sample.proofs.Parts.{seen_array, one_part}
use Rattle.schemars_sample.proofs.Views.{example_of-Map, example_of-CollectMap, example_of-Struct, example_of-StructVariant}
use Rattle.schemars_sample.proofs.json.+json.Goals as goal

pub json_of-returns-in-Map : goal.json_of-returns-in-Map
json_of-returns-in-Map t c =
    let seen : example_of c.args.sample.now ≡ struct [] (entries_view c.in-Map.entries.items) =
    ap example_of c.in-Map.is ∙ example_of-Map c.in-Map.entries in
    search rules

pub json_of-returns-in-CollectMap : goal.json_of-returns-in-CollectMap
json_of-returns-in-CollectMap t c =
    let seen : example_of c.args.sample.now ≡ collected_map (entries_view c.in-CollectMap.entries.items) =
    ap example_of c.in-CollectMap.is ∙ example_of-CollectMap c.in-CollectMap.entries in
    search rules

pub json_of-returns-in-Struct : goal.json_of-returns-in-Struct
json_of-returns-in-Struct t c =
    let seen : example_of c.args.sample.now ≡ struct (string_bytes c.in-Struct.field-0) (entries_view c.in-Struct.entries.items) =
    ap example_of c.in-Struct.is ∙ example_of-Struct c.in-Struct.field-0 c.in-Struct.entries in
    search rules

pub json_of-returns-in_ok-object_of-in-StructVariant : goal.json_of-returns-in_ok-object_of-in-StructVariant
json_of-returns-in_ok-object_of-in-StructVariant t c =
    let at = c.in-StructVariant in
    let seen : example_of c.args.sample.now ≡ struct_variant (string_bytes at.variant) (entries_view at.entries.items) =
    ap example_of at.is ∙ example_of-StructVariant at.variant at.entries in
    search rules

pub array_of-loop-item-preserved : goal.array_of-loop-item-preserved
array_of-loop-item-preserved t c =
    let items = c.args.items.now in
    let i = c.loop-item.item-index in
    let x = c.item-item.result in
    let before = map view c.loop-item.values.items in
    let rest = items_json (examples_view (drop (i + 1) items)) in
    let d = view c.in-Some.value in
    let same : Some d ≡ sample_json (example_of x) = sym (ap (option_map view) c.in-Some.is) ∙ c.in_ok-value.ensures in
    let pushed : map view c.push.new.list.items ≡ before ++ d ∷ [] =
    ap (map view) c.in_ok-push.ensures.ok ∙ map-append view c.loop-item.values.items (c.in-Some.value ∷ []) in
    ap (λ vs. option_map (λ ds. vs ++ ds) rest) pushed
    ∙ (one_part before d rest
    ∙ (ap (λ o. option_map (λ ds. before ++ ds) (option_and_then (λ e. option_map (λ ds. e ∷ ds) rest) o)) same
    ∙ (ap (λ y. option_map (λ ds. before ++ ds)
    (option_and_then (λ e. option_map (λ ds. e ∷ ds) rest) (sample_json (example_of y)))) c.item-item.is
    ∙ (sym (at_drop_more (λ ys. option_map (λ ds. before ++ ds) (items_json (examples_view ys))) items i x c.loop-item-test.true)
    ∙ c.loop-item.invariant))))

pub array_of-returns : goal.array_of-returns
array_of-returns t c =
    let items = c.args.items.now in
    let before = map view c.loop-item.values.items in
    ap Some (seen_array c.loop-item.values ∙ ap json_array (sym (append-nil before)))
    ∙ ap (option_map json_array)
    (sym (at_drop_all
    (λ ys. option_map (λ ds. before ++ ds) (items_json (examples_view ys))) items c.loop-item.item-index c.loop-item-test.false)
    ∙ c.loop-item.invariant)

pub object_of-loop-key-preserved : goal.object_of-loop-key-preserved
object_of-loop-key-preserved t c =
    let entries = c.args.entries.now in
    let i = c.loop-key.key-index in
    let x = c.loop-key-item.result in
    let before = members_view c.loop-key.members.entries in
    let rest = entries_view (drop (i + 1) entries) in
    let d = view c.in-Some.value in
    let same : Some d ≡ sample_json (example_of x.1) = sym (ap (option_map view) c.in-Some.is) ∙ c.in_ok-value.ensures in
    ap (entries_json rest) (c.in_ok-put.ensures.ok ∙ ap (λ k. put k d before) c.as_str.ensures.value)
    ∙ (ap (option_and_then (λ e. entries_json rest (put (string_bytes x.0) e before))) same
    ∙ (ap (λ y. option_and_then (λ e. entries_json rest (put (string_bytes y.0) e before))
    (sample_json (example_of y.1))) c.loop-key-item.is
    ∙ (sym (at_drop_more (λ ys. entries_json (entries_view ys) before) entries i x c.loop-key-test.true)
    ∙ c.loop-key.invariant)))

pub object_of-returns : goal.object_of-returns
object_of-returns t c =
    let entries = c.args.entries.now in
    let before = members_view c.loop-key.members.entries in
    ap Some (view-Object c.loop-key.members)
    ∙ ap (option_map object)
    (sym (at_drop_all (λ ys. entries_json (entries_view ys) before) entries c.loop-key.key-index c.loop-key-test.false)
    ∙ c.loop-key.invariant)
