use Rattle.std.proofs.Common.{◌≡◌, ◌∷◌, ◌+◌, [], drop, sym, ap, ◌∙◌, rules, arith}
use Rattle.schemagen_input.proofs.Words.{drop_more, drop_of_length-le, example_of}
use Rattle.serde_json.specs.declared.value.Value.{the_lemmas}
use Rattle.schemars_sample.specs.declared.sample.Sample.{Seq, Map, the_lemmas as sample_lemmas}
use Rattle.schemagen_input.proofs.Samples.{more_examples, all_examples}
use Rattle.schemagen_input.proofs.SampleJson.{json_of_input}
use Rattle.schemagen_input.proofs.sample.+sample.Goals as goal

pub read_sample-returns-in_ok-read_items-in-Array-clause-same : goal.read_sample-returns-in_ok-read_items-in-Array-clause-same
read_sample-returns-in_ok-read_items-in-Array-clause-same t c is =
    json_of_input _ (example_of (Seq c.in_ok-read_items-in-Array.field-0)) is (search (rules, the_lemmas, sample_lemmas))

pub read_sample-returns-in_ok-read_members-in-Object-clause-same : goal.read_sample-returns-in_ok-read_members-in-Object-clause-same
read_sample-returns-in_ok-read_members-in-Object-clause-same t c is =
    json_of_input _ (example_of (Map c.in_ok-read_members-in-Object.field-0)) is (search (rules, the_lemmas, sample_lemmas))

pub read_items-loop-item-preserved : goal.read_items-loop-item-preserved
read_items-loop-item-preserved t c =
    let l = c.loop-item in
    let xs = c.args.items.now in
    let v = c.item-item.result in
    let here : drop l.item-index xs ≡ v ∷ drop (l.item-index + 1) xs =
    drop_more xs l.item-index v (omega arith) ∙ ap (λ y. y ∷ drop (l.item-index + 1) xs) (sym c.item-item.is) in
    search (rules, more_examples)

pub read_items-returns-clause-ok : goal.read_items-returns-clause-ok
read_items-returns-clause-ok t c =
    let l = c.loop-item in
    let none : drop l.item-index c.args.items.now ≡ [] = drop_of_length-le c.args.items.now (omega arith) in
    search (rules, all_examples)
