-- The words for a number are known, so that each refusal is of the example, by its number.
use Rattle.std.proofs.Common.{inr, refl, sym, ap, ◌∙◌, Err, arith, map, string_bytes}
use Rattle.schemagen_run.specs.declared.fault.TheConstants.{NOT_JSON, NOT_WHOLE}
use Rattle.schemars_c.proofs.Numbers.{example_words_ask, is_usage, of_number, wants_memory}
use Rattle.schemars_c.proofs.exports.example_line.Goals as goal

pub returns-in-Ok-clause-told : goal.returns-in-Ok-clause-told
returns-in-Ok-clause-told c =
    let e = c.in-Err-answer.fault in
    let n = c.number_of.result in
    let is = c.number_of.ensures in
    let words = ap (map string_bytes) c.deref.ensures.value ∙ c.in-Ok.ensures.words in
    let asks = example_words_ask c.deref.result.now c.args.dialect words in
    record {
      usage = (
        λ told. absurd (c.in-Err-answer.ensures.usage.0 (ap Err (is_usage e c.in-Err-answer.ensures.faults (sym is ∙ told))) (inr asks)),
        λ wrong. absurd (omega (arith, wrong, c.in-Ok.ensures.known)),
      );
      not_json = λ told. c.in-Err-answer.ensures.not_json (ap Err (of_number e n NOT_JSON refl is told));
      not_whole = λ told. (c.in-Err-answer.ensures.not_whole (ap Err (of_number e n NOT_WHOLE refl is told))).1;
    }

pub returns-in-Ok-clause-whole : goal.returns-in-Ok-clause-whole
returns-in-Ok-clause-whole c = λ dialect text.
    let asks = example_words_ask c.deref.result.now c.args.dialect (ap (map string_bytes) c.deref.ensures.value ∙ c.in-Ok.ensures.words) in
    wants_memory c.in-Err-answer.fault c.number_of.result c.number_of.ensures (λ is. c.in-Err-answer.ensures.read (ap Err is))
    (c.in-Err-answer.ensures.whole asks text)
