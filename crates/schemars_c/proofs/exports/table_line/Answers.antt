-- The words for numbers are known, so that each refusal is of the table, by its number.
use Rattle.std.proofs.Common.{Err, refl, ap, sym, subst, ◌∙◌, inl, arith, map, string_bytes}
use Rattle.schemagen_run.specs.declared.fault.Fault.{Fault}
use Rattle.schemars_generate.specs.declared.error.TheConstants.{DEFINITIONS_PATH}
use Rattle.schemars_c.proofs.Vocabulary.{IsFaultyTable, IsTableFault}
use Rattle.schemagen_run.specs.declared.fault.TheConstants.{NOT_JSON, BAD_TABLE}
use Rattle.schemars_c.proofs.Numbers.{table_words_ask, is_usage, of_table_number, of_number, wants_memory, wants_memory_or}
use Rattle.schemars_c.proofs.exports.table_line.Goals as goal

pub returns-in-Ok-clause-told : goal.returns-in-Ok-clause-told
returns-in-Ok-clause-told c =
    let e = c.in-Err-answer.fault in
    let n = c.number_of.result in
    let is = c.number_of.ensures in
    let words = ap (map string_bytes) c.deref.ensures.value ∙ c.in-Ok.ensures.words in
    let asks = table_words_ask c.deref.result.now c.args.dialect c.args.flags words in
    record {
      usage = (
        λ told. absurd (c.in-Err-answer.ensures.usage.0 (ap Err (is_usage e c.in-Err-answer.ensures.faults (sym is ∙ told))) (inl asks)),
        λ wrong. absurd (omega (arith, wrong, c.in-Ok.ensures.known.0, c.in-Ok.ensures.known.1)),
      );
      not_json = λ told. c.in-Err-answer.ensures.not_json (ap Err (of_number e n NOT_JSON refl is told));
      bad_table = λ told. (c.in-Err-answer.ensures.bad_table (ap Err (of_number e n BAD_TABLE refl is told))).1;
      faulty = λ table.
          let same = of_table_number e n is table in
          let told = c.in-Err-answer.ensures.faulty (subst IsTableFault (sym same) table) in
          subst (λ (f : Fault). IsFaultyTable f c.args.table.now) same told.1;
      unplaced = λ told.
          let same = of_number e n DEFINITIONS_PATH refl is told in
          (c.deref.result.now, words, c.in-Err-answer.ensures.unplaced (ap Err same));
    }

pub returns-in-Ok-clause-accepted : goal.returns-in-Ok-clause-accepted
returns-in-Ok-clause-accepted c = λ dialect flags text.
    let asks = table_words_ask c.deref.result.now c.args.dialect c.args.flags (ap (map string_bytes) c.deref.ensures.value ∙ c.in-Ok.ensures.words) in
    wants_memory_or c.in-Err-answer.fault c.number_of.result DEFINITIONS_PATH c.number_of.ensures
    (λ is. c.in-Err-answer.ensures.read (ap Err is)) (c.in-Err-answer.ensures.accepted asks text)

pub returns-in-Ok-clause-noted : goal.returns-in-Ok-clause-noted
returns-in-Ok-clause-noted c = λ dialect flags text.
    let asks = table_words_ask c.deref.result.now c.args.dialect c.args.flags (ap (map string_bytes) c.deref.ensures.value ∙ c.in-Ok.ensures.words) in
    wants_memory c.in-Err-answer.fault c.number_of.result c.number_of.ensures (λ is. c.in-Err-answer.ensures.read (ap Err is))
    (c.in-Err-answer.ensures.noted asks text)
