-- What is told of the bytes that the source gave is told of the input, which are all of them.
use Rattle.std.proofs.Common.{◌≡◌, ◌++◌, Some, Err, refl, ap, ◌∙◌}
use Rattle.schemagen_run.specs.declared.fault.Fault.TheVariants.{Refused}
use Rattle.schemars_generate.specs.declared.error.TheConstants.{DEFINITIONS_PATH}
use Rattle.schemagen_run.specs.declared.fault.TheConstants.{NOT_WHOLE}
use Rattle.schemars_c.proofs.Vocabulary.{gave}
use Rattle.schemars_c.proofs.Lines.{line_weaker}
use Rattle.schemars_c.proofs.memory.answer.Goals as goal

pub returns-in-Ok-clause-done : goal.returns-in-Ok-clause-done
returns-in-Ok-clause-done c =
    line_weaker c.args.words.now c.args.input.now _ _ (λ line is. is ∙ ap (λ l. l ++ line) c.new.ensures.items)
    (gave c.args.input.now (Some c.args.input.now) (Some c.run.new.source.rest.now) refl c.in-Ok.ensures.output.done)

pub returns-in-Err-clause-faulty : goal.returns-in-Err-clause-faulty
returns-in-Err-clause-faulty c = λ fault.
    let told = c.in-Err.ensures.document.faulty fault in
    (told.0, gave c.args.input.now (Some c.args.input.now) (Some c.run.new.source.rest.now) refl told.1)

pub returns-in-Err-clause-unplaced : goal.returns-in-Err-clause-unplaced
returns-in-Err-clause-unplaced c = λ is.
    let same : c.in-Err.fault ≡ Refused DEFINITIONS_PATH = cc in
    gave c.args.input.now (Some c.args.input.now) (Some c.run.new.source.rest.now) refl (c.in-Err.ensures.document.unplaced (ap Err same))

pub returns-in-Err-clause-not_whole : goal.returns-in-Err-clause-not_whole
returns-in-Err-clause-not_whole c = λ is.
    let same : c.in-Err.fault ≡ Refused NOT_WHOLE = cc in
    let told = c.in-Err.ensures.document.not_whole (ap Err same) in
    (told.0, gave c.args.input.now (Some c.args.input.now) (Some c.run.new.source.rest.now) refl told.1)

pub returns-in-Err-clause-accepted : goal.returns-in-Err-clause-accepted
returns-in-Err-clause-accepted c = λ asked text. c.in-Err.ensures.promised.accepted asked c.args.input.now refl text

pub returns-in-Err-clause-noted : goal.returns-in-Err-clause-noted
returns-in-Err-clause-noted c = λ asked text. c.in-Err.ensures.promised.noted asked c.args.input.now refl text

pub returns-in-Err-clause-whole : goal.returns-in-Err-clause-whole
returns-in-Err-clause-whole c = λ asked text. c.in-Err.ensures.promised.whole asked c.args.input.now refl text
