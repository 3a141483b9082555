-- What was written is in the sink, or a beginning of it.
use Rattle.std.proofs.Common.{ap, [], false}
use Rattle.schemars_text.proofs.Words.{Output}
use Rattle.schemars_text.proofs.Becomings.{gathers_none}
use Rattle.schemars_text.proofs.writing.Document.write_to.Goals as goal

pub returns : goal.returns
returns g c =
    let (p, at_p, is) = c.write.ensures (g.K.Sink.bytes c.args.sink.now) (record { text = []; after_value = false })
    (c.new-out.ensures.after_value, rw (c.new-out.ensures.block, c.new-out.ensures.failed) (gathers_none _ _)) in
    (p.text, λ none. ap (λ (o : Output). o.text) (is none), c.finish.ensures _ p.text at_p.1)
