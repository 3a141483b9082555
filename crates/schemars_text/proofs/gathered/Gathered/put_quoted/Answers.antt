-- A quote, the escaped text and a quote.
use Rattle.std.proofs.Common.{append_assoc}
use Rattle.schemars_text.proofs.gathered.Gathered.put_quoted.Goals as goal

pub returns-clause-adds : goal.returns-clause-adds
returns-clause-adds g c = λ start text h.
    let opened = c.put_byte.ensures.adds start text h in
    let escaped = c.put_escaped.ensures.adds start _ opened in
    let closed = c.put_byte-2.ensures.adds start _ escaped in
    simp append_assoc at closed
