-- Each token's text.
use Rattle.schemars_text.proofs.Becomings.{adds_then, adds_nothing}
use Rattle.schemars_text.proofs.gathered.Gathered.put_token.Goals as goal

pub returns-in-Key-clause-adds : goal.returns-in-Key-clause-adds
returns-in-Key-clause-adds g c =
    rw (c.in-Key.is, ← c.as_bytes.ensures.value)
    (adds_then _ _ _ _ _ _ _ _ _ _ _ _ _ _ c.put_quoted.ensures.adds c.put_byte-in-Key.ensures.adds)

pub returns-in-Bad-clause-adds : goal.returns-in-Bad-clause-adds
returns-in-Bad-clause-adds g c = rw c.in-Bad.is (adds_nothing _ _ _ _)
