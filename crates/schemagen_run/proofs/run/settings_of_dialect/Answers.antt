-- The settings of Draft 7 are those of the library.
use Rattle.schemagen_run.proofs.run.settings_of_dialect.Goals as goal

pub returns-in-Draft07 : goal.returns-in-Draft07
returns-in-Draft07 c =
    record { settings = rw c.in-Draft07.is c.draft07.ensures.settings; transforms = rw c.in-Draft07.is c.draft07.ensures.transforms }
