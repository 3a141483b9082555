-- The numbers of errors.
use Rattle.std.specs.Prelude.{ℕ}
use Rattle.schemars_text.specs.declared.error.OrderedError.{OrderedError}
use Rattle.schemars_text.specs.declared.error.OrderedError.TheVariants.{OutOfMemory, Write}

abbrev pub code_of : OrderedError → ℕ
code_of OutOfMemory = 1
code_of Write = 13
