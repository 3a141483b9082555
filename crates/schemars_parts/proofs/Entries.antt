-- A member: its name and its part.
use Rattle.std.proofs.Common.{Bor}
use Rattle.schemars_schema.specs.Json.{Text}
use Rattle.schemars_parts.specs.declared.assembled.Assembled.{Assembled}

abbrev pub Entry : Type 0
Entry = Bor Text × Assembled
