-- The faults that a run may end in, and the exit status of each.
use Rattle.std.specs.Prelude.{◌≡◌, ◌⊎◌, ℕ}
use Rattle.schemars_text.specs.declared.error.OrderedError.{OrderedError}
use Rattle.schemars_text.specs.declared.error.OrderedError.TheVariants as ordered
use Rattle.schemagen_run.specs.declared.fault.Fault.{Fault}
use Rattle.schemagen_run.specs.declared.fault.Fault.TheVariants.{Usage, Refused}
use Rattle.schemars_generate.specs.declared.error.TheConstants.{OUT_OF_MEMORY, UNDEFINED_TYPE, REPEATED_NAME, DIRECT_CYCLE, EMPTY_CYCLE, DEFINITIONS_PATH}
use Rattle.schemagen_run.specs.declared.fault.TheConstants.{NOT_JSON, BAD_TABLE, NOT_WHOLE, READ, WRITE}

abbrev pub status_of : Fault → ℕ
status_of Usage = 2
status_of (Refused code) = 1

-- why a text was not written to its end
abbrev pub fault_of_writing : OrderedError → Fault
fault_of_writing ordered.OutOfMemory = Refused OUT_OF_MEMORY
fault_of_writing ordered.Write = Refused WRITE

-- while a JSON value is read
abbrev pub IsValueFault : Fault → Type 0
IsValueFault e = (e ≡ Refused OUT_OF_MEMORY) ⊎ (e ≡ Refused READ) ⊎ (e ≡ Refused NOT_JSON)

-- while the table is read
abbrev pub IsReadFault : Fault → Type 0
IsReadFault e = (e ≡ Refused OUT_OF_MEMORY) ⊎ (e ≡ Refused READ) ⊎ (e ≡ Refused NOT_JSON) ⊎ (e ≡ Refused BAD_TABLE)

-- of a table that was read
abbrev pub IsTableFault : Fault → Type 0
IsTableFault e = (e ≡ Refused UNDEFINED_TYPE) ⊎ (e ≡ Refused REPEATED_NAME) ⊎ (e ≡ Refused DIRECT_CYCLE) ⊎ (e ≡ Refused EMPTY_CYCLE)

-- while its document is made
abbrev pub IsLineFault : Fault → Type 0
IsLineFault e = (e ≡ Refused OUT_OF_MEMORY) ⊎ IsTableFault e ⊎ (e ≡ Refused DEFINITIONS_PATH)

-- of memory, of the source, or of the sink
abbrev pub IsOutside : Fault → Type 0
IsOutside e = (e ≡ Refused OUT_OF_MEMORY) ⊎ (e ≡ Refused READ) ⊎ (e ≡ Refused WRITE)

-- of a run over a table
abbrev pub IsTypesFault : Fault → Type 0
IsTypesFault e = IsReadFault e ⊎ IsLineFault e ⊎ (e ≡ Refused WRITE)

-- of a run over an example
abbrev pub IsSampleFault : Fault → Type 0
IsSampleFault e = IsOutside e ⊎ (e ≡ Refused NOT_JSON) ⊎ (e ≡ Refused NOT_WHOLE)

abbrev pub IsFault : Fault → Type 0
IsFault e = (e ≡ Usage) ⊎ IsTypesFault e ⊎ IsSampleFault e
