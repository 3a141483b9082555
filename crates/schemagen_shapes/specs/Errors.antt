-- Refusals of tables as refusals of input.
use Rattle.schemars_types.specs.declared.error.TypesError.{TypesError}
use Rattle.schemars_types.specs.declared.error.TypesError.TheVariants as types
use Rattle.schemagen_shapes.specs.declared.error.InputError.{InputError}
use Rattle.schemagen_shapes.specs.declared.error.InputError.TheVariants.{OutOfMemory, BadTable}

-- the refusal of a table's call as one of the whole input
abbrev pub as_input : TypesError → InputError
as_input types.OutOfMemory = OutOfMemory
as_input (types.UndefinedType n) = BadTable
as_input (types.RepeatedName n name) = BadTable
as_input (types.DirectCycle n) = BadTable
as_input (types.EmptyCycle n) = BadTable
as_input (types.AlreadyDefined n) = BadTable
as_input (types.UnknownType n) = BadTable
