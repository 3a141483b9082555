use Rattle.std.proofs.Common.{ap}
use Rattle.schemars_plain.proofs.Words.{fields_of, shape_of, entry_of}
use Rattle.schemars_plain.proofs.Flattened.{open_struct}
use Rattle.schemars_plain.proofs.parts.is_open_struct.Goals as goal

pub returns-in-Struct : goal.returns-in-Struct
returns-in-Struct c = open_struct (fields_of c.in-Struct.fields) (entry_of c.args.entry.now) (ap shape_of c.in-Struct.is)
