-- Keys of maps that are whole numbers.
use Rattle.std.specs.Prelude.{codes}
use Rattle.schemars_schema.specs.Json.{Text}
use Rattle.schemars_shapes.specs.declared.shape.IntKind.{IntKind}
use Rattle.schemars_shapes.specs.declared.shape.IntKind.TheVariants.{I8, I16, I32, I64, I128, Isize, U8, U16, U32, U64, U128, Usize}
use Rattle.schemars_shapes.specs.declared.shape.IntegerKeys.{IntegerKeys}
use Rattle.schemars_shapes.specs.declared.shape.IntegerKeys.TheVariants.{Unsigned, Signed}

abbrev pub pattern_of : IntegerKeys → Text
pattern_of Unsigned = codes "^\\d+$"
pattern_of Signed = codes "^-?\\d+$"

abbrev pub integers_of : IntKind → IntegerKeys
integers_of I8 = Signed
integers_of I16 = Signed
integers_of I32 = Signed
integers_of I64 = Signed
integers_of I128 = Signed
integers_of Isize = Signed
integers_of U8 = Unsigned
integers_of U16 = Unsigned
integers_of U32 = Unsigned
integers_of U64 = Unsigned
integers_of U128 = Unsigned
integers_of Usize = Unsigned
