-- The kinds of integers: when two are the same, and what is known of each.
use Rattle.std.specs.Prelude.{ℤ, pos, negsuc, Bool, Option, Some, None, codes}
use denote.Enum.Bare.{sameb}
use Rattle.schemars_schema.specs.Json.{Text}
use Rattle.schemars_shapes.specs.contracts.shape.IntKind.{the_type}
use Rattle.schemars_shapes.specs.declared.shape.IntKind.{IntKind}
use Rattle.schemars_shapes.specs.declared.shape.IntKind.TheVariants.{I8, I16, I32, I64, I128, Isize, U8, U16, U32, U64, U128, Usize}

-- they are one variant
abbrev pub kind_eq : IntKind → IntKind → Bool
kind_eq = sameb the_type

pub record Facts : Type 0 where
  -- the format of the schema, which is also the name of the type
  pub format : Text
  -- the name of the type of this kind without 0
  pub non_zero_name : Text
  -- the bounds that the schema says; kinds of 32 bits and more have no bounds but 0
  pub least : Option ℤ
  pub greatest : Option ℤ

abbrev facts : Text → Text → Option ℤ → Option ℤ → Facts
facts format non_zero_name least greatest =
    record { format = format; non_zero_name = non_zero_name; least = least; greatest = greatest }

abbrev pub facts_of : IntKind → Facts
facts_of I8 = facts (codes "int8") (codes "NonZeroI8") (Some (negsuc 127)) (Some (pos 127))
facts_of I16 = facts (codes "int16") (codes "NonZeroI16") (Some (negsuc 32767)) (Some (pos 32767))
facts_of I32 = facts (codes "int32") (codes "NonZeroI32") None None
facts_of I64 = facts (codes "int64") (codes "NonZeroI64") None None
facts_of I128 = facts (codes "int128") (codes "NonZeroI128") None None
facts_of Isize = facts (codes "int") (codes "NonZeroIsize") None None
facts_of U8 = facts (codes "uint8") (codes "NonZeroU8") (Some (pos 0)) (Some (pos 255))
facts_of U16 = facts (codes "uint16") (codes "NonZeroU16") (Some (pos 0)) (Some (pos 65535))
facts_of U32 = facts (codes "uint32") (codes "NonZeroU32") (Some (pos 0)) None
facts_of U64 = facts (codes "uint64") (codes "NonZeroU64") (Some (pos 0)) None
facts_of U128 = facts (codes "uint128") (codes "NonZeroU128") (Some (pos 0)) None
facts_of Usize = facts (codes "uint") (codes "NonZeroUsize") (Some (pos 0)) None

abbrev pub format_of : IntKind → Text
format_of k = (facts_of k).format

abbrev pub non_zero_name : IntKind → Text
non_zero_name k = (facts_of k).non_zero_name
