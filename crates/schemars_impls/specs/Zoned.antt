-- What times with a zone say.
use Rattle.std.specs.Prelude.{true, codes}
use Rattle.schemars_shapes.specs.Shape.{in_place, formatted}
use Rattle.schemars_impls.specs.Describes.{Always}
use Rattle.schemars_impls.specs.Dictionary.{TypeRow}

abbrev pub zoned_row : TypeRow
zoned_row = record {
  id = codes "jiff::Zoned";
  name = codes "Zoned";
  inline = true;
  making = Always (in_place (formatted (codes "zoned-date-time")));
  parts = λ d. Unit {0};
}
