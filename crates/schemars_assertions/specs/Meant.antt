-- What the program's verdicts stand for.
use Rattle.schemars_schema.specs.Verdict as verdicts
use Rattle.schemars_assertions.specs.declared.verdict.Verdict as told

abbrev pub meant : told.Verdict → verdicts.Verdict
meant told.TheVariants.Yes = verdicts.Yes
meant told.TheVariants.No = verdicts.No
meant told.TheVariants.Open = verdicts.Open
