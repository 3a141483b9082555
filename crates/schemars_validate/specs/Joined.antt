-- What all, one or any of several schemas say, schema by schema.
use Rattle.std.specs.Prelude.{List, [], ◌∷◌}
use Rattle.schemars_schema.specs.Verdict.{Verdict, Yes, No, Open, both, opposite, all_of, any_of, one_of}
use Rattle.schemars_assertions.specs.Meant.{meant}
use Rattle.schemars_validate.specs.declared.joined.Join as join
use Rattle.schemars_validate.specs.declared.joined.Joined.{Joined}

-- so far: that all fit, that none fits, that one fits
pub record SoFar : Type 0 where
  pub all : Verdict
  pub none : Verdict
  pub one : Verdict

abbrev pub so_far : Joined → SoFar
so_far j = record { all = meant j.all; none = meant j.none; one = meant j.one }

abbrev pub one_more : Verdict → SoFar → Verdict
one_more Yes j = j.none
one_more No j = j.one
one_more Open j = Open

abbrev pub with_one : SoFar → Verdict → SoFar
with_one j x = record { all = both j.all x; none = both j.none (opposite x); one = one_more x j }

abbrev pub with_each : SoFar → List Verdict → SoFar
with_each j [] = j
with_each j (x ∷ xs) = with_each (with_one j x) xs

abbrev pub joined_by : join.Join → List Verdict → Verdict
joined_by join.TheVariants.All xs = all_of xs
joined_by join.TheVariants.Any xs = any_of xs
joined_by join.TheVariants.One xs = one_of xs

abbrev pub taken_by : join.Join → SoFar → Verdict
taken_by join.TheVariants.All j = j.all
taken_by join.TheVariants.Any j = opposite j.none
taken_by join.TheVariants.One j = j.one
