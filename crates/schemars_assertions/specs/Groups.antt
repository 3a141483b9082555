-- The keywords that need no schema, by groups.
use Rattle.std.specs.Prelude.{◌&&◌, ℕ, nat_le, Bool, Option, Some, None, List, [], ◌∷◌, codes}
use Rattle.serde_json.specs.Data.{Data}
use Rattle.schemars_schema.specs.Verdict.{Verdict, Open, verdict}
use Rattle.schemars_schema.specs.Dialects.{Dialect}
use Rattle.schemars_schema.specs.Judges.{Patterns, Raw}
use Rattle.schemars_schema.specs.Assertions.{type_says, const_says, enum_says, minimum_says, maximum_says, exclusive_minimum_says, exclusive_maximum_says, multiple_of_says, min_length_says, max_length_says, pattern_says, min_items_says, max_items_says, unique_items_says, min_properties_says, max_properties_says, required_says, dependent_required_says}
use Rattle.schemars_schema.specs.Applicators.{or_one, is_up_to, contained_count}

-- the keywords that judge a value by itself, but for those that look at the keys
abbrev pub by_itself : Dialect → Patterns → Raw → Data → List Verdict
by_itself dialect patterns raw v =
    type_says dialect.reads_nullable (raw (codes "type")) (raw (codes "nullable")) v
    ∷ const_says dialect.reads_const (raw (codes "const")) v
    ∷ enum_says (raw (codes "enum")) v
    ∷ minimum_says (raw (codes "minimum")) v
    ∷ maximum_says (raw (codes "maximum")) v
    ∷ exclusive_minimum_says dialect.reads_const (raw (codes "exclusiveMinimum")) (raw (codes "minimum")) v
    ∷ exclusive_maximum_says dialect.reads_const (raw (codes "exclusiveMaximum")) (raw (codes "maximum")) v
    ∷ multiple_of_says (raw (codes "multipleOf")) v
    ∷ min_length_says (raw (codes "minLength")) v
    ∷ max_length_says (raw (codes "maxLength")) v
    ∷ pattern_says patterns (raw (codes "pattern")) v
    ∷ min_items_says (raw (codes "minItems")) v
    ∷ max_items_says (raw (codes "maxItems")) v
    ∷ unique_items_says (raw (codes "uniqueItems")) v
    ∷ []

-- the keywords that look at the keys
abbrev pub by_keys : Dialect → Raw → Data → List Verdict
by_keys dialect raw v =
    min_properties_says (raw (codes "minProperties")) v
    ∷ max_properties_says (raw (codes "maxProperties")) v
    ∷ required_says (raw (codes "required")) v
    ∷ dependent_required_says dialect.reads_unevaluated (raw (codes "dependentRequired")) v
    ∷ []

-- so many items as `minContains` and `maxContains` ask for
abbrev pub is_contained : Bool → Option Data → Option Data → ℕ → Bool
is_contained reads least most n = nat_le (or_one (contained_count reads least)) n && is_up_to (contained_count reads most) n

-- what is said of a count, unless an item was left open
abbrev pub counted_says : Bool → Option Data → Option Data → Option ℕ → Verdict
counted_says reads least most count = elim count [ None ↦ Open | Some n ↦ verdict (is_contained reads least most n) ]
