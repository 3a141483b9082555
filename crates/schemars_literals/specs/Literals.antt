-- What the keywords of a literal ask of a value, from one on.
use Rattle.std.specs.Prelude.{◌&&◌, Bool, Option, codes}
use Rattle.serde_json.specs.Data.{Data}
use Rattle.schemars_schema.specs.Json.{Text}
use Rattle.schemars_schema.specs.Judges.{Patterns}
use Rattle.schemars_schema.specs.Literal.{where_given, is_from, is_up_to, is_as_long, is_no_longer, is_matched, has_as_many, has_no_more}

abbrev pub meets_lists : (Text → Option Data) → Data → Bool
meets_lists given v =
    where_given (given (codes "minItems")) (λ least. has_as_many least v)
    && where_given (given (codes "maxItems")) (λ most. has_no_more most v)

abbrev pub meets_texts : Patterns → (Text → Option Data) → Data → Bool
meets_texts patterns given v =
    where_given (given (codes "minLength")) (λ least. is_as_long least v)
    && (where_given (given (codes "maxLength")) (λ most. is_no_longer most v)
    && (where_given (given (codes "pattern")) (λ pattern. is_matched patterns pattern v)
    && meets_lists given v))

abbrev pub meets_numbers : Patterns → (Text → Option Data) → Data → Bool
meets_numbers patterns given v =
    where_given (given (codes "minimum")) (λ least. is_from least v)
    && (where_given (given (codes "maximum")) (λ most. is_up_to most v) && meets_texts patterns given v)
