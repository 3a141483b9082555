-- The dialects of JSON Schema by their names.
use Rattle.std.specs.Prelude.{Option, Some, None, if◌then◌else◌, codes, bytes_eq}
use Rattle.schemars_schema.specs.Json.{Text}
use Rattle.schemars_schema.specs.Dialects.{Dialect, draft2020_12, draft2019_09, draft07, openapi3}
use Rattle.schemars_readable.specs.declared.draft.Draft as named

-- the words that name them, and no other one does
abbrev pub draft_named : Text → Option named.Draft
draft_named t =
    if bytes_eq t (codes "2020-12") then Some named.TheVariants.Draft2020_12
    else if bytes_eq t (codes "2019-09") then Some named.TheVariants.Draft2019_09
    else if bytes_eq t (codes "draft-07") then Some named.TheVariants.Draft07
    else if bytes_eq t (codes "openapi3") then Some named.TheVariants.OpenApi3
    else None

abbrev pub dialect_of : named.Draft → Dialect
dialect_of named.TheVariants.Draft07 = draft07
dialect_of named.TheVariants.Draft2019_09 = draft2019_09
dialect_of named.TheVariants.Draft2020_12 = draft2020_12
dialect_of named.TheVariants.OpenApi3 = openapi3

-- where documents of a dialect have their definitions
abbrev pub path_of : named.Draft → Text
path_of named.TheVariants.Draft07 = codes "/definitions"
path_of named.TheVariants.Draft2019_09 = codes "/$defs"
path_of named.TheVariants.Draft2020_12 = codes "/$defs"
path_of named.TheVariants.OpenApi3 = codes "/components/schemas"
