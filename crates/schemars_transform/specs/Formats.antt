-- Which formats stay.
use Rattle.std.specs.Prelude.{◌||◌, List, [], ◌∷◌, Bool, true, false, Option, Some, None, if◌then◌else◌, option_and_then, codes, bytes_eq, String}
use Rattle.std.specs.Global.{Global}
use Rattle.std.specs.BTreeSet.{BTreeSet, contains_text}
use Rattle.serde_json.specs.Data.{Data}
use Rattle.serde_json.specs.Find.{get, as_str}
use Rattle.schemars_schema.specs.Json.{Text}
use Rattle.schemars_text.specs.OrderedText.{is_listed}
use Rattle.schemars_schema.specs.Edits.{removed}
use Rattle.schemars_schema.specs.References.{place_under}
use Rattle.schemars_walk.specs.Rewritten.{Rules, rewritten}
use Rattle.schemars_transform.specs.declared.built_in.formats.RestrictFormats.{RestrictFormats}
use Rattle.schemars_transform.specs.declared.built_in.formats.Draft.{Draft}
use Rattle.schemars_transform.specs.declared.built_in.formats.Draft.TheVariants.{NotAsked, Missing, Draft07, Draft2019, Foreign}
use Rattle.schemars_transform.specs.declared.built_in.formats.Restriction.{Restriction}

abbrev pub draft07_formats : List Text
draft07_formats =
    codes "date-time" ∷ codes "date" ∷ codes "time" ∷ codes "email" ∷ codes "idn-email" ∷ codes "hostname" ∷ codes "idn-hostname"
    ∷ codes "ipv4" ∷ codes "ipv6" ∷ codes "uri" ∷ codes "uri-reference" ∷ codes "iri" ∷ codes "iri-reference" ∷ codes "uri-template"
    ∷ codes "json-pointer" ∷ codes "relative-json-pointer" ∷ codes "regex" ∷ []

-- those that 2019-09 and 2020-12 add
abbrev pub later_formats : List Text
later_formats = codes "duration" ∷ codes "uuid" ∷ []

-- what `$schema` says
abbrev pub draft_named : Option Text → Draft
draft_named None = Foreign
draft_named (Some uri) =
    if bytes_eq uri (codes "http://json-schema.org/draft-07/schema#") then Draft07
    else if bytes_eq uri (codes "https://json-schema.org/draft/2019-09/schema") then Draft2019
    else if bytes_eq uri (codes "https://json-schema.org/draft/2020-12/schema") then Draft2019
    else Foreign

abbrev pub draft_by : Option Data → Draft → Draft
draft_by None draft = draft
draft_by (Some schema) draft = draft_named (as_str schema)

-- the draft inside a schema: one that is not asked for stays so, and nothing is read below a foreign one
abbrev pub draft_inside : Draft → Data → Draft
draft_inside NotAsked s = NotAsked
draft_inside Missing s = draft_by (get (codes "$schema") s) Missing
draft_inside Draft07 s = draft_by (get (codes "$schema") s) Draft07
draft_inside Draft2019 s = draft_by (get (codes "$schema") s) Draft2019
draft_inside Foreign s = Foreign

-- whether a format stays that is not among the allowed ones
abbrev pub is_defined : Draft → Text → Bool
is_defined NotAsked f = false
is_defined Missing f = true
is_defined Draft07 f = is_listed f draft07_formats
is_defined Draft2019 f = is_listed f later_formats || is_listed f draft07_formats
is_defined Foreign f = true

abbrev pub format_stays : Draft → BTreeSet (String Global) → Option Text → Bool
format_stays draft allowed None = true
format_stays draft allowed (Some f) = contains_text allowed f || is_defined draft f

-- one schema
abbrev pub restricted : Draft → BTreeSet (String Global) → Data → Data
restricted draft allowed s =
    if format_stays draft allowed (option_and_then as_str (get (codes "format") s)) then s
    else removed (codes "format") s

-- the draft is handed down
abbrev pub format_rules : BTreeSet (String Global) → Rules Draft
format_rules allowed = record {
  inside = λ draft s. draft_inside draft s;
  place = λ draft k d. place_under k;
  finish = λ draft s. restricted draft allowed s;
}

-- a schema and all schemas inside it
abbrev pub restrict_formats : RestrictFormats → Data → Data
restrict_formats t s = rewritten (format_rules t.allowed_formats) (if t.infer_from_meta_schema then Missing else NotAsked) s

-- the same, with the formats at hand
abbrev pub restriction_rules : Rules Restriction
restriction_rules = record {
  inside = λ r s. record r { draft = draft_inside r.draft s };
  place = λ r k d. place_under k;
  finish = λ r s.
      restricted r.draft r.allowed.now s;
}
