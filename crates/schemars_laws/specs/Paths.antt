-- References to definitions at a path, and what a transform of a document and of the definitions under its components moves.
use Rattle.std.specs.Prelude.{◌≡◌, ◌⊎◌, ◌∷◌, ◌++◌, ℕ, Some, codes}
use Rattle.std.specs.Str.{IsUtf8}
use Rattle.serde_json.specs.Data.{Data, object, Members, no_members, member, put}
use Rattle.serde_json.specs.Find.{get_member}
use Rattle.schemars_schema.specs.Json.{Text}
use Rattle.schemars_schema.specs.Encoding.{encoded}
use Rattle.schemars_schema.specs.SchemaData.{members_in}
use Rattle.schemars_schema.specs.Dialects.{Dialect}
use Rattle.schemars_schema.specs.Judges.{Patterns}
use Rattle.schemars_schema.specs.Acceptance.{accepts}
use Rattle.schemars_laws.specs.Everywhere.{Everywhere}
use Rattle.schemars_laws.specs.Names.{NamedBy}

-- a reference to a definition at the path: `#`, the path, `/` and the encoded name
abbrev pub IsDefinitionAt : Text → Text → Type 0
IsDefinitionAt path reference = (name : Text) × IsUtf8 name × (reference ≡ 35 ∷ (path ++ 47 ∷ encoded name))

-- or to the document
abbrev pub IsNameAt : Text → Text → Type 0
IsNameAt path reference = (reference ≡ codes "#") ⊎ IsDefinitionAt path reference

-- P holds of each schema object in each of the definitions
abbrev pub EachEverywhere : (Members → Type 0) → Members → Type 0
EachEverywhere P definitions = (name : Text) (d : Data) → get_member name definitions ≡ Some d → Everywhere P d

abbrev pub each_changed : (Data → Data) → Members → Members
each_changed transform no_members = no_members
each_changed transform (member name d definitions) = member name (transform d) (each_changed transform definitions)

-- ---- definitions at /components/schemas, which no walk enters

abbrev pub components : Text
components = codes "/components/schemas"

-- {"components":{"schemas":definitions}}
abbrev pub components_of : Members → Data
components_of definitions =
    object (member (codes "components") (object (member (codes "schemas") (object definitions) no_members)) no_members)

-- the document with these members, transformed, and under its components each definition, transformed
abbrev pub with_components : (Data → Data) → Members → Members → Members → Data
with_components transform ms parts definitions =
    object (put (codes "components") (object (put (codes "schemas") (object (each_changed transform definitions)) parts))
    (members_in (transform (object ms))))

-- In a document of such schema objects, with definitions of such schema objects under its components, whose references are
-- names, each such part accepts, transformed, in the transformed document what it accepted, with as many references followed
-- within one another.
abbrev pub MovesComponents : (Data → Data) → Dialect → Dialect → (Members → Type 0) → Type 0
MovesComponents transform old new Q =
    (ms parts definitions : Members) → get_member (codes "components") ms ≡ Some (object parts)
    → get_member (codes "schemas") parts ≡ Some (object definitions)
    → Everywhere (NamedBy old (IsNameAt components) Q) (object ms) → EachEverywhere (NamedBy old (IsNameAt components) Q) definitions
    → (patterns : Patterns) (n : ℕ) (part v : Data) → Everywhere (NamedBy old (IsNameAt components) Q) part
    → accepts new (with_components transform ms parts definitions) patterns n (transform part) v
    ≡ accepts old (object ms) patterns n part v
