-- References that name the document or one of its definitions.
use Rattle.std.specs.Prelude.{◌≡◌, ◌⊎◌, Option, Some, None, true, option_and_then, codes}
use Rattle.serde_json.specs.Data.{Data, null, boolean, number, string, array, object, Members, no_members, member}
use Rattle.serde_json.specs.Find.{get_member, as_str}
use Rattle.schemars_schema.specs.Json.{Text}
use Rattle.schemars_schema.specs.Encoding.{lookup}
use Rattle.schemars_schema.specs.Dialects.{Dialect, reads_dependencies}

-- if a document has a map at key, the reference leads to its member k, and to nothing if there is no such member
pub record IsNameOf (key k reference : Text) : Type 0 where
  pub there : (ms es : Members) → get_member key ms ≡ Some (object es) → lookup reference (object ms) ≡ get_member k es
  pub missing : (ms : Members) → get_member key ms ≡ None → lookup reference (object ms) ≡ None

-- the whole, or a definition, where the definitions are at key
abbrev pub IsName : Text → Text → Type 0
IsName key reference = (reference ≡ codes "#") ⊎ ((k : Text) × IsNameOf key k reference)

-- a text of which N holds, if there is one
abbrev pub IsNamedBy : (Text → Type 0) → Option Text → Type 0
IsNamedBy N None = Unit {0}
IsNamedBy N (Some reference) = N reference

-- N holds of the value of `$ref`, if it is a text
abbrev pub HasNameOf : (Text → Type 0) → Members → Type 0
HasNameOf N ms = IsNamedBy N (option_and_then as_str (get_member (codes "$ref") ms))

abbrev pub IsNoObject : Option Data → Type 0
IsNoObject None = Unit {0}
IsNoObject (Some null) = Unit {0}
IsNoObject (Some (boolean b)) = Unit {0}
IsNoObject (Some (number n)) = Unit {0}
IsNoObject (Some (string s)) = Unit {0}
IsNoObject (Some (array ds)) = Unit {0}
IsNoObject (Some (object ms)) = ⊥

-- none of the members is an object
abbrev pub AreNoObjects : Members → Type 0
AreNoObjects no_members = Unit {0}
AreNoObjects (member k d ms) = IsNoObject (Some d) × AreNoObjects ms

abbrev pub HasNoObjects : Option Data → Type 0
HasNoObjects None = Unit {0}
HasNoObjects (Some null) = Unit {0}
HasNoObjects (Some (boolean b)) = Unit {0}
HasNoObjects (Some (number n)) = Unit {0}
HasNoObjects (Some (string s)) = Unit {0}
HasNoObjects (Some (array ds)) = Unit {0}
HasNoObjects (Some (object ms)) = AreNoObjects ms

-- A walk does not lead to `unevaluatedProperties`, `unevaluatedItems`, `dependentSchemas` and `dependencies`. Where the dialect
-- reads them, there is no schema object under them.
abbrev pub HasPlainUnevaluated : Dialect → Members → Type 0
HasPlainUnevaluated d ms =
    (d.reads_unevaluated ≡ true → IsNoObject (get_member (codes "unevaluatedProperties") ms)
    × IsNoObject (get_member (codes "unevaluatedItems") ms) × HasNoObjects (get_member (codes "dependentSchemas") ms))
    × (reads_dependencies d ≡ true → HasNoObjects (get_member (codes "dependencies") ms))

-- a schema object with such a reference and such keywords, of which Q holds
abbrev pub NamedBy : Dialect → (Text → Type 0) → (Members → Type 0) → Members → Type 0
NamedBy d N Q ms = HasNameOf N ms × HasPlainUnevaluated d ms × Q ms

-- whose reference names the document or a definition
abbrev pub Named : Dialect → Text → (Members → Type 0) → Members → Type 0
Named d key Q = NamedBy d (IsName key) Q

-- the definitions are a map, or there are none
abbrev pub IsMap : Option Data → Type 0
IsMap None = Unit {0}
IsMap (Some null) = ⊥
IsMap (Some (boolean b)) = ⊥
IsMap (Some (number n)) = ⊥
IsMap (Some (string s)) = ⊥
IsMap (Some (array ds)) = ⊥
IsMap (Some (object ms)) = Unit {0}
