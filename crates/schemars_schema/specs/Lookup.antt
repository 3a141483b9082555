-- What a reference leads to: JSON Pointer in a fragment (RFC 6901, section 6).
use Rattle.std.specs.Prelude.{◌≡◌, ◌≢◌, ◌⊎◌, ◌++◌, All, ◌==◌, [], ◌∷◌, Bool, true, false, if◌then◌else◌, Option, Some, None, option_and_then}
use Rattle.serde_json.specs.Data.{Data, null, boolean, number, string, array, object}
use Rattle.serde_json.specs.Find.{pointer}
use Rattle.schemars_schema.specs.Json.{Text}
use Rattle.schemars_schema.specs.SchemaData.{is_schema}
use Rattle.schemars_schema.specs.Encoding.{percent_decoded, lookup}

abbrev pub schema_only : Data → Option Data
schema_only d = if is_schema d then Some d else None

-- the schema to which a reference resolves
unfoldable pub resolved : Data → Text → Option Data
resolved document reference = option_and_then schema_only (lookup reference document)

-- a pointer, or a reference that begins with `#`, in a document
abbrev pub pointed : Text → Data → Option Data
pointed [] document = Some document
pointed (x ∷ rest) document = if x == 35 then lookup (x ∷ rest) document else pointer (x ∷ rest) document

-- in an object alone
abbrev pub pointed_in : Text → Data → Option Data
pointed_in p null = None
pointed_in p (boolean b) = None
pointed_in p (number n) = None
pointed_in p (string s) = None
pointed_in p (array ds) = None
pointed_in p (object ms) = pointed p (object ms)

-- nothing, or `#` alone, points to the whole
abbrev pub is_whole : Text → Bool
is_whole [] = true
is_whole (x ∷ []) = x == 35
is_whole (x ∷ y ∷ rest) = false

-- what is pointed to inside an object, and isn't the whole
abbrev pub pointed_inside : Text → Data → Option Data
pointed_inside p document = if is_whole p then None else pointed_in p document

-- ---- the text of a pointer, and its first token

abbrev pub pointer_text : Text → Option Text
pointer_text [] = Some []
pointer_text (x ∷ rest) = if x == 35 then percent_decoded rest else Some (x ∷ rest)

-- the tokens are this one, and nothing more or a pointer
pub record IsFirstToken (tokens token below : Text) : Type 0 where
  pub whole : tokens ≡ token ++ below
  pub one : All (λ b. b ≢ 47) token
  pub next : (below ≡ []) ⊎ ((rest : Text) × (below ≡ 47 ∷ rest))
