-- The law of `allow_null`: under each draft, what was accepted before, and null.
use Rattle.std.specs.Prelude.{◌≡◌, ◌⊎◌, ◌||◌, List, [], ◌∷◌, Bool, true, false, Option, Some, None, codes}
use Rattle.serde_json.specs.Data.{Data, null, boolean, number, unsigned, string, array, object, Items, no_items, item, Members}
use Rattle.serde_json.specs.Find.{get_member}
use Rattle.schemars_schema.specs.Verdict.{Yes, verdict}
use Rattle.schemars_schema.specs.Json.{Text}
use Rattle.schemars_schema.specs.SchemaData.{object_of}
use Rattle.schemars_text.specs.OrderedText.{is_listed}
use Rattle.schemars_schema.specs.Edits.{without}
use Rattle.schemars_schema.specs.Dialects.{Dialect, draft2020_12, draft2019_09, draft07}
use Rattle.schemars_schema.specs.Judges.{Patterns, Judge, Context}
use Rattle.schemars_schema.specs.Assertions.{type_names, are_type_names, is_null}
use Rattle.schemars_schema.specs.Acceptance.{judge}
use Rattle.schemars_builders.specs.AllowNull.{is_combined, is_null_choice}

abbrev pub text_items : List Text → Items
text_items [] = no_items
text_items (t ∷ ts) = item (string t) (text_items ts)

-- a type of the right form, where there is one
abbrev pub HasTypeForm : Option Data → Type 0
HasTypeForm None = Unit {0}
HasTypeForm (Some null) = ⊥
HasTypeForm (Some (boolean b)) = ⊥
HasTypeForm (Some (number n)) = ⊥
HasTypeForm (Some (string t)) = is_listed t type_names ≡ true
HasTypeForm (Some (array ds)) = (ts : List Text) × (ds ≡ text_items ts) × (are_type_names ts ≡ true)
HasTypeForm (Some (object ms)) = ⊥

-- the schema of 0 alone
abbrev pub zero_schema : Data
zero_schema = object_of ((codes "const", number (unsigned 0)) ∷ [])

-- the drafts of JSON Schema: 2020-12, 2019-09 and Draft 7
abbrev pub IsDraft : Dialect → Type 0
IsDraft dialect = (dialect ≡ draft2020_12) ⊎ (dialect ≡ draft2019_09) ⊎ (dialect ≡ draft07)

abbrev pub context_of : Dialect → Patterns → (Text → Judge) → Context
context_of dialect patterns follow = record { dialect = dialect; patterns = patterns; follow = follow }

abbrev pub context2020_12 : Patterns → (Text → Judge) → Context
context2020_12 patterns follow = context_of draft2020_12 patterns follow

-- under a dialect, wherever references lead and whatever patterns match
abbrev pub AcceptsNull : Dialect → Data → Type 0
AcceptsNull dialect d = (patterns : Patterns) (follow : Text → Judge) → (judge (context_of dialect patterns follow) d).fits null ≡ Yes

abbrev pub SomeAcceptsNull : Dialect → Items → Type 0
SomeAcceptsNull dialect no_items = ⊥
SomeAcceptsNull dialect (item d ds) = AcceptsNull dialect d ⊎ SomeAcceptsNull dialect ds

abbrev pub OffersNull : Dialect → Option Data → Type 0
OffersNull dialect None = ⊥
OffersNull dialect (Some null) = ⊥
OffersNull dialect (Some (boolean b)) = ⊥
OffersNull dialect (Some (number n)) = ⊥
OffersNull dialect (Some (string s)) = ⊥
OffersNull dialect (Some (array ds)) = SomeAcceptsNull dialect ds
OffersNull dialect (Some (object ms)) = ⊥

-- an object that combines schemas; where it stays, since it has a schema of null type among its schemas, one of them does accept null
pub record IsChoice (dialect : Dialect) (ms : Members) : Type 0 where
  pub combined : is_combined (object ms) ≡ true
  pub offers : is_null_choice (object ms) ≡ true → OffersNull dialect (get_member (codes "anyOf") ms)

-- no `const`, or one whose key occurs once, and no `enum` beside it
abbrev pub HasPlainValues : Members → Type 0
HasPlainValues ms =
    (get_member (codes "const") ms ≡ None)
    ⊎ ((get_member (codes "enum") ms ≡ None) × (get_member (codes "const") (without (codes "const") ms) ≡ None))

-- an object that refuses null by its type and its values alone
pub record IsPlain (ms : Members) : Type 0 where
  pub alone : is_combined (object ms) ≡ false
  pub type_form : HasTypeForm (get_member (codes "type") ms)
  pub values : HasPlainValues ms
  pub not_form : (get_member (codes "not") ms ≡ None) ⊎ (get_member (codes "not") ms ≡ Some zero_schema)

-- the schemas of the shapes so far, under a dialect
abbrev pub IsNullable : Dialect → Data → Type 0
IsNullable dialect null = ⊥
IsNullable dialect (boolean b) = Unit {0}
IsNullable dialect (number n) = ⊥
IsNullable dialect (string s) = ⊥
IsNullable dialect (array ds) = ⊥
IsNullable dialect (object ms) = IsChoice dialect ms ⊎ IsPlain ms

-- under a dialect, wherever references lead and whatever patterns match, the new schema accepts what the old one does, and null
abbrev pub AcceptsNullToo : Dialect → Data → Data → Type 0
AcceptsNullToo dialect old new =
    (patterns : Patterns) (follow : Text → Judge) (v : Data) (b : Bool)
    → (judge (context_of dialect patterns follow) old).fits v ≡ verdict b
    → (judge (context_of dialect patterns follow) new).fits v ≡ verdict (is_null v || b)
