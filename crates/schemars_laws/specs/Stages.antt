-- Which schema objects the transforms of OpenAPI leave with the meaning that they had, before each of them.
use Rattle.std.specs.Prelude.{◌≡◌, ◌⊎◌, Option, Some, None, false, codes}
use Rattle.serde_json.specs.Data.{Data, null, boolean, number, string, array, object, no_items, item, Members}
use Rattle.serde_json.specs.Find.{get_member}
use Rattle.schemars_schema.specs.Json.{Text}
use Rattle.schemars_laws.specs.Classes.{IsOnce, IsSchemaList, is_null_alone, IsConstAlone, HasPlainItems, HasNoUnevaluated, AreTexts}

-- a text of which N holds, if anything
abbrev pub IsTextWith : (Text → Type 0) → Option Data → Type 0
IsTextWith N None = Unit {0}
IsTextWith N (Some null) = ⊥
IsTextWith N (Some (boolean b)) = ⊥
IsTextWith N (Some (number n)) = ⊥
IsTextWith N (Some (string t)) = N t
IsTextWith N (Some (array ds)) = ⊥
IsTextWith N (Some (object ms)) = ⊥

-- what holds before each transform: one reference at most, of which N holds
pub record Stands (N : Text → Type 0) (Q : Members → Type 0) (ms : Members) : Type 0 where
  pub reference : IsTextWith N (get_member (codes "$ref") ms)
  pub once : IsOnce (codes "$ref") ms
  pub own : Q ms

-- a list of types is one of texts, and not empty, so that an added null is not alone
abbrev pub AreSomeTypes : Option Data → Type 0
AreSomeTypes None = Unit {0}
AreSomeTypes (Some null) = Unit {0}
AreSomeTypes (Some (boolean b)) = Unit {0}
AreSomeTypes (Some (number n)) = Unit {0}
AreSomeTypes (Some (string s)) = Unit {0}
AreSomeTypes (Some (array no_items)) = ⊥
AreSomeTypes (Some (array (item d ds))) = AreTexts (item d ds)
AreSomeTypes (Some (object ms)) = Unit {0}

-- such types; there is no `nullable`, and no `const` beside null alone
abbrev pub HasSomeTypes : Members → Type 0
HasSomeTypes ms =
    AreSomeTypes (get_member (codes "type") ms) × (get_member (codes "nullable") ms ≡ None)
    × ((is_null_alone (get_member (codes "type") ms) ≡ false) ⊎ (get_member (codes "const") ms ≡ None))

-- before all transforms of OpenAPI
pub record IsForOpenApi (ms : Members) : Type 0 where
  pub unevaluated : HasNoUnevaluated ms
  pub type : HasSomeTypes ms
  -- nor is there an `enum` beside null alone
  pub values : (is_null_alone (get_member (codes "type") ms) ≡ false) ⊎ (get_member (codes "enum") ms ≡ None)
  pub all_of : IsSchemaList (get_member (codes "allOf") ms)
  pub const : IsConstAlone ms
  pub items : HasPlainItems ms

-- once `nullable` says that null is among the types
abbrev pub AfterNullable : Members → Type 0
AfterNullable ms = IsSchemaList (get_member (codes "allOf") ms) × IsConstAlone ms × HasPlainItems ms

-- once references are alone
abbrev pub AfterSiblings : Members → Type 0
AfterSiblings ms = IsConstAlone ms × HasPlainItems ms

-- at the end
abbrev pub Anything : Members → Type 0
Anything ms = Unit {0}
