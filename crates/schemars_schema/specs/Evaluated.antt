-- Which parts of a value a schema judges: by its own keywords, and by subschemas of the same value that accept it.
-- This file is trusted: the theorem is stated in its words.
use Rattle.std.specs.Prelude.{ℕ, ◌&&◌, ◌||◌, List, [], ◌∷◌, Bool, true, false, is_some, Option, Some, None, option_and_then, codes, length, nat_lt}
use Rattle.serde_json.specs.Data.{Data}
use Rattle.serde_json.specs.Find.{get_item, as_str, as_array, as_object}
use Rattle.schemars_schema.specs.Verdict.{Verdict, Yes, No, Open, is_yes}
use Rattle.schemars_schema.specs.Json.{Text}
use Rattle.schemars_schema.specs.Judges.{Part, key, position, Judge, Reading, Context, Raw, Readings}
use Rattle.schemars_schema.specs.Applicators.{is_covered, beside_members}

abbrev pub judged_by : Judge → Data → Part → Bool
judged_by s v p = is_yes (s.fits v) && s.judges v p

abbrev pub judged_by_some : List Judge → Data → Part → Bool
judged_by_some [] v p = false
judged_by_some (s ∷ ss) v p = judged_by s v p || judged_by_some ss v p

abbrev pub judged_by_list : Option Reading → Data → Part → Bool
judged_by_list list v p = elim (option_and_then (λ x. x.listed) list) [ None ↦ false | Some ss ↦ judged_by_some ss v p ]

abbrev pub judged_by_schema : Option Reading → Data → Part → Bool
judged_by_schema schema v p = elim (option_and_then (λ x. x.schema) schema) [ None ↦ false | Some s ↦ judged_by s v p ]

abbrev pub branch_of : Verdict → Option Reading → Option Reading → Option Reading
branch_of Yes accepted refused = accepted
branch_of No accepted refused = refused
branch_of Open accepted refused = None

-- by `if`, and by `then` or `else`
abbrev pub judged_by_condition : Bool → Option Reading → Option Reading → Option Reading → Data → Part → Bool
judged_by_condition reads condition accepted refused v p = elim (option_and_then (λ x. x.schema) condition) [
  | None ↦ false
  | Some s ↦ reads && (judged_by s v p || judged_by_schema (branch_of (s.fits v) accepted refused) v p)
]

abbrev pub judged_by_dependents : Bool → Option Reading → Data → Part → Bool
judged_by_dependents reads dependent v p = elim (option_and_then (λ x. x.named) dependent) [
  | None ↦ false
  | Some ss ↦ reads && elim (as_object v) [ None ↦ false | Some ms ↦ judged_by_some (beside_members ss ms) v p ]
]

abbrev pub judged_by_reference : (Text → Judge) → Option Data → Data → Part → Bool
judged_by_reference follow reference v p = elim (option_and_then as_str reference)
    [ None ↦ false | Some name ↦ judged_by (follow name) v p ]

-- there is a schema, which judges all that is left
abbrev pub has_schema : Option Reading → Bool
has_schema schema = is_some (option_and_then (λ x. x.schema) schema)

-- by a list, at the item's position or past it
abbrev pub judged_by_position : Option Reading → Bool → ℕ → Bool
judged_by_position list past n = elim (option_and_then (λ x. x.listed) list) [ None ↦ false | Some ss ↦ nat_lt n (length ss) || past ]

abbrev pub judged_by_items : Bool → Option Reading → Option Reading → Option Reading → ℕ → Bool
judged_by_items true prefix items additional n = judged_by_position prefix false n || has_schema items
judged_by_items false prefix items additional n = has_schema items || judged_by_position items (has_schema additional) n

-- the items that `contains` accepts: Draft 2020-12 alone takes them as judged
abbrev pub judged_by_contains : Bool → Option Reading → Data → ℕ → Bool
judged_by_contains counts contains v n = elim (option_and_then (λ x. x.schema) contains) [
  | None ↦ false
  | Some s ↦ counts && elim (option_and_then (get_item n) (as_array v)) [ None ↦ false | Some w ↦ is_yes (s.fits w) ]
]

-- by the keywords for members and for items
abbrev pub judged_itself : Context → Readings → Data → Part → Bool
judged_itself c read v p = elim p [
  | key k ↦ is_covered c.patterns (read (codes "properties")) (read (codes "patternProperties")) k
      || has_schema (read (codes "additionalProperties"))
  | position n ↦
      judged_by_items c.dialect.reads_prefix_items (read (codes "prefixItems")) (read (codes "items")) (read (codes "additionalItems")) n
      || judged_by_contains c.dialect.reads_prefix_items (read (codes "contains")) v n
]

abbrev pub judged_beside : Context → Raw → Readings → Data → Part → Bool
judged_beside c raw read v p =
    judged_itself c read v p
    || (judged_by_list (read (codes "allOf")) v p
    || (judged_by_list (read (codes "anyOf")) v p
    || (judged_by_list (read (codes "oneOf")) v p
    || (judged_by_condition c.dialect.reads_const (read (codes "if")) (read (codes "then")) (read (codes "else")) v p
    || (judged_by_dependents c.dialect.reads_unevaluated (read (codes "dependentSchemas")) v p
    || judged_by_reference c.follow (raw (codes "$ref")) v p)))))

-- all parts that are left
abbrev pub judges_rest : Readings → Part → Bool
judges_rest read p = elim p [
  | key k ↦ has_schema (read (codes "unevaluatedProperties"))
  | position n ↦ has_schema (read (codes "unevaluatedItems"))
]
