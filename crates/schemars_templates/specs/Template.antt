-- A document whose parts are not known yet: JSON in which rows are asked, and what is done to finished schemas.
use Rattle.std.specs.Prelude.{ℕ, List, [], ◌∷◌, ◌++◌, Bool, true}
use Rattle.serde_json.specs.Data.{Data, boolean, array, object, Members, no_members}
use Rattle.serde_json.specs.View.{items_of}
use Rattle.schemars_schema.specs.Json.{Text}
use Rattle.schemars_schema.specs.SchemaData.{put_all}
use Rattle.schemars_builders.specs.AllowNull.{allow_null}
use Rattle.schemars_builders.specs.Properties.{internally_tagged_variant}
use Rattle.schemars_flatten.specs.Flatten.{flattened}
use Rattle.schemars_templates.specs.Finished.{Keyword, annotated}

-- a request for a row
pub data Ask : Type 0 where
  -- its schema
  part : ℕ → Ask
  -- a schema of its members as a part of another map, and whether they are required
  members_of : ℕ → Bool → Ask
  -- a schema of the content beside a tag
  content : ℕ → Ask

mutual
  pub data Template : Type 0 where
    -- JSON without rows
    finished : Data → Template
    -- a request for a row
    asked : Ask → Template
    list : Templates → Template
    -- an object with these keys, and a value for each
    members : List Text → Templates → Template
    -- a schema that accepts null too
    nullable : Template → Template
    -- a schema with these notes
    noted : Members → Template → Template
    -- a schema with the keywords of another put in
    with_keywords : Template → Template → Template
    -- a schema of maps that have this name under the tag, which other keys are excluded from where it was null's
    tagged : Text → Text → Bool → Template → Template

  pub data Templates : Type 0 where
    no_templates : Templates
    template : Template → Templates → Templates

-- the schema of a row
abbrev pub row : ℕ → Template
row n = asked (part n)

-- the requests, in the order of the text
abbrev mutual
  pub asks_of : Template → List Ask
  asks_of (finished d) = []
  asks_of (asked a) = a ∷ []
  asks_of (list es) = asks_in es
  asks_of (members ks es) = asks_in es
  asks_of (nullable t) = asks_of t
  asks_of (noted notes t) = asks_of t
  asks_of (with_keywords t u) = asks_of t ++ asks_of u
  asks_of (tagged tag name closed t) = asks_of t

  pub asks_in : Templates → List Ask
  asks_in no_templates = []
  asks_in (template t es) = asks_of t ++ asks_in es

-- a missing part is `true`
abbrev pub first : List Data → Data
first [] = boolean true
first (t ∷ ts) = t

abbrev pub behind : List Data → List Data
behind [] = []
behind (t ∷ ts) = ts

-- the parts that are left for what follows
abbrev mutual
  pub left : Template → List Data → List Data
  left (finished d) ts = ts
  left (asked a) ts = behind ts
  left (list es) ts = left_in es ts
  left (members ks es) ts = left_in es ts
  left (nullable t) ts = left t ts
  left (noted notes t) ts = left t ts
  left (with_keywords t u) ts = left u (left t ts)
  left (tagged tag name closed t) ts = left t ts

  pub left_in : Templates → List Data → List Data
  left_in no_templates ts = ts
  left_in (template t es) ts = left_in es (left t ts)

-- each key with its value
abbrev pub keyed : List Text → List Data → List Keyword
keyed [] ds = []
keyed (k ∷ ks) [] = []
keyed (k ∷ ks) (d ∷ ds) = (k, d) ∷ keyed ks ds

-- the document with these parts in the places of the requests
abbrev mutual
  pub filled : Template → List Data → Data
  filled (finished d) ts = d
  filled (asked a) ts = first ts
  filled (list es) ts = array (items_of (filled_in es ts))
  filled (members ks es) ts = object (put_all (keyed ks (filled_in es ts)) no_members)
  filled (nullable t) ts = allow_null (filled t ts)
  filled (noted notes t) ts = annotated notes (filled t ts)
  filled (with_keywords t u) ts = flattened (filled t ts) (filled u (left t ts))
  filled (tagged tag name closed t) ts = internally_tagged_variant tag name closed (filled t ts)

  pub filled_in : Templates → List Data → List Data
  filled_in no_templates ts = []
  filled_in (template t es) ts = filled t ts ∷ filled_in es (left t ts)
