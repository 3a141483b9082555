-- What is known of a value: what references were found to say of it and of its parts.
use Rattle.std.specs.Prelude.{◌≡◌, ◌≤◌, ⊤, ℕ, zero, suc, Bool, true, Option, Some, None, is_some, option_and_then, option_map, slice_get, if◌then◌else◌, List, [], ◌∷◌, string_bytes}
use Rattle.std.specs.List.{All}
use Rattle.serde_json.specs.Data.{Data, null, boolean, number, string, array, object, Members, no_members, member}
use Rattle.serde_json.specs.Find.{get_item}
use Rattle.schemars_schema.specs.Json.{Text}
use Rattle.schemars_schema.specs.Verdict.{Verdict, Yes, No, Open, is_yes}
use Rattle.schemars_schema.specs.Dialects.{Dialect}
use Rattle.schemars_schema.specs.Judges.{Judge, Patterns}
use Rattle.schemars_schema.specs.Evaluated.{judged_by}
use Rattle.schemars_schema.specs.Acceptance.{follow}
use Rattle.schemars_assertions.specs.Meant.{meant}
use Rattle.schemars_validate.specs.Judged.{marked, parts_of, united, unmarked}
use Rattle.schemars_validate.specs.declared.memo.Known.{Known}
use Rattle.schemars_validate.specs.declared.memo.Memo.{Memo, out-Memo}

-- ---- one reference

-- how the schemas judge to which references lead, with so many references within one another
abbrev pub Following : Type 0
Following = ℕ → Text → Judge

-- the marks, if there are some, are those of the parts that the schema of a name judges
abbrev pub IsJudged : Following → Data → Text → ℕ → Option (List Bool) → Type 0
IsJudged to v name left None = ⊤
IsJudged to v name left (Some bs) = bs ≡ marked (judged_by (to left name) v) (parts_of v) (unmarked (parts_of v))

-- what the schema of a name says of a value with so many references left, and which parts it judges, if that was asked
pub record IsFound (to : Following) (v : Data) (name : Text) (left : ℕ) (y : Verdict) (marks : Option (List Bool)) : Type 0 where
  pub says : (to left name).fits v ≡ y
  pub judged : IsJudged to v name left marks

abbrev pub IsRight : Following → Data → Known → Type 0
IsRight to v k = IsFound to v (string_bytes k.name) k.references (meant k.says) (option_map (λ b. b.items) k.judged)

-- more references do not change a verdict that is not open, and fewer do not change one that is
abbrev pub IsInReach : Verdict → ℕ → ℕ → Type 0
IsInReach Yes references left = references ≤ left
IsInReach No references left = references ≤ left
IsInReach Open references left = left ≤ references

-- what is known answers for the name: also for the parts, if they are asked and the value fits
pub record AnswersFor (k : Known) (t : Text) (left : ℕ) (asked : Bool) : Type 0 where
  pub name : string_bytes k.name ≡ t
  pub reach : IsInReach (meant k.says) k.references left
  pub parts : asked ≡ true → meant k.says ≡ Yes → is_some k.judged ≡ true

-- what was judged is marked too if the value fits
abbrev pub marked_by : Verdict → Option (List Bool) → List Bool → List Bool
marked_by y None old = old
marked_by y (Some bs) old = if is_yes y then united bs old else old

-- ---- a value and its parts

abbrev pub value_at : ℕ → Members → Option Data
value_at n no_members = None
value_at zero (member k d ms) = Some d
value_at (suc n) (member k d ms) = value_at n ms

abbrev pub part_of : ℕ → Data → Option Data
part_of n null = None
part_of n (boolean b) = None
part_of n (number m) = None
part_of n (string s) = None
part_of n (array ds) = get_item n ds
part_of n (object ms) = value_at n ms

-- what is inside a value on a path of places
abbrev pub inside_at : List ℕ → Data → Option Data
inside_at [] v = Some v
inside_at (n ∷ path) v = option_and_then (inside_at path) (part_of n v)

-- what is kept of what is there
abbrev pub kept_in : List ℕ → Option Memo → List Known
kept_in path None = []
kept_in [] (Some m) = (out-Memo m).known.items
kept_in (n ∷ path) (Some m) = kept_in path (slice_get (out-Memo m).parts.items n)

abbrev pub known_at : List ℕ → Memo → List Known
known_at path m = kept_in path (Some m)

-- all that is kept of a value and of what is inside it is right
unfoldable pub IsKnown : Following → Data → Memo → Type 0
IsKnown to v m = (path : List ℕ) (w : Data) → inside_at path v ≡ Some w → All (IsRight to w) (known_at path m)

-- what is kept at a place is right for a value
abbrev pub IsKnownIn : Following → Data → Option Memo → Type 0
IsKnownIn to w None = ⊤
IsKnownIn to w (Some m) = IsKnown to w m

abbrev pub IsKnownAt : Following → ℕ → Data → Memo → Type 0
IsKnownAt to n w m = IsKnownIn to w (slice_get (out-Memo m).parts.items n)

-- ---- what calls do to a memo

-- nothing is kept, which is right for each value
abbrev pub Nothing : Memo → Type 0
Nothing m = (to : Following) (v : Data) → IsKnown to v m

abbrev pub Keeps : Memo → Memo → Type 0
Keeps m n = (to : Following) (v : Data) → IsKnown to v m → IsKnown to v n

-- what was kept of the part at a place is taken out
abbrev pub Takes : Memo → ℕ → Memo → Type 0
Takes m n p = (to : Following) (w : Data) → IsKnownAt to n w m → IsKnown to w p

-- what is known of the part at a place is put there
abbrev pub Puts : Memo → ℕ → Memo → Memo → Type 0
Puts m n p new = (to : Following) (v w : Data) → IsKnown to v m → part_of n v ≡ Some w → IsKnown to w p → IsKnown to v new

-- a value of which all was right that was kept has this part, and all that is kept is right
abbrev pub KeepsAround : Following → ℕ → Data → Memo → Memo → Type 0
KeepsAround to n w m new = (v : Data) → IsKnown to v m → part_of n v ≡ Some w → IsKnown to v new

-- what a reference was found to say is kept too
abbrev pub Learns : Memo → Text → ℕ → Verdict → Option (List Bool) → Memo → Type 0
Learns m name left y marks new = (to : Following) (v : Data) → IsKnown to v m → IsFound to v name left y marks → IsKnown to v new

-- an answer is what a schema says, and then the parts are marked that it judges
abbrev pub Tells : Judge → Data → Option Verdict → List Bool → List Bool → Type 0
Tells s v None old new = new ≡ old
Tells s v (Some y) old new = (y ≡ s.fits v) × (new ≡ marked (judged_by s v) (parts_of v) old)

-- what is known answers for the schema of a name
abbrev pub Recalls : Dialect → Memo → Text → ℕ → Option Verdict → List Bool → List Bool → Type 0
Recalls dialect m name left answer old new = (document : Data) (patterns : Patterns) (v : Data)
    → IsKnown (follow dialect document patterns) v m → Tells (follow dialect document patterns left name) v answer old new
