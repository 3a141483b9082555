-- Documents that are being made: what is wanted, how far they have come, and what waits for them.
use Rattle.std.specs.Prelude.{◌≡◌, ◌<◌, ◌&&◌, ◌++◌, ◌+◌, ℕ, List, [], ◌∷◌, Bool, true, false, not, Option, Some, None, length, map, take, string_bytes}
use Rattle.serde_json.specs.Data.{Data, boolean, put}
use Rattle.serde_json.specs.Find.{get_member}
use Rattle.schemars_schema.specs.Json.{Text}
use Rattle.schemars_shapes.specs.Shape.{Entry}
use Rattle.schemars_types.specs.Rows.{entry_at}
use Rattle.schemars_flatten.specs.Parts.{flattened_part}
use Rattle.schemars_templates.specs.Template.{Ask, content, asks_of}
use Rattle.schemars_templates.specs.declared.template.SchemaTemplate.{SchemaTemplate}
use Rattle.schemars_documents.specs.OfShape.{entry_template}
use Rattle.schemars_build.specs.Naming.{name_of}
use Rattle.schemars_build.specs.Placed.{is_pending, pending_in}
use Rattle.schemars_build.specs.Registry.{Plan, Registry, basis_of_plan}
use Rattle.schemars_build.specs.Parts.{IsMade, IsFilledIn, AreAnswers}
use Rattle.schemars_build.specs.declared.build.Document.{Document}
use Rattle.schemars_build.specs.declared.build.Purpose.{Purpose}
use Rattle.schemars_build.specs.declared.build.Purpose.TheVariants as purpose
use Rattle.schemars_build.specs.declared.build.Request.{Request}
use Rattle.schemars_build.specs.declared.build.Request.TheVariants as request
pub use Rattle.schemars_schema.specs.Edits.{replaced}
pub use Rattle.schemars_types.specs.Edges.{is_inline_at}
pub use Rattle.schemars_types.specs.Faults.{IsChecked}
pub use Rattle.schemars_templates.specs.Finished.{reference}
pub use Rattle.schemars_templates.specs.View.{ask_of, template_view}
pub use Rattle.schemars_build.specs.Placed.{is_in_place}
pub use Rattle.schemars_build.specs.Registry.{Step, rolled_back, reference_to}
pub use Rattle.schemars_build.specs.Plans.{plan_of}
pub use Rattle.schemars_build.specs.Missing.{row_asked}
pub use Rattle.schemars_build.specs.Parts.{IsAnswer, IsOwn}

-- ---- what is wanted

-- a row's own document; a reference to the definition of a name, which is to be there; the document of a row as it is flattened,
-- whose members may be missing or not; or an answer
pub data Wanted : Type 0 where
  own : ℕ → Wanted
  defined : Text → Wanted
  flattened : ℕ → Bool → Wanted
  asked : Ask → Wanted

abbrev pub wanted : Request → Wanted
wanted (request.Own n) = own n
wanted (request.Asked a) = asked (ask_of a)

abbrev pub row_wanted : Wanted → ℕ
row_wanted (own n) = n
row_wanted (defined k) = 0
row_wanted (flattened n optional) = n
row_wanted (asked a) = row_asked a

abbrev pub IsReply : Plan → Bool → Registry → Registry → Wanted → Data → Type 0
IsReply plan inside old new (own n) s = IsOwn plan inside old new n s
IsReply plan inside old new (defined k) s = IsMade plan old new k × (s ≡ reference (reference_to plan.path k))
IsReply plan inside old new (flattened n optional) s = (d : Data) × IsFilledIn plan inside old new n d × (s ≡ flattened_part optional d)
IsReply plan inside old new (asked a) s = IsAnswer plan inside old new a s

-- ---- documents

-- what a document is made for
abbrev pub wanted_for : ℕ → Purpose → Wanted
wanted_for n (purpose.Own entered) = own n
wanted_for n (purpose.Definition name entered) = defined (string_bytes name)
wanted_for n (purpose.Members optional) = flattened n optional
wanted_for n purpose.Content = asked (content n)

-- a document that is wanted at `mid` is begun at `start`: the row is entered, and a definition gets its dummy
abbrev pub IsBegun : Plan → Bool → Registry → Registry → ℕ → Bool → Purpose → Type 0
IsBegun plan outside mid start n inside (purpose.Own entered) =
    (inside ≡ outside)
    × (entered ≡ plan.inlines && not (is_pending mid.pending n))
    × (start ≡ record mid { pending = pending_in plan.inlines mid.pending n })
IsBegun plan outside mid start n inside (purpose.Definition name entered) =
    (inside ≡ true)
    × (entered ≡ plan.inlines && not (is_pending mid.pending n))
    × (get_member (string_bytes name) mid.definitions ≡ None)
    × (name_of n plan.contract mid.names ≡ Some (string_bytes name))
    × (start ≡ record mid {
      definitions = put (string_bytes name) (boolean false) mid.definitions;
      begun = mid.begun ++ string_bytes name ∷ [];
      pending = pending_in plan.inlines mid.pending n;
    })
IsBegun plan outside mid start n inside (purpose.Members optional) = (inside ≡ outside) × (start ≡ mid)
IsBegun plan outside mid start n inside purpose.Content = (inside ≡ outside) × (start ≡ mid)

-- the template of a row, and the rows that it asks for
pub record IsTemplate (plan : Plan) (d : Document) : Type 0 where
  pub known : d.row < length plan.rows
  pub entry : Entry
  pub at : entry_at plan.rows d.row ≡ Some entry
  pub template : template_view d.template ≡ entry_template (basis_of_plan plan) entry
  pub asks : map ask_of d.asks.items ≡ asks_of (entry_template (basis_of_plan plan) entry)

abbrev pub IsTemplateAt : Plan → ℕ → SchemaTemplate → Type 0
IsTemplateAt plan n t = (entry : Entry) × (entry_at plan.rows n ≡ Some entry)
    × (template_view t ≡ entry_template (basis_of_plan plan) entry)

-- a document of which nothing has been answered
abbrev pub IsOpened : Plan → Bool → ℕ → Purpose → Document → Type 0
IsOpened plan inside n p d = (d.row ≡ n) × (d.purpose ≡ p) × (d.in_definition ≡ inside) × (d.answers.items ≡ []) × IsTemplate plan d

-- what is wanted at `old` is given by what is got, later on, of what is wanted at `mid`
pub record ComesFrom (plan : Plan) (inside : Bool) (old : Registry) (want : Wanted) (mid : Registry) (got : Wanted) : Type 0 where
  pub step : Step plan old mid
  pub rolled_back : rolled_back mid ≡ rolled_back old
  pub gives : (new : Registry) (s : Data) → Step plan mid new → IsReply plan inside mid new got s → IsReply plan inside old new want s

-- a document is being made for what is wanted at `old`; the first of the rows that it asks have answered by now
pub record IsInMaking (plan : Plan) (outside : Bool) (old : Registry) (want : Wanted) (now : Registry) (d : Document) : Type 0 where
  pub template : IsTemplate plan d
  pub mid : Registry
  pub start : Registry
  pub leads : ComesFrom plan outside old want mid (wanted_for d.row d.purpose)
  pub begun : IsBegun plan outside mid start d.row d.in_definition d.purpose
  pub step : Step plan start now
  pub rolled_back : rolled_back now ≡ rolled_back start
  pub answers : AreAnswers plan d.in_definition start now (map ask_of (take (length d.answers.items) d.asks.items)) d.answers.items

-- the same document, with one answer more
pub record HasAnswered (old : Document) (s : Data) (new : Document) : Type 0 where
  pub row : new.row ≡ old.row
  pub purpose : new.purpose ≡ old.purpose
  pub in_definition : new.in_definition ≡ old.in_definition
  pub template : new.template ≡ old.template
  pub asks : new.asks ≡ old.asks
  pub answers : new.answers.items ≡ old.answers.items ++ s ∷ []

-- ---- what waits

-- d waits for an answer to this request
pub record IsNext (d : Document) (outside : Bool) (want : Wanted) : Type 0 where
  pub ask : Ask
  pub is : want ≡ asked ask
  pub inside : d.in_definition ≡ outside
  pub less : length d.answers.items < length d.asks.items
  pub next : map ask_of (take (length d.answers.items + 1) d.asks.items)
      ≡ map ask_of (take (length d.answers.items) d.asks.items) ++ ask ∷ []

-- the first of these documents waits for what is wanted at `old`, and each other one for the one before it; the last is made for
-- what was wanted first, at `start`
abbrev pub AreWaiting : Plan → Bool → Registry → Wanted → Bool → Registry → Wanted → List Document → Type 0
AreWaiting plan first start all outside old want [] = (outside ≡ first) × (old ≡ start) × (want ≡ all)
AreWaiting plan first start all outside old want (d ∷ ds) =
    (around : Bool)
    × (before : Registry)
    × (more : Wanted)
    × IsInMaking plan around before more old d
    × IsNext d outside want
    × AreWaiting plan first start all around before more ds

-- ---- replies

pub data Reply : Type 0 where
  answer : Data → Reply
  document : Document → Reply

-- a reply to what is wanted at `old`: what is wanted, or a document for it
abbrev pub IsRepliedBy : Plan → Bool → Registry → Wanted → Registry → Reply → Type 0
IsRepliedBy plan outside old want now (answer s) =
    Step plan old now
    × (rolled_back now ≡ rolled_back old)
    × IsReply plan outside old now want s
IsRepliedBy plan outside old want now (document d) = IsInMaking plan outside old want now d

-- a reply while documents wait: an answer is returned beside them, and a document becomes the first of them
abbrev pub IsGivenBack : Reply → List Document → List Document → Option Data → Type 0
IsGivenBack (answer s) ds es o = (o ≡ Some s) × (es ≡ ds)
IsGivenBack (document d) ds es o = (o ≡ None) × (es ≡ d ∷ ds)

-- there is a reply like that to what is wanted
pub record HasReplied (plan : Plan) (outside : Bool) (old : Registry) (want : Wanted) (ds : List Document) (IsLike : Reply → Type 0)
    (now : Registry)
    (es : List Document) (o : Option Data) : Type 0 where
  pub reply : Reply
  pub given : IsGivenBack reply ds es o
  pub replied : IsRepliedBy plan outside old want now reply
  pub is_like : IsLike reply

-- a reply to what is waited for
pub record GoesOn (plan : Plan) (first : Bool) (start : Registry) (all : Wanted) (now : Registry) (es : List Document)
    (o : Option Data) : Type 0 where
  pub outside : Bool
  pub old : Registry
  pub want : Wanted
  pub around : List Document
  pub reply : Reply
  pub given : IsGivenBack reply around es o
  pub waiting : AreWaiting plan first start all outside old want around
  pub replied : IsRepliedBy plan outside old want now reply

-- an answer is added to the first document; if there is none, it is returned
abbrev pub IsTaken : List Document → Option Data → List Document → Option Data → Type 0
IsTaken ds None es left = (left ≡ None) × (es ≡ ds)
IsTaken [] (Some s) es left = left ≡ Some s
IsTaken (d ∷ ds) (Some s) es left = (left ≡ None) × (x : Document) × (es ≡ x ∷ ds) × HasAnswered d s x

-- ---- what is being made

-- there is a first document, and it is like that
abbrev pub HasFirst : (Document → Type 0) → List Document → Type 0
HasFirst IsLike [] = ⊥
HasFirst IsLike (d ∷ ds) = IsLike d

-- the first document is being made, and the others wait
pub record AreMaking (plan : Plan) (first : Bool) (start : Registry) (all : Wanted) (now : Registry) (es : List Document) : Type 0 where
  pub outside : Bool
  pub old : Registry
  pub want : Wanted
  pub inner : Document
  pub around : List Document
  pub are : es ≡ inner ∷ around
  pub making : IsInMaking plan outside old want now inner
  pub waiting : AreWaiting plan first start all outside old want around
