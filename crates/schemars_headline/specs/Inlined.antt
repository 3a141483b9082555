-- What generators promise that write all rows in place: no references, where no row refers to itself.
use Rattle.std.specs.Prelude.{◌≡◌, true, []}
use Rattle.serde_json.specs.Data.{Data, no_members}
use Rattle.schemars_schema.specs.References.{references}
use Rattle.schemars_documents.specs.PlainTable.{IsPlainTable}
use Rattle.schemars_headline.specs.State.{State}
use Rattle.schemars_headline.specs.Headline.{HasNoCycle}
use Rattle.schemars_headline.specs.Drafts.{Draft, made_for}

-- rows are inlined, the table is plain, and no row refers to itself, at once or through others
abbrev pub InlinesAll : State → Type 0
InlinesAll s = (s.settings.inlines ≡ true) × IsPlainTable s.rows × HasNoCycle s.rows

-- then what is made for the draft of a root document has no references, where there were no definitions
abbrev pub IsInlinedFor : Draft → State → Data → Type 0
IsInlinedFor draft s document = InlinesAll s → s.definitions ≡ no_members → references (made_for draft document) ≡ []

-- and where there were no definitions, there are none afterwards
abbrev pub NeedsNoDefinitions : State → State → Type 0
NeedsNoDefinitions old new = InlinesAll old → old.definitions ≡ no_members → new.definitions ≡ no_members
