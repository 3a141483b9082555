-- How far the making of documents still has to go.
use Rattle.std.specs.Prelude.{◌≤◌, ◌<◌, ◌+◌, ◌*◌, ◌-◌, ◌^◌, ℕ, zero, suc, List, [], ◌∷◌, length, Option, Some, None, if◌then◌else◌}
use Rattle.std.specs.Option.{option_map_or}
use Rattle.serde_json.specs.Data.{Data}
use Rattle.schemars_types.specs.Rows.{Row, entry_at}
use Rattle.schemars_types.specs.Edges.{height}
use Rattle.schemars_build.specs.Placed.{pending_in}
use Rattle.schemars_build.specs.Registry.{Plan, Registry, basis_of_plan, without_last}
use Rattle.schemars_templates.specs.Template.{Ask, part, members_of, content, asks_of}
use Rattle.schemars_documents.specs.OfShape.{entry_template}
use Rattle.schemars_documents.specs.Describes.{without_options}
use Rattle.schemars_build.specs.Missing.{missing, idle, depth_in_place}
use Rattle.schemars_build.specs.declared.build.Document.{Document}
use Rattle.schemars_build.specs.declared.build.Purpose.{Purpose}
use Rattle.schemars_build.specs.declared.build.Purpose.TheVariants as purpose
use Rattle.schemars_build.specs.Making.{Reply, answer, document}

abbrev pub width : List Row → ℕ
width rows = 8 * length rows + 12

-- the definitions that may still be made, and then the rows that may still be entered
abbrev pub places : Plan → Registry → List ℕ → ℕ
places p w pending = missing p.rows p.contract w * suc (length p.rows) + idle p.rows pending

abbrev pub measure_of_definition : Plan → Registry → ℕ
measure_of_definition p w = places p w w.pending * width p.rows

abbrev pub measure_of_part : Plan → Registry → ℕ → ℕ
measure_of_part p w n = places p w w.pending * width p.rows + (8 * depth_in_place p.rows n + 1)

abbrev pub measure_of_own_document : Plan → Registry → ℕ → ℕ
measure_of_own_document p w n = places p w (pending_in p.inlines w.pending n) * width p.rows + (8 * height p.rows n + 8)

abbrev pub measure_of_filled : Plan → Registry → ℕ → ℕ
measure_of_filled p w n = places p w w.pending * width p.rows + (8 * height p.rows n + 7)

abbrev pub measure_of_members : Plan → Registry → ℕ → ℕ
measure_of_members p w n = places p w w.pending * width p.rows + (8 * height p.rows (without_options p.rows n) + 10)

abbrev pub measure_of_content : Plan → Registry → ℕ → ℕ
measure_of_content p w n = places p w w.pending * width p.rows + (8 * height p.rows n + 11)

abbrev pub measure_of_asked : Plan → Registry → Ask → ℕ
measure_of_asked p w (part n) = measure_of_part p w n
measure_of_asked p w (members_of n required) = measure_of_members p w n
measure_of_asked p w (content n) = measure_of_content p w n

-- ---- a list of documents that wait

-- how many rows the document of row n asks
abbrev pub asks_at : Plan → ℕ → ℕ
asks_at p n = option_map_or (λ e. length (asks_of (entry_template (basis_of_plan p) e))) (entry_at p.rows n) 0

abbrev pub sum_below : (ℕ → ℕ) → ℕ → ℕ
sum_below f zero = 0
sum_below f (suc n) = f n + sum_below f n

-- more than any document asks
unfoldable pub breadth : Plan → ℕ
breadth p = sum_below (asks_at p) (length p.rows) + 2

-- a document that is made while these rows are pending
abbrev pub document_rank : Plan → Registry → List ℕ → ℕ → Purpose → ℕ
document_rank p w pending n (purpose.Own entered) = measure_of_filled p (record w { pending = pending }) n
document_rank p w pending n (purpose.Definition name entered) = measure_of_filled p (record w { pending = pending }) n
document_rank p w pending n (purpose.Members optional) = measure_of_filled p (record w { pending = pending }) n
document_rank p w pending n purpose.Content = measure_of_content p (record w { pending = pending }) n

abbrev pub weight : Plan → Registry → List ℕ → Document → ℕ
weight p w pending d = breadth p ^ document_rank p w pending d.row d.purpose

-- the rows that have not answered in it
abbrev pub unanswered_in : Document → ℕ
unanswered_in d = length d.asks.items - length d.answers.items

-- the rows that are pending around it
abbrev pub pending_around : Purpose → List ℕ → List ℕ
pending_around (purpose.Own entered) pending = if entered then without_last pending else pending
pending_around (purpose.Definition name entered) pending = if entered then without_last pending else pending
pending_around (purpose.Members optional) pending = pending
pending_around purpose.Content pending = pending

abbrev pub left_waiting : Plan → Registry → List ℕ → List Document → ℕ
left_waiting p w pending [] = 0
left_waiting p w pending (d ∷ ds) = unanswered_in d * weight p w pending d + left_waiting p w (pending_around d.purpose pending) ds

-- with a document that is continued
abbrev pub left_going : Plan → Registry → Document → List Document → ℕ
left_going p w d ds = suc (unanswered_in d) * weight p w w.pending d + left_waiting p w (pending_around d.purpose w.pending) ds

abbrev pub measure_of_reply : Plan → Registry → Reply → List Document → ℕ
measure_of_reply p w (answer s) ds = left_waiting p w w.pending ds
measure_of_reply p w (document d) ds = left_going p w d ds

abbrev pub measure_of_making : Plan → Registry → List Document → ℕ
measure_of_making p w [] = 0
measure_of_making p w (d ∷ ds) = left_going p w d ds

-- with an answer at hand, or without one
abbrev pub measure_of_turn : Plan → Registry → List Document → Option Data → ℕ
measure_of_turn p w es (Some s) = left_waiting p w w.pending es
measure_of_turn p w es None = measure_of_making p w es

-- a reply that has less to go than this
abbrev pub IsWithin : Plan → ℕ → Registry → Reply → Type 0
IsWithin p k w (answer s) = Unit {0}
IsWithin p k w (document d) = document_rank p w w.pending d.row d.purpose ≤ k

-- a reply with less to go than a document that was being made
abbrev pub IsLess : Plan → Registry → Document → List Document → Registry → Reply → Type 0
IsLess p old d ds new r = measure_of_reply p new r ds < left_going p old d ds
