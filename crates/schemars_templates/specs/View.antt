-- What a template says, apart from where it lies in memory.
use Rattle.std.specs.Prelude.{List, [], ◌∷◌, map, Option, Some, None, String}
use Rattle.std.specs.Borrow.{Bor}
use Rattle.std.specs.BTreeMap.{BTreeMap}
use Rattle.std.specs.declared.alloc.Global.{Global}
use Rattle.serde_json.specs.Data.{Data, number, string, array}
use Rattle.serde_json.specs.Find.{of_integer}
use Rattle.serde_json.specs.View.{view, members_view}
use Rattle.serde_json.specs.declared.value.Value.{Value}
use Rattle.schemars_schema.specs.Json.{Text}
use Rattle.schemars_schema.specs.SchemaData.{object_of}
use Rattle.schemars_builders.specs.NullLaw.{text_items}
use Rattle.schemars_templates.specs.Template as spec
use Rattle.schemars_templates.specs.Template.{Template}
use Rattle.schemars_templates.specs.Finished.{Keyword, type_alone, title_alone}
use Rattle.schemars_templates.specs.Nodes.{KeywordTemplate, templates_of, object_with}
use Rattle.schemars_templates.specs.declared.template.Ask as src-ask
use Rattle.schemars_templates.specs.declared.template.Ask.TheVariants as ask
use Rattle.schemars_templates.specs.declared.template.Scalar.{Scalar}
use Rattle.schemars_templates.specs.declared.template.Scalar.TheVariants as scalar
use Rattle.schemars_templates.specs.declared.template.SchemaTemplate.{SchemaTemplate, SchemaTemplate-F, fold-SchemaTemplate}
use Rattle.schemars_templates.specs.declared.template.SchemaNode.{SchemaNode, SchemaNode-F, fold-SchemaNode}
use Rattle.schemars_templates.specs.declared.template.SchemaNode.TheOpen as node
use Rattle.schemars_templates.specs.declared.template.ValueTemplate.{ValueTemplate, ValueTemplate-F, fold-ValueTemplate}

abbrev pub ask_of : src-ask.Ask → spec.Ask
ask_of (ask.Part n) = spec.part n
ask_of (ask.MembersOf n required) = spec.members_of n required
ask_of (ask.Content n) = spec.content n

-- the keywords of these answers are added, one after another
abbrev pub with_answers : Template → List spec.Ask → Template
with_answers t [] = t
with_answers t (a ∷ rest) = with_answers (spec.with_keywords t (spec.asked a)) rest

-- a name, and what stands under it
abbrev pub under_name : Bor Text × Template → KeywordTemplate
under_name e = (e.0.now, e.1)

abbrev pub scalar_view : Scalar → Data
scalar_view (scalar.Text t) = string t.now
scalar_view (scalar.Integer n) = number (of_integer n)

abbrev pub scalar_keyword : Bor Text × Scalar → Keyword
scalar_keyword e = (e.0.now, scalar_view e.1)

-- one node, whose inner templates are seen already
abbrev pub schema_node : SchemaNode-F Template Template Template → Template
schema_node (node.Finished s) = spec.finished s
schema_node (node.Keywords es) = spec.finished (object_of (map scalar_keyword es.items))
schema_node (node.OfType name) = spec.finished (type_alone name.now)
schema_node (node.Asked a) = spec.asked (ask_of a)
schema_node (node.Object es) = object_with (map under_name es.items)
schema_node (node.Nullable t) = spec.nullable t.value
schema_node (node.Titled name t) = spec.noted (title_alone name.now) t.value
schema_node (node.WithMembers t asks) = with_answers t.value (map ask_of asks.items)
schema_node (node.Tagged tag t) = spec.tagged tag.value.tag.now tag.value.name.now tag.value.closed t.value

abbrev pub value_node : ValueTemplate-F Template Template Template → Template
value_node (node.Value v) = spec.finished (view v)
value_node (node.Text t) = spec.finished (string t.now)
value_node (node.Texts ts) = spec.finished (array (text_items (map (λ t. t.now) ts.items)))
value_node (node.Schema t) = t
value_node (node.Schemas ts) = spec.list (templates_of ts.items)
value_node (node.Named es) = object_with (map under_name es.items)

-- with these notes, where there are some
abbrev pub with_notes : Option (Bor (BTreeMap (String Global) Value)) → Template → Template
with_notes None t = t
with_notes (Some notes) t = spec.noted (members_view notes.now.entries) t

-- a node that is seen already, and its notes
abbrev pub noted_node : SchemaTemplate-F Template Template Template → Template
noted_node t = with_notes t.notes t.node

abbrev pub template_view : SchemaTemplate → Template
template_view = fold-SchemaTemplate Template Template Template schema_node value_node noted_node

abbrev pub node_view : SchemaNode → Template
node_view = fold-SchemaNode Template Template Template schema_node value_node noted_node

abbrev pub value_view : ValueTemplate → Template
value_view = fold-ValueTemplate Template Template Template schema_node value_node noted_node

abbrev pub keyword_view : Bor Text × ValueTemplate → KeywordTemplate
keyword_view e = (e.0.now, value_view e.1)

abbrev pub property_view : Bor Text × SchemaTemplate → KeywordTemplate
property_view e = (e.0.now, template_view e.1)
