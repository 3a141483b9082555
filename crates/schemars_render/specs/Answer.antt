-- The schema that an answer stands for.
use Rattle.std.specs.Prelude.{[], map, string_bytes}
use Rattle.serde_json.specs.Data.{Data}
use Rattle.schemars_templates.specs.Finished.{reference}
use Rattle.schemars_templates.specs.Template.{filled}
use Rattle.schemars_templates.specs.View.{template_view}
use Rattle.schemars_render.specs.declared.answer.Form.{Form}
use Rattle.schemars_render.specs.declared.answer.Form.TheVariants as form
use Rattle.schemars_render.specs.declared.answer.Leaf.{Leaf}
use Rattle.schemars_render.specs.declared.answer.Leaf.TheVariants as leaf

abbrev pub leaf_view : Leaf → Data
leaf_view (leaf.Reference target) = reference (string_bytes target)
leaf_view (leaf.Schema schema) = schema
leaf_view (leaf.Template t) = filled (template_view t) []

abbrev pub schema_in : Form → Data
schema_in (form.Leaf l) = leaf_view l
schema_in (form.Filled t leaves) = filled (template_view t) (map leaf_view leaves.items)
