-- What is rendered of a schema.
use Rattle.std.specs.Prelude.{◌≡◌, IfSome, string_bytes}
use Rattle.serde_json.specs.Data.{Data}
use Rattle.schemars_transform.specs.Needs.{needs_of}
use Rattle.schemars_definitions.specs.Texts.{IsWholeTextOf}
use Rattle.schemars_render.specs.declared.rendering.Rendered.{Rendered}

-- its ordered text, and what it needs, if that was asked; its numbers are 64-bit whole numbers
pub record IsRendered (d : Data) (r : Rendered) : Type 0 where
  pub text : IsWholeTextOf (string_bytes r.text) d
  pub schema : r.schema ≡ d
  pub needs : IfSome r.needs (λ known. known ≡ needs_of d)
