-- Templates of one node, and of maps by their members.
use Rattle.std.specs.Prelude.{ℕ, List, [], ◌∷◌, ◌++◌, map, Bool, true, false, codes}
use Rattle.serde_json.specs.Data.{Data, boolean, number, unsigned, string, array, Items, item, no_items}
use Rattle.schemars_schema.specs.Json.{Text}
use Rattle.schemars_builders.specs.NullLaw.{text_items}
use Rattle.schemars_templates.specs.Template.{Template, finished, list, members, Templates, no_templates, template}

abbrev pub templates_of : List Template → Templates
templates_of [] = no_templates
templates_of (t ∷ ts) = template t (templates_of ts)

abbrev pub KeywordTemplate : Type 0
KeywordTemplate = Text × Template

-- an object with these keywords
abbrev pub object_with : List KeywordTemplate → Template
object_with es = members (map (λ e. e.0) es) (templates_of (map (λ e. e.1) es))

abbrev pub said : Text → Data → KeywordTemplate
said key d = (key, finished d)

abbrev pub typed_template : Text → KeywordTemplate
typed_template name = said (codes "type") (string name)

abbrev pub count_template : Text → ℕ → KeywordTemplate
count_template key n = said key (number (unsigned n))

-- ---- choices

-- exactly one of these
abbrev pub one_of_template : List Template → Template
one_of_template ts = object_with ((codes "oneOf", list (templates_of ts)) ∷ [])

-- one of these at least
abbrev pub any_of_template : List Template → Template
any_of_template ts = object_with ((codes "anyOf", list (templates_of ts)) ∷ [])

-- ---- maps

abbrev pub properties_at : List KeywordTemplate → List KeywordTemplate
properties_at [] = []
properties_at (e ∷ es) = (codes "properties", object_with (e ∷ es)) ∷ []

abbrev pub required_at : Items → List KeywordTemplate
required_at no_items = []
required_at (item d ds) = said (codes "required") (array (item d ds)) ∷ []

abbrev pub closed_keyword : Bool → List KeywordTemplate
closed_keyword false = []
closed_keyword true = said (codes "additionalProperties") (boolean false) ∷ []

-- a map with these properties
abbrev pub map_template : List KeywordTemplate → Items → Bool → Template
map_template properties required closed =
    object_with (typed_template (codes "object") ∷ (properties_at properties ++ (required_at required ++ closed_keyword closed)))

-- a map with this member, which has to be there
abbrev pub member_template : Bool → Text → Template → Template
member_template closed name t = map_template ((name, t) ∷ []) (text_items (name ∷ [])) closed

-- a map with these members, each of which has to be there
abbrev pub whole_template : List KeywordTemplate → Bool → Template
whole_template properties closed = map_template properties (text_items (map (λ e. e.0) properties)) closed
