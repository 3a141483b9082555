-- What each part stands for.
use Rattle.std.proofs.Common.{◌≡◌, Bool, rules, Bor, Global, Vec}
use Rattle.schemars_parts.proofs.Words.{null, boolean, string, array, object, view, Text, assembled_view, items_assembled, members_assembled, reference_to}
use Rattle.serde_json.specs.declared.value.Value.{Value}
use Rattle.schemars_parts.specs.declared.assembled.Assembled.{Assembled, the_lemmas}
use Rattle.schemars_parts.specs.declared.assembled.Assembled as part

pub seen_value : (v : Bor Value) → assembled_view (part.Value v) ≡ view v.now
seen_value v = search (rules, the_lemmas)

pub seen_null : assembled_view part.Null ≡ null
seen_null = search (rules, the_lemmas)

pub seen_bool : (b : Bool) → assembled_view (part.Bool b) ≡ boolean b
seen_bool b = search (rules, the_lemmas)

pub seen_text : (t : Bor Text) → assembled_view (part.Text t) ≡ string t.now
seen_text t = search (rules, the_lemmas)

pub seen_reference : (t : Bor Text) → assembled_view (part.Reference t) ≡ reference_to t.now
seen_reference t = search (rules, the_lemmas)

pub seen_list : (ps : Vec Assembled Global) → assembled_view (part.List ps) ≡ array (items_assembled ps.items)
seen_list ps = search (rules, the_lemmas)

pub seen_object : (m : Vec (Bor Text × Assembled) Global) → assembled_view (part.Object m) ≡ object (members_assembled m.items)
seen_object m = search (rules, the_lemmas)
