-- Texts as the items of a list.
use Rattle.std.proofs.Common.{◌≡◌, List, [], ◌∷◌, map, refl, ap, ◌∙◌}
use Rattle.schemars_templates.proofs.Words.{string, item, view, items_of, items_view, Text, text_items}
use Rattle.serde_json.specs.declared.value.Value.{Value}

pub items_view-texts : (vs : List Value) (ns : List Text) → map view vs ≡ map string ns → items_view vs ≡ text_items ns
items_view-texts vs ns e = ap items_of e ∙ go ns
  where
    go : (ns : List Text) → items_of (map string ns) ≡ text_items ns
    go [] = refl
    go (n ∷ ns) = ap (item (string n)) (go ns)
