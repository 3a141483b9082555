-- Items of parts with one more, and items of texts.
use Rattle.std.proofs.Common.{◌≡◌, ◌++◌, List, [], ◌∷◌, map, refl, ap}
use Rattle.schemars_render.proofs.Words.{item, string, items_of, with_item, text_items, assembled_view, items_assembled}
use Rattle.schemars_text.specs.Text.{Text}
use Rattle.schemars_parts.specs.declared.assembled.Assembled.{Assembled}

pub pushed : (ps : List Assembled) (p : Assembled) → items_assembled (ps ++ p ∷ []) ≡ with_item (items_assembled ps) (assembled_view p)
pushed [] p = refl
pushed (q ∷ ps) p = ap (item (assembled_view q)) (pushed ps p)

pub texts_seen : (ts : List Text) → items_of (map string ts) ≡ text_items ts
texts_seen [] = refl
texts_seen (t ∷ ts) = ap (item (string t)) (texts_seen ts)
