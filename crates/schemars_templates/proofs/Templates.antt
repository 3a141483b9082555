-- Nodes of templates as the code makes them.
use Rattle.std.proofs.Common.{◌≡◌, List, [], ◌∷◌, ◌++◌, length, map, Bool, true, false, refl, sym, ap, ◌∙◌, true≢false, append_assoc, rules, arith, Bor, Vec, Global, ℕ, ◌≤◌, subst}
use Rattle.schemars_templates.proofs.Words.{codes, ◌==◌, Yields, into_iter_steps, most, map-map, Data, boolean, array, Text, object_of, text_items, finished, KeywordTemplate, object_with, said, required_at, closed_keyword, under_name, template_view, node_view, value_view, keyword_view, property_view, scalar_keyword}
use Rattle.std.specs.declared.vec.IntoIter.{IntoIter}
use Rattle.schemars_templates.specs.declared.template.Scalar.{Scalar}
use Rattle.schemars_templates.specs.declared.template.SchemaTemplate.{SchemaTemplate}
use Rattle.schemars_templates.specs.declared.template.SchemaNode.{Finished, Keywords, Object, the_lemmas}
use Rattle.schemars_templates.specs.declared.template.ValueTemplate.{ValueTemplate, Texts, Named}

pub seen_finished : (s : Data) → node_view (Finished s) ≡ finished s
seen_finished s = search (rules, the_lemmas)

pub seen_keywords : (es : Vec (Bor Text × Scalar) Global)
    → node_view (Keywords es) ≡ finished (object_of (map scalar_keyword es.items))
seen_keywords es = search (rules, the_lemmas)

pub seen_texts : (ts : Vec (Bor Text) Global) → value_view (Texts ts) ≡ finished (array (text_items (map (λ t. t.now) ts.items)))
seen_texts ts = search (rules, the_lemmas)

pub seen_object : (es : Vec (Bor Text × ValueTemplate) Global) → node_view (Object es) ≡ object_with (map keyword_view es.items)
seen_object es = seen ∙ ap object_with (map-map under_name (λ e. (e.0, value_view e.1)) es.items)
  where
    seen : node_view (Object es) ≡ object_with (map under_name (map (λ e. (e.0, value_view e.1)) es.items))
    seen = search (rules, the_lemmas)

pub seen_named : (es : Vec (Bor Text × SchemaTemplate) Global) → value_view (Named es) ≡ object_with (map property_view es.items)
seen_named es = seen ∙ ap object_with (map-map under_name (λ e. (e.0, template_view e.1)) es.items)
  where
    seen : value_view (Named es) ≡ object_with (map under_name (map (λ e. (e.0, template_view e.1)) es.items))
    seen = search (rules, the_lemmas)

pub none_left : {A : Type 0} → (xs : List A) → length xs ≡ 0 → xs ≡ []
none_left [] e = refl
none_left (x ∷ xs) e = absurd (omega (arith, e))

-- what is taken next from a list is no larger than the largest in it
pub taken_within : {X : Type 0} (size : X → ℕ) (s t : IntoIter X Global) (seen : List X) (x : X) (more : List X)
    → Yields into_iter_steps s seen t → t.rest.items ≡ x ∷ more → size x ≤ most size s.rest.items
taken_within size s t [] x more y e = subst (λ xs. size x ≤ most size xs) (sym (ap (λ i. i.rest.items) y ∙ e)) (omega arith)
taken_within size s t (z ∷ seen) x more y e =
    let inside : size x ≤ most size (y.0).rest.items = taken_within size y.0 t seen x more y.2 e in
    subst (λ xs. size x ≤ most size xs) (sym y.1.0) (omega (arith, inside))

-- ---- keywords of a map

pub required_some : (v : Vec (Bor Text) Global) (b : Bool) → b ≡ false → b ≡ (length v.items == 0)
    → (codes "required", value_view (Texts v)) ∷ [] ≡ required_at (text_items (map (λ n. n.now) v.items))
required_some v b e h = ap (λ t. (codes "required", t) ∷ []) (seen_texts v) ∙ go v.items h
  where
    go : (ns : List (Bor Text)) → b ≡ (length ns == 0)
        → said (codes "required") (array (text_items (map (λ n. n.now) ns))) ∷ [] ≡ required_at (text_items (map (λ n. n.now) ns))
    go [] h = absurd (true≢false (sym h ∙ e))
    go (n ∷ ns) h = refl

pub in_order : (e : KeywordTemplate) (xs ys zs : List KeywordTemplate) → ((e ∷ xs) ++ ys) ++ zs ≡ e ∷ (xs ++ (ys ++ zs))
in_order e xs ys zs = ap (λ es. e ∷ es) (append_assoc xs ys zs)

pub closed_true : (b : Bool) → b ≡ true → said (codes "additionalProperties") (boolean false) ∷ [] ≡ closed_keyword b
closed_true true e = refl
closed_true false e = absurd (true≢false (sym e))
