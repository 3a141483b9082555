-- The units of an enum, and the other items, as the code asks for them.
use Rattle.std.proofs.Common.{◌≡◌, List, [], ◌∷◌, length, map, true, false, refl, sym, ap, ◌∙◌, true≢false, arith, ℕ, suc, Bor}
use Rattle.schemars_documents.proofs.Words.{nat_tests, codes, ◌==◌, array, Items, Text, text_items, said, typed_template, object_with, one_of_template, choice_of, template_view}
use Rattle.schemars_templates.specs.Template as spec
use Rattle.schemars_templates.specs.declared.template.SchemaTemplate.{SchemaTemplate}

not_none : (n : ℕ) → (suc n == 0) ≡ false
not_none n = grind (arith, nat_tests)

-- the units of an enum, whatever the items are
abbrev pub units_of : Items → spec.Template
units_of names = object_with (typed_template (codes "string") ∷ said (codes "enum") (array names) ∷ [])

pub units_alone : (ks : List Text) (ns : List (Bor Text)) (ts : List spec.Template) → (length ns == 0) ≡ false
    → map (λ n. n.now) ns ≡ ks → (length ts == 0) ≡ true → units_of (text_items (map (λ n. n.now) ns)) ≡ choice_of ks ts
units_alone ks [] ts some same none = absurd (true≢false some)
units_alone [] (n ∷ ns) ts some same none = cc
units_alone (k ∷ ks) (n ∷ ns) [] some same none = ap (λ us. units_of (text_items us)) same
units_alone (k ∷ ks) (n ∷ ns) (t ∷ ts) some same none = absurd (true≢false (sym none ∙ not_none (length ts)))

pub units_lead : (ks : List Text) (ns : List (Bor Text)) (ts : List spec.Template) → (length ns == 0) ≡ false
    → map (λ n. n.now) ns ≡ ks → (length ts == 0) ≡ false
    → one_of_template (units_of (text_items (map (λ n. n.now) ns)) ∷ ts) ≡ choice_of ks ts
units_lead ks [] ts none same some = absurd (true≢false none)
units_lead [] (n ∷ ns) ts none same some = cc
units_lead (k ∷ ks) (n ∷ ns) [] none same some = absurd (true≢false some)
units_lead (k ∷ ks) (n ∷ ns) (t ∷ ts) none same some = ap (λ us. one_of_template (units_of (text_items us) ∷ t ∷ ts)) same

pub seen : (ts : List SchemaTemplate) → (length (map template_view ts) == 0) ≡ (length ts == 0)
seen [] = refl
seen (t ∷ ts) = not_none (length (map template_view ts)) ∙ sym (not_none (length ts))
