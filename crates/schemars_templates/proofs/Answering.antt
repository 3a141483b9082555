-- A template with the keywords of answers put in: what it asks, and how it is filled.
use Rattle.std.proofs.Common.{rules, Box, Vec, Global, ◌≡◌, List, [], ◌∷◌, ◌++◌, map, sym, ap, ◌∙◌, append-nil, append_assoc}
use Rattle.schemars_templates.proofs.Words.{Data, Ask, Template, finished, asked, with_keywords, asks_of, filled, left, ask_of, template_view, node_view, with_answers}
use Rattle.schemars_templates.specs.declared.template.Ask as src-ask
use Rattle.schemars_templates.specs.declared.template.SchemaTemplate.{SchemaTemplate}
use Rattle.schemars_templates.specs.declared.template.SchemaNode as src
use Rattle.schemars_templates.specs.declared.template.SchemaNode.{the_lemmas}

pub seen_members : (t : Box SchemaTemplate Global) (asks : Vec src-ask.Ask Global)
    → node_view (src.WithMembers t asks) ≡ with_answers (template_view t.value) (map ask_of asks.items)
seen_members t asks = search (rules, the_lemmas)

pub answers_asked : (t : Template) (rest : List Ask) → asks_of (with_answers t rest) ≡ asks_of t ++ rest
answers_asked t [] = sym (append-nil (asks_of t))
answers_asked t (a ∷ rest) = answers_asked (with_keywords t (asked a)) rest ∙ append_assoc (asks_of t) (a ∷ []) rest

-- the template may be filled first, whatever is read of the whole
pub filled_first : {R : Type 0} (G : Template → List Data → R)
    → ((t : Template) (ts : List Data) → G t ts ≡ G (finished (filled t ts)) (left t ts))
    → (t : Template) (rest : List Ask) (ts : List Data)
    → G (with_answers t rest) ts ≡ G (with_answers (finished (filled t ts)) rest) (left t ts)
filled_first G may t [] ts = may t ts
filled_first G may t (a ∷ rest) ts =
    filled_first G may (with_keywords t (asked a)) rest ts
    ∙ sym (filled_first G may (with_keywords (finished (filled t ts)) (asked a)) rest (left t ts))

-- and the rest is then read of the whole
pub answers_later : {R : Type 0} (G : Template → List Data → R)
    → ((t : Template) (ts : List Data) → G t ts ≡ G (finished (filled t ts)) (left t ts))
    → (t : Template) (rest : List Ask) (whole : Template) → with_answers t rest ≡ whole → (ts us : List Data) (d : Data)
    → d ≡ filled t ts → us ≡ left t ts → G (with_answers (finished d) rest) us ≡ G whole ts
answers_later G may t rest whole same ts us d is later =
    ap (λ e. G (with_answers (finished e) rest) us) is
    ∙ (ap (G (with_answers (finished (filled t ts)) rest)) later ∙ (sym (filled_first G may t rest ts) ∙ ap (λ u. G u ts) same))
