-- Keywords that are filled one after another.
use Rattle.std.proofs.Common.{◌≡◌, ◌++◌, List, map}
use Rattle.schemars_render.proofs.Words.{Data, Keyword, filled_in, left, keyed, KeywordTemplate, object_with, templates_of}

-- each of the keywords with what its template is filled with
abbrev pub filled_keywords : List KeywordTemplate → List Data → List Keyword
filled_keywords es ts = keyed (map (λ e. e.0) es) (filled_in (templates_of (map (λ e. e.1) es)) ts)

-- what is done, and then these keywords, are all of them
abbrev pub GoesOn : {X : Type 0} → (X → KeywordTemplate) → List X → List Data → List Keyword → List X → List Data → Type 0
GoesOn see es ts done all us = record {
  value : done ++ filled_keywords (map see es) ts ≡ filled_keywords (map see all) us;
  left : left (object_with (map see es)) ts ≡ left (object_with (map see all)) us;
}
