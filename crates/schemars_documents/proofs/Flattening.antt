-- A template with the keywords of flattened rows put in.
use Rattle.std.proofs.Common.{◌≡◌, List, [], ◌∷◌, map, refl}
use Rattle.schemars_documents.proofs.Words.{Flattened, Template, asked, with_keywords, with_answers, members_asked, with_flattened}
use Rattle.schemars_types.specs.declared.contract.Contract.{Contract}

pub flattened_answers : (contract : Contract) (ps : List Flattened) (t : Template)
    → with_answers t (map (members_asked contract) ps) ≡ with_flattened contract ps t
flattened_answers contract [] t = refl
flattened_answers contract (p ∷ ps) t = flattened_answers contract ps (with_keywords t (asked (members_asked contract p)))
