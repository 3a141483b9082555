-- A comma where one is due, and the token's text.
use Rattle.std.proofs.Common.{Bool, List, ℕ, ◌&&◌, cond, ◌∷◌, [], ◌++◌, refl, ap, ap₂}
use Rattle.schemars_text.proofs.Words.{token_text, token_of, with_token}
use Rattle.schemars_text.proofs.Becomings.{adds_then, gathered_same}
use Rattle.schemars_text.proofs.gathered.GatheredTarget.token.Goals as goal

pub returns : goal.returns
returns g c = λ start o h.
    let t = token_of c.args.token in
    let due = ap₂ (λ (after begun : Bool). cond (after && begun) (44 ∷ []) []) h.0 c.begins.ensures in (
      with_token o t,
      (
        c.ends-self.ensures,
        gathered_same start o.text _ _ _ _ _ _ (ap (λ (l : List ℕ). l ++ token_text t) due)
            (adds_then _ _ _ _ _ _ _ _ _ _ _ _ _ _ c.put_comma.ensures.adds c.put_token.ensures.adds start o.text h.1),
      ),
      λ _. refl,
    )
