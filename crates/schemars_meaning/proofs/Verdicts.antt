-- Verdicts together.
use Rattle.std.proofs.Common.{◌≡◌, List, [], ◌∷◌, map, Bool, true, false, refl}
use Rattle.schemars_meaning.proofs.Words.{◌&&◌, not, both, verdict, opposite, one_of, exactly_one, none}
use Rattle.schemars_schema.specs.Verdict.{none_of}

pub none_verdict : (bs : List Bool) → none_of (map verdict bs) ≡ verdict (none bs)
none_verdict [] = refl
none_verdict (b ∷ bs) = rw (none_verdict bs) (go b (none bs))
  where
    go : (a b : Bool) → both (opposite (verdict a)) (verdict b) ≡ verdict (not a && b)
    go true true = refl
    go true false = refl
    go false b = refl

pub one_verdict : (bs : List Bool) → one_of (map verdict bs) ≡ verdict (exactly_one bs)
one_verdict [] = refl
one_verdict (true ∷ bs) = none_verdict bs
one_verdict (false ∷ bs) = one_verdict bs
