-- What a list of transforms does.
use Rattle.std.specs.Prelude.{◌≡◌, List, [], ◌∷◌}
use Rattle.serde_json.specs.Data.{Data}
use Rattle.schemars_walk.specs.Walk.{Answer, TransformStep, Next, PassedOver}

-- each on what the one before it left; after a refusal the members behind it, and the value, stay as they are
abbrev pub InOrder : {S : Type 0} → TransformStep S → List S → Data → Answer → List S → Data → Type 0
InOrder Q [] d r us v = PassedOver [] d r us v
InOrder {S} Q (t ∷ ts) d r us v =
    (a : Answer) × (u : S) × (e : Data) × Q t d a u e
    × Next {S = List S × Data} a (u ∷ ts, e) r (us, v) ((vs : List S) × InOrder Q ts e r vs v × (us ≡ u ∷ vs))
