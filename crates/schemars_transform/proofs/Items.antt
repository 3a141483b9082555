-- The value of `items`, call by call.
use Rattle.std.proofs.Common.{◌≡◌, Some, codes}
use Rattle.schemars_transform.proofs.Words.{Data, object, get, members_in, replaced, Answer, TransformStep, AtSchema, AtItems}

module _ {S : Type 0} (Q : TransformStep S) (s u : S) where
  pub items_changed : (d i j e : Data) (r : Answer) → Some i ≡ get (codes "items") d → AtSchema Q s i r u j
      → e ≡ object (replaced (codes "items") j (members_in d)) → AtItems Q s d r u e
  items_changed d i j e r found call is = rw (← found) (j, call, is)
