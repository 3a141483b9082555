-- What is made of a value that may be missing has what each such value gives it.
use Rattle.std.proofs.Common.{Option, Some, None}
use Rattle.std.specs.Prelude.{option_map, option_and_then}
use Rattle.std.specs.Option.{IfSome}

module _ {A B : Type 0} (P : A → Type 0) (Q : B → Type 0) where
  pub if_mapped : (f : A → B) (o : Option A) → ((a : A) → P a → Q (f a)) → IfSome o P → IfSome (option_map f o) Q
  if_mapped f None keeps h = tt
  if_mapped f (Some a) keeps h = keeps a h

  pub if_next : (f : A → Option B) (o : Option A) → ((a : A) → P a → IfSome (f a) Q) → IfSome o P → IfSome (option_and_then f o) Q
  if_next f None keeps h = tt
  if_next f (Some a) keeps h = keeps a h
