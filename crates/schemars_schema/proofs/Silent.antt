-- Keywords that aren't there say nothing.
use Rattle.std.proofs.Common.{◌≡◌, Option, Some, None, Bool, true, false, refl}
use Rattle.schemars_schema.proofs.Words.{Data, Text, Yes, where_some, const_says, items_say, unevaluated_properties_say}

pub silent : {A : Type 0} (o : Option A) → where_some o (λ x. Yes) ≡ Yes
silent None = refl
silent (Some x) = refl

pub items_none : (reads : Bool) (v : Data) → items_say reads None None None v ≡ Yes
items_none true v = refl
items_none false v = refl

pub const_none : (reads : Bool) (v : Data) → const_says reads None v ≡ Yes
const_none true v = refl
const_none false v = refl

pub unevaluated_none : (reads : Bool) (judged : Text → Bool) (v : Data) → unevaluated_properties_say reads judged None v ≡ Yes
unevaluated_none true judged v = refl
unevaluated_none false judged v = refl
