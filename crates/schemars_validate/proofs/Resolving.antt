-- Where a reference leads to.
use Rattle.std.proofs.Common.{◌≡◌, ◌≢◌, [], ◌∷◌, Some, None, refl, ap, ne_eqb}
use Rattle.schemars_validate.proofs.Words.{option_and_then, Data, pointer, Text, percent_decoded, resolved, schema_only}

pub no_fragment : (r : Text) (d : Data) → ((rest : Text) → r ≢ 35 ∷ rest) → None ≡ resolved d r
unfolding resolved
no_fragment [] d h = refl
no_fragment (x ∷ rest) d h = rw (ne_eqb x 35 (λ e. h rest (ap (λ y. y ∷ rest) e))) refl

pub no_path : (r rest : Text) (d : Data) → r ≡ 35 ∷ rest → percent_decoded rest ≡ None → None ≡ resolved d r
unfolding resolved
no_path r rest d is none = rw (is, none) refl

pub path_found : (r rest path : Text) (d : Data) → r ≡ 35 ∷ rest → percent_decoded rest ≡ Some path
    → option_and_then schema_only (pointer path d) ≡ resolved d r
unfolding resolved
path_found r rest path d is some = rw (is, some) refl
