-- The texts of a list of texts.
use Rattle.std.proofs.Common.{◌≡◌, ◌∷◌, List, Bool, true, false, refl, sym, ap, ◌∙◌, Option, Some, None}
use Rattle.schemars_assertions.proofs.Words.{◌&&◌, ◌||◌, option_map, option_and_then, bytes_eq, codes, is_some, Data, array, Items, no_items, item, Members, as_str, as_array, as_object, is_listed, bytes_eq_comm, Text, holds_text, is_text, Verdict, Yes, verdict, where_some, when, type_says, type_fits, is_of_some_type, is_true, is_null, texts_in, types_in, are_type_names, have_all, required_says, are_texts, texts_of, with_text}

joined : (b : Bool) (t : Text) (ts : List Text) → option_map (λ us. t ∷ us) (when b ts) ≡ when b (t ∷ ts)
joined true t ts = refl
joined false t ts = refl

pub texts_found : (ds : Items) → texts_in ds ≡ when (are_texts ds) (texts_of ds)
texts_found no_items = refl
texts_found (item d ds) = go (as_str d) (texts_found ds)
  where
    go : (s : Option Text) → texts_in ds ≡ when (are_texts ds) (texts_of ds)
        → option_and_then (λ t. option_map (λ ts. t ∷ ts) (texts_in ds)) s
        ≡ when (is_some s && are_texts ds) (with_text s (texts_of ds))
    go None later = refl
    go (Some t) later = ap (option_map (λ ts. t ∷ ts)) later ∙ joined (are_texts ds) t (texts_of ds)

-- ---- types

types_listed : (ds : Items) → types_in (array ds) ≡ option_and_then (λ ts. when (are_type_names ts) ts) (when (are_texts ds) (texts_of ds))
types_listed ds = ap (option_and_then (λ ts. when (are_type_names ts) ts)) (texts_found ds)

pub types_there : (f : List Text → Verdict) (ds : Items) → are_texts ds ≡ true → are_type_names (texts_of ds) ≡ true
    → where_some (types_in (array ds)) f ≡ f (texts_of ds)
types_there f ds texts names = rw (types_listed ds, texts, names)

pub no_texts : (f : List Text → Verdict) (ds : Items) → are_texts ds ≡ false → where_some (types_in (array ds)) f ≡ Yes
no_texts f ds texts = rw (types_listed ds, texts)

pub no_types : (f : List Text → Verdict) (ds : Items) → are_texts ds ≡ true → are_type_names (texts_of ds) ≡ false
    → where_some (types_in (array ds)) f ≡ Yes
no_types f ds texts names = rw (types_listed ds, texts, names)

pub holds_listed : (t : Text) (ds : Items) → holds_text t ds ≡ is_listed t (texts_of ds)
holds_listed t no_items = refl
holds_listed t (item d ds) = go (as_str d) (holds_listed t ds)
  where
    go : (s : Option Text) → holds_text t ds ≡ is_listed t (texts_of ds)
        → (is_text t s || holds_text t ds) ≡ is_listed t (with_text s (texts_of ds))
    go None later = later
    go (Some u) later = ap (λ b. b || holds_text t ds) (bytes_eq_comm u t) ∙ ap (λ b. bytes_eq t u || b) later

fits_plainly : (nullable : Option Data) (ts : List Text) (v : Data) (r b : Bool) → r ≡ false → b ≡ is_of_some_type ts v
    → verdict b ≡ verdict (type_fits r nullable ts v)
fits_plainly nullable ts v r b plain fits = rw (plain, fits)

pub plain_says : (nullable : Option Data) (ds : Items) (v : Data) (r b : Bool) → are_texts ds ≡ true → are_type_names (texts_of ds) ≡ true
    → r ≡ false → b ≡ is_of_some_type (texts_of ds) v → verdict b ≡ type_says r (Some (array ds)) nullable v
plain_says nullable ds v r b texts names plain fits =
    fits_plainly nullable (texts_of ds) v r b plain fits ∙ sym (types_there _ ds texts names)

pub null_says : (nullable : Option Data) (ds : Items) (v : Data) (r : Bool) → are_texts ds ≡ true → are_type_names (texts_of ds) ≡ true
    → r ≡ true → holds_text (codes "null") ds ≡ true → Yes ≡ type_says r (Some (array ds)) nullable v
null_says nullable ds v r texts names read null =
    null_fits (sym (holds_listed (codes "null") ds) ∙ null) ∙ sym (types_there _ ds texts names)
  where
    null_fits : is_listed (codes "null") (texts_of ds) ≡ true → Yes ≡ verdict (type_fits r nullable (texts_of ds) v)
    null_fits listed = rw (read, listed)

either_passes : (a b c : Bool) → c ≡ true → true ≡ (a || (b || c))
either_passes true b c h = refl
either_passes false true c h = refl
either_passes false false c h = sym h

pub passing_says : (nullable : Option Data) (ds : Items) (v : Data) (r : Bool) → are_texts ds ≡ true → are_type_names (texts_of ds) ≡ true
    → r ≡ true → (is_true nullable && is_null v) ≡ true → Yes ≡ type_says r (Some (array ds)) nullable v
passing_says nullable ds v r texts names read passes = fits ∙ sym (types_there _ ds texts names)
  where
    fits : Yes ≡ verdict (type_fits r nullable (texts_of ds) v)
    fits = rw read (ap verdict (either_passes (is_listed (codes "null") (texts_of ds)) (is_of_some_type (texts_of ds) v) _ passes))

no_other : (a b c d : Bool) → a ≡ false → c ≡ false → d ≡ b → d ≡ (a || (b || c))
no_other a true c d none off is = rw (none, is)
no_other a false c d none off is = rw (none, is, off)

pub nullable_says : (nullable : Option Data) (ds : Items) (v : Data) (r b : Bool) → are_texts ds ≡ true → are_type_names (texts_of ds) ≡ true
    → r ≡ true → holds_text (codes "null") ds ≡ false → (is_true nullable && is_null v) ≡ false → b ≡ is_of_some_type (texts_of ds) v
    → verdict b ≡ type_says r (Some (array ds)) nullable v
nullable_says nullable ds v r b texts names read null passes is = fits ∙ sym (types_there _ ds texts names)
  where
    fits : verdict b ≡ verdict (type_fits r nullable (texts_of ds) v)
    fits = rw read (ap verdict (no_other (is_listed (codes "null") (texts_of ds)) (is_of_some_type (texts_of ds) v) _ b
        (sym (holds_listed (codes "null") ds) ∙ null) passes is))

-- ---- keys

pub keys_there : (x v : Data) (ds : Items) (ms : Members) → Some ds ≡ as_array x → Some ms ≡ as_object v → are_texts ds ≡ true
    → required_says (Some x) v ≡ verdict (have_all (texts_of ds) ms)
keys_there x v ds ms list object texts = rw (← list, ← object, texts_found ds, texts)

pub no_keys : (x v : Data) (ds : Items) (ms : Members) → Some ds ≡ as_array x → Some ms ≡ as_object v → are_texts ds ≡ false
    → required_says (Some x) v ≡ Yes
no_keys x v ds ms list object texts = rw (← list, ← object, texts_found ds, texts)
