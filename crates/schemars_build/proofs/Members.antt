-- Members of many keys, taken out again.
use Rattle.std.proofs.Common.{◌≡◌, ◌⊎◌, inl, inr, zero, suc, List, [], ◌∷◌, ◌++◌, Bool, true, false, None, refl, ap, ◌∙◌, arith, Contains}
use Rattle.std.specs.Prelude.{bytes_eq}
use Rattle.schemars_build.proofs.Words.{bytes_eq-Decides, Data, Members, put, get_member, Text, replaced, without_all, without, without-put, without-replaced, without-replaced_other}

pub without_all-joined : (ks : List Text) (k : Text) (ms : Members) → without_all (ks ++ k ∷ []) ms ≡ without_all ks (without k ms)
without_all-joined [] k ms = refl
without_all-joined (q ∷ ks) k ms = ap (without q) (without_all-joined ks k ms)

-- what is put at a new key goes with the key
pub without_all-put : (ks : List Text) (k : Text) (d : Data) (ms : Members) → get_member k ms ≡ None
    → without_all (ks ++ k ∷ []) (put k d ms) ≡ without_all ks ms
without_all-put ks k d ms h = without_all-joined ks k (put k d ms) ∙ ap (without_all ks) (without-put k d ms h)

gone_or_replaced : (ks : List Text) (k : Text) (d : Data) (ms : Members)
    → (without_all ks (replaced k d ms) ≡ without_all ks ms) ⊎ (without_all ks (replaced k d ms) ≡ replaced k d (without_all ks ms))
gone_or_replaced [] k d ms = inr refl
gone_or_replaced (q ∷ ks) k d ms = go (gone_or_replaced ks k d ms)
  where
    by : (b : Bool) → bytes_eq q k ≡ b → without_all ks (replaced k d ms) ≡ replaced k d (without_all ks ms)
        → (without_all (q ∷ ks) (replaced k d ms) ≡ without_all (q ∷ ks) ms)
        ⊎ (without_all (q ∷ ks) (replaced k d ms) ≡ replaced k d (without_all (q ∷ ks) ms))
    by true is e = inl (ap (without q) e ∙ (let same : q ≡ k = (bytes_eq-Decides q k).0 is in
        rw same (without-replaced k d (without_all ks ms))))
    by false is e = inr (ap (without q) e ∙ without-replaced_other q k d (without_all ks ms) is)

    go : (without_all ks (replaced k d ms) ≡ without_all ks ms) ⊎ (without_all ks (replaced k d ms) ≡ replaced k d (without_all ks ms))
        → (without_all (q ∷ ks) (replaced k d ms) ≡ without_all (q ∷ ks) ms)
        ⊎ (without_all (q ∷ ks) (replaced k d ms) ≡ replaced k d (without_all (q ∷ ks) ms))
    go (inl e) = inl (ap (without q) e)
    go (inr e) = by (bytes_eq q k) refl e

-- what is replaced at one of the keys goes with the key
pub without_all-replaced : (ks : List Text) (k : Text) (d : Data) (ms : Members) → Contains ks k
    → without_all ks (replaced k d ms) ≡ without_all ks ms
without_all-replaced [] k d ms (i, less, at) = absurd (omega arith)
without_all-replaced (q ∷ ks) k d ms (zero, less, at) = go (gone_or_replaced ks k d ms)
  where
    go : (without_all ks (replaced k d ms) ≡ without_all ks ms) ⊎ (without_all ks (replaced k d ms) ≡ replaced k d (without_all ks ms))
        → without_all (q ∷ ks) (replaced k d ms) ≡ without_all (q ∷ ks) ms
    go (inl e) = ap (without q) e
    go (inr e) = ap (without q) e ∙ (let same : q ≡ k = at in rw same (without-replaced k d (without_all ks ms)))
without_all-replaced (q ∷ ks) k d ms (suc i, less, at) = ap (without q) (without_all-replaced ks k d ms (i, omega (arith, less), at))
