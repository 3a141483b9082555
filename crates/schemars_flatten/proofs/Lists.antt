-- Lists and what is changed in them, in the words of what is meant.
use Rattle.std.proofs.Common.{◌≡◌, Some, None, Option, refl, ap, ◌∙◌}
use Rattle.schemars_flatten.proofs.Words.{Data, object, Items, get, Text, members_in, replaced, on_list, list_changed_at}

pub list_changed : (k : Text) (change : Items → Items) (s d e new : Data) → Some d ≡ get k s
    → e ≡ on_list change d
    → new ≡ object (replaced k e (members_in s)) → new ≡ list_changed_at k change s
list_changed k change s d e new found changed made =
    made ∙ (ap (λ x. object (replaced k x (members_in s))) changed ∙ go (get k s) found)
  where
    go : (o : Option Data) → Some d ≡ o → object (replaced k (on_list change d) (members_in s))
        ≡ elim o [ None ↦ s | Some f ↦ object (replaced k (on_list change f) (members_in s)) ]
    go None h = cc
    go (Some f) h =
        let same : d ≡ f = cc in ap (λ x. object (replaced k (on_list change x) (members_in s))) same

pub no_list : (k : Text) (change : Items → Items) (s new : Data) → None ≡ get k s → new ≡ s
    → new ≡ list_changed_at k change s
no_list k change s new missing kept = kept ∙ go (get k s) missing
  where
    go : (o : Option Data) → None ≡ o
        → s ≡ elim o [ None ↦ s | Some f ↦ object (replaced k (on_list change f) (members_in s)) ]
    go None h = refl
    go (Some f) h = cc

-- ---- turns of a loop over a list
