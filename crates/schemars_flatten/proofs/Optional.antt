-- What is made of parts that may be missing, in the words of what is meant.
use Rattle.std.proofs.Common.{◌≡◌, Option, Some, None, Bool, true, false, List, [], ◌∷◌, ◌++◌, length, IsTrue, codes, refl, sym, ap, ◌∙◌, arith}
use Rattle.schemars_flatten.proofs.Words.{if◌then◌else◌, Data, object, no_members, get, view, items_view, members_view, Entry, Text, removed, with_item, items_view-push, flattened, is_empty_object, holds_empty_object, with_empty_object, one_or_anything, choice_or_anything}
use Rattle.serde_json.specs.declared.value.Value.{Value}
use Rattle.schemars_flatten.proofs.Parts.{without_missing}

pub empty_object : (b : Bool) (es : List Entry) → (IsTrue b → length es ≡ 0) → (length es ≡ 0 → IsTrue b)
    → b ≡ is_empty_object (object (members_view es))
empty_object b [] none all = all refl
empty_object true (e ∷ es) none all = absurd (omega (arith, none refl))
empty_object false (e ∷ es) none all = refl

pub empty_pushed : (xs : List Value) (x : Value) → holds_empty_object (items_view xs) ≡ false
    → view x ≡ object no_members
    → items_view (xs ++ x ∷ []) ≡ with_empty_object (items_view xs)
empty_pushed xs x absent is =
    let ds = items_view xs in
    items_view-push xs x
    ∙ (ap (with_item ds) is ∙ ap (λ b. if b then ds else with_item ds (object no_members)) (sym absent))

removed_missing : (k : Text) (s : Data) → None ≡ get k s → removed k s ≡ s
removed_missing k (object ms) h = ap object (without_missing k ms h)
removed_missing k _ h = refl

pub no_choice : (s new : Data) → None ≡ get (codes "oneOf") s → new ≡ removed (codes "oneOf") s
    → new ≡ choice_or_anything s
no_choice s new missing made = made ∙ (removed_missing (codes "oneOf") s missing ∙ go (get (codes "oneOf") s) missing)
  where
    go : (o : Option Data) → None ≡ o → s ≡ elim o [
      | None ↦ s
      | Some choice ↦ flattened (removed (codes "oneOf") s) (one_or_anything choice)
    ]
    go None h = refl
    go (Some choice) h = cc
