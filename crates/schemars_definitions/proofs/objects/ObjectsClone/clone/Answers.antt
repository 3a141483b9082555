-- The copy of a map has copies of its keys and its values.
use Rattle.std.proofs.Common.{◌≡◌, List, [], ◌∷◌, refl, ◌∙◌, string_bytes}
use Rattle.schemars_definitions.proofs.Words.{AllZip, view, members_view, Entry}
use Rattle.schemars_definitions.proofs.objects.ObjectsClone.clone.Goals as goal

same_members : (es fs : List Entry) → AllZip (λ e f. (string_bytes f.0 ≡ string_bytes e.0) × (view f.1 ≡ view e.1)) es fs
    → members_view fs ≡ members_view es
same_members [] [] same = refl
same_members [] (f ∷ fs) same = absurd same
same_members (e ∷ es) [] same = absurd same
same_members (e ∷ es) (f ∷ fs) same = rw (same.0.0, same.0.1, same_members es fs same.1) refl

pub returns : goal.returns
returns c = record {
  cases = same_members c.self.inside.members.entries c.in_ok-members.members.entries c.in_ok-members.ensures.cases ∙ c.self.view_is;
}
