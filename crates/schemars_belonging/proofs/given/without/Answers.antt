-- The copy of a map has copies of its keys and its values.
use Rattle.std.proofs.Common.{◌≡◌, List, [], ◌∷◌, refl, ap, ◌∙◌, string_bytes}
use Rattle.schemars_belonging.proofs.Words.{AllZip, Members, object, view, members_view, view-Object, without}
use Rattle.serde_json.proofs.Views.{Entry}
use Rattle.schemars_belonging.proofs.given.without.Goals as goal

same_members : (es fs : List Entry) → AllZip (λ e f. (string_bytes f.0 ≡ string_bytes e.0) × (view f.1 ≡ view e.1)) es fs
    → members_view fs ≡ members_view es
same_members [] [] same = refl
same_members [] (f ∷ fs) same = absurd same
same_members (e ∷ es) [] same = absurd same
same_members (e ∷ es) (f ∷ fs) same = rw (same.0.0, same.0.1, same_members es fs same.1) refl

pub returns : goal.returns
returns c = view-Object c.remove.new.members ∙ ap object (c.remove.ensures
    ∙ ap (λ (ms : Members). without c.args.key.now ms) (same_members c.args.members.now.entries c.in_ok-rest.rest.entries
    c.in_ok-rest.ensures.cases))
