-- A schema with notes, where there are some.
use Rattle.std.proofs.Common.{◌≡◌, List, [], ◌∷◌, length, Bool, true, false, IsTrue, refl, true≢false}
use Rattle.schemars_templates.proofs.Words.{Data, object, members_view, Entry, put_members, members_in, annotated}

pub annotated-some : (es : List Entry) (b : Bool) → b ≡ false → (length es ≡ 0 → IsTrue b) → (s : Data)
    → object (put_members (members_view es) (members_in s)) ≡ annotated (members_view es) s
annotated-some [] true e h s = absurd (true≢false e)
annotated-some [] false e h s = absurd (true≢false (let t : false ≡ true = h refl in cc))
annotated-some (x ∷ es) b e h s = refl
