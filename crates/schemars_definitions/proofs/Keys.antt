-- The keys of a map ascend.
use Rattle.std.proofs.Common.{◌≡◌, List, [], ◌∷◌, None, Less, nat_cmp, refl, string_cmp, String, Global, string_bytes}
use Rattle.schemars_definitions.proofs.Words.{slice_cmp, AllByRecursion, IsStrictlySortedBy, keys_of, Data, get_member, view, members_view, Entry, members_by, HasKeysOnce}

-- ---- so each is there once

absent_above : {X : Type 0} (data_of : X → Data) (key : String Global) (es : List (String Global × X))
    → AllByRecursion (λ l. string_cmp key l ≡ Less) (keys_of es) → get_member (string_bytes key) (members_by data_of es) ≡ None
absent_above data_of key [] above = refl
absent_above data_of key (e ∷ es) above = let less : slice_cmp nat_cmp (string_bytes key) (string_bytes e.0) ≡ Less = above.0 in
    rw less (absent_above data_of key es above.1)

pub entries_once : {X : Type 0} (data_of : X → Data) (es : List (String Global × X)) → IsStrictlySortedBy string_cmp (keys_of es)
    → HasKeysOnce (members_by data_of es)
unfolding IsStrictlySortedBy
entries_once data_of [] sorted = tt
entries_once data_of (e ∷ es) sorted = (absent_above data_of e.0 es sorted.0, entries_once data_of es sorted.1)

pub map_once : (es : List Entry) → IsStrictlySortedBy string_cmp (keys_of es) → HasKeysOnce (members_view es)
map_once es sorted = entries_once view es sorted
