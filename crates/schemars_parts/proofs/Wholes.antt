-- Parts that are JSON of 64-bit whole numbers.
use Rattle.std.proofs.Common.{List, [], ◌∷◌, zero, suc, arith}
use Rattle.schemars_parts.proofs.Words.{IsUtf8-from_ascii, IsUtf8, ⊤, codes, IsAscii, Text, IsWholeJson, AreWholeJsonMembers, IsSorted, assembled_view, reference_to, members_assembled}
use Rattle.schemars_parts.proofs.Entries.{Entry}

key_is_ascii : IsAscii (codes "$ref")
key_is_ascii zero = omega arith
key_is_ascii (suc zero) = omega arith
key_is_ascii (suc (suc zero)) = omega arith
key_is_ascii (suc (suc (suc zero))) = omega arith
key_is_ascii (suc (suc (suc (suc i)))) = omega arith

-- the key of a reference is UTF-8, as its target is
pub whole_reference : (target : Text) → IsUtf8 target → IsWholeJson (reference_to target)
whole_reference target h = (IsUtf8-from_ascii (codes "$ref") key_is_ascii, h, tt, tt)

abbrev pub AreWholeEntries : List Entry → Type 0
AreWholeEntries [] = ⊤
AreWholeEntries (e ∷ es) = IsUtf8 e.0.now × IsWholeJson (assembled_view e.1) × AreWholeEntries es

-- where the keys ascend, the entries decide
pub whole_members : (es : List Entry) → AreWholeEntries es → IsSorted (members_assembled es) → AreWholeJsonMembers (members_assembled es)
whole_members [] h sorted = tt
whole_members (e ∷ es) h sorted = (h.0, h.1, sorted.0, whole_members es h.2 sorted.1)
