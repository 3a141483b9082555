-- JSON values as `serde_json` holds them.
use Rattle.std.proofs.Common.{◌≡◌, List, [], ◌∷◌, String, Global, rules, string_bytes}
use Rattle.schemars_assertions.proofs.Words.{IsUtf8-string_bytes, values_of, string, view, items_view, members_view, Entry, IsJson, AreJson, AreJsonMembers, IsSorted}
use Rattle.serde_json.specs.declared.value.Value as value

view-String : (s : String Global) → view (value.String s) ≡ string (string_bytes s)
view-String s = search (rules, value.the_lemmas)

-- the bytes of a text are UTF-8
pub text-json : (s : String Global) → IsJson (view (value.String s))
text-json s = rw (view-String s) (IsUtf8-string_bytes s)

-- where the keys ascend, the values decide
pub entries-json : (es : List Entry) → AreJson (items_view (values_of es)) → IsSorted (members_view es) → AreJsonMembers (members_view es)
entries-json [] h s = tt
entries-json (e ∷ es) h s = (IsUtf8-string_bytes e.0, h.0, s.0, entries-json es h.1 s.1)
