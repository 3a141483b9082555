use Rattle.std.proofs.Common.{◌≡◌, List, [], ◌∷◌, Option, Some, None, String, string_bytes, MatchOption, IfOk, map, subst, inr}
use Rattle.std.specs.Prelude.{bytes_eq}
use Rattle.schemars_shapes.proofs.Words.{IsDistinct, Global, IfOk-weaker, Text, variant_of, variant_names, IsRepeated, AreDistinctLists, IsFirstRepeated}
use Rattle.schemars_shapes.proofs.edges.adjacent.repeated_name.Goals as goal

behind : (names : List Text) (lists : List (List Text)) → IsDistinct bytes_eq names → (o : Option (String Global))
    → MatchOption o (AreDistinctLists lists) (λ s. IsFirstRepeated lists (string_bytes s))
    → MatchOption o (AreDistinctLists (names ∷ lists)) (λ s. IsFirstRepeated (names ∷ lists) (string_bytes s))
behind names lists distinct None h = (distinct, h)
behind names lists distinct (Some s) h = inr (distinct, h)

pub returns-in-None : goal.returns-in-None
returns-in-None c =
    let keys = c.args.adjacent.now.tag.bytes.items ∷ c.args.adjacent.now.content.bytes.items ∷ [] in
    let told = c.as_str.result.now ∷ c.as_str-2.result.now ∷ [] in
    let same : told ≡ keys = λ i. c.as_str.ensures.value i ∷ c.as_str-2.ensures.value i ∷ [] in
    let distinct : IsDistinct bytes_eq told =
    subst (λ o. MatchOption o (IsDistinct bytes_eq told) (λ s. IsRepeated told (string_bytes s))) c.in-None.is c.in_ok-name.ensures in
    subst (λ xs. IfOk c.repeated_in.result (λ o. MatchOption o (AreDistinctLists (keys ∷ variant_names (map variant_of xs)))
    (λ s. IsFirstRepeated (keys ∷ variant_names (map variant_of xs)) (string_bytes s)))) c.deref.ensures.value
    (IfOk-weaker c.repeated_in.result _ _
    (behind keys (variant_names (map variant_of c.deref.result.now)) (subst (IsDistinct bytes_eq) same distinct)) c.repeated_in.ensures)
