-- Members through a transform of which a part of the state is seen.
use Rattle.std.proofs.Common.{inl, inr, Ok, Err, ap}
use Rattle.serde_json.specs.Data.{Data, boolean, object, Members, no_members, member}
use Rattle.schemars_walk.specs.Walk.{Answer, TransformStep, EachMember, AtSchema}

module _ {S T : Type 0} (Q : TransformStep S) (P : TransformStep T) (part : T → S)
    (seen : (t u : T) (d e : Data) (r : Answer) → P t d r u e → Q (part t) d r (part u) e) where
  at_schema : (t u : T) (d e : Data) (r : Answer) → AtSchema P t d r u e → AtSchema Q (part t) d r (part u) e
  at_schema t u (boolean b) e r h = seen t u (boolean b) e r h
  at_schema t u (object ms) e r h = seen t u (object ms) e r h
  at_schema t u _ e r h = (h.0, ap part h.1, h.2)

  pub each_seen : (t u : T) (ms es : Members) (r : Answer) → EachMember (λ k. AtSchema P) t ms r u es
      → EachMember (λ k. AtSchema Q) (part t) ms r (part u) es
  each_seen t u no_members es r h = (h.0, ap part h.1, h.2)
  each_seen t u (member k d ms) es r (Ok x, w, e, one, inl (full, stays)) =
      (Ok x, part w, e, at_schema t w d e (Ok x) one, inl (full, ap part stays))
  each_seen t u (member k d ms) es r (Ok x, w, e, one, inr (fs, rest, same)) =
      (Ok x, part w, e, at_schema t w d e (Ok x) one, inr (fs, each_seen w u ms fs r rest, same))
  each_seen t u (member k d ms) es r (Err x, w, e, one, (is, stays)) =
      (Err x, part w, e, at_schema t w d e (Err x) one, (is, ap part stays))
