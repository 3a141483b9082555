-- What the document of a map says that has one member, or two, which have to be there.
use Rattle.std.proofs.Common.{◌≡◌, ◌<◌, List, [], ◌∷◌, Some, None, Bool, true, false, refl, sym, ◌∙◌, true≢false}
use Rattle.schemars_meaning.proofs.Words.{bytes_eq, bytes_eq-Decides, if◌then◌else◌, Data, no_members, depth, get_member, put, Text, IsJson, IsSchema, verdict, Context, judge, get_member-put, Keyword, get_member-put_other, not, member_named, has_members, has_member, must_have}
use Rattle.schemars_meaning.proofs.StructMeans.{IsFound, value_means}
use Rattle.schemars_meaning.proofs.MapDocument.{map_document}
use Rattle.schemars_meaning.proofs.Opened.{no_parts, map_form}
use Rattle.schemars_meaning.proofs.MapKeywords.{keywords}
use Rattle.schemars_meaning.proofs.Uniting.{form-keywords}

module _ (c : Context) (on : c.dialect.reads_unevaluated ≡ true) (v : Data) where
  -- what a schema says of what is inside the value
  abbrev pub SaysInside : Data → (Data → Bool) → Type 0
  SaysInside s p = (w : Data) → IsJson w → depth w < depth v → (judge c s).fits w ≡ verdict (p w)

  other_key : (k name : Text) → bytes_eq name k ≡ false → k ≡ name → ⊥
  other_key k name other same = true≢false (sym ((bytes_eq-Decides name k).1 (sym same)) ∙ other)

  pub found_one : (name : Text) (p : Data → Bool) (s : Data) → SaysInside s p → (k : Text)
      → IsFound c on v (member_named (must_have name p ∷ []) k) (get_member k (put name s no_members))
  found_one name p s says k = go (bytes_eq name k) refl
    where
      go : (b : Bool) → bytes_eq name k ≡ b
          → IsFound c on v (if b then Some (must_have name p) else None) (get_member k (put name s no_members))
      go true here = (s, rw (← (bytes_eq-Decides name k).0 here) (get_member-put name s no_members), says)
      go false other = get_member-put_other k name s no_members (other_key k name other)

  pub one_means : (name : Text) (p : Data → Bool) (s : Data) (closed : Bool) → IsSchema s → SaysInside s p → IsJson v
      → (judge c (map_document ((name, s) ∷ []) (name ∷ []) closed)).fits v ≡ verdict (has_member name p closed v)
  one_means name p s closed is says json =
      let es : List Keyword = (name, s) ∷ [] in
      value_means c on (must_have name p ∷ []) es (name ∷ []) no_parts closed (keywords es (name ∷ []) closed)
      (form-keywords _ _ (map_form [] es (name ∷ []) closed tt)) (is, tt) v (found_one name p s says) (λ ms. refl) json (tt, tt)

  module _ (first second : Text) (apart : bytes_eq first second ≡ false) (p q : Data → Bool) (s t : Data) (says : SaysInside s p)
      (tells : SaysInside t q) where
    found_two : (k : Text) → IsFound c on v (member_named (must_have first p ∷ must_have second q ∷ []) k)
        (get_member k (put second t (put first s no_members)))
    found_two k = go (bytes_eq first k) (bytes_eq second k) refl refl
      where
        same_key : (name : Text) → bytes_eq name k ≡ true → name ≡ k
        same_key name here = (bytes_eq-Decides name k).0 here

        apart_at : bytes_eq first k ≡ true → bytes_eq second k ≡ true → ⊥
        apart_at here there = true≢false (sym ((bytes_eq-Decides first second).1 (same_key first here ∙ sym (same_key second there))) ∙ apart)

        go : (b d : Bool) → bytes_eq first k ≡ b → bytes_eq second k ≡ d
            → IsFound c on v (if b then Some (must_have first p) else if d then Some (must_have second q) else None)
            (get_member k (put second t (put first s no_members)))
        go true true here there = absurd (apart_at here there)
        go true false here other = (
          s,
          get_member-put_other k second t (put first s no_members) (other_key k second other)
              ∙ rw (← (bytes_eq-Decides first k).0 here) (get_member-put first s no_members),
          says,
        )
        go false true other here = (
          t,
          rw (← (bytes_eq-Decides second k).0 here) (get_member-put second t (put first s no_members)),
          tells,
        )
        go false false other one = get_member-put_other k second t (put first s no_members) (other_key k second one)
            ∙ get_member-put_other k first s no_members (other_key k first other)

    pub two_mean : (closed : Bool) → IsSchema s → IsSchema t → IsJson v
        → (judge c (map_document ((first, s) ∷ (second, t) ∷ []) (first ∷ second ∷ []) closed)).fits v
        ≡ verdict (has_members (must_have first p ∷ must_have second q ∷ []) (λ k. not closed) v)
    two_mean closed is are json =
        let es : List Keyword = (first, s) ∷ (second, t) ∷ [] in
        value_means c on (must_have first p ∷ must_have second q ∷ []) es (first ∷ second ∷ []) no_parts closed
        (keywords es (first ∷ second ∷ []) closed) (form-keywords _ _ (map_form [] es (first ∷ second ∷ []) closed tt)) (is, (are, tt)) v
        found_two (λ ms. refl) json (tt, tt)
