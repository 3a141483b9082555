-- Each definition of a root document is reached from it, where there were none before.
use Rattle.std.proofs.Common.{◌≡◌, inl, inr, ℕ, List, [], true, Some, None, sym, ap, ◌∙◌, subst}
use Rattle.schemars_headline.proofs.Words.{Data, object, Members, no_members, put, get_member, pointer, get_member-put, Text, without, members_in, references, name_at, root_document, IsPlainTable, plain_rows, references-root, Plan, Registry, Refers, IsKey, basis_of_plan, IsReached, document_describes, State, path_of, state_plan, IsRootOf, IsDraftPath, key_of, references_outside, DefinitionsAreReached, NeedsItsDefinitions}
use Rattle.schemars_definitions.proofs.Members.{without-put}
use Rattle.schemars_headline.proofs.Keys.{IsDefinitionsKey}
use Rattle.schemars_headline.proofs.OwnKeys.{no_definitions_in}
use Rattle.schemars_headline.proofs.Placed.{StandsAt, IsPlaced, placed_in, draft_key, stands_key, pointer_key}
use Rattle.schemars_headline.proofs.RootClass.{noted_notes}

stands_behind : (path key : Text) → StandsAt path key → key_of path ≡ key
stands_behind path key (inl at) = ap key_of at.0 ∙ sym at.1
stands_behind path key (inr at) = ap key_of at.0 ∙ sym at.1

module _ (s : State) (n : ℕ) (w : Registry) (document : Data) (root : IsRootOf s n w document) (plain : IsPlainTable s.rows)
    (draft : IsDraftPath (path_of s)) (none : s.definitions ≡ no_members) where
  abbrev plan : Plan
  plan = state_plan s (Some n)

  -- the document without its definitions
  abbrev whole : Data
  whole = root_document (name_at s.rows n) s.settings.meta_schema root.own

  abbrev ms : Members
  ms = members_in whole

  room : (key : Text) → IsDefinitionsKey key → get_member key ms ≡ None
  room key is =
      let R = Refers plan true w in
      no_definitions_in key is (basis_of_plan plan) R (noted_notes s.rows (plain_rows s.rows plain)) (name_at s.rows n)
      s.settings.meta_schema root.is_document.0 n root.own
      (document_describes (basis_of_plan plan) plan.inlines R [] n root.own root.is_document)

  each : (name : Text) → IsKey name w.definitions → IsReached (path_of s) w.definitions (references root.own) name
  each name is = (root.reached plain).definitions name is.0 (ap (get_member name) none) is.1

  -- outside the definitions is what the row's own document refers to
  outside : (key : Text) → StandsAt (path_of s) key → (d : Data)
      → references_outside (path_of s) (object (put key d ms)) ≡ references root.own
  outside key at d =
      ap (λ k. references (object (without k (put key d ms)))) (stands_behind (path_of s) key at)
      ∙ (ap (λ xs. references (object xs)) (without-put key d ms (room key (stands_key (path_of s) key at)))
      ∙ references-root (name_at s.rows n) s.settings.meta_schema root.own)

  some : {x y : Members} → Some (object x) ≡ Some (object y) → x ≡ y
  some e = cc

  placed_reached : IsPlaced (path_of s) w.definitions whole document → DefinitionsAreReached (path_of s) document
  placed_reached (inl is) definitions found name here =
      let at = draft_key (path_of s) draft in
      let nothing : pointer (path_of s) document ≡ None =
      ap (pointer (path_of s)) is.1 ∙ (pointer_key (path_of s) at.0 at.1 ms ∙ room at.0 (stands_key (path_of s) at.0 at.1)) in
      let never : None ≡ Some (object definitions) = sym nothing ∙ found in
      cc
  placed_reached (inr (key, at, is)) definitions found name here =
      let there : pointer (path_of s) document ≡ Some (object w.definitions) =
      ap (pointer (path_of s)) is ∙ (pointer_key (path_of s) key at (put key (object w.definitions) ms)
      ∙ get_member-put key (object w.definitions) ms) in
      let same : w.definitions ≡ definitions = some (sym there ∙ found) in
      let from : references root.own ≡ references_outside (path_of s) document =
      sym (ap (references_outside (path_of s)) is ∙ outside key at (object w.definitions)) in
      let P : Members → List Data → Type 0 = λ xs refs. IsReached (path_of s) xs refs name in
      let reached : P w.definitions (references root.own) = each name (subst (IsKey name) (sym same) here) in
      subst (P definitions) from (subst (λ xs. P xs (references root.own)) same reached)

pub root_needed : (s : State) (n : ℕ) (w : Registry) (d : Data) → IsRootOf s n w d → NeedsItsDefinitions s d
root_needed s n w d root none draft plain =
    placed_reached s n w d root plain draft none
    (placed_in (path_of s) w.definitions (members_in (root_document (name_at s.rows n) s.settings.meta_schema root.own)) d draft
    (room s n w d root plain draft none) root.is_root)
