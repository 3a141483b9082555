-- Root documents are ones that the laws of the drafts speak of, with their definitions, where the documents of rows are.
use Rattle.std.proofs.Common.{◌≡◌, ℕ, List, [], inl, inr, Option, Some, None, Bool, true, false, codes, refl, sym, ap, ◌∙◌, subst, arith, true≢false}
use Rattle.schemars_headline.proofs.Words.{is_some, if◌then◌else◌, bytes_eq, IsUtf8, Data, null, boolean, number, string, array, object, Members, no_members, member, put, get_member, get_member-put, Text, is_listed, members_in, SchemasByName, place_under, Shape, Entry, Row, name_at, entry_at, with_title, with_meta_schema, root_document, HasPlainLiteral, IsNotedEntry, HasPlainNotes, IsNotedThroughout, HasPlainNotesThroughout, Describes, Plan, Registry, Refers, reference_to, basis_of_plan, describes-wider, document_describes, State, path_of, state_plan, IsRootOf, IsDraftPath, HasKeysOnce, Everywhere, demanded, asked_of_members, IsName, IsMap, IsNotedShape, asked, defs-name, definitions-name}
use Rattle.schemars_shapes.specs.Shape as shape
use Rattle.schemars_headline.proofs.Keys.{AllMembers, all_members, IsDefinitionsKey}
use Rattle.schemars_headline.proofs.OwnKeys.{no_definitions_in}
use Rattle.schemars_headline.proofs.Standing.{MayRefer, AllStand, refers_may}
use Rattle.schemars_headline.proofs.Placed.{StandsAt, IsPlaced, stands_key, placed_in}
use Rattle.schemars_headline.proofs.Changes.{IsUnwatched, Demand, Class, AreGood, are-put, IsGood, good, good-members, watched}

-- ---- where definitions are

-- those of a map, if there is one
abbrev pub entries : Option Data → Members
entries None = no_members
entries (Some null) = no_members
entries (Some (boolean b)) = no_members
entries (Some (number n)) = no_members
entries (Some (string s)) = no_members
entries (Some (array ds)) = no_members
entries (Some (object es)) = es

stands-unwatched : (path key : Text) → StandsAt path key → IsUnwatched key
stands-unwatched path key (inl at) = ap (λ k. is_listed k watched) at.1
stands-unwatched path key (inr at) = ap (λ k. is_listed k watched) at.1

pub stands-place : (path key : Text) → StandsAt path key → place_under key ≡ SchemasByName
stands-place path key (inl at) = ap place_under at.1
stands-place path key (inr at) = ap place_under at.1

pub stands-draft : (path key : Text) → StandsAt path key → IsDraftPath path
stands-draft path key (inl at) = inl at.0
stands-draft path key (inr at) = inr at.0

-- a path leads to one key
pub same_key : (path a b : Text) → StandsAt path a → StandsAt path b → a ≡ b
same_key path a b (inl x) (inl y) = x.1 ∙ sym y.1
same_key path a b (inl x) (inr y) =
    absurd (true≢false (ap (λ p. bytes_eq p (codes "/$defs")) (sym x.0 ∙ y.0)))
same_key path a b (inr x) (inl y) =
    absurd (true≢false (ap (λ p. bytes_eq p (codes "/definitions")) (sym x.0 ∙ y.0)))
same_key path a b (inr x) (inr y) = x.1 ∙ sym y.1

-- ---- references

pub to-name : (path key name : Text) → StandsAt path key → IsUtf8 name → IsName key (reference_to path name)
to-name path key name (inl at) text =
    subst (λ p. IsName key (reference_to p name)) (sym at.0)
    (subst (λ k. IsName k (reference_to (codes "/$defs") name)) (sym at.1) (defs-name name text))
to-name path key name (inr at) text =
    subst (λ p. IsName key (reference_to p name)) (sym at.0)
    (subst (λ k. IsName k (reference_to (codes "/definitions") name)) (sym at.1) (definitions-name name text))

module _ (plan : Plan) (w : Registry) (key : Text) (at : StandsAt plan.path key) (definitions : AllStand plan w) where
  refers-name : (root : Option ℕ) (j : ℕ) (r : Text) → Refers (record plan { root = root }) true w j r → IsName key r
  refers-name root j r (inl is) = inl is.2
  refers-name root j r (inr is) =
      subst (IsName key) (sym is.3) (to-name plan.path key is.0 at (definitions is.0 is.2.0 is.2.1).is_text)

  -- a reference of a definition in the document, or of what is beside it
  pub may_refer-name : (j : ℕ) (r : Text) → MayRefer plan w j r → IsName key r
  may_refer-name j r (inl is) = refers-name plan.root j r is
  may_refer-name j r (inr is) = refers-name None j r is

-- ---- root documents

module _ (R : Demand) where
  are-titled : (name : Text) (ms : Members) → AreGood R ms → AreGood R (with_title name ms)
  are-titled name ms is = go (is_some (get_member (codes "title") ms))
    where
      go : (b : Bool) → AreGood R (if b then ms else put (codes "title") (string name) ms)
      go true = is
      go false = are-put R (codes "title") (string name) ms refl tt is

  pub are-with_meta_schema : (uri : Option Text) (ms : Members) → AreGood R ms → AreGood R (with_meta_schema uri ms)
  are-with_meta_schema None ms is = is
  are-with_meta_schema (Some uri) ms is = are-put R (codes "$schema") (string uri) ms refl tt is

  pub root-are : (name : Text) (uri : Option Text) (s : Data) → IsGood R s → AreGood R (members_in (root_document name uri s))
  root-are name uri s is =
      are-with_meta_schema uri (with_title name (members_in s)) (are-titled name (members_in s) (good-members R s is))

  definitions-asked : (ms : Members) → AllMembers (IsGood R) ms → asked_of_members (Class R) ms
  unfolding asked
  definitions-asked no_members all = tt
  definitions-asked (member k d ms) all = (all.0.everywhere, definitions-asked ms all.1)

  -- the members of the class with the definitions at their key
  pub with-definitions : (path key : Text) → StandsAt path key → (definitions ms : Members) → AllMembers (IsGood R) definitions
      → AreGood R ms → AreGood R (put key (object definitions) ms)
  unfolding asked
  with-definitions path key at definitions ms all is =
      are-put R key (object definitions) ms (stands-unwatched path key at)
      (subst (λ p. demanded p (asked (Class R) (object definitions))) (sym (stands-place path key at))
      (definitions-asked definitions all)) is

-- an object of such schema objects, with these definitions under a key, if there are any
pub record IsReady (C : Members → Type 0) (key : Text) (definitions : Members) (document : Data) : Type 0 where
  pub everywhere : Everywhere C document
  pub inside : Members
  pub is_object : document ≡ object inside
  pub is_map : IsMap (get_member key inside)
  pub stands : entries (get_member key inside) ≡ definitions

-- and so of what these are all
pub ready-as : (C D : Members → Type 0) → ((s : Data) → Everywhere C s → Everywhere D s) → (key : Text) (definitions : Members)
    (document : Data) → IsReady C key definitions document → IsReady D key definitions document
ready-as C D all key definitions document ready = record {
  everywhere = all document ready.everywhere;
  inside = ready.inside;
  is_object = ready.is_object;
  is_map = ready.is_map;
  stands = ready.stands;
}

pub placed-ready : (R : Demand) (path key : Text) (definitions ms : Members) (document : Data) → StandsAt path key
    → AllMembers (IsGood R) definitions → AreGood R ms → get_member key ms ≡ None → IsPlaced path definitions (object ms) document
    → IsReady (Class R) key definitions document
placed-ready R path key definitions ms document at all is none (inl placed) =
    subst (IsReady (Class R) key definitions) (sym placed.1) (record {
      everywhere = (good R ms is).everywhere;
      inside = ms;
      is_object = refl;
      is_map = subst IsMap (sym none) tt;
      stands = ap entries none ∙ sym placed.0;
    })
placed-ready R path key definitions ms document at all is none (inr placed) =
    let same : document ≡ object (put key (object definitions) ms) =
    placed.2 ∙ ap (λ k. object (put k (object definitions) ms)) (same_key path placed.0 key placed.1 at) in
    subst (IsReady (Class R) key definitions) (sym same) (record {
      everywhere = (good R (put key (object definitions) ms) (with-definitions R path key at definitions ms all is)).everywhere;
      inside = put key (object definitions) ms;
      is_object = refl;
      is_map = subst IsMap (sym (get_member-put key (object definitions) ms)) tt;
      stands = ap entries (get_member-put key (object definitions) ms);
    })

noted-literal : (kind : Shape) → IsNotedShape kind → HasPlainLiteral kind
noted-literal (shape.literal d) own = own
noted-literal kind own = tt

pub noted_notes : (rows : List Row) → HasPlainNotesThroughout rows → HasPlainNotes rows
noted_notes rows noted n = go (entry_at rows n) (noted n)
  where
    go : (o : Option Entry) → IsNotedThroughout o → IsNotedEntry o
    go None own = tt
    go (Some e) own = (own.0, noted-literal e.shape own.1)

module _ (old : State) (n : ℕ) (w : Registry) (document : Data) (key : Text) (h : IsRootOf old n w document)
    (noted : HasPlainNotesThroughout old.rows)
    (once : HasKeysOnce w.definitions) (definitions : AllStand (state_plan old (Some n)) w) (at : StandsAt (path_of old) key) where
  abbrev plan : Plan
  plan = state_plan old (Some n)

  abbrev Describe : ℕ → ℕ → Data → Type 0
  Describe = Describes (basis_of_plan plan) (MayRefer plan w)

  described : Describe h.is_document.0 n h.own
  described =
      describes-wider (basis_of_plan plan) (Refers plan true w) (MayRefer plan w) (refers_may plan w true) h.is_document.0 h.is_document.0
      (omega arith) n h.own (document_describes (basis_of_plan plan) plan.inlines (Refers plan true w) [] n h.own h.is_document)

  -- what a root call makes, where the documents of rows are of the class, and its definitions are at a draft's path
  pub root_call-ready : (R : Demand) → ((d j : ℕ) (t : Data) → Describe d j t → IsGood R t) → IsReady (Class R) key w.definitions document
  root_call-ready R each =
      placed-ready R plan.path key w.definitions ms document at all
      (root-are R name uri h.own (each h.is_document.0 n h.own described)) (room key (stands_key plan.path key at))
      (placed_in plan.path w.definitions ms document (stands-draft plan.path key at) room h.is_root)
    where
      name : Text
      name = name_at old.rows n

      uri : Option Text
      uri = old.settings.meta_schema

      ms : Members
      ms = members_in (root_document name uri h.own)

      all : AllMembers (IsGood R) w.definitions
      all = all_members (IsGood R) w.definitions once (λ k d found.
          let definition = definitions k d found in each definition.depth definition.row d definition.describes)

      room : (k : Text) → IsDefinitionsKey k → get_member k ms ≡ None
      room k is =
          no_definitions_in k is (basis_of_plan plan) (MayRefer plan w)
          (noted_notes plan.rows noted) name uri h.is_document.0 n h.own described
