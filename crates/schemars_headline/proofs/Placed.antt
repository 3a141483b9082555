-- Documents with definitions at a path: how they are placed, and found again.
use Rattle.std.proofs.Common.{◌≡◌, ◌⊎◌, inl, inr, [], ◌∷◌, Some, None, refl, sym, ap, ◌∙◌, subst, arith}
use Rattle.schemars_headline.proofs.Words.{codes, Data, object, Members, no_members, member, put, get_member, pointer, get_member-put, Text, members_in, lookup, count_of_definitions, placed_at, IsDraftPath, with_definitions, walk, unescape, placed, lookup-ascii, IsKnownPath, IsHolding}
use Rattle.schemars_headline.proofs.Keys.{IsDefinitionsKey}
use Rattle.schemars_headline.proofs.Leading.{HoldsDefinitions, holds_at}

-- the key to which a draft's path leads
abbrev pub StandsAt : Text → Text → Type 0
StandsAt path key = ((path ≡ codes "/$defs") × (key ≡ codes "$defs")) ⊎ ((path ≡ codes "/definitions") × (key ≡ codes "definitions"))

-- the root document with the definitions under their key, if there are any
abbrev pub IsPlaced : Text → Members → Data → Data → Type 0
IsPlaced path definitions root document = ((definitions ≡ no_members) × (document ≡ root))
    ⊎ ((key : Text) × StandsAt path key × (document ≡ object (put key (object definitions) (members_in root))))

pub stands_key : (path key : Text) → StandsAt path key → IsDefinitionsKey key
stands_key path key (inl is) = inl is.1
stands_key path key (inr is) = inr is.1

-- ---- found again

pub pointer_key : (path key : Text) → StandsAt path key → (ms : Members) → pointer path (object ms) ≡ get_member key ms
unfolding walk unescape
pointer_key path key (inl is) ms = rw (is.0, is.1)
pointer_key path key (inr is) ms = rw (is.0, is.1)

lookup_path : (path : Text) (document : Data) → IsKnownPath path → lookup (35 ∷ path) document ≡ pointer path document
lookup_path path document (inl (inl is)) = rw is (lookup-ascii (codes "/$defs") document refl refl)
lookup_path path document (inl (inr is)) = rw is (lookup-ascii (codes "/definitions") document refl refl)
lookup_path path document (inr is) = rw is (lookup-ascii (codes "/components/schemas") document refl refl)

stands_known : (path key : Text) → StandsAt path key → IsKnownPath path
stands_known path key (inl is) = inl (inl is.0)
stands_known path key (inr is) = inl (inr is.0)

-- definitions to which a path leads are found, and counted
holds_there : (path : Text) (definitions : Members) (document : Data) → lookup (35 ∷ path) document ≡ pointer path document
    → pointer path document ≡ Some (object definitions)
    → HoldsDefinitions path definitions document
holds_there path definitions document same found = holds_at path definitions document (same ∙ found)
    (rw (found, count_of_definitions) (omega arith))

pub holds_put : (path key : Text) → StandsAt path key → (definitions ms : Members)
    → HoldsDefinitions path definitions (object (put key (object definitions) ms))
holds_put path key at definitions ms =
    let document : Data = object (put key (object definitions) ms) in
    holds_there path definitions document (lookup_path path document (stands_known path key at))
    (pointer_key path key at (put key (object definitions) ms) ∙ get_member-put key (object definitions) ms)

-- where there are no definitions, none is looked for
pub holds_nothing : (path : Text) (document : Data) → HoldsDefinitions path no_members document
holds_nothing path document = record { leads = λ name d text is. cc; counts = omega arith }

-- ---- placed

placed_one : (t : Text) (new ms : Members) → get_member t ms ≡ None
    → placed (t ∷ []) new (Some (object ms)) ≡ Some (object (put t (object new) ms))
placed_one t new ms none = rw (none, placed)

pub placing_in : (path key : Text) → StandsAt path key → (new ms : Members) → get_member key ms ≡ None
    → placed_at path new (object ms) ≡ Some (object (put key (object new) ms))
unfolding unescape
placing_in path key (inl is) new ms none = rw (is.0) (placed_one (codes "$defs") new ms (ap (λ k. get_member k ms) (sym is.1) ∙ none)
    ∙ ap (λ k. Some (object (put k (object new) ms))) (sym is.1))
placing_in path key (inr is) new ms none = rw (is.0) (placed_one (codes "definitions") new ms
    (ap (λ k. get_member k ms) (sym is.1) ∙ none) ∙ ap (λ k. Some (object (put k (object new) ms))) (sym is.1))

pub draft_key : (path : Text) → IsDraftPath path → (key : Text) × StandsAt path key
draft_key path (inl is) = (codes "$defs", inl (is, refl))
draft_key path (inr is) = (codes "definitions", inr (is, refl))

-- in a root document without definitions they can always be placed
pub placing : (path : Text) (definitions ms : Members) → IsDraftPath path → ((key : Text) → IsDefinitionsKey key → get_member key ms ≡ None)
    → (document : Data) × (with_definitions path definitions (object ms) ≡ Some document) × IsPlaced path definitions (object ms) document
placing path no_members ms draft none = (object ms, refl, inl (refl, refl))
placing path (member k d more) ms draft none =
    let at = draft_key path draft in (
      object (put at.0 (object (member k d more)) ms),
      placing_in path at.0 at.1 (member k d more) ms
          (none at.0 (stands_key path at.0 at.1)),
      inr (at.0, at.1, refl),
    )

pub placed_in : (path : Text) (definitions ms : Members) (document : Data) → IsDraftPath path
    → ((key : Text) → IsDefinitionsKey key → get_member key ms ≡ None)
    → with_definitions path definitions (object ms) ≡ Some document → IsPlaced path definitions (object ms) document
placed_in path definitions ms document draft none made =
    let there = placing path definitions ms draft none in
    let both : Some there.0 ≡ Some document = sym there.1 ∙ made in
    let same : there.0 ≡ document = cc in
    let P : Data → Type 0 = λ d. IsPlaced path definitions (object ms) d in
    subst P same there.2

-- ---- found in a document

pub held : (path : Text) (definitions : Members) (document : Data) → IsKnownPath path → IsHolding path definitions document
    → HoldsDefinitions path definitions document
held path definitions document known (inl none) =
    let P : Members → Type 0 = λ ms. HoldsDefinitions path ms document in
    subst P (sym none) (holds_nothing path document)
held path definitions document known (inr found) = holds_there path definitions document (lookup_path path document known) found
