-- Root documents mean their types in Draft 7 and 2019-09 too, after the transforms of these drafts.
use Rattle.std.proofs.Common.{◌≡◌, ◌⊎◌, ℕ, inl, inr, Option, Some, None, true, codes, refl, sym, ap, ◌∙◌, subst}
use Rattle.schemars_headline.proofs.Words.{FlattensNoEnums, false≢true, is_some, option_and_then, Data, null, boolean, number, string, array, object, Members, no_members, put, get_member, get_member-put, Text, lookup, IsSchema, resolves, draft2020_12, draft2019_09, draft07, IsChecked, IsPlainTable, IsPlainUnder, IsOneToOne, Plan, Registry, Refers, reference_to, basis_of_plan, described, plain_rows, under_rows, State, path_of, state_plan, HasOwnDefinitions, MeansItsType, IsRootOf, HasKeysOnce, IsName, IsMap, for_draft07, for_draft2019_09, Stands, IsForOpenApi, Draft2020_12, Draft2019_09, Draft07, schema_only, schema_only-schema, resolved-whole, settled, IsPlainFor, IsNameOf, DraftHeadlines, resolved}
use Rattle.schemars_types.specs.declared.contract.Contract.{Contract}
use Rattle.schemars_headline.proofs.Standing.{MayRefer, AllStand}
use Rattle.schemars_headline.proofs.Standing as standings
use Rattle.schemars_headline.proofs.Placed.{StandsAt, holds_put, draft_key}
use Rattle.schemars_headline.proofs.Calls.{definitions_in, root_means}
use Rattle.schemars_headline.proofs.Roots.{plain_for}
use Rattle.schemars_headline.proofs.Changes.{Class, IsDraft2019_09, without_rest, with_rest, for_openapi, for_items}
use Rattle.schemars_headline.proofs.Classes.{described-good}
use Rattle.schemars_headline.proofs.StructClass.{described-simple, described-under}
use Rattle.schemars_headline.proofs.RootClass.{IsReady, ready-as, entries, root_call-ready, may_refer-name, stands-place, to-name}
use Rattle.schemars_headline.proofs.Definitions.{Has, prefix-has}
use Rattle.schemars_headline.proofs.Accepting.{ready-has, draft07-has, draft07_accepts, draft2019_09_accepts}
use Rattle.schemars_headline.proofs.ReferencesKept.{draft07-refers, draft2019_09-refers}
use Rattle.schemars_headline.proofs.DialectsResolving.{each-resolves}

-- a name of the whole, or of one of these definitions, which is a schema
abbrev NamesOne : Text → Members → Text → Type 0
NamesOne key definitions t =
    (t ≡ codes "#") ⊎ ((k : Text) × IsNameOf key k t × ((d : Data) × (get_member k definitions ≡ Some d) × IsSchema d))

module _ (plan : Plan) (w : Registry) (key : Text) (at : StandsAt plan.path key) (definitions : AllStand plan w) where
  -- the definitions by themselves
  abbrev alone : Members
  alone = put key (object w.definitions) no_members

  refers-one : (root : Option ℕ) (j : ℕ) (r : Text) → Refers (record plan { root = root }) true w j r
      → NamesOne key w.definitions r
  refers-one root j r (inl is) = inl is.2
  refers-one root j r (inr is) = go (to-name plan.path key is.0 at stands.is_text)
    where
      stands : standings.Stands plan w is.0 is.2.0
      stands = definitions is.0 is.2.0 is.2.1

      go : IsName key (reference_to plan.path is.0) → NamesOne key w.definitions r
      go (inl whole) = inl (is.3 ∙ whole)
      go (inr (k, name)) = inr (
        k,
        subst (IsNameOf key k) (sym is.3) name,
        (
          is.2.0,
          sym (name.there alone w.definitions (get_member-put key (object w.definitions) no_members))
              ∙ (holds_put plan.path key at w.definitions no_members).leads is.0 is.2.0 stands.is_text is.2.1,
          described (basis_of_plan plan) (MayRefer plan w) stands.depth stands.row is.2.0 stands.describes,
        ),
      )

  -- each reference is one, of a definition in the document or of what is beside it
  may_refer-one : (j : ℕ) (r : Text) → MayRefer plan w j r → NamesOne key w.definitions r
  may_refer-one j r (inl is) = refers-one plan.root j r is
  may_refer-one j r (inr is) = refers-one None j r is

-- it resolves where the definitions stay
one-resolves : (key : Text) (definitions : Members) (document : Data) → Has key definitions document → (t : Text)
    → NamesOne key definitions t → resolves document (string t) ≡ true
unfolding resolved
one-resolves key definitions document has t is = subst (λ d. is_some (resolved d t) ≡ true) (sym has.is_object) (go is)
  where
    found : (k : Text) → IsNameOf key k t → (d : Data) → get_member k (entries (get_member key has.inside)) ≡ Some d
        → lookup t (object has.inside) ≡ Some d
    found k name d here = by (get_member key has.inside) refl has.is_map here
      where
        by : (o : Option Data) → get_member key has.inside ≡ o → IsMap o → get_member k (entries o) ≡ Some d
            → lookup t (object has.inside) ≡ Some d
        by None there map here = cc
        by (Some (object es)) there map here = name.there has.inside es there ∙ here
        by (Some null) there map here = absurd map
        by (Some (boolean b)) there map here = absurd map
        by (Some (number n)) there map here = absurd map
        by (Some (string s)) there map here = absurd map
        by (Some (array ds)) there map here = absurd map

    go : NamesOne key definitions t → is_some (resolved (object has.inside) t) ≡ true
    go (inl whole) = ap (λ r. is_some (resolved (object has.inside) r)) whole ∙ ap is_some (resolved-whole has.inside)
    go (inr (k, name, (d, here, schema))) =
        let e = has.stay.keys k d here schema in
        ap (λ o. is_some (option_and_then schema_only o)) (found k name e.0 e.1) ∙ ap is_some (schema_only-schema e.0 e.2)

-- ---- what a root call makes

module _ (s : State) (n : ℕ) (w : Registry) (document : Data) (root : IsRootOf s n w document) (once : HasKeysOnce w.definitions)
    (own : HasOwnDefinitions s) (key : Text) (at : StandsAt (path_of s) key) where
  abbrev plan : Plan
  plan = state_plan s (Some n)

  abbrev standing : AllStand plan w
  standing = definitions_in s (Some n) w root.step own

  abbrev One : Text → Type 0
  One = NamesOne key w.definitions

  abbrev contract : Contract
  contract = s.settings.contract

  -- it is of the class, whatever holds of its references
  abbrev IsReadyAs : (Members → Type 0) → Type 1
  IsReadyAs Q =
      (N : Text → Type 0) → ((j : ℕ) (r : Text) → MayRefer plan w j r → N r) → IsReady (Stands N Q) key w.definitions document

  has : (Q : Members → Type 0) → IsReadyAs Q → Has key w.definitions document
  has Q ready = ready-has (Stands One Q) key w.definitions document (ready One (may_refer-one plan w key at standing))

  -- so it means its type after the transforms, where it did before
  draft07_from : IsReadyAs IsForOpenApi → MeansItsType draft2020_12 s.rows contract (path_of s) n document
      → MeansItsType draft07 s.rows contract (path_of s) n (for_draft07 document)
  draft07_from ready means = record {
    accepts_its_values = draft07_accepts s.rows contract (path_of s) n key at w.definitions document means
        (ready (IsName key) (may_refer-name plan w key at standing));
    references_resolve = each-resolves One (for_draft07 document)
        (one-resolves key w.definitions (for_draft07 document)
        (draft07-has (path_of s) key at w.definitions document (has IsForOpenApi ready)))
        (for_draft07 document) (draft07-refers One document (ready One (may_refer-one plan w key at standing)).everywhere);
  }

  draft2019_09_from : IsReadyAs IsDraft2019_09 → MeansItsType draft2020_12 s.rows contract (path_of s) n document
      → MeansItsType draft2019_09 s.rows contract (path_of s) n (for_draft2019_09 document)
  draft2019_09_from ready means = record {
    accepts_its_values = draft2019_09_accepts s.rows contract (path_of s) n key at w.definitions document means
        (ready (IsName key) (may_refer-name plan w key at standing));
    references_resolve = each-resolves One (for_draft2019_09 document)
        (one-resolves key w.definitions (for_draft2019_09 document)
        (prefix-has key (stands-place (path_of s) key at) w.definitions document (has IsDraft2019_09 ready)))
        (for_draft2019_09 document) (draft2019_09-refers One document (ready One (may_refer-one plan w key at standing)).everywhere);
  }

  -- in a plain table
  draft07_ready : IsPlainTable s.rows → IsReadyAs IsForOpenApi
  draft07_ready plain N refer =
      ready-as (Class (without_rest N)) (Stands N IsForOpenApi) (for_openapi N) key w.definitions document
      (root_call-ready s n w document key root (plain_rows s.rows plain) once standing at (without_rest N)
      (described-good (without_rest N) (basis_of_plan plan) (MayRefer plan w) refer plain))

  -- and in one that is plain under the contract
  wide_ready : IsChecked s.rows → IsPlainUnder contract s.rows → IsReadyAs IsDraft2019_09
  wide_ready checked plain N refer =
      ready-as (Class (with_rest N)) (Stands N IsDraft2019_09) (for_items (with_rest N)) key w.definitions document
      (root_call-ready s n w document key root (under_rows contract s.rows plain) once standing at (with_rest N)
      (described-under N (basis_of_plan plan) (MayRefer plan w) refer (settled (basis_of_plan plan) checked plain)))

  -- where no enum is flattened
  simple_ready : IsChecked s.rows → IsPlainUnder contract s.rows → FlattensNoEnums s.rows → IsReadyAs IsForOpenApi
  simple_ready checked plain none N refer =
      ready-as (Class (without_rest N)) (Stands N IsForOpenApi) (for_openapi N) key w.definitions document
      (root_call-ready s n w document key root (under_rows contract s.rows plain) once standing at (without_rest N)
      (described-simple (without_rest N) (basis_of_plan plan) (MayRefer plan w) refer (settled (basis_of_plan plan) checked plain) none))

  -- Draft 7 does not read `unevaluatedProperties`
  ready_for_draft07 : IsChecked s.rows → IsPlainFor draft07 contract s.rows → IsReadyAs IsForOpenApi
  ready_for_draft07 checked (inl plain) = draft07_ready plain
  ready_for_draft07 checked (inr (inl reads, plain)) = absurd (false≢true reads)
  ready_for_draft07 checked (inr (inr none, plain)) = simple_ready checked plain none

-- what a root call makes means its type in each draft
pub draft_headlines : (s : State) (n : ℕ) (w : Registry) (d : Data) → IsChecked s.rows → IsRootOf s n w d → HasKeysOnce w.definitions
    → IsOneToOne w.names → DraftHeadlines s n d
draft_headlines s n w d checked root once one Draft2020_12 own path plain = root_means s n w d checked root once one own path plain
draft_headlines s n w d checked root once one Draft2019_09 own path plain =
    let place = draft_key (path_of s) path in
    let under = plain_for draft2019_09 s.settings.contract s.rows plain in
    draft2019_09_from s n w d root once own place.0 place.1 (wide_ready s n w d root once own place.0 place.1 checked under)
    (root_means s n w d checked root once one own path (inr (inl refl, under)))
draft_headlines s n w d checked root once one Draft07 own path plain =
    let place = draft_key (path_of s) path in
    let under = plain_for draft07 s.settings.contract s.rows plain in
    draft07_from s n w d root once own place.0 place.1 (ready_for_draft07 s n w d root once own place.0 place.1 checked plain)
    (root_means s n w d checked root once one own path (inr (inl refl, under)))
