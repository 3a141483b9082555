-- Root documents accept the values of their types under the older drafts, after the transforms of these.
use Rattle.std.proofs.Common.{◌≡◌, ◌≢◌, ◌+◌, ◌*◌, ◌≤◌, ℕ, inl, inr, List, codes, refl, sym, ◌∙◌, subst}
use Rattle.schemars_headline.proofs.Words.{Data, object, Members, depth, get_member, Text, Dialect, Patterns, draft2020_12, draft2019_09, draft07, accepts, count_of_definitions, differ, Row, AcceptsItsValues, MeansItsType, Everywhere, IsName, IsMap, HasPlainItems, Stands, IsForOpenApi, for_draft07, for_draft2019_09, Named, IsDraft07, MovesAcceptance, draft07-law, draft2019_09-law}
use Rattle.schemars_types.specs.declared.contract.Contract.{Contract}
use Rattle.schemars_headline.proofs.Placed.{StandsAt}
use Rattle.schemars_headline.proofs.Changes.{IsDraft2019_09}
use Rattle.schemars_headline.proofs.Classes.{good-named, items-named}
use Rattle.schemars_headline.proofs.RootClass.{IsReady, stands-place}
use Rattle.schemars_headline.proofs.Definitions.{Stay, stay-same, Has, prefix-has, siblings-has, unevaluated-has, count-has}

-- a transform that moves acceptance
pub moved : (T : Data → Data) (dialect : Dialect) (key : Text) (Q : Members → Type 0)
    → MovesAcceptance T draft2020_12 dialect key Q
    → (document : Data) (ms : Members) → document ≡ object ms → IsMap (get_member key ms) → Everywhere (Named draft2020_12 key Q) document
    → (patterns : Patterns) (followed : ℕ) (v : Data)
    → accepts dialect (T document) patterns followed (T document) v ≡ accepts draft2020_12 document patterns followed document v
moved T dialect key Q law document ms is map all patterns followed v =
    subst (λ d. Everywhere (Named draft2020_12 key Q) d → accepts dialect (T d) patterns followed (T d) v
    ≡ accepts draft2020_12 d patterns followed d v) (sym is)
    (λ here. law ms map here patterns followed (object ms) v here) all

-- one that keeps the number of definitions too
accepts-moved : (T : Data → Data) (dialect : Dialect) (key : Text) (Q : Members → Type 0)
    → MovesAcceptance T draft2020_12 dialect key Q
    → (document : Data) (ms : Members) → document ≡ object ms → IsMap (get_member key ms) → Everywhere (Named draft2020_12 key Q) document
    → (rows : List Row) (contract : Contract) (path : Text) (n : ℕ)
    → count_of_definitions path (T document) ≡ count_of_definitions path document
    → AcceptsItsValues draft2020_12 rows contract path n document document
    → AcceptsItsValues dialect rows contract path n (T document) (T document)
accepts-moved T dialect key Q law document ms is map all rows contract path n same accept patterns v json followed bounded =
    moved T dialect key Q law document ms is map all patterns followed v
    ∙ accept patterns v json followed (subst (λ c. (depth v + 1) * (c + 2) ≤ followed) same bounded)

-- the document before the transforms
pub ready-has : (C : Members → Type 0) (key : Text) (definitions : Members) (document : Data) → IsReady C key definitions document
    → Has key definitions document
ready-has C key definitions document ready = record {
  inside = ready.inside;
  is_object = ready.is_object;
  is_map = ready.is_map;
  stay = subst (λ es. Stay definitions es) (sym ready.stands) (stay-same definitions);
}

pub not-properties : (path key : Text) → StandsAt path key → key ≢ codes "properties"
not-properties path key (inl at) same = differ (codes "$defs") (codes "properties") refl (sym at.1 ∙ same)
not-properties path key (inr at) same = differ (codes "definitions") (codes "properties") refl (sym at.1 ∙ same)

pub draft07-has : (path key : Text) → StandsAt path key → (definitions : Members) (document : Data) → Has key definitions document
    → Has key definitions (for_draft07 document)
draft07-has path key at definitions document has =
    let place = stands-place path key at in
    prefix-has key place definitions _ (siblings-has key place definitions _
    (unevaluated-has key place (not-properties path key at) definitions document has))

-- a document that means its row, with its definitions at a draft's path
module _ (rows : List Row) (contract : Contract) (path : Text) (n : ℕ) (key : Text) (at : StandsAt path key) (definitions : Members)
    (document : Data) (means : MeansItsType draft2020_12 rows contract path n document) where
  pub draft07_accepts : IsReady (Stands (IsName key) IsForOpenApi) key definitions document
      → AcceptsItsValues draft07 rows contract path n (for_draft07 document) (for_draft07 document)
  draft07_accepts ready =
      let has = ready-has (Stands (IsName key) IsForOpenApi) key definitions document ready in
      accepts-moved for_draft07 draft07 key IsDraft07
      (draft07-law key (stands-place path key at) (not-properties path key at))
      document ready.inside ready.is_object ready.is_map (good-named key document ready.everywhere) rows contract path n
      (count-has path key at definitions (for_draft07 document) (draft07-has path key at definitions document has)
      ∙ sym (count-has path key at definitions document has))
      means.accepts_its_values

  pub draft2019_09_accepts : IsReady (Stands (IsName key) IsDraft2019_09) key definitions document
      → AcceptsItsValues draft2019_09 rows contract path n (for_draft2019_09 document) (for_draft2019_09 document)
  draft2019_09_accepts ready =
      let has = ready-has (Stands (IsName key) IsDraft2019_09) key definitions document ready in
      accepts-moved for_draft2019_09 draft2019_09 key HasPlainItems
      (draft2019_09-law key (stands-place path key at) (not-properties path key at))
      document ready.inside ready.is_object ready.is_map (items-named key document ready.everywhere) rows contract path n
      (count-has path key at definitions (for_draft2019_09 document)
      (prefix-has key (stands-place path key at) definitions document has)
      ∙ sym (count-has path key at definitions document has))
      means.accepts_its_values
