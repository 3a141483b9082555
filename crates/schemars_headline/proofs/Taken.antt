-- Definitions that are taken for OpenAPI mean the types of their names.
use Rattle.std.proofs.Common.{◌≡◌, inl, inr, ◌+◌, ◌*◌, ◌≤◌, ◌∷◌, ◌++◌, ℕ, Option, Some, None, true, refl, sym, ap, ◌∙◌, subst}
use Rattle.schemars_headline.proofs.Words.{is_some, IsUtf8, Data, string, Members, depth, get_member, pointer, members_len, Text, IsSchema, resolved, references, resolves, all_resolve, draft2020_12, accepts, count_of_definitions, IsChecked, IsPlainFor, IsOneToOne, Plan, Registry, basis_of_plan, Refers, Basis, Describes, settled, false≢true, described, State, path_of, state_plan, registry_of, HasOwnDefinitions, AcceptsItsValues, Stands, IsForOpenApi, weaker, encoded, openapi3, plain-components, resolved-definition, count-place, IsDefinitionAt, EachEverywhere, components, components_of, Anything, for_openapi3, components-found, openapi-law, names-at_end, all_seven, schema-at_end, len-at_end, found-at_end, missing-at_end, seven-each, MeansItsRow, MeanTheirRows, OpenApiHeadline}
use Rattle.schemars_headline.proofs.Standing.{MayRefer, AllStand, stands_now}
use Rattle.schemars_headline.proofs.Placed.{held}
use Rattle.schemars_headline.proofs.Leading.{HoldsDefinitions, IsItsRoot, written_accepts}
use Rattle.schemars_headline.proofs.ReferencesKept.{RefersOnce}
use Rattle.schemars_headline.proofs.DialectsResolving.{each-resolves}
use Rattle.schemars_headline.proofs.Changes.{IsGood, without_rest, for_openapi}
use Rattle.schemars_headline.proofs.Classes.{described-good}
use Rattle.schemars_headline.proofs.StructClass.{described-simple}
use Rattle.schemars_headline.proofs.Roots.{plain_for}

-- ---- names of these definitions

-- one of a schema among them
abbrev pub NamesOne : Members → Text → Type 0
NamesOne es t = (k : Text) × IsUtf8 k × (t ≡ 35 ∷ (components ++ 47 ∷ encoded k)) × ((d : Data) × (get_member k es ≡ Some d) × IsSchema d)

names-one : (es : Members) (t : Text) → NamesOne es t → IsDefinitionAt components t
names-one es t (k, text, is, there) = (k, text, is)

-- where all of them are of the class, the references of each resolve at the end
one-resolves : (es : Members) (t : Text) → NamesOne es t → resolves (components_of (all_seven es)) (string t) ≡ true
one-resolves es t (k, text, is, (d, found, schema)) =
    ap (λ x. is_some (resolved (components_of (all_seven es)) x)) is
    ∙ ap is_some (resolved-definition components k (components_of (all_seven es)) (for_openapi3 d) (all_seven es) plain-components
    (components-found (all_seven es)) text (found-at_end k es d found) (schema-at_end (NamesOne es) (names-one es) d schema))

pub resolve-at_end : (es : Members) → EachEverywhere (Stands (NamesOne es) IsForOpenApi) es → (name : Text) (e : Data)
    → get_member name (all_seven es) ≡ Some e
    → all_resolve (components_of (all_seven es)) (references e) ≡ true
resolve-at_end es all name e found =
    each-resolves (NamesOne es) (components_of (all_seven es)) (one-resolves es) e
    (weaker (Stands (NamesOne es) Anything) (RefersOnce (NamesOne es)) (λ ms is. (is.reference, is.once))
    e (names-at_end (NamesOne es) (names-one es) es all name e found))

-- ---- the generator's own definitions are of the class

module _ (s : State) (own : HasOwnDefinitions s) (at : path_of s ≡ components) where
  standing : AllStand (state_plan s None) (registry_of s)
  standing name d found = stands_now (state_plan s None) (registry_of s) name d (own name d found)

  refers-one : (j : ℕ) (r : Text) → Refers (state_plan s None) true (registry_of s) j r → NamesOne s.definitions r
  refers-one j r (inl is) = let never : None ≡ Some j = is.0 in cc
  refers-one j r (inr is) = (
    is.0,
    (standing is.0 is.2.0 is.2.1).is_text,
    is.3 ∙ ap (λ p. 35 ∷ (p ++ 47 ∷ encoded is.0)) at,
    (
      is.2.0,
      is.2.1,
      described (basis_of_plan (state_plan s None)) (MayRefer (state_plan s None) (registry_of s)) (standing is.0 is.2.0 is.2.1).depth
          (standing is.0 is.2.0 is.2.1).row is.2.0 (standing is.0 is.2.0 is.2.1).describes,
    ),
  )

  may_refer-one : (j : ℕ) (r : Text) → MayRefer (state_plan s None) (registry_of s) j r → NamesOne s.definitions r
  may_refer-one j r (inl is) = refers-one j r is
  may_refer-one j r (inr is) = refers-one j r is

  abbrev basis : Basis
  basis = basis_of_plan (state_plan s None)

  abbrev Names : Text → Type 0
  Names = NamesOne s.definitions

  each_described : IsChecked s.rows → IsPlainFor openapi3 s.settings.contract s.rows → (d n : ℕ) (t : Data)
      → Describes basis (MayRefer (state_plan s None) (registry_of s)) d n t → IsGood (without_rest Names) t
  each_described checked (inl plain) =
      described-good (without_rest Names) basis (MayRefer (state_plan s None) (registry_of s)) may_refer-one plain
  each_described checked (inr (inl reads, plain)) = absurd (false≢true reads)
  each_described checked (inr (inr none, plain)) =
      described-simple (without_rest Names) basis (MayRefer (state_plan s None) (registry_of s)) may_refer-one
      (settled basis checked plain) none

  pub own-class : IsChecked s.rows → IsPlainFor openapi3 s.settings.contract s.rows
      → EachEverywhere (Stands (NamesOne s.definitions) IsForOpenApi) s.definitions
  own-class checked plain name d found =
      for_openapi (NamesOne s.definitions) d
      (each_described checked plain (standing name d found).depth (standing name d found).row d (standing name d found).describes).everywhere

-- ---- what they mean

module _ (s : State) (checked : IsChecked s.rows) (one : IsOneToOne s.names) (own : HasOwnDefinitions s) (at : path_of s ≡ components)
    (plain : IsPlainFor openapi3 s.settings.contract s.rows) where
  abbrev es : Members
  es = s.definitions

  abbrev plan : Plan
  plan = state_plan s None

  abbrev w : Registry
  w = registry_of s

  stand : AllStand plan w
  stand = standing s own at

  rootless : IsItsRoot plan w (components_of es)
  rootless m is = absurd (let never : None ≡ Some m = is in cc)

  holds : HoldsDefinitions plan.path w.definitions (components_of es)
  holds = held plan.path es (components_of es) (inr at) (inr (ap (λ p. pointer p (components_of es)) at ∙ components-found es))

  accepts-before : (name : Text) (d : Data) (found : get_member name es ≡ Some d)
      → AcceptsItsValues draft2020_12 s.rows s.settings.contract (path_of s) (stand name d found).row (components_of es) d
  accepts-before name d found =
      written_accepts plan w (components_of es) checked (plain_for openapi3 s.settings.contract s.rows plain) one stand holds rootless
      (stand name d found).depth (stand name d found).row d
      (inr (stand name d found).describes)

  count-same : count_of_definitions components (components_of (all_seven es)) ≡ count_of_definitions components (components_of es)
  count-same =
      counted (all_seven es) ∙ (len-at_end es ∙ sym (counted es))
    where
      counted : (ds : Members) → count_of_definitions components (components_of ds) ≡ members_len ds
      counted ds = count-place components (components_of ds) ds (components-found ds)

  pub taken_means : EachEverywhere (Stands (NamesOne es) IsForOpenApi) es → (name : Text) (e : Data)
      → get_member name (all_seven es) ≡ Some e
      → MeansItsRow s name (components_of (all_seven es)) e
  taken_means all name e found = go (get_member name es) refl
    where
      some : {x y : Data} → Some x ≡ Some y → x ≡ y
      some e = cc

      go : (o : Option Data) → get_member name es ≡ o → MeansItsRow s name (components_of (all_seven es)) e
      go None none = let never : None ≡ Some e = sym (missing-at_end name es none) ∙ found in cc
      go (Some d) here = record {
        row = (stand name d here).row;
        is_named = (stand name d here).is_named;
        accepts_its_values = λ patterns v json followed bounded.
            ap (λ x. accepts openapi3 (components_of (all_seven es)) patterns followed x v) (sym same)
            ∙ (openapi-law (NamesOne es) (names-one es) es all d (all name d here) patterns followed v
            ∙ accepts-before name d here patterns v json followed
            (subst (λ p. (depth v + 1) * (count_of_definitions p (components_of es) + 2) ≤ followed) (sym at)
            (subst (λ c. (depth v + 1) * (c + 2) ≤ followed) count-same bounded)));
        references_resolve = resolve-at_end es all name e found;
      }
        where
          same : for_openapi3 d ≡ e
          same = some (sym (found-at_end name es d here) ∙ found)

-- ---- so do the definitions that a generator holds, through the transforms

pub openapi_headline : (s : State) → IsChecked s.rows → IsOneToOne s.names → OpenApiHeadline s
openapi_headline s checked one own at plain =
    subst (MeanTheirRows s) (seven-each s.definitions) (taken_means s checked one own at plain (own-class s own at checked plain))
