-- The root document of an example, in each dialect.
use Rattle.std.proofs.Common.{◌≡◌, inl, inr, List, Result, Ok, Err, Some, IfOk, IfErr, false, refl, sym, ap, ◌∙◌, subst}
use Rattle.schemagen_run.proofs.Vocabulary.{Data, Members, no_members, draft2020_12, draft2019_09, draft07, Example, members_have_float, dialect_of, AcceptsExampleUnder, Settings, IsSampleRoot, IsSampleRefused, some_own, made_by, settings_of_dialect, transforms_of_dialect, AcceptsIn, AcceptsUnder, IsUntransformedExample, IsSampleDocument}
use Rattle.schemars_headline.specs.Drafts as drafts
use Rattle.schemars_generate.specs.declared.error.GenerateError.{GenerateError}
use Rattle.schemars_generate.specs.declared.error.GenerateError.TheVariants.{OutOfMemory}
use Rattle.schemars_transform.specs.declared.gen_transform.GenTransform.{GenTransform}
use Rattle.schemars_transform.specs.declared.no_transform.NoTransform.{NoTransform}
use Rattle.schemagen_run.specs.declared.words.Dialect.{Dialect}
use Rattle.schemagen_run.specs.declared.words.Dialect.TheVariants.{Draft2020_12, Draft2019_09, Draft07, OpenApi3}
use Rattle.schemagen_run.proofs.Tables.{none_own, for_draft, IsMadeWhole}

accepts_in : (dialect : Dialect) (x : Example) (d : Data) → IsSampleRoot (settings_of_dialect dialect) no_members x d
    → AcceptsIn dialect x d
accepts_in Draft2020_12 x d root draft is = root.accepts (inl refl)
accepts_in Draft2019_09 x d root draft is = root.accepts (inl refl)
accepts_in Draft07 x d root draft is = root.accepts (inr refl)
accepts_in OpenApi3 x d root draft is = cc

accepts_under : (dialect : Dialect) (x : Example) (d document : Data) → IsSampleRoot (settings_of_dialect dialect) no_members x d
    → document ≡ made_by (transforms_of_dialect dialect) d → AcceptsUnder dialect x document
accepts_under Draft2020_12 x d document root same draft is =
    for_draft drafts.Draft2020_12 draft (λ y. AcceptsExampleUnder (dialect_of y) x document) is
    (subst (AcceptsExampleUnder draft2020_12 x) (sym same) (root.samples drafts.Draft2020_12 (inl refl)))
accepts_under Draft2019_09 x d document root same draft is =
    for_draft drafts.Draft2019_09 draft (λ y. AcceptsExampleUnder (dialect_of y) x document) is
    (subst (AcceptsExampleUnder draft2019_09 x) (sym same) (root.samples drafts.Draft2019_09 (inl refl)))
accepts_under Draft07 x d document root same draft is =
    for_draft drafts.Draft07 draft (λ y. AcceptsExampleUnder (dialect_of y) x document) is
    (subst (AcceptsExampleUnder draft07 x) (sym same) (root.samples drafts.Draft07 (inr refl)))
accepts_under OpenApi3 x d document root same draft is = cc

same_inside : {d e : Data} → Some d ≡ Some e → e ≡ d
same_inside h = cc

is_untransformed : (dialect : Dialect) (x : Example) (d : Data) → IsSampleRoot (settings_of_dialect dialect) no_members x d
    → IsUntransformedExample dialect x d
is_untransformed dialect x d root = (same_inside root.placed, accepts_in dialect x d root, λ json. root.whole json refl)

-- what a generator without definitions answers
pub sample_made : {E : Type 0} (r : Result Data E) (s : Settings) (definitions : Members) (x : Example) (dialect : Dialect)
    (ts : List (GenTransform NoTransform)) → s ≡ settings_of_dialect dialect → definitions ≡ no_members → ts ≡ transforms_of_dialect dialect
    → (some_own ts ≡ false → IfOk r (IsMadeWhole ts (IsSampleRoot s definitions x))) → IfOk r (IsSampleDocument dialect x)
sample_made (Err e) s definitions x dialect ts same empty is made = tt
sample_made (Ok document) s definitions x dialect ts same empty is made =
    let ((d, root, by), whole) = made (ap some_own is ∙ none_own dialect) in
    let here : IsSampleRoot (settings_of_dialect dialect) no_members x d =
    subst (λ (t : Settings). IsSampleRoot t no_members x d) same (subst (λ (ms : Members). IsSampleRoot s ms x d) empty root) in
    let same_document : document ≡ made_by (transforms_of_dialect dialect) d =
    by ∙ ap (λ (xs : List (GenTransform NoTransform)). made_by xs d) is in (
      (d, is_untransformed dialect x d here, same_document),
      accepts_under dialect x d document here same_document,
      λ json. whole (λ e at. at.whole json (ap members_have_float empty)),
    )

nothing_unplaced : (s : Settings) (x : Example) (e : GenerateError) → IsSampleRefused s no_members x e → e ≡ OutOfMemory
nothing_unplaced s x e (inl memory) = memory
nothing_unplaced s x e (inr (path, cannot)) = let never = cannot.no_place in cc

-- it wants memory alone, since there is nothing to place
pub sample_wants_memory : (r : Result Data GenerateError) (s : Settings) (definitions : Members) (x : Example) → definitions ≡ no_members
    → IfErr r (IsSampleRefused s definitions x) → IfErr r (λ e. e ≡ OutOfMemory)
sample_wants_memory (Ok d) s definitions x empty why = tt
sample_wants_memory (Err e) s definitions x empty why =
    nothing_unplaced s x e (subst (λ (ms : Members). IsSampleRefused s ms x e) empty why)
