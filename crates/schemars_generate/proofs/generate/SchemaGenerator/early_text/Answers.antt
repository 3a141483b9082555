-- The text of the root document with its definitions put in, or of the document that is made once more.
use Rattle.std.proofs.Common.{◌≡◌, ◌∷◌, inr, inl, true, Some, refl, sym, ap, ◌∙◌, subst, string_bytes}
use Rattle.schemars_generate.proofs.Words.{IfOk, IfErr, HasNoDefinitions, with_defs_at, IsTitledRoot, rolled_back, root_of, are_local, made_by, HasKeysOnce, Registry, Step, path_of, state_plan, err_told, state, state_of, Transforms, IsRootRefusal, Generator, held_transforms, transforms_of, IsRootText, IsTextOf, key_for, transforms_for}
use Rattle.schemars_generate.specs.declared.error.GenerateError.{GenerateError}
use Rattle.schemars_generate.proofs.BuiltIns.{no_row}
use Rattle.schemars_generate.proofs.EarlyTexts.{local_for, placed_for}
use Rattle.schemars_generate.proofs.RootTexts.{made_text, refused_before}
use Rattle.schemars_generate.proofs.Settled.{as_before}
use Rattle.schemars_generate.proofs.Untransformed.{untransformed}
use Rattle.schemars_generate.proofs.generate.SchemaGenerator.early_text.Goals as goal

-- ---- it is refused

pub returns-in_err-has_row-clause-refused : goal.returns-in_err-has_row-clause-refused
returns-in_err-has_row-clause-refused g c =
    let Q = g.O.Transform.makes in
    let inside = c.self.inside in
    let ts = inside.settings.transforms in
    let s = state_of inside.settings inside.types inside.registry in
    let why = c.in_err-has_row.ensures.unknown in
    let P : GenerateError → Type 0 =
    λ e. (us : Transforms g.row.O.Denot) × IsRootRefusal Q c.args.self.settings.transforms us (state c.args.self) c.args.n e in
    err_told c.from_residual.result P _ c.from_residual.ensures.1
    (λ e is. subst P (sym is) (
      ts,
      subst (λ y. IsRootRefusal Q y.settings.transforms ts (state y) c.args.n c.in_err-has_row.field-0.0) c.self.view_is
          (no_row Q ts ts s c.args.n _ why.0 why.1 refl),
    ))

pub returns-in_err-own-clause-refused : goal.returns-in_err-own-clause-refused
returns-in_err-own-clause-refused g c =
    let Q = g.O.Transform.makes in
    let ts = held_transforms c.args.self in
    let s = state c.args.self in
    let P : GenerateError → Type 0 = λ e. (x : Transforms g.row.O.Denot) × IsRootRefusal Q ts x s c.args.n e in
    err_told c.from_residual-in_err-own.result P _ c.from_residual-in_err-own.ensures.1
    (λ e is. (ts, refused_before Q ts s c.args.n e (inr (inl is))))

pub returns-in_err-text-clause-refused : goal.returns-in_err-text-clause-refused
returns-in_err-text-clause-refused g c =
    let Q = g.O.Transform.makes in
    let ts = held_transforms c.args.self in
    let s = state c.args.self in
    let P : GenerateError → Type 0 = λ e. (x : Transforms g.row.O.Denot) × IsRootRefusal Q ts x s c.args.n e in
    err_told c.from_residual-in_err-text.result P _ c.from_residual-in_err-text.ensures.1
    (λ e is. (ts, refused_before Q ts s c.args.n e (inr (inl is))))

-- ---- the document is made once more

pub returns-then-not-has_no_definitions-clause-text : goal.returns-then-not-has_no_definitions-clause-text
returns-then-not-has_no_definitions-clause-text g c =
    let inside = c.self.inside in
    let s = state_of inside.settings inside.types inside.registry in
    let before = as_before s inside.registry c.titled_document.new.registry c.with_store.result c.self.invariant.3
    (c.in_ok-own.ensures.rolled_back ∙ ap rolled_back c.with_store-registry.ensures) (c.with_store.ensures ∙ c.roll_back.ensures) in
    let with_registry : Registry → Generator g.row.O.Denot =
    λ w. record { settings = inside.settings; rows = inside.types; names = w.names; definitions = w.definitions } in
    subst (λ y. IfOk c.late_text.result (λ t. IsRootText g.O.Transform.makes (held_transforms y) (state y) c.args.n (string_bytes t)))
    (ap with_registry before ∙ c.self.view_is) c.late_text.ensures.text

pub returns-then-not-has_no_definitions-clause-refused : goal.returns-then-not-has_no_definitions-clause-refused
returns-then-not-has_no_definitions-clause-refused g c =
    let inside = c.self.inside in
    let s = state_of inside.settings inside.types inside.registry in
    let before = as_before s inside.registry c.titled_document.new.registry c.with_store.result c.self.invariant.3
    (c.in_ok-own.ensures.rolled_back ∙ ap rolled_back c.with_store-registry.ensures) (c.with_store.ensures ∙ c.roll_back.ensures) in
    let with_registry : Registry → Generator g.row.O.Denot =
    λ w. record { settings = inside.settings; rows = inside.types; names = w.names; definitions = w.definitions } in
    subst (λ y. IfErr c.late_text.result (λ e. (x : Transforms g.row.O.Denot)
    × IsRootRefusal g.O.Transform.makes (held_transforms y) x (state y) c.args.n e))
    (ap with_registry before ∙ c.self.view_is) c.late_text.ensures.refused

-- ---- its definitions are put in

pub returns-clause-text : goal.returns-clause-text
returns-clause-text g c =
    let Q = g.O.Transform.makes in
    let inside = c.self.inside in
    let settings = inside.settings in
    let types = inside.types in
    let ts = settings.transforms in
    let n = c.args.n in
    let draft = c.requires.0 in
    let early = c.requires.1 in
    let s = state_of settings types inside.registry in
    let w = c.titled_document.new.registry in
    let own = c.in_ok-own.own in
    let ms = c.into_store-store.result in
    let text = string_bytes c.in_ok-text.text in
    let apart : HasNoDefinitions own = c.has_no_definitions.ensures c.if-not-has_no_definitions.false in
    let same : ms ≡ w.definitions = c.into_store-store.ensures ∙ ap (λ (x : Registry). x.definitions) c.commit.ensures.kept in
    let step : Step (state_plan s (Some n)) inside.registry w =
    subst (λ x. Step (state_plan (state_of settings types x) (Some n)) x w) c.with_store-registry.ensures c.in_ok-own.ensures.step in
    let titled : IsTitledRoot s inside.registry n w own =
    subst (λ x. IsTitledRoot (state_of settings types x) x n w own) c.with_store-registry.ensures c.in_ok-own.ensures.titled in
    let path : path_of s ≡ 47 ∷ key_for draft =
    subst (λ y. path_of (state y) ≡ 47 ∷ key_for draft) (sym c.self.view_is) early.path in
    let is : ts.items ≡ transforms_for draft = subst (λ y. transforms_of y ≡ transforms_for draft) (sym c.self.view_is) early.transforms in
    let local : are_local ts.items ≡ true = ap are_local is ∙ local_for g.row.O.Denot draft in
    let d = with_defs_at (key_for draft) ms own in
    let root = root_of s n inside.registry w own d (47 ∷ key_for draft) ms c.self.invariant.3 step titled (sym path) same
    (placed_for draft ms own apart) in
    let before = untransformed s n w d c.self.invariant.1 root (subst HasKeysOnce same c.in_ok-text.ensures.once) c.commit.ensures.one_to_one in
    let told : IsTextOf (made_by ts.items d) text =
    subst (λ k. IsTextOf (made_by ts.items (with_defs_at k ms own)) text) c.requires.2 c.in_ok-text.ensures.text in
    subst (λ y. IsRootText Q (held_transforms y) (state y) n text) c.self.view_is (made_text Q ts s n local d before text told)
