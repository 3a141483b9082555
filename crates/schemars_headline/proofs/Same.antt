-- All root documents of a row accept the same values: those with rows in place and those with references, each in its own draft.
use Rattle.std.proofs.Common.{◌≡◌, ℕ, List, inl, inr, Bool, true, false, sym, subst}
use Rattle.schemars_headline.proofs.Words.{Data, Text, Dialect, Row, State, path_of, MeansItsType, Verdict, verdict, belongs, RootHeadline, IsSameAnswer, HaveSameAcceptance, RootsHaveSameAcceptance}
use Rattle.schemars_types.specs.declared.contract.Contract.{Contract}

told : (x y : Verdict) (b : Bool) → x ≡ verdict b → y ≡ verdict b → IsSameAnswer x y
told x y true h g = inl (h, g)
told x y false h g = inr (h, g)

-- two documents that mean one row
pub same_meaning : (rows : List Row) (contract : Contract) (n : ℕ) (dialect : Dialect) (path : Text) (document : Data)
    (other_dialect : Dialect) (other_path : Text) (other : Data) → MeansItsType dialect rows contract path n document
    → MeansItsType other_dialect rows contract other_path n other
    → HaveSameAcceptance dialect path document other_dialect other_path other
same_meaning rows contract n dialect path document other_dialect other_path other h g patterns v json j k enough more =
    told _ _ (belongs rows contract patterns n v) (h.accepts_its_values patterns v json j enough)
    (g.accepts_its_values patterns v json k more)

-- root documents of one row of two generators over one table
pub same_roots : (n : ℕ) (dialect : Dialect) (s : State) (document : Data) (other_dialect : Dialect) (t : State) (other : Data)
    → RootHeadline dialect s n document → RootHeadline other_dialect t n other
    → RootsHaveSameAcceptance dialect s document other_dialect t other
same_roots n dialect s document other_dialect t other h g share ready also =
    let Means : List Row → Contract → Type 0 = λ rows contract. MeansItsType other_dialect rows contract (path_of t) n other in
    let on_rows : Means s.rows t.settings.contract =
    subst (λ rows. Means rows t.settings.contract) (sym share.0) (g also.0 also.1 also.2) in
    let means : Means s.rows s.settings.contract = subst (Means s.rows) (sym share.1) on_rows in
    same_meaning s.rows s.settings.contract n dialect (path_of s) document other_dialect (path_of t) other
    (h ready.0 ready.1 ready.2) means
