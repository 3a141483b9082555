use Rattle.std.proofs.Common.{◌≡◌, ◌<◌, ◌+◌, ◌*◌, ◌∙◌, [], ℕ, Some, map, refl, ap, sym, subst, arith, rules, nat_eq, Contains, true, false, ◌∷◌, drop}
use Rattle.schemars_types.proofs.Words.{drop_more, list_any, variant_of, payload_of, newtype_payload, payload_same, of_variants, SameValueEdge, rank, keys, any_text, or_any_text, all_options, external_options, members_options, untagged_options, typed_options, options_of, options_at, adding, some_takes_all, AreAmong, HoldsRows}
use Rattle.schemars_shapes.specs.declared.shape.Shape.TheVariants as src
use Rattle.schemars_types.proofs.Adding.{adding-there, among_added, holds_met, holds_more, other_shape, literal_or_any, untagged_empty, untagged_all, members_behind, member_more}
use Rattle.schemars_types.proofs.Asked.{newtype_at}
use Rattle.schemars_types.proofs.Settling.{all_options-none}
use Rattle.schemars_types.proofs.Shapes.{found_at, edge_of_shape}
use Rattle.schemars_types.proofs.keys.+keys.Goals as goal
use Rattle.schemars_types.proofs.keys.+keys.Goals.{add_untagged-then-is_empty-via-then-is_empty, add_untagged-then-is_empty-via-else-is_empty+then-some_takes_all}

-- ---- a row

pub add_row-returns-then-contains-clause-added : goal.add_row-returns-then-contains-clause-added
add_row-returns-then-contains-clause-added t c =
    let o = options_of c.args.found.now.options in
    let met : list_any (nat_eq c.args.n) c.args.found.now.rows.keys ≡ true = sym c.contains.ensures ∙ c.if-contains.true in
    sym (adding-there o (options_at c.args.types.now c.args.n) (c.requires.holds.holds c.args.n met))

pub add_row-returns-clause-holds : goal.add_row-returns-clause-holds
add_row-returns-clause-holds t c =
    let rows = c.args.types.now in
    let own = options_at rows c.args.n in
    let o = options_of c.add_own.new.found.options in
    let among : AreAmong own o = subst (λ p. AreAmong own p) (sym c.in_ok-add_own.ensures.added)
    (among_added (options_of c.args.found.now.options) own) in
    subst (λ met. HoldsRows rows met o) (sym c.in_ok-insert.ensures.keys)
    (holds_met rows c.add_own.new.found.rows.keys c.args.n o c.in_ok-add_own.ensures.holds among)

-- ---- its shape

pub add_own-returns-in_default-clause-added : goal.add_own-returns-in_default-clause-added
add_own-returns-in_default-clause-added t c =
    let o = options_of c.args.found.now.options in
    c.allow_others.ensures
    ∙ ap (λ p. adding o (or_any_text p)) (sym (all_options-none c.args.types.now c.args.n (sym c.in_default.ensures)))

pub add_own-add_row-requires : goal.add_own-add_row-requires
add_own-add_row-requires t c =
    let rows = c.args.types.now in
    let edge : SameValueEdge rows c.args.n c.in-Newtype.m = edge_of_shape rows c.requires.checked c.args.n c.in-Some.entry.now
    c.in-Some.ensures (src.Newtype c.in-Newtype.m) c.in-Newtype.is c.in-Newtype.m (0, omega arith, refl) in
    let falls : rank rows c.in-Newtype.m < rank rows c.args.n = c.requires.checked.rank_falls c.args.n c.in-Newtype.m edge in
    let less : 4 * rank rows c.in-Newtype.m + 3 < 4 * rank rows c.args.n + 2 = omega arith in
    (search rules, (c.requires.checked, c.requires.holds))

pub add_own-add_untagged-requires : goal.add_own-add_untagged-requires
add_own-add_untagged-requires t c =
    let rows = c.args.types.now in
    let xs = c.deref-in-Untagged.result.now in
    let same : xs ≡ c.in-Untagged.variants.items = c.deref-in-Untagged.ensures.value in
    let edges : (m : ℕ) → Contains (of_variants payload_same (map variant_of xs)) m → SameValueEdge rows c.args.n m =
    λ m among. edge_of_shape rows c.requires.checked c.args.n c.in-Some.entry.now c.in-Some.ensures (src.Untagged c.in-Untagged.variants)
    c.in-Untagged.is m (subst (λ vs. Contains (of_variants payload_same (map variant_of vs)) m) same among) in
    let less : 4 * rank rows c.args.n + 1 < 4 * rank rows c.args.n + 2 = omega arith in
    (search rules, (c.requires.checked, (edges, c.requires.holds)))

pub add_own-returns-in-Int-clause-added : goal.add_own-returns-in-Int-clause-added
add_own-returns-in-Int-clause-added t c =
    let o = options_of c.args.found.now.options in
    let own = found_at c.args.types.now c.requires.checked c.args.n c.in-Some.entry.now c.in-Some.ensures
    (src.Int c.in-Int.kind) c.in-Int.is in
    c.add_integers.ensures ∙ (ap (λ k. adding o (keys false [] (Some k) [])) c.of_kind.ensures ∙ ap (adding o) (sym own))

pub add_own-returns-in-NonZero-clause-added : goal.add_own-returns-in-NonZero-clause-added
add_own-returns-in-NonZero-clause-added t c =
    let o = options_of c.args.found.now.options in
    let own = found_at c.args.types.now c.requires.checked c.args.n c.in-Some.entry.now c.in-Some.ensures (src.NonZero c.in-NonZero.field-0)
    c.in-NonZero.is in
    c.add_integers-in-NonZero.ensures ∙ ap (adding o) (sym own)

pub add_own-returns-in_ok-add_row-in-Newtype-clause-added : goal.add_own-returns-in_ok-add_row-in-Newtype-clause-added
add_own-returns-in_ok-add_row-in-Newtype-clause-added t c =
    let o = options_of c.args.found.now.options in
    let own = found_at c.args.types.now c.requires.checked c.args.n c.in-Some.entry.now c.in-Some.ensures (src.Newtype c.in-Newtype.m)
    c.in-Newtype.is in
    c.in_ok-add_row-in-Newtype.ensures.added ∙ ap (adding o) (sym own)

pub add_own-returns-in_ok-add_external-in-External-clause-added : goal.add_own-returns-in_ok-add_external-in-External-clause-added
add_own-returns-in_ok-add_external-in-External-clause-added t c =
    let o = options_of c.args.found.now.options in
    let own = found_at c.args.types.now c.requires.checked c.args.n c.in-Some.entry.now c.in-Some.ensures
    (src.External c.in-External.variants)
    c.in-External.is in
    c.in_ok-add_external-in-External.ensures
    ∙ (ap (λ vs. adding o (or_any_text (external_options (map variant_of vs)))) c.deref.ensures.value ∙ ap (adding o) (sym own))

pub add_own-returns-in_ok-add_external-in-External-clause-holds : goal.add_own-returns-in_ok-add_external-in-External-clause-holds
add_own-returns-in_ok-add_external-in-External-clause-holds t c =
    let rows = c.args.types.now in
    let met = c.args.found.now.rows.keys in
    let o = options_of c.args.found.now.options in
    subst (HoldsRows rows met) (sym c.in_ok-add_external-in-External.ensures)
    (holds_more rows met o (or_any_text (external_options (map variant_of c.deref.result.now))) c.requires.holds)

pub add_own-returns-in_ok-add_untagged-in-Untagged-clause-added : goal.add_own-returns-in_ok-add_untagged-in-Untagged-clause-added
add_own-returns-in_ok-add_untagged-in-Untagged-clause-added t c =
    let o = options_of c.args.found.now.options in
    let part = all_options c.args.types.now in
    let own = found_at c.args.types.now c.requires.checked c.args.n c.in-Some.entry.now c.in-Some.ensures
    (src.Untagged c.in-Untagged.variants)
    c.in-Untagged.is in
    c.in_ok-add_untagged-in-Untagged.ensures.added
    ∙ (ap (λ vs. adding o (or_any_text (untagged_options part (map variant_of vs)))) c.deref-in-Untagged.ensures.value
    ∙ ap (adding o) (sym own))

pub add_own-returns-in_ok-add_literal-in-Literal-clause-added : goal.add_own-returns-in_ok-add_literal-in-Literal-clause-added
add_own-returns-in_ok-add_literal-in-Literal-clause-added t c =
    let o = options_of c.args.found.now.options in
    let own = found_at c.args.types.now c.requires.checked c.args.n c.in-Some.entry.now c.in-Some.ensures
    (src.Literal c.in-Literal.schema) c.in-Literal.is in
    c.in_ok-add_literal-in-Literal.ensures ∙ ap (adding o) (sym (own ∙ literal_or_any c.in-Literal.schema))

pub add_own-returns-in_ok-add_literal-in-Literal-clause-holds : goal.add_own-returns-in_ok-add_literal-in-Literal-clause-holds
add_own-returns-in_ok-add_literal-in-Literal-clause-holds t c =
    let rows = c.args.types.now in
    let met = c.args.found.now.rows.keys in
    let o = options_of c.args.found.now.options in
    subst (HoldsRows rows met) (sym c.in_ok-add_literal-in-Literal.ensures)
    (holds_more rows met o (typed_options c.in-Literal.schema) c.requires.holds)

pub add_own-returns-in_default-shape : goal.add_own-returns-in_default-shape
add_own-returns-in_default-shape t c =
    let rows = c.args.types.now in
    let o = options_of c.args.found.now.options in
    let e = c.in-Some.entry.now in
    let other = c.in_default-shape in
    let own : options_at rows c.args.n ≡ any_text = found_at rows c.requires.checked c.args.n e c.in-Some.ensures e.shape refl
    ∙ other_shape (all_options rows) e.shape other.not-Int other.not-NonZero other.not-Newtype other.not-External
    other.not-Untagged other.not-Literal in
    let more = c.allow_others-in_default-shape.ensures in
    record {
      added = more ∙ ap (adding o) (sym own);
      holds = subst (HoldsRows rows c.args.found.now.rows.keys) (sym more)
          (holds_more rows c.args.found.now.rows.keys o any_text c.requires.holds);
    }

-- ---- the members of an untagged enum

pub add_untagged-returns-then-is_empty-clause-added : goal.add_untagged-returns-then-is_empty-clause-added
add_untagged-returns-then-is_empty-clause-added t c =
    let part = all_options c.args.types.now in
    let variants = c.args.variants.now in
    let any : or_any_text (untagged_options part (map variant_of variants)) ≡ any_text = elim c.then-is_empty.branch [
      | add_untagged-then-is_empty-via-then-is_empty w ↦ untagged_empty part variants (sym c.is_empty.ensures ∙ w.if-is_empty.true)
      | add_untagged-then-is_empty-via-else-is_empty+then-some_takes_all w ↦
          untagged_all part (map variant_of variants) (sym w.some_takes_all.ensures ∙ w.if-some_takes_all.true)
    ] in
    c.allow_others.ensures ∙ ap (adding (options_of c.args.found.now.options)) (sym any)

pub add_untagged-add_member-requires : goal.add_untagged-add_member-requires
add_untagged-add_member-requires t c =
    let rows = c.args.types.now in
    let item = c.variant-item.result in
    let edge : (m : ℕ) → payload_of item.payload ≡ newtype_payload m → SameValueEdge rows c.args.n m =
    λ m same. c.requires.edges m (newtype_at c.args.variants.now c.loop-variant.variant-index item c.variant-item.is
    (omega (arith, c.loop-variant-test.true)) m same) in
    let less : 4 * rank rows c.args.n < 4 * rank rows c.args.n + 1 = omega arith in
    (search rules, (c.requires.checked, (edge, c.loop-variant.invariant.holds)))

pub add_untagged-loop-variant-preserved : goal.add_untagged-loop-variant-preserved
add_untagged-loop-variant-preserved t c =
    let part = all_options c.args.types.now in
    let variants = c.args.variants.now in
    let i = c.loop-variant.variant-index in
    let item = c.variant-item.result in
    let rest = map variant_of (drop (i + 1) variants) in
    let o = options_of c.loop-variant.found.options in
    let split : drop i variants ≡ item ∷ drop (i + 1) variants = drop_more variants i item (omega (arith, c.loop-variant-test.true))
    ∙ ap (λ v. v ∷ drop (i + 1) variants) (sym c.variant-item.is) in
    let none : some_takes_all part (variant_of item ∷ rest) ≡ false =
    sym (ap (λ vs. some_takes_all part (map variant_of vs)) split) ∙ c.loop-variant.invariant.some in
    record {
      holds = c.in_ok-add_member.ensures.holds;
      some = members_behind part (variant_of item) rest none;
      added = ap (λ p. adding p (or_any_text (members_options part rest))) c.in_ok-add_member.ensures.added
          ∙ (member_more part o (variant_of item) rest none
          ∙ (sym (ap (λ vs. adding o (or_any_text (members_options part (map variant_of vs)))) split)
          ∙ c.loop-variant.invariant.added));
    }

pub add_member-add_row-requires : goal.add_member-add_row-requires
add_member-add_row-requires t c =
    let rows = c.args.types.now in
    let edge : SameValueEdge rows c.args.n c.in-Newtype.m = c.requires.edge c.in-Newtype.m (ap payload_of c.in-Newtype.is) in
    let falls : rank rows c.in-Newtype.m < rank rows c.args.n = c.requires.checked.rank_falls c.args.n c.in-Newtype.m edge in
    let less : 4 * rank rows c.in-Newtype.m + 3 < 4 * rank rows c.args.n = omega arith in
    (search rules, (c.requires.checked, c.requires.holds))
