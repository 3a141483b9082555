use Rattle.std.proofs.Common.{◌<◌, ◌+◌, ◌^◌, sym, subst, arith, string_bytes}
use Rattle.schemars_build.proofs.Words.{NamedRow, Naming, AreUsed}
use Rattle.schemars_build.proofs.TriedLemmas.{used_with}
use Rattle.schemars_build.proofs.names.Names.give.Goals as goal

pub overflow_add-tries : goal.overflow_add-tries
overflow_add-tries c = let h : c.in_ok-tries.tries < 2 ^ 63 = c.in_ok-tries.ensures.small in omega (arith, h)

pub note-requires : goal.note-requires
note-requires c =
    let x : NamedRow = record { row = c.args.n; contract = c.args.contract; name = string_bytes c.in_ok-clone.field-0 } in
    let P : Naming → Type 0 = λ names. AreUsed names c.args.base.now (c.in_ok-tries.tries + 1) in
    subst P (sym c.in_ok-push.ensures.ok)
    (used_with c.args.self.now c.args.base.now c.in_ok-tries.tries (string_bytes c.in_ok-tries.name) x c.in_ok-tries.ensures
    c.in_ok-clone.ensures.cases)
