use Rattle.std.proofs.Common.{◌≡◌, ◌≤◌, ◌∙◌, ℕ, Option, ap, refl, sym, take, length, arith, string_bytes}
use Rattle.schemars_build.proofs.Words.{lookup, bytes_eq, take_all, length-take-le, none-some, naming_of, place_of_owner}
use Rattle.schemars_types.specs.declared.contract.Contract.{Contract}
use Rattle.schemars_build.proofs.NamingLemmas.{naming_of-take, length-naming_of}
use Rattle.schemars_build.proofs.PlacedLemmas.{placed_same, placed_take}
use Rattle.schemars_build.proofs.names.Names.truncate.Goals as goal

pub returns-then-len : goal.returns-then-len
returns-then-len c =
    (λ i. naming_of (c.truncate.ensures.items i) (c.truncate-then-len.ensures.keys i))
    ∙ naming_of-take c.args.len c.self.inside.owners.items c.self.inside.given.keys
    ∙ ap (take c.args.len) c.self.view_is

-- no more names are there
pub returns-else-len : goal.returns-else-len
returns-else-len c =
    let counted : c.len.result ≡ length c.args.self.now = c.len.ensures.len
    ∙ sym (length-naming_of c.self.inside.owners.items c.self.inside.given.keys c.self.invariant.same)
    ∙ ap length c.self.view_is in
    sym (take_all c.args.len c.args.self.now (omega (arith, counted, c.if-len.false)))

pub invariant_of-self : goal.invariant_of-self
invariant_of-self c =
    let owners = c.self.inside.owners.items in
    let given = c.self.inside.given.keys in
    let place : ℕ → Contract → Option ℕ = λ n d. place_of_owner n d c.self.inside.places.items in
    let counted = c.len.ensures.len in
    let fewer : c.args.len ≤ length given = omega (arith, counted, c.if-len.true) in
    let as_many = c.self.invariant.same in
    record {
      same = ap length c.truncate.ensures.items ∙ length-take-le c.args.len owners (omega (arith, as_many, fewer))
          ∙ sym (length-take-le c.args.len given fewer) ∙ sym (ap length c.truncate-then-len.ensures.keys);
      placed = placed_same (take c.args.len owners) c.truncate.new.self.items place place c.truncate.ensures.items (λ n d. refl)
          (placed_take c.args.len owners place c.self.invariant.placed);
      used = λ base count found. absurd (none-some count (sym (ap (lookup (λ k. bytes_eq base (string_bytes k))) c.clear.ensures.empty)
          ∙ found));
    }
