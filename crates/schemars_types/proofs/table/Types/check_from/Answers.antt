use Rattle.std.proofs.Common.{inr, string_bytes}
use Rattle.schemars_types.proofs.Words.{MatchOption-at_some, MatchOption-at_none, IsLeast, IsFirstRepeated, names_at, IsUndefined, HasRepeated, OnDirectCycle, OnEmptyCycle}
use Rattle.schemars_types.proofs.Accepted.{checked}
use Rattle.schemars_types.proofs.Further.{all_defined, least_undefined, none_repeated_from, least_repeated_from, direct_cycles_from, empty_cycles_from}
use Rattle.schemars_types.proofs.table.Types.check_from.Goals as goal

-- the row that is reported, which was never defined
undefined : (c : goal.In-Some) → IsLeast (IsUndefined c.args.self.now) c.in-Some.n
undefined c =
    least_undefined c.args.self.now c.args.checked c.requires c.in-Some.n
    (MatchOption-at_some _ _ _ c.in-Some.is c.first_undefined.ensures.first)

pub returns-in-Some-clause-refused : goal.returns-in-Some-clause-refused
returns-in-Some-clause-refused c = inr (undefined c)

pub returns-in-Some-clause-only_memory : goal.returns-in-Some-clause-only_memory
returns-in-Some-clause-only_memory c = λ a. absurd (a.defined c.in-Some.n (undefined c).0)

-- the name that is reported
repeated : (c : goal.In-Some-2) → IsLeast (HasRepeated c.args.self.now) c.in-Some-2.n
    × IsFirstRepeated (names_at c.args.self.now c.in-Some-2.n) (string_bytes c.in-Some-2.name)
repeated c =
    let found = MatchOption-at_some _ _ _ c.in-Some-2.is c.in_ok-n.ensures in
    (least_repeated_from c.args.self.now c.args.checked c.requires c.in-Some-2.n (string_bytes c.in-Some-2.name) found.0 found.1, found.1)

pub returns-in-Some-2-clause-refused : goal.returns-in-Some-2-clause-refused
returns-in-Some-2-clause-refused c = inr (all_defined c.args.self.now c.args.checked c.requires c.in_default.ensures.first, (repeated c).0, (repeated c).1)

pub returns-in-Some-2-clause-only_memory : goal.returns-in-Some-2-clause-only_memory
returns-in-Some-2-clause-only_memory c = λ a. absurd (a.named c.in-Some-2.n (repeated c).0.0)

-- the row that is reported, on a direct cycle
direct : (c : goal.In-Some-3) → IsLeast (OnDirectCycle c.args.self.now) c.in-Some-3.n
direct c =
    MatchOption-at_some _ _ _ c.in-Some-3.is
    (direct_cycles_from c.args.self.now c.args.checked c.requires c.in_ok-n-2.field-0 c.in_ok-n-2.ensures)

pub returns-in-Some-3-clause-refused : goal.returns-in-Some-3-clause-refused
returns-in-Some-3-clause-refused c =
    inr (
      all_defined c.args.self.now c.args.checked c.requires c.in_default.ensures.first,
      none_repeated_from c.args.self.now c.args.checked c.requires (MatchOption-at_none _ _ c.in_default-2.is c.in_ok-n.ensures),
      direct c,
    )

pub returns-in-Some-3-clause-only_memory : goal.returns-in-Some-3-clause-only_memory
returns-in-Some-3-clause-only_memory c = λ a. absurd (a.direct c.in-Some-3.n (direct c).0)

-- the row that is reported, on an empty cycle
empty : (c : goal.In-Some-4) → IsLeast (OnEmptyCycle c.args.self.now) c.in-Some-4.n
empty c =
    MatchOption-at_some _ _ _ c.in-Some-4.is
    (empty_cycles_from c.args.self.now c.args.checked c.requires c.in_ok-n-3.field-0 c.in_ok-n-3.ensures)

pub returns-in-Some-4-clause-refused : goal.returns-in-Some-4-clause-refused
returns-in-Some-4-clause-refused c =
    inr (
      all_defined c.args.self.now c.args.checked c.requires c.in_default.ensures.first,
      none_repeated_from c.args.self.now c.args.checked c.requires (MatchOption-at_none _ _ c.in_default-2.is c.in_ok-n.ensures),
      MatchOption-at_none _ _ c.in_default-3.is
          (direct_cycles_from c.args.self.now c.args.checked c.requires c.in_ok-n-2.field-0 c.in_ok-n-2.ensures),
      empty c,
    )

pub returns-in-Some-4-clause-only_memory : goal.returns-in-Some-4-clause-only_memory
returns-in-Some-4-clause-only_memory c = λ a. absurd (a.empty c.in-Some-4.n (empty c).0)

pub returns-clause-accepted : goal.returns-clause-accepted
returns-clause-accepted c = record {
  defined = all_defined c.args.self.now c.args.checked c.requires c.in_default.ensures.first;
  named = none_repeated_from c.args.self.now c.args.checked c.requires (MatchOption-at_none _ _ c.in_default-2.is c.in_ok-n.ensures);
  direct = MatchOption-at_none _ _ c.in_default-3.is
      (direct_cycles_from c.args.self.now c.args.checked c.requires c.in_ok-n-2.field-0 c.in_ok-n-2.ensures);
  empty = MatchOption-at_none _ _ c.in_default-4.is
      (empty_cycles_from c.args.self.now c.args.checked c.requires c.in_ok-n-3.field-0 c.in_ok-n-3.ensures);
}

pub returns-clause-checked : goal.returns-clause-checked
returns-clause-checked c =
    checked c.args.self.now c.first_undefined.ensures.within (returns-clause-accepted c)
