-- The marks so far, and those of the members that are left.
use Rattle.std.proofs.Common.{◌≡◌, ◌++◌, take, drop, option_map}
use Rattle.schemars_validate.proofs.Words.{view, members_view, marked, keys_in, at_keys, is_taken}
use Rattle.schemars_validate.proofs.marks.mark_taken.Given as goal

abbrev pub invariant-loop-key : goal.invariant-loop-key
invariant-loop-key g l =
    let f = at_keys (is_taken (g.P.Patterns.reading l.patterns) (option_map (λ s. members_view s.now.entries) l.schemas.named)
    (option_map (λ s. members_view s.now.entries) l.schemas.by_pattern) (option_map (λ s. view s.now) l.schemas.others)) in
    take l.place l.marks.items ++ marked f (keys_in (members_view l.key-iterator)) (drop l.place l.marks.items)
    ≡ marked f (keys_in (members_view l.members.entries)) l.fn.marks.items
