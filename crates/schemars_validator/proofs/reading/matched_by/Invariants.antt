-- The texts that were found, and the answers to those that are left; the expression stays.
use Rattle.std.proofs.Common.{◌≡◌, drop, map}
use Rattle.schemars_validator.proofs.Words.{◌||◌, bytes_eq, string_bytes, list_any, regex_pattern, matcher_pattern, Text, found_in}
use Rattle.schemars_validator.proofs.reading.matched_by.Given as goal

abbrev pub invariant-loop-text : goal.invariant-loop-text
invariant-loop-text l =
    (matcher_pattern l.matcher ≡ regex_pattern l.expression.regex)
    × ((t : Text) → (list_any (λ k. bytes_eq t (string_bytes k)) l.found.keys
    || found_in l.expression (map (λ x. x.now) (drop l.text-index l.texts)) t)
    ≡ found_in l.expression (map (λ x. x.now) l.texts) t)
