-- What is left is still to be added.
use Rattle.std.proofs.Common.{◌≡◌, ◌++◌, map, drop}
use Rattle.schemars_sample.proofs.Words.{number, unsigned, view, are_bytes}
use Rattle.schemars_sample.proofs.json.bytes_json.Given as goal

abbrev pub invariant-loop-byte : goal.invariant-loop-byte
invariant-loop-byte l = record {
  values : map view l.values.items ++ map (λ b. number (unsigned b)) (drop l.byte-index l.bytes)
      ≡ map (λ b. number (unsigned b)) l.bytes;
  in_range : are_bytes (drop l.byte-index l.bytes) ≡ are_bytes l.bytes;
}
