-- What is left goes behind what is written, as all of it does behind the text at the start.
use Rattle.std.proofs.Common.{◌≡◌, ◌++◌, false, string_bytes}
use Rattle.schemars_definitions.proofs.Words.{members_have_float, with_commas, AreOrdered, definitions_in, each_made}
use Rattle.schemars_definitions.proofs.JoinedTexts.{definition_texts}
use Rattle.schemars_definitions.proofs.joined.push_definitions.Given as goal

abbrev pub invariant-loop-name : goal.invariant-loop-name
invariant-loop-name g l =
    let made = g.C.Change.made in
    let left = l.name-iterator in
    let all = l.fn.definitions.entries in
    record {
      ordered : AreOrdered made left;
      floats : members_have_float (each_made made (definitions_in all)) ≡ false
          → members_have_float (each_made made (definitions_in left)) ≡ false;
      same : members_have_float (each_made made (definitions_in all)) ≡ false
          → string_bytes l.out ++ with_commas l.later (definition_texts (each_made made (definitions_in left)))
          ≡ string_bytes l.fn.out ++ with_commas false (definition_texts (each_made made (definitions_in all)));
    }
