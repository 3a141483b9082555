-- The first token ends before the first `/`.
use Rattle.std.proofs.Common.{Some, None, arith}
use Rattle.schemars_schema.proofs.Words.{find_char}
use Rattle.schemars_schema.proofs.Pointers.{first_token_alone, first_token_before}
use Rattle.schemars_schema.proofs.schema.pointer.split_token.Goals as goal

pub returns-in-Some : goal.returns-in-Some
returns-in-Some c =
    let found = find_char 47 c.args.tokens.now (Some c.in-Some.end) c.in-Some.ensures.cases (omega arith) in
    first_token_before c.args.tokens.now c.split_at.result.0.now c.split_at.result.1.now c.in-Some.end found.0 found.1 found.2
    c.split_at.ensures.front c.split_at.ensures.back

pub returns-in-None : goal.returns-in-None
returns-in-None c = first_token_alone c.args.tokens.now (find_char 47 c.args.tokens.now None c.in-None.ensures.cases (omega arith))
