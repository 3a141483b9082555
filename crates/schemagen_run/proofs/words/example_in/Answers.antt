-- The two words are compared one by one.
use Rattle.std.proofs.Common.{◌≡◌, true, List, ℕ, length, arith, codes, string_bytes, subst}
use Rattle.schemagen_run.proofs.Vocabulary.{MatchOption, bytes_eq, IsDialect, word_for}
use Rattle.schemagen_run.proofs.Runs.{sample_words}
use Rattle.schemagen_run.proofs.words.example_in.Goals as goal

pub returns-in-len2 : goal.returns-in-len2
returns-in-len2 c =
    let a = c.command-item.result in
    let b = c.dialect-item.result in
    let two : length c.args.words.now ≡ 2 = omega arith in
    let sample : bytes_eq (string_bytes a) (codes "sample") ≡ true = cc in
    let P : List ℕ → Type 0 = λ word. MatchOption c.dialect_of.result (¬ (IsDialect word)) (λ d. word ≡ word_for d) in
    let told : P (string_bytes b) = subst P c.as_str-in-len2.ensures.value c.dialect_of.ensures in
    sample_words c.args.words.now a b two c.command-item.is c.dialect-item.is sample c.dialect_of.result told
