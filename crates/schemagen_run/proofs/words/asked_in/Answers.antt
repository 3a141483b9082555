-- The words are compared one by one, and the flags behind them.
use Rattle.std.proofs.Common.{◌≡◌, ◌∷◌, [], List, ℕ, length, true, arith, codes, string_bytes, subst}
use Rattle.schemagen_run.proofs.Vocabulary.{bytes_eq}
use Rattle.schemagen_run.proofs.Runs.{Told, two_words, three_words, four_words}
use Rattle.schemagen_run.proofs.words.asked_in.Goals as goal

pub returns-in-len2 : goal.returns-in-len2
returns-in-len2 c =
    let a = c.command-item.result in
    let b = c.dialect-item.result in
    let two : length c.args.words.now ≡ 2 = omega arith in
    let types : bytes_eq (string_bytes a) (codes "types") ≡ true = cc in
    let told : Told c.asked_plainly.result (string_bytes b) [] =
    subst (λ t. Told c.asked_plainly.result t []) c.as_str-in-len2.ensures.value c.asked_plainly.ensures in
    two_words c.args.words.now a b two c.command-item.is c.dialect-item.is types c.asked_plainly.result told

pub returns-in-len3 : goal.returns-in-len3
returns-in-len3 c =
    let a = c.command-item-then-words-lt4.result in
    let b = c.dialect-item-then-words-lt4.result in
    let three : length c.args.words.now ≡ 3 = omega arith in
    let types : bytes_eq (string_bytes a) (codes "types") ≡ true = cc in
    let told : Told c.asked_by_one.result (string_bytes b) (string_bytes c.flag-item.result ∷ []) =
    subst (λ (t : List ℕ × List (List ℕ)). Told c.asked_by_one.result t.0 t.1)
    (λ i. (c.as_str-in-len3.ensures.value i, c.as_str-in-len3-2.ensures.value i ∷ [])) c.asked_by_one.ensures in
    three_words c.args.words.now a b c.flag-item.result three c.command-item-then-words-lt4.is c.dialect-item-then-words-lt4.is
    c.flag-item.is types c.asked_by_one.result told

pub returns-in-len4 : goal.returns-in-len4
returns-in-len4 c =
    let a = c.command-item-then-words-lt5.result in
    let b = c.dialect-item-then-words-lt5.result in
    let four : length c.args.words.now ≡ 4 = omega arith in
    let types : bytes_eq (string_bytes a) (codes "types") ≡ true = cc in
    let told : Told c.asked_by_two.result (string_bytes b) (string_bytes c.first-item.result ∷ string_bytes c.second-item.result ∷ []) =
    subst (λ (t : List ℕ × List (List ℕ)). Told c.asked_by_two.result t.0 t.1)
    (λ i. (c.as_str-in-len4.ensures.value i, c.as_str-in-len4-2.ensures.value i ∷ c.as_str-in-len4-3.ensures.value i ∷ []))
    c.asked_by_two.ensures in
    four_words c.args.words.now a b c.first-item.result c.second-item.result four c.command-item-then-words-lt5.is
    c.dialect-item-then-words-lt5.is c.first-item.is c.second-item.is types c.asked_by_two.result told
