-- All names are listed if those of the members are.
use Rattle.std.proofs.Common.{◌≡◌, ◌+◌, ◌&&◌, [], ◌∷◌, drop, map, true, false, Bor, List, ℕ, sym, ap, ◌∙◌, arith}
use Rattle.schemagen_json.proofs.Words.{drop_more, drop_of_length-le, list_all, option_map_or, is_listed, are_listed}
use Rattle.schemagen_json.proofs.Members.{Member, are_listed-members}
use Rattle.schemagen_json.proofs.borrowed_value.BorrowedValue.has_only.Goals as goal

pub returns-then-not-is_listed : goal.returns-then-not-is_listed
returns-then-not-is_listed c =
    let names = map (λ (n : Bor (List ℕ)). n.now) c.args.names.now in
    let listed = λ (m : Member). is_listed m.0.now names in
    let xs = c.deref-name-items.result.now in
    let i = c.loop-name.name-index in
    let m = c.loop-name-item.result in
    let here : drop i xs ≡ m ∷ drop (i + 1) xs =
    drop_more xs i m (omega arith) ∙ ap (λ (y : Member). y ∷ drop (i + 1) xs) (sym c.loop-name-item.is) in
    let other : listed m ≡ false = grind arith in
    let none : list_all listed xs ≡ false =
    sym c.loop-name.invariant ∙ ap (list_all listed) here ∙ ap (λ b. b && list_all listed (drop (i + 1) xs)) other in
    let all : are_listed names _ ≡ false = are_listed-members names xs ∙ none in
    sym (ap (λ o. option_map_or (are_listed names) o false) (sym c.in-Some.ensures) ∙ rw (sym c.deref-name-items.ensures.value) all)

pub returns : goal.returns
returns c =
    let names = map (λ (n : Bor (List ℕ)). n.now) c.args.names.now in
    let listed = λ (m : Member). is_listed m.0.now names in
    let xs = c.deref-name-items.result.now in
    let rest : drop c.loop-name.name-index xs ≡ [] = drop_of_length-le xs (omega arith) in
    let all : are_listed names _ ≡ true =
    are_listed-members names xs ∙ sym c.loop-name.invariant ∙ ap (list_all listed) rest in
    sym (ap (λ o. option_map_or (are_listed names) o false) (sym c.in-Some.ensures) ∙ rw (sym c.deref-name-items.ensures.value) all)
