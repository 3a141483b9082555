-- The last member of a name is the one that stays.
use Rattle.std.proofs.Common.{◌≡◌, ◌-◌, [], ◌∷◌, ◌++◌, take, true, false, sym, ap, ◌∙◌, arith}
use Rattle.schemagen_json.proofs.Words.{take_more, bytes_eq, get_member, members_data}
use Rattle.schemagen_json.proofs.Members.{last_of_name, not_of_name}
use Rattle.schemagen_json.proofs.borrowed_value.members.last_member.Goals as goal

pub returns-then-eq : goal.returns-then-eq
returns-then-eq c =
    let ms = c.args.members.now in
    let i = c.loop-left.left - 1 in
    let m = c.index-members-left.result in
    let front : take c.loop-left.left ms ≡ take i ms ++ m ∷ [] =
    ap (λ n. take n ms) (omega arith) ∙ take_more ms i m (omega arith) ∙ ap (λ y. take i ms ++ y ∷ []) (sym c.index-members-left.is) in
    let same : bytes_eq m.0.now c.args.name.now ≡ true = grind arith in
    sym (c.loop-left.invariant.0 ∙ ap (λ ys. get_member c.args.name.now (members_data ys)) front
    ∙ last_of_name c.args.name.now (take i ms) m same)

pub loop-left-preserved : goal.loop-left-preserved
loop-left-preserved c =
    let ms = c.args.members.now in
    let i = c.loop-left.left - 1 in
    let m = c.index-members-left.result in
    let front : take c.loop-left.left ms ≡ take i ms ++ m ∷ [] =
    ap (λ n. take n ms) (omega arith) ∙ take_more ms i m (omega arith) ∙ ap (λ y. take i ms ++ y ∷ []) (sym c.index-members-left.is) in
    let other : bytes_eq m.0.now c.args.name.now ≡ false = grind arith in (
      c.loop-left.invariant.0 ∙ ap (λ ys. get_member c.args.name.now (members_data ys)) front
          ∙ not_of_name c.args.name.now (take i ms) m other,
      omega arith,
    )
