-- One more is kept, or one in place of another.
use Rattle.std.proofs.Common.{refl, sym, subst, option_map}
use Rattle.schemars_validate.proofs.Words.{meant}
use Rattle.schemars_validate.specs.Memos.{IsFound}
use Rattle.schemars_validate.proofs.Keeping.{learnt, relearnt, unchanged}
use Rattle.schemars_validate.proofs.memo.Memo.keep.Goals as goal

pub returns-in-Some : goal.returns-in-Some
returns-in-Some c = λ to v known found.
    relearnt c.args.self.now _ _ c.in-Some.place refl to v known
    (subst (λ t. IsFound to v t c.args.references (meant c.args.says) (option_map (λ b. b.items) c.args.judged)) (sym c.in_ok-from_str.ensures.ok) found)

pub returns-in_err-push-in-None : goal.returns-in_err-push-in-None
returns-in_err-push-in-None c = λ to v known found.
    unchanged c.args.self.now c.push.new.self _ c.in_err-push-in-None.ensures.items refl to v known

pub returns-in_ok-push-in-None : goal.returns-in_ok-push-in-None
returns-in_ok-push-in-None c = λ to v known found.
    learnt c.args.self.now c.push.new.self _ c.in_ok-push-in-None.ensures.items to v known
    (subst (λ t. IsFound to v t c.args.references (meant c.args.says) (option_map (λ b. b.items) c.args.judged)) (sym c.in_ok-from_str.ensures.ok) found)
