-- One name alone, or two.
use Rattle.std.proofs.Common.{◌≡◌, ◌-◌, ◌<◌, true, false, length, sym, ap, ◌∙◌, arith, take_all}
use Rattle.schemagen_json.proofs.Words.{list_all, bytes_eq}
use Rattle.schemagen_json.proofs.Members.{Member, lone_named, not_lone}
use Rattle.schemagen_json.proofs.borrowed_value.members.lone_member.Goals as goal

pub returns-then-ne : goal.returns-then-ne
returns-then-ne c =
    let ms = c.args.members.now.items in
    let xs : c.deref-other-items.result.now ≡ ms = c.deref-other-items.ensures.value in
    let m = c.loop-other-item.result in
    let apart : bytes_eq m.0.now c.index.result.now.0.now ≡ false = grind arith in
    sym (not_lone ms c.loop-other.other-index (c.len.result - 1) m c.index.result.now (omega arith) (rw (sym xs) c.loop-other-item.is)
    (omega arith) c.index.ensures apart)

pub returns : goal.returns
returns c =
    let ms = c.args.members.now.items in
    let xs : c.deref-other-items.result.now ≡ ms = c.deref-other-items.ensures.value in
    let some : 0 < length ms = grind arith in
    let named = λ (m : Member). bytes_eq m.0.now c.index.result.now.0.now in
    let all : list_all named ms ≡ true =
    ap (list_all named) (sym (take_all c.loop-other.other-index ms (omega arith))) ∙ rw (sym xs) c.loop-other.invariant in
    sym (lone_named ms (c.len.result - 1) c.index.result.now (omega (arith, some)) c.index.ensures all)
