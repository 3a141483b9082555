-- What is known answers for the name.
use Rattle.std.proofs.Common.{◌≡◌, ◌∙◌, true, sym, ap, option_map}
use Rattle.std.specs.Prelude.{◌==◌}
use Rattle.schemars_validate.proofs.Words.{meant}
use Rattle.schemars_validate.specs.Memos.{marked_by}
use Rattle.schemars_validate.proofs.Words.{follow}
use Rattle.schemars_validate.proofs.Keeping.{known_item}
use Rattle.schemars_validate.proofs.Recalling.{recalled, recalled_marks, unasked}
use Rattle.schemars_validate.proofs.memo.Memo.recall.Goals.{else-reads_prefix_items-via-then-reads_prefix_items+else-not-reads_const, else-reads_prefix_items-via-else-reads_prefix_items}
use Rattle.schemars_validate.proofs.memo.Memo.recall.Goals as goal

pub returns-then-answers : goal.returns-then-answers
returns-then-answers c = λ document patterns v known.
    let ordinary : c.args.dialect.reads_prefix_items ≡ true → c.args.dialect.reads_const ≡ true =
    elim c.else-reads_prefix_items.branch [
      | else-reads_prefix_items-via-then-reads_prefix_items+else-not-reads_const w ↦ λ on. sym w.if-not-reads_const.ensures
      | else-reads_prefix_items-via-else-reads_prefix_items w ↦ λ on. let off = w.if-reads_prefix_items.ensures in cc
    ] in
    let k = c.known-item.result in
    let answers = c.answers.ensures c.if-answers.true in
    let right = known_item (follow c.args.dialect document patterns) v c.args.self.now c.deref-known-items.result.now c.loop-known.known-index k
    c.deref-known-items.ensures.value c.loop-known-test.true c.known-item.is known in
    let said = recalled c.args.dialect document patterns ordinary k c.args.name.now c.args.left _ v right answers in
    let marks = recalled_marks c.args.dialect document patterns ordinary k c.args.name.now c.args.left _ v c.args.marks.now.items right answers
    (unasked c.loop-known.marks.items c.args.marks.now.items c.is_empty.result
    (c.is_empty.ensures ∙ ap (λ n. n == 0) c.loop-known.marks.ok.0) c.loop-known.invariant) in
    (said, c.mark.ensures ∙ (ap (marked_by (meant k.says) (option_map (λ b. b.items) k.judged)) c.loop-known.invariant ∙ marks))
