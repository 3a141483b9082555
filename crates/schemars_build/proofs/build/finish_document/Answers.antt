use Rattle.std.proofs.Common.{◌≡◌, ◌<◌, ◌≤◌, false, Some, refl, ap, sym, ◌∙◌, subst, arith, rules, string_bytes, reverse}
use Rattle.schemars_build.proofs.Words.{◌||◌, boolean, get_member, reference, is_inline_at, part, reference_to, plan_of, IsBegun, IfOk-weaker, get_member-put, missing, document_rank, measure_of_part, filled, template_view, asked, IsUtf8-string_bytes}
use Rattle.schemars_build.specs.declared.build.Purpose.TheVariants as purpose
use Rattle.schemars_build.proofs.Making.{filled_made, closes_own, closes_members, closes_content, closes_referred, closes_definition}
use Rattle.schemars_build.proofs.Steps.{finished_with}
use Rattle.schemars_build.proofs.Descending.{content_to_part}
use Rattle.schemars_build.proofs.Ending.{closing_replies, closing_less, left_fewer, finished_fewer, replied_fewer}
use Rattle.schemars_build.proofs.build.finish_document.Goals as goal

pub returns-in-Own-clause-replies : goal.returns-in-Own-clause-replies
returns-in-Own-clause-replies g c = λ outside old want h.
    let plan = plan_of c.args.plan.now in
    let now = c.args.registry.now in
    let new = c.leave.new.self in
    let d = c.args.document in
    let s = c.in_ok-answer-in-Own.answer in
    let filled = filled_made plan outside old want now d h c.requires.all_answered s c.requires.checked c.in_ok-answer-in-Own.ensures in
    closing_replies plan outside old want now new d (reverse c.args.making.now.items) s h (left_fewer plan now new _ c.leave.ensures)
    (closes_own plan outside old want now d h s filled c.in-Own.entered new c.in-Own.is c.leave.ensures)

pub returns-in-Definition-clause-replies : goal.returns-in-Definition-clause-replies
returns-in-Definition-clause-replies g c = λ outside old want h.
    let plan = plan_of c.args.plan.now in
    let now = c.args.registry.now in
    let mid = c.leave-in-Definition.new.self in
    let new = c.define.new.registry in
    let d = c.args.document in
    let k = string_bytes c.in-Definition.name in
    let s = filled (template_view d.template) d.answers.items in
    let t = c.in_ok-reference-in-Definition.reference in
    let made = filled_made plan outside old want now d h c.requires.all_answered s c.requires.checked refl in
    let finished : new ≡ finished_with mid k s = c.in_ok-define-in-Definition.ensures.ok ∙ ap (λ x. finished_with mid x s) c.as_str-in-Definition.ensures.value in
    let replied = closes_definition plan outside old want now d h s made c.in-Definition.name c.in-Definition.entered mid new t
    c.in-Definition.is (IsUtf8-string_bytes c.in-Definition.name) c.leave-in-Definition.ensures finished
    (c.in_ok-reference-in-Definition.ensures ∙ ap (λ x. reference (reference_to plan.path x)) c.as_str.ensures.value) in
    let b : IsBegun plan outside h.mid h.start d.row d.in_definition (purpose.Definition c.in-Definition.name c.in-Definition.entered) =
    subst (λ q. IsBegun plan outside h.mid h.start d.row d.in_definition q) c.in-Definition.is h.begun in
    let first : get_member k h.start.definitions ≡ Some (boolean false) =
    ap (λ w. get_member k w.definitions) b.4 ∙ get_member-put k (boolean false) h.mid.definitions in
    let there : get_member k now.definitions ≡ Some (boolean false) = h.step.stays k (boolean false) first in
    let here : get_member k mid.definitions ≡ Some (boolean false) =
    ap (λ w. get_member k w.definitions) c.leave-in-Definition.ensures ∙ there in
    let x = left_fewer plan now mid _ c.leave-in-Definition.ensures in
    let y = finished_fewer plan mid k s (boolean false) here in
    let z = ap (missing plan.rows plan.contract) finished in
    closing_replies plan outside old want now new d (reverse c.args.making.now.items) t h (omega (arith, x, y, z)) replied

pub returns-in-Members-clause-replies : goal.returns-in-Members-clause-replies
returns-in-Members-clause-replies g c = λ outside old want h.
    let plan = plan_of c.args.plan.now in
    let now = c.args.registry.now in
    let d = c.args.document in
    let s = c.in_ok-schema-in-Members.schema in
    let t = c.schema-in-Members.result in
    let filled = filled_made plan outside old want now d h c.requires.all_answered s c.requires.checked c.in_ok-schema-in-Members.ensures in
    closing_replies plan outside old want now now d (reverse c.args.making.now.items) t h (omega arith)
    (closes_members plan outside old want now d h s filled c.in-Members.is_optional t c.in-Members.is
    (c.schema-in-Members.ensures ∙ c.in_ok-as_flattened-in-Members.ensures))

pub returns-then-not-must_be_in_place-clause-replies : goal.returns-then-not-must_be_in_place-clause-replies
returns-then-not-must_be_in_place-clause-replies g c =
    let plan = plan_of c.args.plan.now in
    let now = c.args.registry.now in
    let new = c.place_part.new.registry in
    let d = c.args.document in
    let s = c.in_ok-schema-in-Content.schema in
    let ds = reverse c.args.making.now.items in
    let es = reverse c.place_part.new.making.items in
    let fewer : missing plan.rows plan.contract now ≤ missing plan.rows plan.contract now = omega arith in
    let low : measure_of_part plan now d.row < document_rank plan now now.pending d.row d.purpose =
    subst (λ q. measure_of_part plan now d.row < document_rank plan now now.pending d.row q) (sym c.in-Content.is)
    (content_to_part plan now now d.row fewer refl) in
    IfOk-weaker c.place_part.result _ _ (λ o x outside old want h.
    let filled = filled_made plan outside old want now d h c.requires.all_answered s c.requires.checked c.in_ok-schema-in-Content.ensures in
    let replied = closes_referred plan outside old want now d h s filled (is_inline_at plan.rows d.row || plan.inlines) new x.reply
    c.in-Content.is refl (search rules) x.replied in
    record {
      reply = x.reply;
      given = x.given;
      replied = replied;
      is_like = closing_less plan outside old want now new d ds x.reply (measure_of_part plan now d.row) h
          (replied_fewer plan d.in_definition now (asked (part d.row)) new x.reply x.replied) replied x.is_like low;
    }) c.place_part.ensures.replies

pub returns-clause-replies : goal.returns-clause-replies
returns-clause-replies g c = λ outside old want h.
    let plan = plan_of c.args.plan.now in
    let now = c.args.registry.now in
    let d = c.args.document in
    let s = c.in_ok-schema-in-Content.schema in
    let t = c.schema-in-Content-3.result in
    let filled = filled_made plan outside old want now d h c.requires.all_answered s c.requires.checked c.in_ok-schema-in-Content.ensures in
    closing_replies plan outside old want now now d (reverse c.args.making.now.items) t h (omega arith)
    (closes_content plan outside old want now d h s filled (is_inline_at plan.rows d.row || plan.inlines) t c.in-Content.is refl
    (search rules) (c.schema-in-Content-3.ensures ∙ c.in_ok-open_inside-in-Content.ensures))
