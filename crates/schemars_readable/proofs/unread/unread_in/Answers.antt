-- The keywords of each schema in turn.
use Rattle.std.proofs.Common.{rules, ◌≡◌, ◌∙◌, ◌+◌, ◌∷◌, [], subst, sym, ap, drop, drop-cons, add-one, get_or, string_bytes}
use Rattle.schemars_readable.proofs.Words.{get_or_default, view, members_view, standing, told, with_new, unread_among, unread_of}
use Rattle.schemars_readable.proofs.Telling.{told_more}
use Rattle.schemars_readable.proofs.unread.unread_in.Goals as goal

pub loop-schema-preserved : goal.loop-schema-preserved
loop-schema-preserved c =
    let es = c.args.schemas.now in
    let i = c.loop-schema.schema-index in
    let e = c.schema-item.result in
    let d = view c.args.document.now in
    let old = told c.loop-schema.unread.items in
    let rest = unread_of c.args.draft d (standing (drop (i + 1) es)) in
    let here = unread_among c.args.draft d (string_bytes e.pointer) (members_view e.keywords.now.entries) in
    let at : get_or es i e ≡ e = get_or_default es i e _ (search rules) ∙ sym c.schema-item.is in
    let cut : drop i es ≡ e ∷ drop (i + 1) es = rw add-one (drop-cons es i e (search rules)) ∙ ap (λ x. x ∷ drop (i + 1) es) at in
    let before = subst (λ ds. with_new old (unread_of c.args.draft d (standing ds)) ≡ with_new [] (unread_of c.args.draft d (standing es)))
    cut c.loop-schema.invariant in
    ap (λ ts. with_new ts rest) c.in_ok-add_unread.ensures ∙ sym (told_more old here rest) ∙ before
