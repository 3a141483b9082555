-- The keys of a map ascend.
use Rattle.std.proofs.Common.{rules, subst, sym}
use Rattle.schemars_assertions.proofs.Words.{values_of, view, items_view, IsJson, AreJson, sorted-entries}
use Rattle.schemars_assertions.proofs.Held.{text-json, entries-json}
use Rattle.schemars_assertions.proofs.json.+look.Goals as goal

pub look-returns-in-String : goal.look-returns-in-String
look-returns-in-String t c = subst (λ v. IsJson (view v)) (sym c.in-String.is) (text-json c.in-String.field-0)

pub look_at_members-returns : goal.look_at_members-returns
look_at_members-returns t c =
    let es = c.args.members.now.entries in
    let all : AreJson (items_view (values_of es)) = search rules in
    entries-json es all (sorted-entries es c.values-value-items.ensures.ordered)
