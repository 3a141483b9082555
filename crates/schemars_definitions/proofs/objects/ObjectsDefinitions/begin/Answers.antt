use Rattle.std.proofs.Common.{◌≡◌, false, not, ap, ap₂, ◌∙◌, is_some, rules}
use Rattle.schemars_definitions.proofs.Words.{IfOk-weaker, boolean, get_member, view, members_view}
use Rattle.serde_json.specs.declared.value.Value.{Bool, the_lemmas}
use Rattle.schemars_definitions.proofs.EntryEdits.{has_member-by, put-by}
use Rattle.schemars_definitions.proofs.objects.ObjectsDefinitions.begin.Goals as goal

pub returns-clause-is_new : goal.returns-clause-is_new
returns-clause-is_new c = IfOk-weaker c.insert_new.result _ _ (λ b is. is
    ∙ ap not (has_member-by view _ c.self.inside.members.entries
    ∙ ap₂ (λ k ms. is_some (get_member k ms)) c.in_ok-key.ensures.ok c.self.view_is)) c.insert_new.ensures.is_new

pub returns-clause-begun : goal.returns-clause-begun
returns-clause-begun c =
    let seen : view (Bool false) ≡ boolean false = search (rules, the_lemmas) in
    IfOk-weaker c.insert_new.result _ _ (λ b added yes. ap members_view (added yes)
    ∙ put-by view c.in_ok-key.key (Bool false) c.self.inside.members.entries
    ∙ rw (seen, c.in_ok-key.ensures.ok, c.self.view_is)) c.insert_new.ensures.added
