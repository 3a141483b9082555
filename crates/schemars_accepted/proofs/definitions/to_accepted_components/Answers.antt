use Rattle.std.proofs.Common.{◌≡◌, ◌∙◌, [], sym, ap, subst}
use Rattle.schemars_accepted.proofs.Words.{IfOk-weaker, view, members_view, Generator, held_transforms, settings_of, state, IsAmong, told_in_empty, RefusesRoot, AreForOpenApi, AreTaken, IsLeft, IsTakenRefusal}
use Rattle.schemars_accepted.proofs.Taking.{of_both, refused_and_left, reference_of_new}
use Rattle.schemars_accepted.proofs.definitions.to_accepted_components.Goals as goal

pub to_accepted_definitions-requires : goal.to_accepted_definitions-requires
to_accepted_definitions-requires g c =
    let empty : c.new-generator.result.rows ≡ [] = ap (λ (x : Generator _). x.rows) c.new-generator.ensures.made in
    record { told = told_in_empty g.T.AgreesAsDescribed.is_told g.T.AgreesAsDescribed.tells c.requires.told c.new-generator.result.rows empty }

pub returns-clause-accepted : goal.returns-clause-accepted
returns-clause-accepted g c = λ for none apart.
    let made = c.new-generator.ensures.made in
    let before = c.new-generator.result in
    let after = c.to_accepted_definitions.new.generator in
    of_both c.to_accepted_definitions.result _ _ _ (λ r taken accepts.
    reference_of_new g.O.Transform.makes (held_transforms before) (held_transforms after) (IsAmong g.T.Agrees.readings c.args.value.now)
    g.T.JsonSchema.says (state before) (state after) (members_view r.1.entries) r.0 (view r.2) taken accepts
    (ap (λ (x : Generator _). x.rows) made) (ap (λ (x : Generator _). (settings_of x.settings).inlines) made ∙ none) apart)
    c.to_accepted_definitions.ensures.made
    (c.to_accepted_definitions.ensures.accepted (record {
      settings = subst (λ (x : Generator _). AreForOpenApi x.settings) (sym made) for;
      own = c.new-generator.ensures.own;
    }))

pub returns-clause-made : goal.returns-clause-made
returns-clause-made g c =
    let after = c.to_accepted_definitions.new.generator in
    IfOk-weaker c.to_accepted_definitions.result _ _ (λ r is. (
      after,
      subst (λ (x : Generator _). AreTaken g.O.Transform.makes (held_transforms x) (held_transforms after) g.T.JsonSchema.says (state x)
          (state after) r.0 (members_view r.1.entries)) c.new-generator.ensures.made is,
    ))
    c.to_accepted_definitions.ensures.made

pub returns-clause-refused : goal.returns-clause-refused
returns-clause-refused g c =
    let after = c.to_accepted_definitions.new.generator in
    refused_and_left c.to_accepted_definitions.result _ _ _ (λ e is left. (
      after,
      subst (λ (x : Generator _). RefusesRoot (IsTakenRefusal g.O.Transform.makes g.T.JsonSchema.says x after)
          (g.T.Agrees.valid c.args.value.now) after.rows e) c.new-generator.ensures.made is,
      subst (λ (x : Generator _). IsLeft g.T.JsonSchema.says x after e) c.new-generator.ensures.made left,
    ))
    c.to_accepted_definitions.ensures.refused c.to_accepted_definitions.ensures.unchanged
