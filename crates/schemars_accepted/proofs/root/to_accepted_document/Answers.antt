use Rattle.std.proofs.Common.{◌≡◌, [], sym, ap, subst, IfOk}
use Rattle.schemars_accepted.proofs.Words.{IfOk-weaker, view, path_of, IsJoined, IsRootOfTypeRefusal, Generator, held_transforms, state, IsAmong, told_in_empty, AcceptsWritten, AreForWriting, HasRoot, IsLeftWithRoot, RefusesRoot}
use Rattle.schemars_accepted.proofs.Taking.{refused_and_left}
use Rattle.schemars_accepted.proofs.root.to_accepted_document.Goals as goal

pub to_accepted_root-requires : goal.to_accepted_root-requires
to_accepted_root-requires g c =
    let empty : c.new-generator.result.rows ≡ [] = ap (λ (x : Generator _). x.rows) c.new-generator.ensures.made in
    record { told = told_in_empty g.T.AgreesAsDescribed.is_told g.T.AgreesAsDescribed.tells c.requires.told c.new-generator.result.rows empty }

pub returns-clause-accepted : goal.returns-clause-accepted
returns-clause-accepted g c = λ draft writing.
    subst (λ (x : Generator _). IfOk c.to_accepted_root.result (λ r. AcceptsWritten (IsAmong g.T.Agrees.readings c.args.value.now) draft (path_of (state x)) r.0 (view r.1)))
    c.new-generator.ensures.made (c.to_accepted_root.ensures.accepted draft (record {
      settings = subst (λ (x : Generator _). AreForWriting draft x.settings) (sym c.new-generator.ensures.made) writing;
      own = c.new-generator.ensures.own;
    }))

pub returns-clause-refused : goal.returns-clause-refused
returns-clause-refused g c =
    let after = c.to_accepted_root.new.generator in
    refused_and_left c.to_accepted_root.result _ _ _ (λ e is left. (
      after,
      subst (λ (x : Generator _). RefusesRoot
          (IsRootOfTypeRefusal g.O.Transform.makes (held_transforms x) (held_transforms after) (state x) g.T.JsonSchema.says
          (IsJoined g.T.JsonSchema.says x.rows)) (g.T.Agrees.valid c.args.value.now) after.rows e) c.new-generator.ensures.made is,
      subst (λ (x : Generator _). IsLeftWithRoot g.O.Transform.makes g.T.JsonSchema.says x after e) c.new-generator.ensures.made left,
    ))
    c.to_accepted_root.ensures.refused c.to_accepted_root.ensures.left

pub returns-clause-made : goal.returns-clause-made
returns-clause-made g c =
    let after = c.to_accepted_root.new.generator in
    IfOk-weaker c.to_accepted_root.result _ _ (λ r is. (
      after,
      subst (λ (x : Generator _). HasRoot g.O.Transform.makes (held_transforms x) (held_transforms after) g.T.JsonSchema.says (state x)
          (state after) r.0) c.new-generator.ensures.made is,
    ))
    c.to_accepted_root.ensures.made
