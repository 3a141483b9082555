-- After the first call the generator is one for what is written too.
use Rattle.std.proofs.Common.{◌≡◌, ◌∙◌, false, refl, sym, ap, subst}
use Rattle.serde_json.specs.View.{view}
use Rattle.schemars_transform.specs.Member.{some_own}
use Rattle.schemars_headline.specs.Drafts.{Draft, Draft2020_12, Draft2019_09, Draft07}
use Rattle.schemars_headline.specs.Headline.{IsDraftPath}
use Rattle.schemars_headline.specs.State.{Settings, stripped}
use Rattle.schemars_generate.specs.Settings.{transforms_for}
use Rattle.schemars_written.specs.Readings.{IsAmong}
use Rattle.schemars_accepted.specs.Rooted.{AcceptsWritten, IsForWriting}
use Rattle.test_callers.proofs.written.two_accepted.Goals as goal

none_own : (O : Type 0) (draft : Draft) → some_own {O = O} (transforms_for draft) ≡ false
none_own O Draft2020_12 = refl
none_own O Draft2019_09 = refl
none_own O Draft07 = refl

pub returns-clause-second : goal.returns-clause-second
returns-clause-second g c = λ draft writing.
    let made = c.in_ok-of_first.ensures.made in
    let second = c.in_ok-of_second.of_second in
    let built_in = ap some_own writing.settings.transforms ∙ none_own g.row.O.Denot draft in
    let still : IsForWriting draft c.to_accepted_root.new.generator = record {
      settings = record {
        contract = ap (λ (s : Settings). s.contract) made.settings ∙ writing.settings.contract;
        transforms = made.stay built_in ∙ writing.settings.transforms;
        path = subst (λ (s : Settings). IsDraftPath (stripped s.definitions_path)) (sym made.settings) writing.settings.path;
      };
      own = made.own writing.own;
    } in
    subst (λ (s : Settings). AcceptsWritten (IsAmong g.U.Agrees.readings c.args.second.now) draft (stripped s.definitions_path) second.0
    (view second.1)) made.settings (c.in_ok-of_second.ensures.accepted draft still)
