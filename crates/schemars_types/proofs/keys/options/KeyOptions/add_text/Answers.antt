use Rattle.std.proofs.Common.{map, refl}
use Rattle.schemars_types.proofs.Words.{options_of}
use Rattle.schemars_types.proofs.Adding.{text_joins}
use Rattle.schemars_types.proofs.keys.options.KeyOptions.add_text.Goals as goal

pub returns : goal.returns
returns c =
    let old = c.args.self.now in
    text_joins (options_of old) old.others old.texts.keys c.insert.new.self.keys old.integers
    (map (λ t. t.now) old.patterns.keys) c.args.text refl c.in_ok-insert.ensures.keys
