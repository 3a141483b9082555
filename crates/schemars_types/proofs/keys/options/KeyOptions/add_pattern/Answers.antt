use Rattle.std.proofs.Common.{map, refl}
use Rattle.schemars_types.proofs.Words.{options_of}
use Rattle.schemars_types.proofs.Adding.{pattern_joins}
use Rattle.schemars_types.proofs.keys.options.KeyOptions.add_pattern.Goals as goal

pub returns : goal.returns
returns c =
    let old = c.args.self.now in
    pattern_joins (options_of old) old.others (map (λ t. t.now) old.texts.keys) old.integers
    old.patterns.keys c.insert.new.self.keys c.args.pattern refl c.in_ok-insert.ensures.keys
