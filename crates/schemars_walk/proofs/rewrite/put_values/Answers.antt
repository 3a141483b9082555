use Rattle.std.proofs.Common.{rules}
use Rattle.schemars_walk.proofs.Words.{into_iter_items}
use Rattle.schemars_walk.proofs.Parts.{all_filled}
use Rattle.schemars_walk.proofs.rewrite.put_values.Goals as goal

pub returns : goal.returns
returns c = λ full. all_filled _ (λ f. into_iter_items f.0.now) (λ f k v b w after x xs is call. search rules) _ c.args.members.now.entries
    c.retain.new.self.entries c.args.values.items c.into_iter-rest.ensures.rest full c.retain.ensures.filtered
