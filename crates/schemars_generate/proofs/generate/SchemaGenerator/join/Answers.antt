use Rattle.std.proofs.Common.{◌∙◌, List, ap, sym, subst, take}
use Rattle.schemars_generate.proofs.Words.{RefersWithin, Row}
use Rattle.schemars_generate.proofs.generate.SchemaGenerator.join.Goals as goal

pub truncate-requires : goal.truncate-requires
truncate-requires g c =
    let same = ap (λ k. take k c.join.new.types) c.len-len.ensures.len ∙ c.join.ensures.begins in
    subst (λ (rows : List Row). RefersWithin rows) (sym same) c.self.invariant.1.within
