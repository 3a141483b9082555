use Rattle.std.proofs.Common.{◌∙◌, map}
use Rattle.schemars_plain.proofs.Words.{IfOk-weaker, variant_of}
use Rattle.schemars_plain.proofs.Named.{variants_said}
use Rattle.schemars_plain.proofs.enums.names_in.Goals as goal

pub returns-in-External : goal.returns-in-External
returns-in-External c = rw c.in-External.is (IfOk-weaker c.variant_names.result _ _
    (λ v is. is ∙ variants_said c.args.types.now (map variant_of c.in-External.variants.items))
    (rw c.deref.ensures.value at c.variant_names.ensures))
