use Rattle.std.proofs.Common.{refl}
use Rattle.test_callers.proofs.Words.{alone, set_row}
use Rattle.test_callers.proofs.Containers.{one_holds}
use Rattle.test_callers.proofs.sequences.index_set_of_texts.Goals as goal

pub returns : goal.returns
unfolding set_row alone
returns c = one_holds _ _ c.in_ok-r.ensures refl
