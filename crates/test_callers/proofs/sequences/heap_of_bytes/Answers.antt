use Rattle.std.proofs.Common.{refl}
use Rattle.test_callers.proofs.Words.{alone, seq_row}
use Rattle.test_callers.proofs.Containers.{one_holds}
use Rattle.test_callers.proofs.sequences.heap_of_bytes.Goals as goal

pub returns : goal.returns
unfolding seq_row alone
returns c = one_holds _ _ c.in_ok-r.ensures refl
