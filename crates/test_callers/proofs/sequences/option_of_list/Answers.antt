use Rattle.std.proofs.Common.{refl}
use Rattle.test_callers.proofs.Words.{alone, of_one, option_row, seq_row}
use Rattle.test_callers.proofs.Containers.{chain_holds}
use Rattle.test_callers.proofs.sequences.option_of_list.Goals as goal

pub returns : goal.returns
unfolding option_row seq_row of_one alone
returns c = chain_holds _ _ _ c.in_ok-r.ensures refl refl refl
