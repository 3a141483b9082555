-- Whether two contracts are the same.
use Rattle.std.specs.Prelude.{Bool, true, false}
use Rattle.schemars_types.specs.declared.contract.Contract.{Contract}
use Rattle.schemars_types.specs.declared.contract.Contract.TheVariants.{Deserialize, Serialize}

abbrev pub is_same_contract : Contract → Contract → Bool
is_same_contract Deserialize Deserialize = true
is_same_contract Deserialize Serialize = false
is_same_contract Serialize Deserialize = false
is_same_contract Serialize Serialize = true
