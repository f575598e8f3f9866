use Rattle.std.proofs.Common.{arith}
use Rattle.scrypt.proofs.CostFacts.{one_table}
use Rattle.scrypt.proofs.derivation.scrypt_thin.Goals as goal

pub derive_in-requires-clause-ready : goal.derive_in-requires-clause-ready
derive_in-requires-clause-ready c = grind (arith, one_table)
