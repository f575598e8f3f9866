use Rattle.std.proofs.Common.{arith}
use Rattle.scrypt.proofs.DecoyFacts.{rejects}
use Rattle.scrypt.proofs.decoy.Decoy.verify.Goals as goal

pub returns-clause-refused : goal.returns-clause-refused
returns-clause-refused g c = grind (arith, rejects)
