use Rattle.scrypt.proofs.SteppingFacts.{cores_are, cores_fit}
use Rattle.std.proofs.Common.{arith}
use Rattle.scrypt.proofs.stepping.cores_done.Goals as goal

pub overflow_mul-result-2 : goal.overflow_mul-result-2
overflow_mul-result-2 c = grind (arith, cores_fit)

pub returns : goal.returns
returns c = grind (arith, cores_are)
