use Rattle.std.proofs.Common.{arith}
use Rattle.std.proofs.lemmas.Grind.{common_steps}
use Rattle.scrypt_kernel.proofs.cores.simd.Lanes.write.Goals as goal

-- redundant, so that a wrong body is rejected here at once
pub returns-clause-written : goal.returns-clause-written
returns-clause-written g c k h = c.parts.invariant.written k (omega (arith, h))

pub parts-preserved : goal.parts-preserved
parts-preserved g c = grind (arith, common_steps)
