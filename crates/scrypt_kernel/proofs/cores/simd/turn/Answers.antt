use Rattle.std.proofs.Common.{arith}
use Rattle.scrypt_kernel.proofs.LaneFacts.{quarter_rounds_are}
use Rattle.scrypt_kernel.proofs.cores.simd.turn.Goals as goal

pub returns-clause-value : goal.returns-clause-value
returns-clause-value g c k h = grind (arith, quarter_rounds_are)
