use Rattle.std.proofs.Common.{arith}
use Rattle.scrypt_kernel.proofs.LaneFacts.{eight_lanes}
use Rattle.scrypt_kernel.proofs.cores.simd.vectors.U32x8Lanes.turned.Goals as goal

pub returns : goal.returns
returns c k h = grind (arith, eight_lanes)
