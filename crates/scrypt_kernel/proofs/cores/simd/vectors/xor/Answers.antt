use Rattle.std.proofs.Common.{bit_xor}
use Rattle.scrypt_kernel.proofs.WordFacts.{part-zip2}
use Rattle.scrypt_kernel.proofs.cores.simd.vectors.xor.Goals as goal

pub returns-clause-value : goal.returns-clause-value
returns-clause-value g c k = part-zip2 bit_xor 4 k c.args.x c.args.y
