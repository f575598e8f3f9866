use Rattle.scrypt_kernel.specs.Words.{add32}
use Rattle.scrypt_kernel.proofs.WordFacts.{part-zip2}
use Rattle.scrypt_kernel.proofs.cores.simd.vectors.plus.Goals as goal

pub returns : goal.returns
returns g c k = part-zip2 add32 4 k c.args.x c.args.y
