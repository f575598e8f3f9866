use Rattle.std.proofs.Common.{arith}
use Rattle.scrypt.proofs.ReadingFacts.{enough_decided}
use Rattle.scrypt.proofs.derivation.scrypt_with_buffers.Goals as goal

-- the buffers are long enough
pub unwrap-requires : goal.unwrap-requires
unwrap-requires c = grind (arith, enough_decided)
