use Rattle.std.proofs.Common.{arith}
use Rattle.scrypt_kernel.proofs.Pbkdf2Facts.{length-pbkdf2}
use Rattle.scrypt.proofs.KeyFacts.{length-mixed_chunks}
use Rattle.scrypt.proofs.logins.Login.compare.Goals as goal

pub returns-clause-counted : goal.returns-clause-counted
returns-clause-counted c = grind (arith, length-mixed_chunks, length-pbkdf2)
