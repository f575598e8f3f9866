use Rattle.std.proofs.Common.{arith}
use Rattle.scrypt_examples.proofs.login.LoginPolicy.enroll_mcf.Goals as goal

pub returns : goal.returns
returns c = grind arith
