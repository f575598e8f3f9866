use Rattle.std.proofs.Common.{arith}
use Rattle.scrypt_kernel.proofs.CountFacts.{counted_between}
use Rattle.scrypt.proofs.LoginFacts.{both_costs, cores_of_all}
use Rattle.scrypt.proofs.logins.verify_in_batch.Goals as goal

pub returns-clause-counted : goal.returns-clause-counted
returns-clause-counted g c = search (arith, cores_of_all, counted_between)

pub returns-clause-hashed : goal.returns-clause-hashed
returns-clause-hashed g c = search (arith, both_costs, counted_between)
