use Rattle.std.proofs.Common.{arith, rules}
use Rattle.scrypt_kernel.proofs.CountFacts.{counted_between}
use Rattle.scrypt.proofs.verifying.is_key_of.Goals as goal

-- The search finds these too. With them the checker rejects wrong bodies immediately.
pub returns-clause-exact : goal.returns-clause-exact
returns-clause-exact g c = c.is_derived_key-same.ensures.exact (search rules)

pub returns-clause-counted : goal.returns-clause-counted
returns-clause-counted g c = grind (arith, counted_between)

pub returns-clause-hashed : goal.returns-clause-hashed
returns-clause-hashed g c = grind (arith, counted_between)

pub returns-clause-spent : goal.returns-clause-spent
returns-clause-spent g c = record { kept = search rules; chunks = search rules; scratch = search rules }
