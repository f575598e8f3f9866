use Rattle.std.proofs.Common.{arith, rules}
use Rattle.scrypt_kernel.proofs.CountFacts.{counted_between}
use Rattle.scrypt.specs.Terms.{derived_key}
use Rattle.scrypt.proofs.derivation.derive_in.Goals as goal

pub returns-clause-derived : goal.returns-clause-derived
unfolding derived_key
returns-clause-derived g c = grind (arith, counted_between)

pub returns-clause-whole : goal.returns-clause-whole
returns-clause-whole g c none = grind (arith, counted_between)

-- The search finds this too. With it the checker rejects wrong bodies immediately.
pub returns-clause-spent : goal.returns-clause-spent
returns-clause-spent g c = record { kept = search rules; chunks = search rules; scratch = search rules }
