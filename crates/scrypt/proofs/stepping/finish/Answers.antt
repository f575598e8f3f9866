use Rattle.std.proofs.Common.{arith}
use Rattle.scrypt.specs.Terms.{derived_key}
use Rattle.scrypt.proofs.SteppingFacts.{all_chunks_mixed}
use Rattle.scrypt.proofs.stepping.finish.Goals as goal

pub returns-clause-value : goal.returns-clause-value
unfolding derived_key
returns-clause-value c salt table scratch at = grind (arith, all_chunks_mixed)
