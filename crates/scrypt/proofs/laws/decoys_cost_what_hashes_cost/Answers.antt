use Rattle.std.proofs.Common.{arith}
use Rattle.password_hash.proofs.GroupFacts.{length-crypt64_of}
use Rattle.scrypt.proofs.AcceptedFacts.{stored_is_output}
use Rattle.scrypt.proofs.DecoyFacts.{decoy_rejects, decoy_within, made_public}
use Rattle.scrypt.proofs.StoredHashFacts.{mcf_reading, phc_reading}
use Rattle.scrypt.proofs.laws.decoys_cost_what_hashes_cost.Goals as goal

pub returns : goal.returns
returns c = grind (arith, decoy_rejects, decoy_within, made_public, phc_reading, length-crypt64_of, mcf_reading, stored_is_output)
