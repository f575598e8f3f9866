use Rattle.password_hash.proofs.PhcReadingFacts.{hash_is_read, read_is_hash}
use Rattle.password_hash.proofs.laws.printed_hashes_are_read.Goals as goal

pub returns : goal.returns
returns c = record { exact = λ text hash. (read_is_hash text hash, hash_is_read text hash) }
