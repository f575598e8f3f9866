use Rattle.std.proofs.Common.{arith}
use Rattle.scrypt_c.proofs.stored_text.scrypt_stored_phc.Goals as goal

pub returns-in-Ok-hash_of_key-clause-read : goal.returns-in-Ok-hash_of_key-clause-read
returns-in-Ok-hash_of_key-clause-read c done = grind arith
