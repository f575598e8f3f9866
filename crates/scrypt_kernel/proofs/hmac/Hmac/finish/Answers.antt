use Rattle.std.proofs.Common.{arith, length-append}
use Rattle.std.proofs.lemmas.List.{length-map}
use Rattle.scrypt_kernel.proofs.CountFacts.{hashed_both}
use Rattle.scrypt_kernel.proofs.HashFacts.{length-padded_key}
use Rattle.scrypt_kernel.proofs.hmac.Hmac.finish.Goals as goal

pub returns-clause-counted : goal.returns-clause-counted
returns-clause-counted c secret text held = grind (arith, hashed_both, length-append, length-map, length-padded_key)
