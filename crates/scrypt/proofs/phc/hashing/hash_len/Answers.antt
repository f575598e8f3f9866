use Rattle.std.proofs.lemmas.List.{places}
use Rattle.std.proofs.Common.{rules}
use Rattle.scrypt.proofs.PhcFacts.{same_lengths}
use Rattle.scrypt.proofs.phc.hashing.hash_len.Goals as goal

pub returns-clause-made : goal.returns-clause-made
returns-clause-made c password = search (rules, places, same_lengths)
