use Rattle.std.proofs.Common.{arith}
use Rattle.std.proofs.lemmas.List.{length-replicate}
use Rattle.password_hash.proofs.GroupFacts.{encoded_is}
use Rattle.scrypt.proofs.DecoyFacts.{all_match, no_match}
use Rattle.scrypt.proofs.stored_parts.Key.matches_at.Goals as goal

pub base64_matches_at-requires : goal.base64_matches_at-requires
base64_matches_at-requires c = grind (arith, encoded_is _ _ (rw c.in-Mcf.is at c.requires.encoding), c.in-Mcf.is, c.requires.piece)

pub returns-in-Decoy : goal.returns-in-Decoy
returns-in-Decoy c = grind (arith, length-replicate, all_match, no_match)
