use Rattle.std.proofs.Common.{rules}
use Rattle.scrypt_examples.proofs.key_file.Subkeys.halves_of.Goals as goal

-- the search finds this too: it is here so that a body that copies another half is refused by this goal
pub returns-clause-authentication : goal.returns-clause-authentication
returns-clause-authentication c = search rules
