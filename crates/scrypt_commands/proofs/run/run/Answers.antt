use Rattle.std.proofs.Common.{rules}
use Rattle.scrypt_commands.proofs.OutcomeFacts.{without_input}
use Rattle.scrypt_commands.proofs.run.run.Goals as goal

pub returns-in-Err-clause-run : goal.returns-in-Err-clause-run
returns-in-Err-clause-run g c = rw (← c.in-Err.ensures.value) (search (rules, without_input))
