use Rattle.std.proofs.Common.{refl, replicate, rules}
use Rattle.std.proofs.lemmas.Bool.{false≢true}
use Rattle.scrypt_commands.proofs.OutcomeFacts.{without_input}
use Rattle.scrypt_commands.proofs.invocation.Invocation.run.Goals as goal

pub returns-in-Tell-clause-run : goal.returns-in-Tell-clause-run
returns-in-Tell-clause-run g c = rw c.in-Tell.is (replicate 16 0, refl, (λ on. absurd (false≢true on)), c.print.ensures.run _)

pub returns-in-Refuse-clause-run : goal.returns-in-Refuse-clause-run
returns-in-Refuse-clause-run g c = rw c.in-Refuse.is (replicate 16 0, refl, (λ on. absurd (false≢true on)), search (rules, without_input))
