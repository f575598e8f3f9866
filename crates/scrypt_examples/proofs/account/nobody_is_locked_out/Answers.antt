use Rattle.std.proofs.Common.{rules}
use Rattle.std.proofs.lemmas.List.{places}
use Rattle.scrypt_examples.proofs.AccountFacts.{log_in_strong, run_open}
use Rattle.scrypt_examples.proofs.account.nobody_is_locked_out.Goals as goal

pub returns-clause-stays : goal.returns-clause-stays
returns-clause-stays c start end password history = search (rules, places, run_open)

pub returns-clause-strong : goal.returns-clause-strong
returns-clause-strong c = log_in_strong
