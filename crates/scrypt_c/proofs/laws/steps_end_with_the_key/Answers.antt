use Rattle.scrypt_c.proofs.SessionFacts.{steps_end, steps_mix, steps_succeed}
use Rattle.scrypt_c.proofs.laws.steps_end_with_the_key.Goals as goal

pub returns-clause-succeed : goal.returns-clause-succeed
returns-clause-succeed c = steps_succeed

pub returns-clause-mixed : goal.returns-clause-mixed
returns-clause-mixed c = steps_mix

pub returns-clause-key : goal.returns-clause-key
returns-clause-key c = steps_end
