use Rattle.scrypt.proofs.AcceptedFacts.{small_params}
use Rattle.scrypt.proofs.McfParamsFacts.{five_letters_written_back}
use Rattle.scrypt.proofs.laws.five_letters_are_inverse.Goals as goal

pub returns-clause-written_back : goal.returns-clause-written_back
returns-clause-written_back c = five_letters_written_back

pub returns-clause-accepted : goal.returns-clause-accepted
returns-clause-accepted c log_n r p accepted = let small = small_params log_n r p accepted in (small.1, small.2)
