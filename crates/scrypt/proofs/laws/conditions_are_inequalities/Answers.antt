use Rattle.std.proofs.Common.{arith}
use Rattle.scrypt.proofs.AcceptedFacts.{accepted_decided, output_len_decided, salt_len_decided, stored_len_decided}
use Rattle.scrypt.proofs.ReadingFacts.{enough_decided, within_decided}
use Rattle.scrypt.proofs.laws.conditions_are_inequalities.Goals as goal

pub returns : goal.returns
returns c = grind (arith, accepted_decided, output_len_decided, stored_len_decided, salt_len_decided, enough_decided, within_decided)
