use Rattle.password_hash.proofs.DecimalFacts.{decimal_gives}
use Rattle.password_hash.proofs.decimal.read_usize.Goals as goal

pub returns : goal.returns
returns c = record { value = decimal_gives 64 _ _ c.read_decimal.ensures.gives }
