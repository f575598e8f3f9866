use Rattle.password_hash.proofs.DecimalFacts.{decimal_gives}
use Rattle.password_hash.proofs.decimal.read_u32.Goals as goal

pub returns : goal.returns
returns c = record { value = decimal_gives 32 _ _ c.read_decimal.ensures.gives }
