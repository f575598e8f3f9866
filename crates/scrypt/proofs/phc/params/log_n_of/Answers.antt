use Rattle.std.proofs.Common.{arith, refl}
use Rattle.scrypt.proofs.PhcFacts.{larger, number_is}
use Rattle.scrypt.proofs.phc.params.log_n_of.Goals as goal

pub returns-in-Err : goal.returns-in-Err
returns-in-Err c =
    let found = number_is _ _ c.in-Ok.number c.in-Ok.ensures.value in
    rw (larger 256 _ c.in-Ok.number found (omega (arith, c.in-Err.ensures))) refl
