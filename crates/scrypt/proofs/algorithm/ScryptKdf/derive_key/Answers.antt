use Rattle.std.proofs.Common.{rules}
use Rattle.scrypt.proofs.algorithm.ScryptKdf.derive_key.Goals as goal

pub returns-in-Ok-clause-ok : goal.returns-in-Ok-clause-ok
returns-in-Ok-clause-ok c = (search rules, rw (← c.self.view_is, c.scrypt.auto.output) c.in-Ok.ensures.value)
