use Rattle.std.proofs.Common.{refl, replicate}
use Rattle.std.proofs.lemmas.Bool.{false≢true}
use Rattle.scrypt_commands.proofs.invocation.draw.Goals as goal

pub returns-then-not-is_drawn-clause-salt : goal.returns-then-not-is_drawn-clause-salt
returns-then-not-is_drawn-clause-salt g c = rw c.if-not-is_drawn.true (replicate 16 0, refl, (λ on. absurd (false≢true on)), refl)
