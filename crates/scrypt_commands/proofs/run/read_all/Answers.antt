use Rattle.std.proofs.lemmas.Grind.{common_steps}
use Rattle.std.proofs.lemmas.List.{places}
use Rattle.std.proofs.Common.{[], append-nil, arith}
use Rattle.scrypt_commands.proofs.run.read_all.Goals as goal

pub returns-then-n-eq0-clause-ok : goal.returns-then-n-eq0-clause-ok
returns-then-n-eq0-clause-ok g c = grind (arith, append-nil)

pub returns-then-n-eq0-clause-read : goal.returns-then-n-eq0-clause-read
returns-then-n-eq0-clause-read g c = c.in-Ok.ensures.bytes.1 c.if-n-eq0.true (omega arith)

pub reads-preserved : goal.reads-preserved
reads-preserved g c = grind (arith, common_steps, places)
