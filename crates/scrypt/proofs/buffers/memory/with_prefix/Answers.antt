use Rattle.std.proofs.Common.{arith}
use Rattle.std.proofs.lemmas.Slice.{drop-append-drop}
use Rattle.scrypt.proofs.buffers.memory.with_prefix.Goals as goal

pub returns-clause-made : goal.returns-clause-made
returns-clause-made g c = grind arith

pub returns-clause-done : goal.returns-clause-done
returns-clause-done g c = grind (arith, drop-append-drop)
