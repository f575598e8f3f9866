use Rattle.std.proofs.Common.{length}
use Rattle.password_hash.specs.Crypt64.{Begins}
use Rattle.password_hash.proofs.mcf.crypt64.Base64.decode_vec.Given as goal

-- the letters begin with the bytes so far
abbrev pub invariant-loop-group : goal.invariant-loop-group
invariant-loop-group l = Begins l.fn.letters l.bytes.items l.rest

abbrev pub decreases-loop-group : goal.decreases-loop-group
decreases-loop-group l = length l.rest
