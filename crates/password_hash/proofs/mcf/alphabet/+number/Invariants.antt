use Rattle.std.proofs.Common.{length}
use Rattle.password_hash.proofs.mcf.alphabet.+number.Given as goal

abbrev pub decreases-number : goal.decreases-number
decreases-number l = length l.letters.now
