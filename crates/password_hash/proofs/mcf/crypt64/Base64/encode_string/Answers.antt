use Rattle.std.proofs.Common.{append_assoc, arith}
use Rattle.password_hash.proofs.Crypt64Facts.{letter-is_plain}
use Rattle.password_hash.proofs.mcf.crypt64.Base64.encode_string.Goals as goal

pub loop-letter-preserved : goal.loop-letter-preserved
loop-letter-preserved c = grind (arith, letter-is_plain, append_assoc)
