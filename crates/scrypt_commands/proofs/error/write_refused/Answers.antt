use Rattle.std.proofs.Common.{append_assoc}
use Rattle.scrypt_commands.proofs.error.write_refused.Goals as goal

pub returns-in-TooCostly : goal.returns-in-TooCostly
returns-in-TooCostly g c = record { written = rw c.in-TooCostly.is (simp append_assoc c.write.ensures.bytes) }
