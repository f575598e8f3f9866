use Rattle.std.proofs.Common.{arith}
use Rattle.scrypt_commands.proofs.answer.make_hash.Goals as goal

pub returns-in_ok-to_string-in-Phc : goal.returns-in_ok-to_string-in-Phc
returns-in_ok-to_string-in-Phc c = grind arith

pub returns-in_ok-hash-in-Mcf : goal.returns-in_ok-hash-in-Mcf
returns-in_ok-hash-in-Mcf c = grind arith
