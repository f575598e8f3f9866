use Rattle.std.proofs.Common.{◌∙◌, sym}
use Rattle.password_hash.proofs.GroupFacts.{length-crypt64_of}
use Rattle.scrypt.proofs.McfTextFacts.{filled}
use Rattle.scrypt.proofs.mcf.hashing.encode.Goals as goal

pub returns : goal.returns
returns c = filled _ c.args.out.now _ c.in-Ok.ensures.written (c.requires ∙ sym (length-crypt64_of c.args.bytes.now))
