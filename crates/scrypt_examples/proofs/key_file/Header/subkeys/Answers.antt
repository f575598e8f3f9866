use Rattle.std.proofs.Common.{arith}
use Rattle.scrypt_examples.proofs.key_file.Header.subkeys.Goals as goal

pub returns-clause-alone : goal.returns-clause-alone
returns-clause-alone c =
    let header = c.args.self.now in
    let params = header.params in
    grind (arith, c.shorter_key_is_prefix.ensures.prefix c.args.password.now header.salt params.log_n params.r params.p 32 64)
