use Rattle.std.proofs.Common.{◌+◌, ◌%◌}
use Rattle.scrypt_kernel.specs.Pbkdf2Cost.{message_cost}
use Rattle.scrypt_kernel.proofs.cores.sha256.finish.Given as goal

abbrev pub ghost-after_compressions : goal.ghost-after_compressions
ghost-after_compressions a =
    let n = message_cost (a._hasher.now.core.total % 64) in
    (n, a._before.now.all, a._before.now.lanes, a._before.now.compressions + n)
