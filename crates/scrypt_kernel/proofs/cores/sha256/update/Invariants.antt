use Rattle.std.proofs.Common.{◌+◌, ◌/◌, ◌%◌, length}
use Rattle.scrypt_kernel.proofs.cores.sha256.update.Given as goal

abbrev pub ghost-after_compressions : goal.ghost-after_compressions
ghost-after_compressions a =
    let n = (a._hasher.now.core.total % 64 + length a._data.now) / 64 in
    (n, a._before.now.all, a._before.now.lanes, a._before.now.compressions + n)
