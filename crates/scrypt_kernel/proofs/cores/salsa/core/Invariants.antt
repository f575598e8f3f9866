use Rattle.std.proofs.Common.{◌+◌, false}
use Rattle.scrypt_kernel.proofs.cores.salsa.core.Given as goal

abbrev pub ghost-after_core : goal.ghost-after_core
ghost-after_core a = (false, a._before.now.all + 1, a._before.now.lanes, a._before.now.compressions)
