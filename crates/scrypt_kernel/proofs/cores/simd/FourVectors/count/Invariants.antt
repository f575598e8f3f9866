use Rattle.std.proofs.Common.{◌+◌, true}
use Rattle.scrypt_kernel.specs.Count.{AreCountedAs}
use Rattle.scrypt_kernel.proofs.cores.simd.FourVectors.count.Given as goal

abbrev pub ghost-after_core : goal.ghost-after_core
ghost-after_core g a = (true, a._before.now.all + 1, a._before.now.lanes + 1, a._before.now.compressions)

abbrev pub invariant-each : goal.invariant-each
invariant-each g l = AreCountedAs true l.k l.initial.cores l.cores
