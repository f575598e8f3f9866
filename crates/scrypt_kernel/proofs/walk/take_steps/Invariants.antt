use Rattle.std.proofs.Common.{◌*◌}
use Rattle.scrypt_kernel.specs.KeptRows.{AfterSteps}
use Rattle.scrypt_kernel.proofs.walk.take_steps.Given as goal

abbrev pub invariant-pairs : goal.invariant-pairs
invariant-pairs g l =
    let o = g.O.OrderedBlocks in
    AfterSteps o.pivot o.count l.len l.log_n l.s o.diagonal l.fn.v (2 * l._k) l.fn.x l.fn.cores l.x l.cores
