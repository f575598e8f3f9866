use Rattle.std.proofs.Common.{arith}
use Rattle.scrypt.proofs.CostFacts.{width_is}
use Rattle.scrypt.proofs.buffers.memory.Allocation.allocate_within.Goals as goal

pub returns-2-clause-used : goal.returns-2-clause-used
returns-2-clause-used c =
    let lens = c.in_ok-allocate.ensures in
    width_is c.args.params.now.log_n c.args.params.now.r c.args.params.now.p 1 _ _ c.expose_invariant.ensures.some.0 (omega arith)
    (omega (arith, c.expose_invariant.ensures.some.1)) (omega (arith, lens.table, c.of.ensures.table)) (omega (arith, lens.scratch, c.of.ensures.scratch))
