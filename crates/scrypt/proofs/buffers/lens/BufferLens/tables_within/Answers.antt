use Rattle.std.proofs.Common.{arith}
use Rattle.scrypt.specs.Limits.{tables_within}
use Rattle.scrypt.proofs.CostFacts.{most_tables}
use Rattle.scrypt.proofs.buffers.lens.BufferLens.tables_within.Goals as goal

pub returns-clause-most : goal.returns-clause-most
unfolding tables_within
returns-clause-most c = grind (arith, most_tables c.args.max_mem c.args.params.now c.expose_invariant.ensures.some.0)
