use Rattle.std.proofs.Common.{◌/◌, ◌*◌, ◌+◌, ◌-◌}
use Rattle.scrypt_kernel.proofs.RoMixFacts.{AfterMixes}
use Rattle.scrypt_kernel.proofs.table.recompute.Given as goal

-- the block mixes that are done, of which the first one or two are before the pairs
abbrev pub invariant-pairs : goal.invariant-pairs
invariant-pairs g l =
    let o = g.O.OrderedBlocks in
    let done = l.fn.n - 2 * ((l.fn.n - 1) / 2) + 2 * l._k in
    AfterMixes o.pivot o.inverse_pivot o.count l.len o.diagonal l.fn.cores done l.fn.kept l.x l.cores
