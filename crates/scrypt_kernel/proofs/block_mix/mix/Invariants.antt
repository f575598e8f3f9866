use Rattle.std.proofs.Common.{ℕ, ◌*◌, ◌<◌}
use Rattle.scrypt_kernel.specs.{AfterTurns, AreCountedAs, part}
use Rattle.scrypt_kernel.proofs.block_mix.mix.Given as goal

abbrev pub invariant-turns : goal.invariant-turns
invariant-turns g l =
    let o = g.O.OrderedBlocks in
    record {
      counted : AreCountedAs o.diagonal (o.count * (2 * l.i)) l.initial.cores l.cores;
      mixed : (k : ℕ) → k < o.count → AfterTurns o.pivot o.inverse_pivot (g.I.Input.words l.input k) l.i (o.held l.x k) (part l.len l.output k);
    }
