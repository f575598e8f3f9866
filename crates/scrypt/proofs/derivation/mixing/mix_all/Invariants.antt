use Rattle.std.proofs.Common.{◌≤◌, ◌-◌, true}
use Rattle.scrypt.specs.Terms.{AreCountedAs, AreMixed, IsKept, thin_chunks_cost}
use Rattle.scrypt.proofs.derivation.mixing.mix_all.Given as goal

abbrev pub invariant-groups : goal.invariant-groups
invariant-groups g l =
    let before = l.fn.used in
    record {
      kept : IsKept g.M.TableMemory.room before l.used;
      mixed : AreMixed before.chunks.now l.params.log_n l.params.r l.i l.used.chunks.now;
      some : l.i ≤ l.count;
      counted : AreCountedAs true (thin_chunks_cost before.chunks.now l.params.log_n l.params.r l.i l.s) before.cores.now l.used.cores.now;
    }

abbrev pub decreases-groups : goal.decreases-groups
decreases-groups g l = l.count - l.i
