use Rattle.std.proofs.Common.{◌≤◌, ◌/◌, ◌*◌, ◌+◌, ◌^◌}
use Rattle.scrypt_kernel.specs.Count.{AreCountedAs}
use Rattle.scrypt_kernel.proofs.RoMixFacts.{HoldsRows}
use Rattle.scrypt_kernel.proofs.table.fill.Given as goal

abbrev pub invariant-rows : goal.invariant-rows
invariant-rows g l =
    let o = g.O.OrderedBlocks in
    record {
      room : g.M.TableMemory.room l.fn.rows ≤ g.M.TableMemory.room l.rows;
      held : HoldsRows o.pivot o.inverse_pivot o.count l.len (2 ^ l.s) (l.m + 1) l.fn.x (g.M.TableMemory.words l.rows);
      counted : AreCountedAs o.diagonal (l.m * 2 ^ l.s * (o.count * (2 * (l.len / 32)))) l.fn.cores l.cores;
    }
