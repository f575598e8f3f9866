use Rattle.std.proofs.Common.{◌≤◌, ◌+◌, ◌*◌, length}
use Rattle.scrypt_kernel.specs.{AfterRowTurns, AreCountedAs, allocated_room}
use Rattle.scrypt_kernel.proofs.memory.AllocatedTableMemory.mix_next.Given as goal

abbrev pub invariant-turns : goal.invariant-turns
invariant-turns g l =
    let o = g.O.OrderedBlocks in
    record {
      turned : AfterRowTurns o.pivot o.inverse_pivot o.count l.len l.i l.j (λ k. o.held l.x k) l.fn.self.memory.items l.self.memory.items;
      len : (l.i + 2) * (o.count * l.len) ≤ length l.self.memory.items;
      room : allocated_room l.fn.self ≤ allocated_room l.self;
      counted : AreCountedAs o.diagonal (o.count * (2 * l.j)) l.fn.cores l.cores;
    }
