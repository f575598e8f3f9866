use Rattle.std.proofs.Common.{◌≡◌, ◌≤◌, length, take}
use Rattle.scrypt_kernel.specs.Memory.{allocated_room}
use Rattle.scrypt_kernel.proofs.memory.Allocated.lengthen.Given as goal

abbrev pub invariant-chunks : goal.invariant-chunks
invariant-chunks l = record {
  words : take (length l.fn.self.memory.items) l.self.memory.items ≡ l.fn.self.memory.items;
  len : length l.fn.self.memory.items ≤ length l.self.memory.items;
  room : allocated_room l.fn.self ≤ allocated_room l.self;
}
