-- The memory that a table is in, as contracts see it.
use Rattle.std.specs.Prelude.{ℕ, length}
use Rattle.std.specs.Vec.{vec_capacity}
use Rattle.scrypt_kernel.specs.declared.memory.Allocated.{Allocated}
use Rattle.scrypt_kernel.specs.declared.memory.Buffer.{Buffer}

-- the capacity of a caller's buffer in words
abbrev pub buffer_room : Buffer → ℕ
buffer_room table = length table.memory.now

-- the capacity of allocated memory in words
abbrev pub allocated_room : Allocated → ℕ
allocated_room table = vec_capacity table.memory
