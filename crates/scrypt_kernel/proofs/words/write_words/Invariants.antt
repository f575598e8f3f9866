use Rattle.std.proofs.Common.{◌≡◌, ℕ, ◌<◌, get_or}
use Rattle.std.specs.Int.{w32, to_le_bytes}
use Rattle.scrypt_kernel.specs.Words.{part}
use Rattle.scrypt_kernel.proofs.words.write_words.Given as goal

abbrev pub invariant-loop-i : goal.invariant-loop-i
invariant-loop-i l = (k : ℕ) → k < l.i → part 4 l.bytes k ≡ to_le_bytes w32 (get_or l.words k 0)
