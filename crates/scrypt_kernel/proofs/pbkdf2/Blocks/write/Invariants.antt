use Rattle.std.proofs.Common.{◌≡◌, ℕ, ◌<◌, ◌+◌, ◌*◌, List, length, get_or}
use Rattle.scrypt_kernel.specs.{AreDerivedFrom, AreHashed, end_cost, pbkdf2_byte}
use Rattle.scrypt_kernel.proofs.pbkdf2.Blocks.write.Given as goal

-- the first i blocks are written and counted
abbrev pub invariant-loop-i : goal.invariant-loop-i
invariant-loop-i l = record {
  written : (password salt : List ℕ) → AreDerivedFrom l.self password salt
      → (k : ℕ) → k < 32 * l.i → k < length l.initial.out → get_or l.out k 0 ≡ pbkdf2_byte password salt (32 * l.skipped + k);
  counted : (password salt : List ℕ) → AreDerivedFrom l.self password salt
      → AreHashed (l.i * end_cost (length salt) 4) l.initial.cores l.cores;
}
