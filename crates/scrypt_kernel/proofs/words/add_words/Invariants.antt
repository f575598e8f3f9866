use Rattle.std.proofs.Common.{◌≡◌, ◌<◌, ◌≤◌, ℕ, get_or}
use Rattle.scrypt_kernel.specs.Words.{add32}
use Rattle.scrypt_kernel.proofs.words.add_words.Given as goal

abbrev pub invariant-loop-i : goal.invariant-loop-i
invariant-loop-i l = record {
  below : (k : ℕ) → k < l.i → get_or l.x k 0 ≡ add32 (get_or l.initial.x k 0) (get_or l.y k 0);
  above : (k : ℕ) → l.i ≤ k → get_or l.x k 0 ≡ get_or l.initial.x k 0;
}
