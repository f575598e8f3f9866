use Rattle.std.proofs.Common.{◌≡◌, ℕ, ◌<◌, get_or, length}
use Rattle.scrypt_kernel.proofs.order.diagonal.permute_block.Given as goal

abbrev pub invariant-loop-i : goal.invariant-loop-i
invariant-loop-i l = record {
  long : length l.permuted ≡ 16;
  done : (j : ℕ) → j < l.i → get_or l.permuted j 0 ≡ get_or l.from (get_or l.pivot j 0) 0;
}
