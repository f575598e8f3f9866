use Rattle.std.proofs.Common.{◌≡◌, ℕ, ◌<◌, bit_xor, get_or, length}
use Rattle.scrypt_kernel.proofs.hmac.masked.Given as goal

abbrev pub invariant-loop-i : goal.invariant-loop-i
invariant-loop-i l = record {
  long : length l.out ≡ 64;
  each : (k : ℕ) → k < l.i → get_or l.out k 0 ≡ bit_xor l.mask (get_or l.block k 0);
}
