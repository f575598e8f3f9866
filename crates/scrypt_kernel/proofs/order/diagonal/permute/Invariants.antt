use Rattle.std.proofs.Common.{◌≡◌, ℕ, ◌<◌, ◌≤◌}
use Rattle.scrypt_kernel.specs.{block, permuted}
use Rattle.scrypt_kernel.proofs.order.diagonal.permute.Given as goal

abbrev pub invariant-loop-k : goal.invariant-loop-k
invariant-loop-k l = record {
  done : (j : ℕ) → j < l.k → block l.x j ≡ permuted l.pivot (block l.initial.x j);
  rest : (j : ℕ) → l.k ≤ j → block l.x j ≡ block l.initial.x j;
}
