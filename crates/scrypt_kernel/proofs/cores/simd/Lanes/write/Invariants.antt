use Rattle.std.proofs.Common.{◌≡◌, ◌≢◌, ℕ, ◌<◌}
use Rattle.scrypt_kernel.specs.Words.{part}
use Rattle.scrypt_kernel.proofs.cores.simd.Lanes.write.Given as goal

abbrev pub invariant-parts : goal.invariant-parts
invariant-parts g l = record {
  written : (k : ℕ) → k < l.k → part 4 (part l.len l.x k) l.j ≡ g.Self.Lanes.lanes l.self k;
  others : (k i : ℕ) → i ≢ l.j → part 4 (part l.len l.x k) i ≡ part 4 (part l.len l.initial.x k) i;
}
