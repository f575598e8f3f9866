use Rattle.std.proofs.Common.{◌≡◌, ◌<◌, ℕ, true, slice_index, length}
use Rattle.password_hash.proofs.phc.short_bytes.are_same.Given as goal

abbrev pub invariant-loop-i : goal.invariant-loop-i
invariant-loop-i l = record {
  lengths : l.same ≡ true → length l.a ≡ length l.b;
  bytes : l.same ≡ true → (k : ℕ) → k < l.i → slice_index l.a k ≡ slice_index l.b k;
  alike : l.a ≡ l.b → l.same ≡ true;
}
