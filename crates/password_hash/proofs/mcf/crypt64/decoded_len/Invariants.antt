use Rattle.std.proofs.Common.{◌≡◌, ◌+◌, ◌≤◌, ℕ, List, length}
use Rattle.password_hash.specs.Crypt64.{Begins}
use Rattle.password_hash.proofs.mcf.crypt64.decoded_len.Given as goal

-- so many bytes are after, and there were at least as many letters
abbrev pub invariant-loop-group : goal.invariant-loop-group
invariant-loop-group l = record {
  begins : (bytes : List ℕ) × Begins l.letters bytes l.rest × (length bytes ≡ l.len);
  fits : l.len + length l.rest ≤ length l.letters;
}

abbrev pub decreases-loop-group : goal.decreases-loop-group
decreases-loop-group l = length l.rest
