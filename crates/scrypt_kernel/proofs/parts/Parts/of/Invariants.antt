use Rattle.std.proofs.Common.{◌≡◌, ℕ, ◌<◌, ◌*◌, get_or, length}
use Rattle.scrypt_kernel.proofs.parts.Parts.of.Given as goal

abbrev pub invariant-parts : goal.invariant-parts
invariant-parts l = record {
  long : length l.starts ≡ 4;
  begin : (j : ℕ) → j < l.k → get_or l.starts j 0 ≡ j * l.len;
}
