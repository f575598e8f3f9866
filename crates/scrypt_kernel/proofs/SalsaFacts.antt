-- Facts on the Salsa20/8 core.
use Rattle.std.proofs.Common.{◌≡◌, ℕ, List, length}
use Rattle.std.proofs.lemmas.List.{length-set}
use Rattle.std.proofs.lemmas.Simd.{length-zip2}
use Rattle.scrypt_kernel.specs.{add32, double_round, salsa20_8}

pub length-double_round : (x : List ℕ) → length (double_round x) ≡ length x
unfolding double_round
length-double_round x = simp length-set

pub length-salsa20_8 : (x : List ℕ) → length (salsa20_8 x) ≡ length x
unfolding salsa20_8
length-salsa20_8 x = length-zip2 add32 x _ (simp length-double_round)
