-- scryptROMix (RFC 7914, section 5) as the standard writes it, with the array V and two loops. N is
-- 2 ^ log_n. It is `ro_mix` (a law of the crate scrypt, `ro_mix_is_its_loops`).
use Rattle.std.specs.Prelude.{ℕ, zero, suc, ◌%◌, ◌^◌, List, [], ◌∷◌, ◌++◌, get_or}
use Rattle.scrypt_kernel.specs.Words.{xor_words}
use Rattle.scrypt_kernel.specs.BlockMix.{block_mix}
use Rattle.scrypt_kernel.specs.RoMix.{integerify}

-- the variables of the first loop: the array V, of blocks, and X
pub record Filled : Type 0 where
  pub v : List (List ℕ)
  pub x : List ℕ

-- step 1: X = B
-- step 2: for i = 0 to N - 1 do V[i] = X, X = scryptBlockMix (X)
-- V and X after i turns of this loop
unfoldable pub filled : List ℕ → ℕ → Filled
filled b zero = record { v = []; x = b }
filled b (suc i) =
    let before = filled b i in
    record { v = before.v ++ before.x ∷ []; x = block_mix before.x }

-- step 3: for i = 0 to N - 1 do j = Integerify (X) mod N, T = X xor V[j], X = scryptBlockMix (T)
-- X after i turns of this loop, where `all` is what the first loop made
unfoldable pub walked : Filled → ℕ → ℕ → List ℕ
walked all n zero = all.x
walked all n (suc i) =
    let x = walked all n i in
    block_mix (xor_words x (get_or all.v (integerify x % n) []))

-- step 4: B' = X
unfoldable pub ro_mix_by_loops : List ℕ → ℕ → List ℕ
ro_mix_by_loops b log_n = walked (filled b (2 ^ log_n)) (2 ^ log_n) (2 ^ log_n)
