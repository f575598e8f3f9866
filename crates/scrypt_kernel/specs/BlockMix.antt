-- scryptBlockMix (RFC 7914, section 4) of the 2 * r blocks B[0] to B[2 * r - 1].
use Rattle.std.specs.Prelude.{ℕ, zero, suc, ◌+◌, ◌*◌, ◌/◌, List, ◌++◌, length}
use Rattle.std.specs.List.{flat_map, range_with_len}
use Rattle.scrypt_kernel.specs.Words.{block, last_block, xor_words}
use Rattle.scrypt_kernel.specs.Salsa.{salsa20_8}

-- step 1: X = B[2 * r - 1]
-- step 2: for i = 0 to 2 * r - 1 do T = X xor B[i], X = Salsa (T), Y[i] = X
-- X before iteration i of step 2
unfoldable pub chain : List ℕ → ℕ → List ℕ
chain b zero = last_block b
chain b (suc i) = salsa20_8 (xor_words (chain b i) (block b i))

-- Y[i], which is X after iteration i
abbrev pub y : List ℕ → ℕ → List ℕ
y b i = chain b (i + 1)

-- step 3: B' = (Y[0], Y[2], .., Y[2 * r - 2], Y[1], Y[3], .., Y[2 * r - 1])
unfoldable pub block_mix : List ℕ → List ℕ
block_mix b =
    let r = length b / 32 in
    flat_map (λ k. y b (2 * k)) (range_with_len 0 r) ++ flat_map (λ k. y b (2 * k + 1)) (range_with_len 0 r)
