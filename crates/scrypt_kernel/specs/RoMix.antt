-- scryptROMix (RFC 7914, section 5) of the blocks B, where N is 2 ^ log_n. The definition has no
-- table: it computes a row of V wherever it is used. The standard requires N to be above 1 and
-- below 2 ^ (16 * r); the definition covers every log_n, including 0.
use Rattle.std.specs.Prelude.{ℕ, zero, suc, ◌%◌, ◌^◌, List}
use Rattle.scrypt_kernel.specs.Words.{bytes_of, last_block, le_number, xor_words}
use Rattle.scrypt_kernel.specs.BlockMix.{block_mix}

-- step 1: X = B
-- step 2: for i = 0 to N - 1 do V[i] = X, X = scryptBlockMix (X)
-- So V[i] is row i, the input after i block mixes; after step 2, X is row N.
unfoldable pub row : List ℕ → ℕ → List ℕ
row b zero = b
row b (suc i) = block_mix (row b i)

-- Integerify (X): the bytes of the last block of X as one number, in little-endian order
abbrev pub integerify : List ℕ → ℕ
integerify x = le_number (bytes_of (last_block x))

-- step 3: for i = 0 to N - 1 do j = Integerify (X) mod N, T = X xor V[j], X = scryptBlockMix (T)
-- X after k iterations of step 3, which are called *the walk*
unfoldable pub walk : List ℕ → ℕ → ℕ → List ℕ
walk b log_n zero = row b (2 ^ log_n)
walk b log_n (suc k) =
    let x = walk b log_n k in
    block_mix (xor_words x (row b (integerify x % 2 ^ log_n)))

-- step 4: B' = X
unfoldable pub ro_mix : List ℕ → ℕ → List ℕ
ro_mix b log_n = walk b log_n (2 ^ log_n)
