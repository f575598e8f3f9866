-- The cost of a derivation: calls of the Salsa20/8 core, *cores* for short, and memory. One table
-- and one scratch are enough for all p chunks, which are then mixed one after another. With w
-- tables and w scratches, w at most four, w chunks are interleaved; the number of cores is the
-- same.
use Rattle.std.specs.Prelude.{ℕ, zero, suc, ◌+◌, ◌*◌, ◌/◌, ◌^◌, List}
use Rattle.scrypt_kernel.specs.Words.{part, words_of}
use Rattle.scrypt_kernel.specs.Pbkdf2.{pbkdf2}
pub use Rattle.scrypt_kernel.specs.Count.{AreCompressed, AreCounted, AreCountedAs, AreHashed}
pub use Rattle.scrypt_kernel.specs.Pbkdf2Cost.{key_cost, pbkdf2_cost}
pub use Rattle.scrypt_kernel.specs.Table.{extra_rows, thin_ro_mix_cost}
pub use Rattle.scrypt_kernel.specs.RoMixCost.{ro_mix_cost, scratch_words, table_words, thin_scratch_words}

-- the cores of a derivation, which mixes p chunks
abbrev pub cost : ℕ → ℕ → ℕ → ℕ
cost log_n r p = ro_mix_cost log_n r * p

-- the length of B in bytes: p chunks of 128 * r bytes
abbrev pub chunks_bytes : ℕ → ℕ → ℕ
chunks_bytes r p = p * (128 * r)

-- how many rows the walks of the first i chunks of B recompute, with a table that keeps each row
-- whose number is a multiple of 2 ^ s
unfoldable pub extra_rows_of_chunks : List ℕ → ℕ → ℕ → ℕ → ℕ → ℕ
extra_rows_of_chunks b log_n s r zero = 0
extra_rows_of_chunks b log_n s r (suc i) =
    extra_rows_of_chunks b log_n s r i + extra_rows (words_of (part (128 * r) b i)) log_n s (2 ^ log_n)

-- the cores of mixing p chunks with such a table: 2 * r more for each row that is recomputed
abbrev pub thin_chunks_cost : List ℕ → ℕ → ℕ → ℕ → ℕ → ℕ
thin_chunks_cost b log_n r p s = cost log_n r p + 2 * r * extra_rows_of_chunks b log_n s r p

-- the cores of a derivation with such a table
abbrev pub thin_cost : List ℕ → List ℕ → ℕ → ℕ → ℕ → ℕ → ℕ
thin_cost password salt log_n r p s = thin_chunks_cost (pbkdf2 password salt (p * (128 * r))) log_n r p s

-- the blocks that SHA-256 compresses in a derivation of n bytes: PBKDF2 derives B (step 1), and DK
-- with B as salt (step 3)
abbrev pub hash_cost : ℕ → ℕ → ℕ → ℕ → ℕ → ℕ
hash_cost password_len salt_len r p n = pbkdf2_cost password_len salt_len (chunks_bytes r p) + pbkdf2_cost password_len (chunks_bytes r p) n

-- an upper bound on the blocks among these that are due to the lengths of the password, the salt
-- and the key
abbrev pub lengths_cost : ℕ → ℕ → ℕ → ℕ
lengths_cost password_len salt_len n = 2 * key_cost password_len + 4 + salt_len / 64 + 2 * ((n + 31) / 32)
