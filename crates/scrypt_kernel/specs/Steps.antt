-- scryptROMix in steps: the contents of the caller's buffers between two steps. Each block mix of a
-- chunk is one *mix*: the N of step 2, and then the N of step 3.
use Rattle.std.specs.Prelude.{◌≡◌, ℕ, ◌-◌, ◌*◌, ◌^◌, ◌<◌, ◌≤◌, List}
use Rattle.scrypt_kernel.specs.Words.{part, words_of}
use Rattle.scrypt_kernel.specs.RoMix.{row, walk}
use Rattle.scrypt_kernel.specs.KeptRows.{place}
use Rattle.scrypt_kernel.specs.Diagonal.{permuted}

-- the mixes of one scryptROMix
abbrev pub all_mixes : ℕ → ℕ
all_mixes log_n = 2 * 2 ^ log_n

-- the words of chunk k of these bytes
abbrev pub chunk_words : ℕ → List ℕ → ℕ → List ℕ
chunk_words r b k = words_of (part (128 * r) b k)

-- After `done` mixes of each of n chunks, where chunk k had the words b k: the table holds V[0] to
-- V[done], or up to V[N - 1] if that is less, and after step 2 X is at the front of the scratch. A
-- row has part_len words of each chunk, in the order p.
pub record IsMixing (p : List ℕ) (n : ℕ) (b : ℕ → List ℕ) (part_len log_n done : ℕ) (table scratch : List ℕ) : Type 0 where
  pub rows : (m k : ℕ) → m < 2 ^ log_n → m ≤ done → k < n → part part_len table (place n m k) ≡ permuted p (row (b k) m)
  pub x : (k : ℕ) → k < n → 2 ^ log_n ≤ done → part part_len scratch k ≡ permuted p (walk (b k) log_n (done - 2 ^ log_n))
