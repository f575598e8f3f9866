-- The cost of one scryptROMix: how often the standard's steps, with a table V, call the Salsa20/8
-- core, and the memory that they use. A word has 4 bytes.
use Rattle.std.specs.Prelude.{◌≡◌, ℕ, ◌-◌, ◌*◌, ◌/◌, ◌%◌, ◌^◌, ◌<◌, ◌≤◌}

-- the cores of one scryptROMix: 2 * N block mixes of 2 * r cores each
abbrev pub ro_mix_cost : ℕ → ℕ → ℕ
ro_mix_cost log_n r = 4 * 2 ^ log_n * r

-- the length of the table V in words: N rows of 32 * r words
abbrev pub table_words : ℕ → ℕ → ℕ
table_words log_n r = 2 ^ log_n * (32 * r)

-- the length of the scratch in words: two rows, for X and for the next X
abbrev pub scratch_words : ℕ → ℕ
scratch_words r = 64 * r

-- the length of the scratch with a smaller table: a third row, for the row that is recomputed
abbrev pub thin_scratch_words : ℕ → ℕ
thin_scratch_words r = 96 * r

-- len is the length of B in bytes, 128 * r with r at least 1, and log_n is at most 56
pub record AreBytesOfB (len log_n : ℕ) : Type 0 where
  pub some : 0 < len
  pub whole : len % 128 ≡ 0
  pub small : log_n ≤ 56

-- the lengths for one scryptROMix: B has input_len bytes, and the table and the scratch have
-- table_len and scratch_len words
pub record AreRoMixLens (log_n input_len table_len scratch_len : ℕ) : Type 0 where
  pub input : AreBytesOfB input_len log_n
  pub table : table_len ≡ table_words log_n (input_len / 128)
  pub scratch : scratch_len ≡ scratch_words (input_len / 128)

-- the same lengths with a table that keeps one row in 2 ^ s
pub record AreThinLens (log_n s input_len table_len scratch_len : ℕ) : Type 0 where
  pub input : AreBytesOfB input_len log_n
  pub spacing : s ≤ log_n
  pub table : table_len ≡ table_words (log_n - s) (input_len / 128)
  pub scratch : scratch_len ≡ thin_scratch_words (input_len / 128)
