-- The lengths of the caller's buffers.
use Rattle.std.specs.Prelude.{◌≡◌, ℕ, ◌-◌, ◌≤◌, nat_eq, if◌then◌else◌}
use Rattle.scrypt.specs.Cost.{chunks_bytes, scratch_words, table_words, thin_scratch_words}

-- a table of 2 ^ log_n rows can keep one row in 2 ^ s
abbrev pub IsSpacing : ℕ → ℕ → Type 0
IsSpacing log_n s = s ≤ log_n

-- the words of the scratch: no row is recomputed if the table keeps every row
abbrev pub scratch_len : ℕ → ℕ → ℕ
scratch_len s r = if nat_eq s 0 then scratch_words r else thin_scratch_words r

-- the lengths of the chunks in bytes, and of the table and the scratch in words
pub record AreBuffers (log_n r p s chunks table scratch : ℕ) : Type 0 where
  pub chunks_are : chunks ≡ chunks_bytes r p
  pub table_is : table ≡ table_words (log_n - s) r
  pub scratch_is : scratch ≡ scratch_len s r
