-- Parts of the same length, such as the rows of several chunks.
use Rattle.std.specs.Prelude.{◌≡◌, ℕ, ◌+◌, ◌<◌, ◌≤◌, List, length, slice_index, take, drop}
use Rattle.scrypt_kernel.specs.declared.parts.Parts.{Parts}

-- part k
abbrev pub part_of : Parts → ℕ → List ℕ
part_of parts k = take parts.len (drop (slice_index parts.starts k) parts.words.now)

-- there are n parts
pub record AreParts (n : ℕ) (parts : Parts) : Type 0 where
  pub few : n ≤ 4
  pub inside : (k : ℕ) → k < n → slice_index parts.starts k + parts.len ≤ length parts.words.now

-- there are n parts of part_len words
pub record AreRows (n part_len : ℕ) (parts : Parts) : Type 0 where
  pub len : parts.len ≡ part_len
  pub all : AreParts n parts
