-- The cost of a derivation, as memory and work, and limits on it.
use Rattle.std.specs.Prelude.{ℕ, ◌<◌, ◌≤◌, ◌+◌, ◌-◌, ◌*◌, ◌/◌, ◌^◌, min, max, ◌&&◌, Bool, nat_le, List, length}
use Rattle.scrypt.specs.Accepted.{Parameters}
use Rattle.scrypt.specs.Cost.{chunks_bytes, cost, scratch_words, table_words}
use Rattle.scrypt.specs.declared.limits.Limits.{Limits}

-- the size of the three buffers in bytes; a word has four bytes
abbrev pub buffers_bytes : ℕ → ℕ → ℕ → ℕ
buffers_bytes log_n r p = chunks_bytes r p + 4 * table_words log_n r + 4 * scratch_words r

-- The work of a derivation, 4 * (N + 32) * r * p: its cores, and at least nine for each block that
-- SHA-256 compresses for the chunks, which takes about as long as nine cores. The blocks that a
-- longer password, salt or key adds are not counted. The exact statement is the law
-- `work_bounds_both_counts`.
abbrev pub work : ℕ → ℕ → ℕ → ℕ
work log_n r p = cost log_n r p + 128 * (r * p)

-- whether a derivation with these parameters is within the limits on memory and work
unfoldable pub are_within : Limits → Parameters → Bool
are_within limits c =
    nat_le (buffers_bytes c.log_n c.r c.p) limits.max_mem && nat_le (work c.log_n c.r c.p) limits.max_work

-- the size in bytes of the chunks, w tables and w scratches
abbrev pub tables_bytes : Parameters → ℕ → ℕ
tables_bytes c w = chunks_bytes c.r c.p + w * (4 * table_words c.log_n c.r + 4 * scratch_words c.r)

-- The number of tables, and of scratches, that fit into max_mem bytes together with the chunks:
-- at most four, at most p, and at least one, even if one does not fit.
unfoldable pub tables_within : ℕ → Parameters → ℕ
tables_within max_mem c = max 1
    (min (min 4 c.p) ((max_mem - chunks_bytes c.r c.p) / (4 * table_words c.log_n c.r + 4 * scratch_words c.r)))

-- w tables fit into max_mem bytes, unless w is 1, and one more would not, unless w is 4 or p
pub record AreMostTables (max_mem : ℕ) (c : Parameters) (w : ℕ) : Type 0 where
  pub fits : 1 < w → tables_bytes c w ≤ max_mem
  pub full : w < 4 → w < c.p → max_mem < tables_bytes c (w + 1)

-- Buffers of these lengths are long enough for every derivation within these limits. The chunks
-- have 128 * r * p bytes, which is no more than the work, and the scratch has 64 * r words.
pub record SufficeFor (limits : Limits) (chunks table scratch : List ℕ) : Type 0 where
  pub chunks_fit : min limits.max_mem limits.max_work ≤ length chunks
  pub table_fits : limits.max_mem / 4 ≤ length table
  pub scratch_fits : min (limits.max_mem / 4) (limits.max_work / 2) ≤ length scratch

-- the limits, raised to admit a derivation with these parameters, but to at most 2 ^ 64 - 1 each
abbrev pub admitting : Limits → Parameters → Limits
admitting it c = record it {
  max_mem = min (max it.max_mem (buffers_bytes c.log_n c.r c.p)) (2 ^ 64 - 1);
  max_work = min (max it.max_work (work c.log_n c.r c.p)) (2 ^ 64 - 1);
}

-- the limits, raised (for the key, lowered) to admit hashes with these parameters and keys of n
-- bytes: the limits of a hasher that makes such hashes
abbrev pub limits_for_new : Limits → Parameters → ℕ → Limits
limits_for_new defaults c n = record (admitting defaults c) { min_key_len = min defaults.min_key_len n }
