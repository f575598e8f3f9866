-- Private: the groups of chunks of B that are interleaved, and the memory for them.
use Rattle.std.specs.Prelude.{◌≡◌, Bool, ℕ, ◌+◌, ◌-◌, ◌*◌, ◌<◌, ◌≤◌, ◌&&◌, nat_eq, nat_lt, min, if◌then◌else◌, List, length, replicate}
use Rattle.scrypt.specs.Cost.{chunks_bytes, scratch_words, table_words, thin_scratch_words}
use Rattle.scrypt.specs.Workspace.{interleaved_chunks}
use Rattle.scrypt.specs.declared.buffers.memory.ActiveBuffers.{ActiveBuffers}

-- Memory, in words, for w tables and w scratches, so that w chunks can be interleaved. A table
-- keeps one row in 2 ^ s, and w is 1 unless s is 0.
pub record HasTables (log_n s r w room scratch : ℕ) : Type 0 where
  pub some : 0 < w
  pub few : w ≤ 4
  pub spacing : s ≤ log_n
  pub alone : 0 < s → w ≡ 1
  pub tables : w * table_words (log_n - s) r ≤ room
  pub scratches : w * scratch_words r ≤ scratch
  pub spare : 0 < s → thin_scratch_words r ≤ scratch

-- The number of chunks in the next group, if w can be interleaved and `left` are left: as many as
-- possible, or one fewer if a single chunk would remain and w is at least three.
unfoldable pub next_group : ℕ → ℕ → ℕ
next_group w left = if nat_lt 2 w && nat_eq left (w + 1) then w - 1 else min w left

-- The number of chunks in the next group of a backend that interleaves at most `most` chunks, with
-- this number of tables. Scalar code mixes two chunks one after the other.
unfoldable pub group_by : ℕ → Bool → ℕ → ℕ → ℕ
group_by most scalar tables left =
    let n = next_group (min tables most) left in
    if nat_eq n 2 && scalar then 1 else n

-- w of n chunks are interleaved in these buffers, which are long enough for them, and also in the
-- part of the buffers that is used
pub record IsWidth (log_n r n w : ℕ) (chunks table scratch : List ℕ) : Type 0 where
  pub is : w ≡ interleaved_chunks log_n r n (length table) (length scratch)
  pub is_in_part : w ≡ interleaved_chunks log_n r n (w * table_words log_n r) (w * scratch_words r)
  pub chunks_fit : chunks_bytes r n ≤ length chunks
  pub memory : HasTables log_n 0 r w (length table) (length scratch)

-- the memory of a derivation of n chunks with this N and r, with a table that keeps one row in 2 ^
-- s; the width is the number of chunks that are interleaved in this memory
pub record IsReady {M : Type 0} (room_of : M → ℕ) (log_n s r n : ℕ) (used : ActiveBuffers M) : Type 0 where
  pub chunks_len : length used.chunks.now ≡ chunks_bytes r n
  pub memory : HasTables log_n s r used.width (room_of used.rows.now) (length used.scratch.now)
  pub width : used.width ≡ interleaved_chunks (log_n - s) r n (room_of used.rows.now) (length used.scratch.now)

-- the same memory, with any contents
pub record IsKept {M : Type 0} (room_of : M → ℕ) (before after : ActiveBuffers M) : Type 0 where
  pub width : after.width ≡ before.width
  pub chunks : after.chunks.ghost_name ≡ before.chunks.ghost_name
  pub rows : after.rows.ghost_name ≡ before.rows.ghost_name
  pub scratch : after.scratch.ghost_name ≡ before.scratch.ghost_name
  pub cores : after.cores.ghost_name ≡ before.cores.ghost_name
  pub chunks_len : length after.chunks.now ≡ length before.chunks.now
  pub room : room_of before.rows.now ≤ room_of after.rows.now
  pub scratch_len : length after.scratch.now ≡ length before.scratch.now

-- the chunks and the scratch are zeros
pub record IsSpent {M : Type 0} (room_of : M → ℕ) (before after : ActiveBuffers M) : Type 0 where
  pub kept : IsKept room_of before after
  pub chunks : after.chunks.now ≡ replicate (length before.chunks.now) 0
  pub scratch : after.scratch.now ≡ replicate (length before.scratch.now) 0
