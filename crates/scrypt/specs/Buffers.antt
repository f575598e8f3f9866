-- Buffers that a caller reuses from call to call.
use Rattle.std.specs.Prelude.{◌≡◌, ◌≤◌, length}
use Rattle.scrypt.specs.Accepted.{Parameters}
use Rattle.scrypt.specs.Cost.{chunks_bytes, scratch_words, table_words}
use Rattle.scrypt.specs.Workspace.{Workspace, workspace_of}
use Rattle.scrypt.specs.declared.buffers.Buffers.{Buffers}

-- these buffers as a workspace
abbrev pub workspace_in : Buffers → Workspace
workspace_in own = workspace_of own.chunks.items own.table.items own.scratch.items

-- each buffer has the length that it had
pub record KeepLens (before after : Buffers) : Type 0 where
  pub chunks : length after.chunks.items ≡ length before.chunks.items
  pub table : length after.table.items ≡ length before.table.items
  pub scratch : length after.scratch.items ≡ length before.scratch.items

-- the buffers have at least the lengths for a derivation with these parameters
pub record AreFor (c : Parameters) (own : Buffers) : Type 0 where
  pub chunks : chunks_bytes c.r c.p ≤ length own.chunks.items
  pub table : table_words c.log_n c.r ≤ length own.table.items
  pub scratch : scratch_words c.r ≤ length own.scratch.items
