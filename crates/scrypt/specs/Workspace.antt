-- The workspace of one derivation, supplied by the caller: the verdict in it, its contents
-- afterwards, and the work.
use Rattle.std.specs.Prelude.{◌≡◌, ℕ, ◌*◌, ◌/◌, min, if◌then◌else◌, List, length, drop, MatchBool, Result, Ok, Err, ⊤}
use Rattle.password_hash.specs.Refusal.{Refusal, BufferTooShort}
use Rattle.scrypt.specs.Accepted.{Parameters}
use Rattle.scrypt.specs.Cost.{chunks_bytes, scratch_words, table_words}
use Rattle.scrypt.specs.KeyOfParams.{cost_by}
pub use Rattle.scrypt.specs.InBuffers.{IsWiped, are_enough}
use Rattle.scrypt.specs.Reading.{◌and_then◌, Stored, verdict, verify_cost}

-- the caller's buffers
pub record Workspace : Type 0 where
  pub chunks : List ℕ
  pub table : List ℕ
  pub scratch : List ℕ

-- these buffers
abbrev pub workspace_of : List ℕ → List ℕ → List ℕ → Workspace
workspace_of chunks table scratch = record { chunks = chunks; table = table; scratch = scratch }

-- the number of n chunks with this N and r that are interleaved in a table and a scratch of `table`
-- and `scratch` words: at most four, each with a table and a scratch
unfoldable pub interleaved_chunks : ℕ → ℕ → ℕ → ℕ → ℕ → ℕ
interleaved_chunks log_n r n table scratch = min (min (min 4 n) (table / table_words log_n r)) (scratch / scratch_words r)

-- the number of tables and scratches that a derivation with these parameters uses in these buffers
abbrev pub tables_used : Parameters → List ℕ → List ℕ → ℕ
tables_used c table scratch = interleaved_chunks c.log_n c.r c.p (length table) (length scratch)

-- each buffer is unchanged after the part that a derivation with these parameters used
pub record IsRestKept (c : Parameters) (before after : Workspace) : Type 0 where
  pub chunks : drop (chunks_bytes c.r c.p) after.chunks ≡ drop (chunks_bytes c.r c.p) before.chunks
  pub table : let used = tables_used c before.table before.scratch * table_words c.log_n c.r in
      drop used after.table ≡ drop used before.table
  pub scratch : let used = tables_used c before.table before.scratch * scratch_words c.r in
      drop used after.scratch ≡ drop used before.scratch

-- After a derivation with these parameters the parts of the chunks and the scratch that it used are
-- zeros, and the table is unchanged after the part that it used.
pub record IsDone (c : Parameters) (before after : Workspace) : Type 0 where
  pub chunks : IsWiped (chunks_bytes c.r c.p) before.chunks after.chunks
  pub scratch : IsWiped (tables_used c before.table before.scratch * scratch_words c.r) before.scratch after.scratch
  pub rest : let used = tables_used c before.table before.scratch * table_words c.log_n c.r in
      drop used after.table ≡ drop used before.table

-- the verdict of verifying in this workspace: `BufferTooShort` if keys would be compared but a buffer
-- is too short
abbrev pub verdict_in : Workspace → List ℕ → Result Stored Refusal → Result ⊤ Refusal
verdict_in w password reading = reading and_then λ s. if are_enough s.params w.chunks w.table w.scratch then verdict password reading else Err BufferTooShort

-- the cores of verifying in this workspace: 0 unless keys are compared
abbrev pub cores_in : Workspace → Result Stored Refusal → ℕ
cores_in w (Ok s) = if are_enough s.params w.chunks w.table w.scratch then cost_by s.params else 0
cores_in w (Err why) = 0

-- the blocks that SHA-256 compresses when verifying in this workspace: 0 unless keys are compared
abbrev pub hashed_in : Workspace → List ℕ → Result Stored Refusal → ℕ
hashed_in w password (Ok s) = if are_enough s.params w.chunks w.table w.scratch then verify_cost password s else 0
hashed_in w password (Err why) = 0

-- the workspace after verifying: a derivation was done if keys were compared, and otherwise nothing
-- changed
abbrev pub IsLeft : Result Stored Refusal → Workspace → Workspace → Type 0
IsLeft (Ok s) before after = MatchBool (are_enough s.params before.chunks before.table before.scratch) (IsDone s.params before after) (after ≡ before)
IsLeft (Err why) before after = after ≡ before
