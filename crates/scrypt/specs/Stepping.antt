-- A derivation in steps: its progress, and the contents of the caller's buffers between two steps.
use Rattle.std.specs.Prelude.{◌≡◌, ◌≢◌, Bool, false, true, ℕ, ◌+◌, ◌-◌, ◌*◌, ◌<◌, ◌≤◌, List, length, take, drop}
use Rattle.std.specs.List.{FoldsTo}
use Rattle.scrypt_kernel.specs.Words.{part, words_of}
use Rattle.scrypt_kernel.specs.Diagonal.{pivot}
use Rattle.scrypt_kernel.specs.Pbkdf2.{pbkdf2}
use Rattle.scrypt_kernel.specs.Steps.{IsMixing, all_mixes}
use Rattle.scrypt.specs.Accepted.{Parameters}
use Rattle.scrypt.specs.Cost.{chunks_bytes, scratch_words, table_words}
use Rattle.scrypt.specs.Key.{mixed_chunks}
use Rattle.scrypt.specs.Workspace.{interleaved_chunks}
use Rattle.scrypt.specs.declared.stepping.Progress.{Progress}

-- the first i chunks of x are the chunks of b after scryptROMix, and the others are unchanged from
-- b
pub record AreMixed (b : List ℕ) (log_n r i : ℕ) (x : List ℕ) : Type 0 where
  pub done : take (i * (128 * r)) x ≡ mixed_chunks b log_n r i
  pub rest : drop (i * (128 * r)) x ≡ drop (i * (128 * r)) b

-- the block mixes that are done, of 2 * r cores each
abbrev pub mixes_done : Parameters → Progress → ℕ
mixes_done c at = at.chunks * all_mixes c.log_n + at.interleaved * at.mixes

-- the block mixes left for each chunk of the current group
abbrev pub lacking : Parameters → Progress → ℕ
lacking c at = all_mixes c.log_n - at.mixes

-- At most p chunks are mixed or in the current group. The group has at most four chunks, and at
-- least one unless all are mixed; not all of its block mixes are done.
pub record IsWithin (c : Parameters) (at : Progress) : Type 0 where
  pub chunks : at.chunks + at.interleaved ≤ c.p
  pub few : at.interleaved ≤ 4
  pub mixes : at.mixes < all_mixes c.log_n
  pub some : at.chunks < c.p → 0 < at.interleaved
  pub ended : at.chunks ≡ c.p → at.mixes ≡ 0

-- a backend that interleaves at most `most` chunks can mix n in one group: scalar code mixes two
-- chunks one after the other
pub record AreMixable (most : ℕ) (scalar : Bool) (n : ℕ) : Type 0 where
  pub few : n ≤ most
  pub alone : scalar ≡ true → n ≢ 2

-- a derivation with this progress can go on in this table and this scratch, with a backend that
-- interleaves at most `most` chunks
pub record CanGoOn (most : ℕ) (scalar : Bool) (c : Parameters) (at : Progress) (table scratch : List ℕ) : Type 0 where
  pub within : IsWithin c at
  pub mixable : AreMixable most scalar at.interleaved
  pub table_fits : at.interleaved * table_words c.log_n c.r ≤ length table
  pub scratch_fits : at.interleaved * scratch_words c.r ≤ length scratch

-- the cores of a step that does at most `count` block mixes of each chunk that is interleaved in a
-- table and a scratch of these lengths
abbrev pub max_step : Parameters → ℕ → ℕ → ℕ → ℕ
max_step c count table scratch = interleaved_chunks c.log_n c.r c.p table scratch * (count * (2 * c.r))

-- `done` cores are more than `before`, by at most `most`
pub record IsNext (most before done : ℕ) : Type 0 where
  pub more : before < done
  pub near : done ≤ before + most

-- Calls of a closure, one after the other, took it from `first` to `last`, and each returned true.
-- They showed numbers of cores from 0 to `done`, each the next after the one before.
pub record WentOn {F : Type 0} (step : F → ℕ → Bool → F → Type 0) (most : ℕ) (first : F) (done : ℕ) (last : F) : Type 0 where
  pub shown : List ℕ
  pub calls : FoldsTo {P = F × ℕ} (λ p n q. step p.0 n true q.0 × IsNext most p.1 n × (q.1 ≡ n)) (first, 0) shown (last, done)

-- after such calls one more showed `done`, and returned false
pub record IsStopped {F : Type 0} (step : F → ℕ → Bool → F → Type 0) (most : ℕ) (first : F) (done : ℕ) : Type 0 where
  pub before : ℕ
  pub state : F
  pub left : F
  pub went_on : WentOn step most first before state
  pub next : IsNext most before done
  pub stopped : step state done false left

-- B before step 2
abbrev pub first_b : List ℕ → List ℕ → Parameters → List ℕ
first_b password salt c = pbkdf2 password salt (chunks_bytes c.r c.p)

-- the words of chunk k of b, counted from chunk i on
abbrev pub words_from : List ℕ → ℕ → ℕ → ℕ → List ℕ
words_from b r i k = words_of (part (128 * r) b (i + k))

-- the front of these buffers holds the derivation for this password and this salt at this progress
pub record IsUnderWay (password salt : List ℕ) (c : Parameters) (at : Progress) (chunks table scratch : List ℕ) : Type 0 where
  pub mixed : AreMixed (first_b password salt c) c.log_n c.r at.chunks (take (chunks_bytes c.r c.p) chunks)
  pub next : IsMixing pivot at.interleaved (words_from (first_b password salt c) c.r at.chunks) (32 * c.r) c.log_n at.mixes table scratch
