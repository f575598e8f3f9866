-- What a derivation returns and writes, its work, and what it leaves in the caller's buffers.
use Rattle.std.specs.Prelude.{◌≡◌, ◌≢◌, ◌⊎◌, ◌↔◌, ℕ, ℤ, List, length, replicate, IsTrue}
use Rattle.scrypt.specs.Terms.{AreCompressed, AreCounted, IsDone, Parameters, Workspace, are_accepted, are_enough}
use Rattle.scrypt.specs.Terms.{derived_key, is_output_len}
use Rattle.scrypt_kernel.specs.declared.cores.count.CoreCount.{CoreCount}
use Rattle.scrypt_c.specs.Buffers.{AreBuffers, IsSpacing}
use Rattle.scrypt_c.specs.Limits.{params_of}
use Rattle.scrypt_c.specs.declared.statuses.TheConstants.{OK, INVALID_PARAMS, INVALID_OUTPUT_LEN, BUFFER_SIZE}

-- the work of a derivation with this status: after `OK` so many cores, and so many blocks that
-- SHA-256 compresses, and otherwise none
pub record IsWork (cores blocks : ℕ) (before after : CoreCount) (status : ℤ) : Type 0 where
  pub counted : status ≡ OK → AreCounted cores before after
  pub hashed : status ≡ OK → AreCompressed blocks before after
  pub uncounted : status ≢ OK → after ≡ before

-- what a derivation with these parameters and this status leaves in the caller's buffers
pub record IsUsed (c : Parameters) (before after : Workspace) (status : ℤ) : Type 0 where
  pub done : status ≡ OK → IsDone c before after
  pub unchanged : status ≢ OK → after ≡ before

-- The status of a derivation: `OK`, or the error of the first that is not accepted of the parameters,
-- the length of the output, and the memory, whose lack has the status `lack`. After `OK` the output
-- is the key, and otherwise it is unchanged.
pub record HasKey (Accepted : Type 0) (lack : ℤ) (password salt : List ℕ) (log_n r p : ℕ) (old new : List ℕ)
    (status : ℤ) : Type 0 where
  pub params : (status ≡ INVALID_PARAMS) ↔ (¬ Accepted)
  pub length_is : (status ≡ INVALID_OUTPUT_LEN) ↔ (Accepted × ¬ IsTrue (is_output_len (length old)))
  pub one : (status ≡ OK) ⊎ (status ≡ INVALID_PARAMS) ⊎ (status ≡ INVALID_OUTPUT_LEN) ⊎ (status ≡ lack)
  pub value : status ≡ OK → new ≡ derived_key password salt log_n r p (length old)
  pub refused : status ≢ OK → new ≡ old

-- the same in the caller's buffers, which are long enough or not, and are used
pub record HasKeyIn (password salt : List ℕ) (log_n r p : ℕ) (old new : List ℕ) (before after : Workspace)
    (status : ℤ) : Type 0 where
  pub key : HasKey (IsTrue (are_accepted log_n r p)) BUFFER_SIZE password salt log_n r p old new status
  pub buffers : (status ≡ BUFFER_SIZE) ↔ (IsTrue (are_accepted log_n r p) × IsTrue (is_output_len (length old))
      × ¬ IsTrue (are_enough (params_of log_n r p) before.chunks before.table before.scratch))
  pub used : IsUsed (params_of log_n r p) before after status

-- the same with a table that keeps one row in 2 ^ s, in buffers of exact lengths
pub record HasThinKey (password salt : List ℕ) (log_n r p s : ℕ) (old new : List ℕ) (before after : Workspace)
    (status : ℤ) : Type 0 where
  pub key : HasKey (IsTrue (are_accepted log_n r p) × IsSpacing log_n s) BUFFER_SIZE password salt log_n r p old new
      status
  pub buffers : (status ≡ BUFFER_SIZE) ↔ ((IsTrue (are_accepted log_n r p) × IsSpacing log_n s)
      × IsTrue (is_output_len (length old))
      × ¬ AreBuffers log_n r p s (length before.chunks) (length before.table) (length before.scratch))
  pub wiped : status ≡ OK → (after.chunks ≡ replicate (length before.chunks) 0)
      × (after.scratch ≡ replicate (length before.scratch) 0)
  pub unchanged : status ≢ OK → after ≡ before
