-- A key in steps, in the caller's buffers.
use Rattle.std.specs.Prelude.{◌≡◌, ◌≢◌, ◌⊎◌, ◌↔◌, Bool, ℕ, ℤ, ◌+◌, ◌*◌, ◌<◌, ◌≤◌, List, [], ◌∷◌, length, min, IfOk, IsTrue, OnErr, Result}
use Rattle.scrypt.specs.Terms.{AreMixable, IsRestKept, IsUnderWay, IsWithin, Parameters, Refusal, Stored, are_accepted}
use Rattle.scrypt.specs.Terms.{chunks_bytes, derived_key, is_output_len, lacking, mixes_done, scratch_words, table_words}
use Rattle.scrypt.specs.Terms.{verdict, workspace_of}
use Rattle.scrypt.specs.declared.stepping.Progress.{Progress}
use Rattle.scrypt_c.specs.Limits.{params_of}
use Rattle.scrypt_c.specs.Statuses.{result_status}
use Rattle.scrypt_c.specs.declared.statuses.TheConstants.{OK, INVALID_PARAMS, INVALID_OUTPUT_LEN}
use Rattle.scrypt_c.specs.declared.statuses.TheConstants.{BUFFER_SIZE, UNFINISHED, INVALID_PROGRESS}

-- the chunks have their length, and the table and the scratch have capacity for `tables` chunks
pub record AreForSteps (c : Parameters) (tables : ℕ) (chunks table scratch : List ℕ) : Type 0 where
  pub chunks_are : length chunks ≡ chunks_bytes c.r c.p
  pub table_fits : tables * table_words c.log_n c.r ≤ length table
  pub scratch_fits : tables * scratch_words c.r ≤ length scratch

-- a derivation with these parameters can have this progress, by a backend that interleaves at most
-- `most` chunks
abbrev pub CanBe : ℕ → Bool → Parameters → Progress → Type 0
CanBe most scalar c at = IsWithin c at × AreMixable most scalar at.interleaved

-- it can, in these buffers
pub record IsAt (most : ℕ) (scalar : Bool) (c : Parameters) (at : Progress) (chunks table scratch : List ℕ) : Type 0 where
  pub within : CanBe most scalar c at
  pub fits : AreForSteps c at.interleaved chunks table scratch

-- no block mix of the key of this password and this salt is done in these buffers
pub record IsBegun (most : ℕ) (scalar : Bool) (password salt : List ℕ) (c : Parameters) (at : Progress) (chunks table scratch : List ℕ) : Type 0 where
  pub start : (at.chunks ≡ 0) × (at.mixes ≡ 0)
  pub here : IsAt most scalar c at chunks table scratch
  pub under_way : IsUnderWay password salt c at chunks table scratch

-- what the caller keeps between two calls: the buffers and the progress
pub record Kept : Type 0 where
  pub chunks : List ℕ
  pub table : List ℕ
  pub scratch : List ℕ
  pub at : Progress

-- these buffers and this progress
abbrev pub kept_of : List ℕ → List ℕ → List ℕ → Progress → Kept
kept_of chunks table scratch at = record { chunks = chunks; table = table; scratch = scratch; at = at }

-- each buffer is unchanged after the part that a derivation with these parameters uses
abbrev pub IsKeptBehind : Parameters → Kept → Kept → Type 0
IsKeptBehind c old new =
    IsRestKept c (workspace_of old.chunks old.table old.scratch) (workspace_of new.chunks new.table new.scratch)

-- what `scrypt_key_begin` returns, and what it makes of the buffers and the progress
pub record HasBegun (most : ℕ) (scalar : Bool) (password salt : List ℕ) (log_n r p : ℕ) (old new : Kept) (status : ℤ) : Type 0 where
  pub params : (status ≡ INVALID_PARAMS) ↔ (¬ IsTrue (are_accepted log_n r p))
  pub buffers : (status ≡ BUFFER_SIZE) ↔ (IsTrue (are_accepted log_n r p)
      × ¬ AreForSteps (params_of log_n r p) 1 old.chunks old.table old.scratch)
  pub one : (status ≡ OK) ⊎ (status ≡ INVALID_PARAMS) ⊎ (status ≡ BUFFER_SIZE)
  pub begun : status ≡ OK → IsBegun most scalar password salt (params_of log_n r p) new.at new.chunks new.table new.scratch
  pub rest : status ≡ OK → IsKeptBehind (params_of log_n r p) old new
  pub unchanged : status ≢ OK → new ≡ old

-- what `scrypt_key_step` returns, and what it makes of the buffers and the progress
pub record HasStepped (most : ℕ) (scalar : Bool) (log_n r p count : ℕ) (old new : Kept) (status : ℤ) : Type 0 where
  pub params : (status ≡ INVALID_PARAMS) ↔ (¬ IsTrue (are_accepted log_n r p))
  pub buffers : (status ≡ BUFFER_SIZE) ↔ (IsTrue (are_accepted log_n r p)
      × ¬ AreForSteps (params_of log_n r p) old.at.interleaved old.chunks old.table old.scratch)
  pub one : (status ≡ OK) ⊎ (status ≡ INVALID_PARAMS) ⊎ (status ≡ BUFFER_SIZE) ⊎ (status ≡ INVALID_PROGRESS)
  pub before : status ≡ OK → CanBe most scalar (params_of log_n r p) old.at
  pub outside : status ≡ INVALID_PROGRESS → ¬ CanBe most scalar (params_of log_n r p) old.at
  pub after : status ≡ OK → IsAt most scalar (params_of log_n r p) new.at new.chunks new.table new.scratch
  pub under_way : status ≡ OK → (password salt : List ℕ)
      → IsUnderWay password salt (params_of log_n r p) old.at old.chunks old.table old.scratch
      → IsUnderWay password salt (params_of log_n r p) new.at new.chunks new.table new.scratch
  pub exact : status ≡ OK → mixes_done (params_of log_n r p) new.at
      ≡ mixes_done (params_of log_n r p) old.at + old.at.interleaved * min count (lacking (params_of log_n r p) old.at)
  pub ended : status ≡ OK → old.at.chunks ≡ p → new.at ≡ old.at
  pub going_on : status ≡ OK → old.at.chunks < p → count < lacking (params_of log_n r p) old.at
      → new.at ≡ record old.at { mixes = old.at.mixes + count }
  pub next : status ≡ OK → old.at.chunks < p → lacking (params_of log_n r p) old.at ≤ count
      → (new.at.chunks ≡ old.at.chunks + old.at.interleaved) × (new.at.mixes ≡ 0)
  pub rest : status ≡ OK → IsKeptBehind (params_of log_n r p) old new
  pub unchanged : status ≢ OK → new ≡ old

-- what `scrypt_key_finish` returns and writes
pub record HasFinished (password : List ℕ) (log_n r p : ℕ) (chunks : List ℕ) (at : Progress) (old new : List ℕ) (status : ℤ) : Type 0 where
  pub params : (status ≡ INVALID_PARAMS) ↔ (¬ IsTrue (are_accepted log_n r p))
  pub buffers : (status ≡ BUFFER_SIZE) ↔ (IsTrue (are_accepted log_n r p) × (length chunks ≢ chunks_bytes r p))
  pub one : (status ≡ OK) ⊎ (status ≡ INVALID_PARAMS) ⊎ (status ≡ BUFFER_SIZE) ⊎ (status ≡ UNFINISHED) ⊎ (status ≡ INVALID_OUTPUT_LEN)
  pub unfinished : (status ≡ UNFINISHED)
      ↔ (IsTrue (are_accepted log_n r p) × (length chunks ≡ chunks_bytes r p) × (at.chunks ≢ p))
  pub length_is : (status ≡ INVALID_OUTPUT_LEN) ↔ (IsTrue (are_accepted log_n r p) × (length chunks ≡ chunks_bytes r p)
      × (at.chunks ≡ p) × ¬ IsTrue (is_output_len (length old)))
  pub ended : status ≡ OK → (at.chunks ≡ p) × IsTrue (is_output_len (length old))
  pub value : status ≡ OK → (salt table scratch : List ℕ)
      → IsUnderWay password salt (params_of log_n r p) at chunks table scratch
      → new ≡ derived_key password salt log_n r p (length old)
  pub refused : status ≢ OK → new ≡ old

-- what `scrypt_verify_begin` returns, and what it makes of the parameters, the buffers and the
-- progress, for a hash with this reading, and with this one within the limits
pub record HasBegunVerifying (most : ℕ) (scalar : Bool) (password : List ℕ) (read limited : Result Stored Refusal)
    (before after : Parameters) (old new : Kept) (status : ℤ) : Type 0 where
  pub refused : OnErr limited (status ≡ result_status limited)
  pub one : IfOk limited (λ s. (status ≡ OK) ⊎ (status ≡ BUFFER_SIZE))
  pub buffers : IfOk limited (λ s. (status ≡ BUFFER_SIZE) ↔ ¬ AreForSteps s.params 1 old.chunks old.table old.scratch)
  pub params : status ≡ OK → IfOk read (λ s. after ≡ params_of s.params.log_n s.params.r s.params.p)
  pub begun : status ≡ OK
      → IfOk read (λ s. IsBegun most scalar password s.salt after new.at new.chunks new.table new.scratch)
  pub rest : status ≡ OK → IsKeptBehind after old new
  pub unchanged : status ≢ OK → (new ≡ old) × (after ≡ before)

-- what `scrypt_verify_finish` returns, for a hash with this reading
pub record HasFinishedVerifying (password : List ℕ) (read : Result Stored Refusal) (chunks : List ℕ) (at : Progress)
    (status : ℤ) : Type 0 where
  pub unread : OnErr read (status ≡ result_status read)
  pub buffers : IfOk read (λ s. (status ≡ BUFFER_SIZE) ↔ (length chunks ≢ chunks_bytes s.params.r s.params.p))
  pub unfinished : IfOk read (λ s. (status ≡ UNFINISHED)
      ↔ ((length chunks ≡ chunks_bytes s.params.r s.params.p) × (at.chunks ≢ s.params.p)))
  pub verdict_is : status ≢ BUFFER_SIZE → status ≢ UNFINISHED → (table scratch : List ℕ)
      → IfOk read (λ s. IsUnderWay password s.salt (params_of s.params.log_n s.params.r s.params.p)
      at chunks table scratch)
      → status ≡ result_status (verdict password read)

-- Steps one after another, each with its count and its status, and with the buffers and the progress
-- as the step before it left them.
abbrev pub Session : ℕ → Bool → ℕ → ℕ → ℕ → Kept → List (ℕ × ℤ) → Kept → Type 0
Session most scalar log_n r p old [] new = new ≡ old
Session most scalar log_n r p old (step ∷ steps) new = (mid : Kept)
    × HasStepped most scalar log_n r p step.0 old mid step.1 × Session most scalar log_n r p mid steps new
