-- Several verdicts in the caller's buffers.
use Rattle.std.specs.Prelude.{◌≡◌, ℕ, ℤ, nat_eq, if◌then◌else◌, List, map, Result, sum_by}
use Rattle.scrypt.specs.Terms.{AreCompressed, AreCounted, AreLeft, Attempt, Refusal, Stored, Workspace, cores_on}
use Rattle.scrypt.specs.Terms.{hashed_on, verdict_on}
use Rattle.scrypt_kernel.specs.declared.cores.count.CoreCount.{CoreCount}
use Rattle.scrypt_c.specs.Statuses.{result_status}
use Rattle.scrypt_c.specs.Texts.{bytes_reading}

-- a password, against the hash that these bytes are read as, or unless `unknown` is 0 the decoy
abbrev pub login_attempt : Result Stored Refusal → List ℕ → List ℕ → ℕ → Attempt
login_attempt decoy password text unknown = (password, if nat_eq unknown 0 then bytes_reading text else decoy)

-- the statuses of these attempts
abbrev pub statuses_in : Workspace → List Attempt → List ℤ
statuses_in before = map (λ (a : Attempt). result_status (verdict_on before a))

-- the attempts of a batch, each a password, a text, and whether the name is unknown
abbrev pub batch_of : Result Stored Refusal → List (List ℕ × List ℕ × ℕ) → List Attempt
batch_of decoy = map (λ (given : List ℕ × List ℕ × ℕ). login_attempt decoy given.0 given.1 given.2)

-- these attempts were verified in these buffers, with these statuses
pub record AreVerified (these : List Attempt) (before after : Workspace) (statuses : List ℤ) : Type 0 where
  pub each : statuses ≡ statuses_in before these
  pub left : AreLeft these before after

-- the work of verifying these attempts in these buffers
pub record IsWorkOn (these : List Attempt) (before : Workspace) (old new : CoreCount) : Type 0 where
  pub counted : AreCounted (sum_by (cores_on before) these) old new
  pub hashed : AreCompressed (sum_by (hashed_on before) these) old new
