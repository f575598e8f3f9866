-- The public part of a verification: lengths and parameters, or that there is no hash. In one
-- workspace its work depends on nothing else.
use Rattle.std.specs.Prelude.{◌≡◌, ℕ, drop, length, Option, None, Some, Result, Ok, Err}
use Rattle.password_hash.specs.Refusal.{Refusal}
use Rattle.scrypt.specs.Accepted.{Parameters}
use Rattle.scrypt.specs.Logins.{Attempt}
use Rattle.scrypt.specs.Reading.{Stored}
use Rattle.scrypt.specs.Workspace.{Workspace}

-- the parameters of a hash and the lengths of its salt and its key, or nothing if it is an error
abbrev pub public_hash : Result Stored Refusal → Option (Parameters × ℕ × ℕ)
public_hash (Ok s) = Some (s.params, length s.salt, length s.key)
public_hash (Err why) = None

-- the length of a password, and the public part of the hash that it is verified against
abbrev pub public_part : Attempt → ℕ × Option (Parameters × ℕ × ℕ)
public_part (password, reading) = (length password, public_hash reading)

-- the chunks and the scratch are the same, and so is the table after its first n words
pub record AreSameAfter (n : ℕ) (one other : Workspace) : Type 0 where
  pub chunks : one.chunks ≡ other.chunks
  pub scratch : one.scratch ≡ other.scratch
  pub table : drop n one.table ≡ drop n other.table
