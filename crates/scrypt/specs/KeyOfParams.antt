-- The key of parameters, its cost, and the lengths that a `Kdf` rejects.
use Rattle.std.specs.Prelude.{◌≡◌, ℕ, List, IsTrue, length}
use Rattle.password_hash.specs.declared.kdf.Error.{Error}
use Rattle.password_hash.specs.declared.kdf.Error.TheVariants.{OutOfMemory, Refused}
use Rattle.scrypt.specs.Accepted.{is_output_len, Parameters}
use Rattle.scrypt_kernel.specs.declared.cores.count.CoreCount.{CoreCount}
use Rattle.scrypt.specs.Cost.{AreCompressed, AreCounted, cost, hash_cost}
use Rattle.scrypt.specs.Key.{derived_key}

-- the key that these parameters derive; the length of a stored key in them is ignored
abbrev pub key_by : Parameters → List ℕ → List ℕ → ℕ → List ℕ
key_by c password salt n = derived_key password salt c.log_n c.r c.p n

-- the cores of its derivation
abbrev pub cost_by : Parameters → ℕ
cost_by c = cost c.log_n c.r c.p

-- The new output is the key of the old one's length. The count grew by this many cores, and by the
-- blocks that SHA-256 compresses in this derivation.
pub record IsDerived (c : Parameters) (password salt : List ℕ) (cores : ℕ) (old new : List ℕ) (before after : CoreCount) : Type 0 where
  pub value : new ≡ key_by c password salt (length old)
  pub counted : AreCounted cores before after
  pub hashed : AreCompressed (hash_cost (length password) (length salt) c.r c.p (length old)) before after

-- the errors of deriving a key of n bytes: the length is rejected exactly if no output can have it
abbrev pub KeyIsRefused : ℕ → Error → Type 0
KeyIsRefused n Refused = ¬ IsTrue (is_output_len n)
KeyIsRefused n OutOfMemory = IsTrue (is_output_len n)
