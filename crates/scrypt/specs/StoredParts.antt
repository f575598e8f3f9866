-- Private: the contents of a stored hash of either format.
use Rattle.std.specs.Prelude.{◌≡◌, ℕ, List, IsTrue, Result}
use Rattle.password_hash.specs.declared.error.Error.{Error}
use Rattle.scrypt.specs.Accepted.{Parameters}
use Rattle.scrypt.specs.Reading.{Stored, mapped, with_refusal}
use Rattle.scrypt.specs.StoredHash.{is_stored_text, params_reading, reading}
use Rattle.scrypt.specs.StoredKey.{key_bytes, salt_bytes}
use Rattle.scrypt.specs.declared.stored_parts.StoredParts.{StoredParts}

-- the parts of a hash, with the bytes of its salt and of its key
abbrev pub stored : StoredParts → Stored
stored parts = record { params = parts.params; salt = salt_bytes parts.salt; key = key_bytes parts.key }

-- the text has its format; `read` is the parameters and the length of the key, and `whole` the
-- parts, that are read from it
pub record IsReadAs (text : List ℕ) (read : Result (Parameters × ℕ) Error) (whole : Result StoredParts Error) : Type 0 where
  pub format : IsTrue (is_stored_text text)
  pub params : with_refusal read ≡ params_reading text
  pub parts : mapped stored (with_refusal whole) ≡ reading text
