-- Hashes of scrypt in the PHC string format: how they are made and read.
use Rattle.std.specs.Prelude.{ℕ, ◌&&◌, Bool, nat_le, List, length, codes, if◌then◌else◌, None, Some, is_some, not, ok_or, Result, Ok, Err, bytes_eq}
use Rattle.password_hash.specs.Refusal.{Refusal, Algorithm, OutOfMemory, PasswordInvalid, SaltInvalid, Version}
use Rattle.password_hash.specs.declared.phc.hash.PasswordHash.{PasswordHash}
use Rattle.scrypt.specs.Accepted.{Parameters}
use Rattle.scrypt.specs.KeyOfParams.{key_by}
use Rattle.scrypt.specs.PhcParams.{params_of_pairs, written_pairs}
use Rattle.scrypt.specs.Hashing.{key_len_or_default}
use Rattle.scrypt.specs.Reading.{◌and_then◌, Stored}

-- whether a PHC hash can have a salt of this length: 1 to 64 bytes
unfoldable pub is_salt_len : ℕ → Bool
is_salt_len n = nat_le 1 n && nat_le n 64

-- the error of hashing with this salt: only a failed allocation if a hash can have it
abbrev pub salt_refusal : List ℕ → Refusal
salt_refusal salt = if is_salt_len (length salt) then OutOfMemory else SaltInvalid

-- the hash of these parameters, this salt and this key
abbrev pub phc_hash : Parameters → List ℕ → List ℕ → PasswordHash
phc_hash c salt key = record {
  algorithm = codes "scrypt";
  version = None;
  params = written_pairs c;
  salt = Some salt;
  hash = Some key;
}

-- the hash that these parameters make of a password and a salt
unfoldable pub made_phc : Parameters → List ℕ → List ℕ → PasswordHash
made_phc c password salt = phc_hash c salt (key_by c password salt (key_len_or_default c))

-- the parameters of a hash, whose algorithm is scrypt and which has no version
unfoldable pub phc_params : PasswordHash → Result Parameters Refusal
phc_params hash = if not (bytes_eq hash.algorithm (codes "scrypt")) then Err Algorithm
    else if is_some hash.version then Err Version
    else params_of_pairs hash.params

-- the reading of a hash, which must have a salt and a key
abbrev pub read_phc : PasswordHash → Result Stored Refusal
read_phc hash = phc_params hash and_then λ c. ok_or hash.salt PasswordInvalid and_then λ salt.
    ok_or hash.hash PasswordInvalid and_then λ key. Ok (record { params = c; salt = salt; key = key })
