-- A hash in the PHC string format.
use Rattle.std.specs.Prelude.{◌≡◌, ℕ, ◌^◌, ◌<◌, List, [], ◌∷◌, ◌++◌, codes, decimal, Option, None, Some, IfSome, OnSome, IsSome, IsTrue}
use Rattle.base64.specs.Engines.{standard_no_pad}
use Rattle.base64.specs.GeneralPurpose.{encode_of}
use Rattle.password_hash.specs.Letters.{is_identifier}
use Rattle.password_hash.specs.Pairs.{pairs_text, ArePairs}
use Rattle.password_hash.specs.Parts.{parts_text}
use Rattle.password_hash.specs.ShortBytes.{AreBytesFromTo}
use Rattle.password_hash.specs.declared.phc.hash.PasswordHash.{PasswordHash}

-- Base64 of RFC 4648, section 4, without padding
abbrev pub base64 : List ℕ → List ℕ
base64 bytes = encode_of standard_no_pad bytes

-- `v=` and the version in decimal digits
abbrev pub version_part : Option ℕ → List (List ℕ)
version_part None = []
version_part (Some version) = (codes "v=" ++ decimal version) ∷ []

-- the parameters, if there are any
abbrev pub params_part : List (List ℕ × List ℕ) → List (List ℕ)
params_part [] = []
params_part (pair ∷ pairs) = pairs_text (pair ∷ pairs) ∷ []

-- the key in Base64
abbrev pub key_part : Option (List ℕ) → List (List ℕ)
key_part None = []
key_part (Some key) = base64 key ∷ []

-- the salt in Base64, and the key after it; a key without a salt is not written
abbrev pub salt_and_key_parts : Option (List ℕ) → Option (List ℕ) → List (List ℕ)
salt_and_key_parts None key = []
salt_and_key_parts (Some salt) key = base64 salt ∷ key_part key

-- the parts of a hash: the algorithm, the version, the parameters, the salt, the key
abbrev pub hash_parts : PasswordHash → List (List ℕ)
hash_parts hash =
    hash.algorithm ∷ (version_part hash.version ++ (params_part hash.params
    ++ salt_and_key_parts hash.salt hash.hash))

-- the text of a hash
abbrev pub hash_text : PasswordHash → List ℕ
hash_text hash = parts_text (hash_parts hash)

-- a salt: 1 to 64 bytes
abbrev pub IsSalt : List ℕ → Type 0
IsSalt salt = AreBytesFromTo 1 64 salt

-- a key: 10 to 64 bytes
abbrev pub IsKey : List ℕ → Type 0
IsKey key = AreBytesFromTo 10 64 key

-- the text is read as this hash
pub record IsHashText (text : List ℕ) (hash : PasswordHash) : Type 0 where
  pub whole : text ≡ hash_text hash
  pub algorithm : IsTrue (is_identifier hash.algorithm)
  pub version : IfSome hash.version (λ version. version < 2 ^ 32)
  pub params : ArePairs hash.params
  pub salt : IfSome hash.salt IsSalt
  pub key : IfSome hash.hash IsKey
  pub key_after_salt : OnSome hash.hash (IsSome hash.salt)
