-- The states of HMAC, for a key and the text hashed with it so far, and of PBKDF2, for a password
-- and a salt.
use Rattle.std.specs.Prelude.{ℕ, List, ◌++◌, bit_xor, map}
use Rattle.sha2.specs.Hashers.{Holds256}
use Rattle.scrypt_kernel.specs.Hmac.{padded_key}
use Rattle.scrypt_kernel.specs.declared.hmac.Hmac.{Hmac}
use Rattle.scrypt_kernel.specs.declared.pbkdf2.Blocks.{Blocks}

-- the two hashers of HMAC hold K xor ipad with the text after it, and K xor opad
pub record HoldsText (hmac : Hmac) (secret text : List ℕ) : Type 0 where
  pub inner : Holds256 hmac.inner (map (bit_xor 0x36) (padded_key secret) ++ text)
  pub outer : Holds256 hmac.outer (map (bit_xor 0x5c) (padded_key secret))

-- these blocks are derived from this password and this salt
pub record AreDerivedFrom (blocks : Blocks) (password salt : List ℕ) : Type 0 where
  pub hmac : HoldsText blocks.hmac password salt
