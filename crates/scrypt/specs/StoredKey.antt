-- Private: the salt and the key of a hash of either format.
use Rattle.std.specs.Prelude.{ℕ, List, [], Option, Some, unwrap_or}
use Rattle.password_hash.specs.Crypt64.{decoded}
use Rattle.password_hash.specs.McfViews.{field_text}
use Rattle.scrypt.specs.Decoy.{no_key}
use Rattle.scrypt.specs.declared.stored_parts.Key.{Key}
use Rattle.scrypt.specs.declared.stored_parts.Key.TheVariants.{Decoy, Mcf, Phc}
use Rattle.scrypt.specs.declared.stored_parts.Salt.{Salt}
use Rattle.scrypt.specs.declared.stored_parts.Salt.TheVariants as salts

-- the bytes of a salt
abbrev pub salt_bytes : Salt → List ℕ
salt_bytes (salts.Mcf letters) = letters.now
salt_bytes (salts.Phc salt) = salt

-- the bytes of a key, if it is an encoding
abbrev pub decoded_key : Key → Option (List ℕ)
decoded_key (Mcf field) = decoded (field_text field)
decoded_key (Phc output) = Some output
decoded_key (Decoy len) = Some (no_key len)

-- the bytes of a key that is an encoding
abbrev pub key_bytes : Key → List ℕ
key_bytes key = unwrap_or (decoded_key key) []
