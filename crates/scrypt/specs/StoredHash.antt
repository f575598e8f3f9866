-- Stored hashes of either format, by their texts: the format in which a text is read, and the
-- result.
use Rattle.std.specs.Prelude.{ℕ, ◌||◌, Bool, if◌then◌else◌, List, codes, length, nat_eq, Option, Some, is_some, ok_or, option_map, unwrap_or, Result}
use Rattle.std.specs.List.{starts_with}
use Rattle.std.specs.Str.{bytes_eq}
use Rattle.password_hash.specs.PhcReading.{read_hash}
use Rattle.password_hash.specs.Refusal.{Refusal, EncodingInvalid}
use Rattle.password_hash.specs.declared.phc.hash.PasswordHash.{PasswordHash}
use Rattle.scrypt.specs.Accepted.{Parameters}
use Rattle.scrypt.specs.McfHash.{read_mcf}
use Rattle.scrypt.specs.PhcHash.{phc_params, read_phc}
use Rattle.scrypt.specs.Reading.{◌and_then◌, Stored, mapped}

-- the text is `$7` or begins with `$7$`: it is read as a `$7$` hash, and any other as a PHC string
unfoldable pub is_mcf_text : List ℕ → Bool
is_mcf_text text = bytes_eq text (codes "$7") || starts_with nat_eq text (codes "$7$")

-- a text in its format: a `$7$` hash, or the hash that a PHC string encodes
pub data Formatted : Type 0 where
  McfText : List ℕ → Formatted
  PhcHash : PasswordHash → Formatted

-- a text in its format, or `None` if it does not have that format
unfoldable pub formatted : List ℕ → Option Formatted
formatted text = if is_mcf_text text then Some (McfText text) else option_map PhcHash (read_hash text)

-- the text has its format; the reading of any other text is `EncodingInvalid`
unfoldable pub is_stored_text : List ℕ → Bool
is_stored_text text = is_some (formatted text)

-- the reading of a text in its format
abbrev pub whole : Formatted → Result Stored Refusal
whole (McfText text) = read_mcf text
whole (PhcHash hash) = read_phc hash

-- the reading of a text
unfoldable pub reading : List ℕ → Result Stored Refusal
reading text = ok_or (formatted text) EncodingInvalid and_then whole

-- the length of a key, or 0 if there is no key
abbrev pub key_len_or_zero : Option (List ℕ) → ℕ
key_len_or_zero key = unwrap_or (option_map length key) 0

-- the parameters read from a text in its format, and the length of the key
abbrev pub params_and_len : Formatted → Result (Parameters × ℕ) Refusal
params_and_len (McfText text) = mapped (λ s. (s.params, length s.key)) (read_mcf text)
params_and_len (PhcHash hash) = mapped (λ c. (c, key_len_or_zero hash.hash)) (phc_params hash)

-- The parameters read from a text, and the length of the key, which is 0 if there is no key. A PHC
-- hash without a salt or a key has parameters too, though its reading is an error.
unfoldable pub params_reading : List ℕ → Result (Parameters × ℕ) Refusal
params_reading text = ok_or (formatted text) EncodingInvalid and_then params_and_len
