-- How bytes are read.
use Rattle.std.proofs.Common.{◌≡◌, ℕ, List, Err, refl}
use Rattle.std.specs.Str.{IsUtf8, is_utf8}
use Rattle.std.proofs.lemmas.Bool.{false_from_ne_true}
use Rattle.std.proofs.lemmas.Str.{IsUtf8-from_is_utf8, is_utf8-from_IsUtf8}
use Rattle.scrypt.specs.Terms.{EncodingInvalid, params_reading, reading}
use Rattle.scrypt_c.specs.{bytes_params, bytes_reading}

-- as a text
pub text_read : (bytes : List ℕ) → IsUtf8 bytes → (bytes_reading bytes ≡ reading bytes) × (bytes_params bytes ≡ params_reading bytes)
unfolding bytes_reading bytes_params
text_read bytes utf8 = let is = is_utf8-from_IsUtf8 bytes utf8 in rw is (refl, refl)

-- not at all
pub no_text_read : (bytes : List ℕ) → ¬ IsUtf8 bytes
    → (bytes_reading bytes ≡ Err EncodingInvalid) × (bytes_params bytes ≡ Err EncodingInvalid)
unfolding bytes_reading bytes_params
no_text_read bytes none = let is = false_from_ne_true (is_utf8 bytes) (λ is. none (IsUtf8-from_is_utf8 bytes is)) in rw is (refl, refl)

pub ruleset texts = (text_read, no_text_read)
