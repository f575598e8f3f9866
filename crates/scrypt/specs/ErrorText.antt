-- The messages of errors.
use Rattle.std.specs.Prelude.{ℕ, List, codes, Option, None, Some}
use Rattle.scrypt.specs.declared.errors.DeriveError.{DeriveError}
use Rattle.scrypt.specs.declared.errors.DeriveError.TheVariants.{InvalidOutputLen, OutOfMemory}
use Rattle.scrypt.specs.declared.errors.StepsError.{StepsError}
use Rattle.scrypt.specs.declared.errors.StepsError.TheVariants as steps
use Rattle.scrypt.specs.declared.errors.LimitedError.{LimitedError}
use Rattle.scrypt.specs.declared.errors.LimitedError.TheVariants.{BufferTooShort, Hash, KeyTooShort, TooCostly}

-- the message of an error from deriving a key
abbrev pub derive_error_text : DeriveError → List ℕ
derive_error_text InvalidOutputLen = codes "invalid output buffer length"
derive_error_text OutOfMemory = codes "out of memory"

-- the message of an error from a derivation in steps
abbrev pub steps_error_text : StepsError → List ℕ
steps_error_text (steps.InvalidOutputLen) = codes "invalid output buffer length"
steps_error_text (steps.Cancelled) = codes "the derivation was cancelled"

-- the message of an error of a call with limits or in the caller's buffers; the message of an error
-- of verifying is not specified
abbrev pub limited_error_text : LimitedError → Option (List ℕ)
limited_error_text (Hash e) = None
limited_error_text (TooCostly bytes work) = Some (codes "the parameters need more than is allowed")
limited_error_text (KeyTooShort key_len) = Some (codes "the key is shorter than is allowed")
limited_error_text BufferTooShort = Some (codes "a buffer is too short")
