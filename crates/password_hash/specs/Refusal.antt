-- An error by its value: the name in it is a list of bytes, wherever the name is in memory.
use Rattle.std.specs.Prelude.{ℕ, List, Result, Ok, Err}
use Rattle.password_hash.specs.declared.error.Error.{Error}
use Rattle.password_hash.specs.declared.error.Error.TheVariants as error

-- The errors, one constructor for each. The last three are errors of calls with limits or in the
-- caller's buffers, which have their own error type: the bytes and the work that the parameters need,
-- the length of the key in bytes, and that a buffer is too short.
pub data Refusal : Type 0 where
  Algorithm : Refusal
  EncodingInvalid : Refusal
  OutputSize : Refusal
  ParamInvalid : List ℕ → Refusal
  ParamsInvalid : Refusal
  PasswordInvalid : Refusal
  SaltInvalid : Refusal
  Version : Refusal
  OutOfMemory : Refusal
  TooCostly : (bytes work : ℕ) → Refusal
  KeyTooShort : (key_len : ℕ) → Refusal
  BufferTooShort : Refusal

-- the value of an error
abbrev pub refusal : Error → Refusal
refusal error.Algorithm = Algorithm
refusal error.EncodingInvalid = EncodingInvalid
refusal error.OutputSize = OutputSize
refusal (error.ParamInvalid name) = ParamInvalid name.now
refusal error.ParamsInvalid = ParamsInvalid
refusal error.PasswordInvalid = PasswordInvalid
refusal error.SaltInvalid = SaltInvalid
refusal error.Version = Version
refusal error.OutOfMemory = OutOfMemory

-- a result, with the value of its error
abbrev pub with_refusal : {T : Type 0} → Result T Error → Result T Refusal
with_refusal (Ok x) = Ok x
with_refusal (Err e) = Err (refusal e)
