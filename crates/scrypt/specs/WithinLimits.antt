-- Verifying within limits.
use Rattle.std.specs.Prelude.{nat_le, if◌then◌else◌, length, Result, Ok, Err}
use Rattle.password_hash.specs.Refusal.{Refusal, BufferTooShort, KeyTooShort, TooCostly, refusal}
use Rattle.scrypt.specs.Limits.{are_within, buffers_bytes, work}
use Rattle.scrypt.specs.Reading.{◌and_then◌, Stored}
use Rattle.scrypt.specs.declared.errors.LimitedError.{LimitedError}
use Rattle.scrypt.specs.declared.errors.LimitedError.TheVariants as error
use Rattle.scrypt.specs.declared.limits.Limits.{Limits}

-- The reading of a hash, within limits. The first error is the error of reading it, then
-- `TooCostly` if its parameters exceed the limit on memory or the limit on work, and then
-- `KeyTooShort`.
abbrev pub within : Limits → Result Stored Refusal → Result Stored Refusal
within limits reading = reading and_then λ s.
    if are_within limits s.params
    then (if nat_le limits.min_key_len (length s.key) then Ok s else Err (KeyTooShort (length s.key)))
    else Err (TooCostly (buffers_bytes s.params.log_n s.params.r s.params.p) (work s.params.log_n s.params.r s.params.p))

-- the value of an error of a call with limits or in the caller's buffers
abbrev pub limited_refusal : LimitedError → Refusal
limited_refusal (error.Hash e) = refusal e
limited_refusal (error.TooCostly bytes needed) = TooCostly bytes needed
limited_refusal (error.KeyTooShort key_len) = KeyTooShort key_len
limited_refusal error.BufferTooShort = BufferTooShort

-- a result of such a call, with the value of its error
abbrev pub with_limited_refusal : {T : Type 0} → Result T LimitedError → Result T Refusal
with_limited_refusal (Ok x) = Ok x
with_limited_refusal (Err e) = Err (limited_refusal e)
