-- The statuses of readings, verdicts and errors.
use Rattle.std.specs.Prelude.{◌≡◌, ◌⊎◌, ℕ, ℤ, Bool, true, false, List, Result, Ok, Err, IfOk, IsOk}
use Rattle.password_hash.specs.Refusal.{Refusal, Algorithm, EncodingInvalid, OutputSize, ParamInvalid, ParamsInvalid}
use Rattle.password_hash.specs.Refusal.{BufferTooShort, KeyTooShort, SaltInvalid, TooCostly, Version, OutOfMemory, PasswordInvalid}
use Rattle.scrypt.specs.Reading.{Stored, verdict}
use Rattle.scrypt_c.specs.Texts.{bytes_params}
use Rattle.scrypt_c.specs.declared.statuses.TheConstants.{OK, MISMATCH, NEEDS_REHASH, ALGORITHM, VERSION, OUT_OF_MEMORY}
use Rattle.scrypt_c.specs.declared.statuses.TheConstants.{ENCODING_INVALID, OUTPUT_SIZE, HASH_PARAM_INVALID}
use Rattle.scrypt_c.specs.declared.statuses.TheConstants.{HASH_PARAMS_INVALID, SALT_INVALID, BUFFER_SIZE, TOO_COSTLY}
use Rattle.scrypt_c.specs.declared.statuses.TheConstants.{KEY_TOO_SHORT}

-- the status of an error
abbrev pub refusal_status : Refusal → ℤ
refusal_status PasswordInvalid = MISMATCH
refusal_status OutOfMemory = OUT_OF_MEMORY
refusal_status Algorithm = ALGORITHM
refusal_status EncodingInvalid = ENCODING_INVALID
refusal_status OutputSize = OUTPUT_SIZE
refusal_status (ParamInvalid name) = HASH_PARAM_INVALID
refusal_status ParamsInvalid = HASH_PARAMS_INVALID
refusal_status Version = VERSION
refusal_status SaltInvalid = SALT_INVALID
refusal_status (TooCostly bytes work) = TOO_COSTLY
refusal_status (KeyTooShort key_len) = KEY_TOO_SHORT
refusal_status BufferTooShort = BUFFER_SIZE

-- the status of a result of reading, with or without limits, or of verifying
abbrev pub result_status : {A : Type 0} → Result A Refusal → ℤ
result_status (Ok x) = OK
result_status (Err why) = refusal_status why

-- the status of reading the parameters and the key length from these bytes, and the values read
abbrev pub ReadsParams : List ℕ → ℤ → ℕ → ℕ → ℕ → ℕ → Type 0
ReadsParams bytes status log_n r p key_len =
    (status ≡ result_status (bytes_params bytes))
    × IfOk (bytes_params bytes) (λ read. (log_n ≡ read.0.log_n) × (r ≡ read.0.r) × (p ≡ read.0.p) × (key_len ≡ read.1))

-- the status of verifying: the verdict's, or, only if keys are compared, that an allocation failed
abbrev pub IsVerifyStatus : List ℕ → Result Stored Refusal → ℤ → Type 0
IsVerifyStatus password reading status =
    (status ≡ result_status (verdict password reading)) ⊎ (IsOk reading × (status ≡ OUT_OF_MEMORY))

-- the status of comparing a hash with the wanted parameters: one without a salt or a key is weaker
abbrev pub rehash_status : Result Bool Refusal → ℤ
rehash_status (Ok false) = OK
rehash_status (Ok true) = NEEDS_REHASH
rehash_status (Err PasswordInvalid) = NEEDS_REHASH
rehash_status (Err why) = refusal_status why

-- the status of an error of reading: a hash without a salt or a key is damaged
abbrev pub unread_status : Refusal → ℤ
unread_status PasswordInvalid = OUTPUT_SIZE
unread_status why = refusal_status why

-- the status of reading the cost of a hash, with limits
abbrev pub cost_status : {A : Type 0} → Result A Refusal → ℤ
cost_status (Ok x) = OK
cost_status (Err why) = unread_status why
