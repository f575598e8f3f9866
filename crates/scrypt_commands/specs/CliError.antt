-- The errors that end a run without an answer: each has a status and an error line.
use Rattle.std.specs.Prelude.{◌≡◌, ◌⊎◌, ℕ, ◌++◌, bytes_eq, if◌then◌else◌, List, [], codes, decimal, Result, Ok, Err}
use Rattle.scrypt.specs.Terms.{Refusal, limited_refusal}
use Rattle.password_hash.specs.Refusal as refusals
use Rattle.password_hash.specs.declared.error.Error.{Error}
use Rattle.password_hash.specs.declared.error.Error.TheVariants.{OutOfMemory as NoMemory}
use Rattle.scrypt.specs.declared.errors.LimitedError.{LimitedError}
use Rattle.scrypt.specs.declared.errors.LimitedError.TheVariants.{Hash}
use Rattle.scrypt.specs.declared.limits.Limits.{Limits}
use Rattle.scrypt.specs.declared.limits.TheConstants.Limits.{DEFAULT}
use Rattle.scrypt_commands.specs.declared.error.CliError.{CliError}
use Rattle.scrypt_commands.specs.declared.error.CliError.TheVariants.{Usage, SaltNotHex, InvalidParams, InvalidOutputLen, Refused, OutOfMemory, InputFailed, OutputFailed}

-- the exit status
abbrev pub status_of : CliError → ℕ
status_of OutOfMemory = 3
status_of InputFailed = 4
status_of OutputFailed = 4
status_of refused = 2

-- the error line of a rejected hash without numbers, with its newline: it names the library's
-- error, and its parameter
abbrev pub refused_line : Refusal → List ℕ
refused_line refusals.Algorithm = codes "hash refused: Algorithm\n"
refused_line refusals.EncodingInvalid = codes "hash refused: EncodingInvalid\n"
refused_line refusals.OutputSize = codes "hash refused: OutputSize\n"
refused_line (refusals.ParamInvalid name) = if bytes_eq name (codes "ln") then codes "hash refused: ParamInvalid ln\n"
    else if bytes_eq name (codes "r") then codes "hash refused: ParamInvalid r\n" else codes "hash refused: ParamInvalid p\n"
refused_line refusals.ParamsInvalid = codes "hash refused: ParamsInvalid\n"
refused_line refusals.SaltInvalid = codes "hash refused: SaltInvalid\n"
refused_line refusals.Version = codes "hash refused: Version\n"
refused_line others = []

-- the error line of a rejected hash, with its newline: if a hash exceeds limits, it prints them
abbrev pub limited_line : Limits → Refusal → List ℕ
limited_line limits (refusals.TooCostly bytes work) = codes "hash refused: TooCostly, it needs " ++ decimal bytes ++ codes " bytes and work "
    ++ decimal work ++ codes ", and --max-mem is " ++ decimal limits.max_mem ++ codes " and --max-work " ++ decimal limits.max_work ++ codes "\n"
limited_line limits (refusals.KeyTooShort key_len) = codes "hash refused: KeyTooShort, its key has " ++ decimal key_len
    ++ codes " bytes, and --min-key-len is " ++ decimal limits.min_key_len ++ codes "\n"
limited_line limits why = refused_line why

-- the error line of an error of the program itself, with its newline
abbrev pub fixed_line : CliError → List ℕ
fixed_line Usage =
    codes "usage: key LOG_N R P LEN SALT_HEX | hash phc|mcf LOG_N R P SALT_HEX [LEN] | verify HASH | rehash phc|mcf LOG_N R P LEN SALT_HEX HASH\n"
fixed_line SaltNotHex = codes "salt is not hexadecimal\n"
fixed_line InvalidParams = codes "invalid scrypt parameters\n"
fixed_line InvalidOutputLen = codes "invalid output buffer length\n"
fixed_line OutOfMemory = codes "out of memory\n"
fixed_line InputFailed = codes "input failed\n"
fixed_line OutputFailed = codes "output failed\n"
fixed_line (Refused why limits) = []

-- the error line of any error, with its newline
abbrev pub error_line : CliError → List ℕ
error_line (Refused why limits) = limited_line limits (limited_refusal why)
error_line error = fixed_line error

-- the error that reports this library error, from a call with these limits
abbrev pub error_of : Limits → LimitedError → CliError
error_of limits (Hash NoMemory) = OutOfMemory
error_of limits why = Refused why limits

-- the error that reports this library error, from a call without limits
abbrev pub hash_error : Error → CliError
hash_error why = error_of DEFAULT (Hash why)

-- an error line with status 2, instead of a value
abbrev pub ErrorLine : Type 0
ErrorLine = List ℕ

-- fails with this error
abbrev pub refuse : {A : Type 0} → CliError → Result A ErrorLine
refuse error = Err (error_line error)

-- an allocation failed, or this holds of an error with status 2
abbrev pub FailsWith : (CliError → Type 0) → CliError → Type 0
FailsWith Is error = (error ≡ OutOfMemory) ⊎ ((status_of error ≡ 2) × Is error)

-- a step returns the expected value or error line, or an allocation failed
abbrev pub Gives : {A B : Type 0} → (A → B) → Result B ErrorLine → Result A CliError → Type 0
Gives view expected (Ok x) = expected ≡ Ok (view x)
Gives view expected (Err error) = FailsWith (λ error. expected ≡ Err (error_line error)) error
