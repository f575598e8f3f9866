-- The outcome of a command line: the program's output for its arguments and its input.
use Rattle.std.specs.Prelude.{◌≡◌, ℕ, Bool, false, true, if◌then◌else◌, List, [], ◌++◌, length, codes, Option, None, Some, option_map, unwrap_or, Result, Ok, Err, ⊤}
use Rattle.std.specs.Result.{result_unwrap_or}
use Rattle.hex.specs.Hex.{encode_lower}
use Rattle.scrypt.specs.Terms.{◌and_then◌ as ◌>>=◌, AreCompressed, AreCounted, Parameters, PasswordInvalid, Refusal}
use Rattle.scrypt.specs.Terms.{Stored, cost_by, hash_text, is_salt_len, key_by, made_mcf, made_phc, reading, verdict}
use Rattle.scrypt.specs.Terms.{verify_cost, weaker, within}
use Rattle.password_hash.specs.declared.error.Error.TheVariants.{SaltInvalid}
use Rattle.scrypt.specs.declared.limits.Limits.{Limits}
use Rattle.scrypt.specs.declared.limits.TheConstants.Limits.{DEFAULT}
use Rattle.scrypt_kernel.specs.declared.cores.count.CoreCount.{CoreCount}
use Rattle.scrypt_commands.specs.Options.{limits_of, password_of}
use Rattle.scrypt_commands.specs.Invocation.{CommandLine}
use Rattle.scrypt_commands.specs.Command.{Making, Request, ToMake, ToVerify, request_of}
use Rattle.scrypt_commands.specs.CliError.{ErrorLine, error_line, hash_error, limited_line, refuse, status_of}
use Rattle.scrypt_commands.specs.declared.answer.Answer.{Answer}
use Rattle.scrypt_commands.specs.declared.answer.Answer.TheVariants.{Made, Right, Wrong}
use Rattle.scrypt_commands.specs.declared.limit_options.LimitOptions.{LimitOptions}
use Rattle.scrypt_commands.specs.declared.command.Format.{Format}
use Rattle.scrypt_commands.specs.declared.command.Format.TheVariants.{Phc, Mcf}
use Rattle.scrypt_commands.specs.declared.command.Target.{Target}
use Rattle.scrypt_commands.specs.declared.command.Target.TheVariants.{Key, Hash}
use Rattle.scrypt_commands.specs.declared.error.CliError.{CliError}

-- an answer: the exit status and the output line
pub record Reply : Type 0 where
  pub status : ℕ
  pub line : List ℕ

-- the outcome of a run: the exit status, the output line and the error line
pub record Outcome : Type 0 where
  pub status : ℕ
  pub line : List ℕ
  pub error : List ℕ

-- the outcome of an answer or an error line
abbrev pub outcome : Result Reply ErrorLine → Outcome
outcome (Ok reply) = record { status = reply.status; line = reply.line; error = [] }
outcome (Err line) = record { status = 2; line = []; error = line }

-- the outcome of an error
abbrev pub failure : CliError → Outcome
failure error = record { status = status_of error; line = []; error = error_line error }

-- the text of a new hash of this format; a `$7$` hash takes any salt
abbrev pub new_hash : Format → Parameters → List ℕ → List ℕ → Result (List ℕ) ErrorLine
new_hash Phc c password salt =
    if is_salt_len (length salt) then Ok (hash_text (made_phc c password salt)) else refuse (hash_error SaltInvalid)
new_hash Mcf c password salt = Ok (made_mcf c password salt)

-- The output line of a new key or hash of a password and a salt. A key is written as its
-- hexadecimal digits, or as its bytes without a newline.
abbrev pub new_line : Target → Parameters → List ℕ → List ℕ → Result (List ℕ) ErrorLine
new_line (Key len is_raw) c password salt =
    let key = key_by c password salt len in Ok (if is_raw then key else encode_lower key ++ codes "\n")
new_line (Hash format) c password salt = do
  text ← new_hash format c password salt
  Ok (text ++ codes "\n")

-- the answer with a new key or hash
abbrev pub made_reply : Making → List ℕ → Result Reply ErrorLine
made_reply making password = do
  line ← new_line making.target making.params password making.salt
  Ok (record { status = 0; line = line })

-- whether a password is right, by the verdict within these limits, if there are any
abbrev pub right_of : Option Limits → Result ⊤ Refusal → Result Bool ErrorLine
right_of limits (Ok right) = Ok true
right_of limits (Err PasswordInvalid) = Ok false
right_of limits (Err why) = Err (limited_line (unwrap_or limits DEFAULT) why)

-- the answer to the right password: the replacement of the hash if it is weaker than wanted, and
-- otherwise `ok`
abbrev pub right_reply : Option Making → Result Stored Refusal → List ℕ → Result Reply ErrorLine
right_reply None reading password = Ok (record { status = 0; line = codes "ok\n" })
right_reply (Some wanted) reading password =
    if result_unwrap_or (weaker wanted.params reading) false then made_reply wanted password else Ok (record { status = 0; line = codes "ok\n" })

-- the reading of a hash, within limits if there are any
abbrev pub bounded : Option Limits → Result Stored Refusal → Result Stored Refusal
bounded None reading = reading
bounded (Some limits) reading = within limits reading

-- the limits on a hash, if options set any, and given what is wanted in its place
abbrev pub limits_by : Option LimitOptions → Option Making → Option Limits
limits_by limit_options wanted = option_map (λ b. limits_of b (option_map (λ making. making.params) wanted)) limit_options

-- the answer to a request within limits, if options set any
abbrev pub reply_to : Option LimitOptions → Request → List ℕ → Result Reply ErrorLine
reply_to limit_options (ToMake making) password = made_reply making password
reply_to limit_options (ToVerify text wanted) password = do
  right ← right_of (limits_by limit_options wanted) (verdict password (bounded (limits_by limit_options wanted) (reading text)))
  if right then right_reply wanted (reading text) password else Ok (record { status = 1; line = codes "no\n" })

-- the answer to a command with its options
abbrev pub reply_by : CommandLine → List ℕ → Result Reply ErrorLine
reply_by command_line input = do
  request ← request_of command_line
  reply_to command_line.options.limit_options request (password_of command_line.options.strips_newline input)

-- the status and the output line of an answer
abbrev pub reply_view : Answer → Reply
reply_view Right = record { status = 0; line = codes "ok\n" }
reply_view Wrong = record { status = 1; line = codes "no\n" }
reply_view (Made line) = record { status = 0; line = line.items }

-- The cores of verifying a password against a hash with this reading, and the blocks that SHA-256
-- compresses: none if the hash is rejected; otherwise the cost of its parameters, unless an
-- allocation failed.
abbrev pub AreOfHash : List ℕ → Result Stored Refusal → (failed : Type 0) → CoreCount → CoreCount → Type 0
AreOfHash password (Err why) failed before after = after ≡ before
AreOfHash password (Ok s) failed before after = ¬ failed
    → AreCounted (cost_by s.params) before after × AreCompressed (verify_cost password s) before after

-- the cores of verifying for a request within limits, if options set any: none if nothing is
-- verified
abbrev pub AreOfRequest : Option LimitOptions → Request → List ℕ → (failed : Type 0) → CoreCount → CoreCount → Type 0
AreOfRequest limit_options (ToMake making) password failed before after = after ≡ before
AreOfRequest limit_options (ToVerify text wanted) password failed before after =
    AreOfHash password (bounded (limits_by limit_options wanted) (reading text)) failed before after
