-- Runs: their output, and the bytes that they read and write.
use Rattle.std.specs.Prelude.{◌≡◌, ◌⊎◌, ℕ, Bool, false, true, if◌then◌else◌, List, [], length, take, Option, Result, Ok, Err, IfSome, IsTrue, ⊤}
use Rattle.std.specs.Bool.{then_some}
use Rattle.std.specs.Result.{is_err}
use Rattle.std.specs.Io.KnownBytes.{Appends, IsAtEnd, Keeps}
use Rattle.scrypt_commands.specs.CliError.{ErrorLine, error_line, status_of}
use Rattle.scrypt_commands.specs.Command.{request_of}
use Rattle.scrypt_commands.specs.Invocation.{Command, CommandLine, Invocation, Refuse, Tell, command_by}
use Rattle.scrypt_commands.specs.Options.{no_options}
use Rattle.scrypt_commands.specs.Outcome.{Outcome, Reply, failure, outcome, reply_by}
use Rattle.scrypt_commands.specs.declared.error.CliError.{CliError}
use Rattle.scrypt_commands.specs.declared.error.CliError.TheVariants.{InputFailed, OutOfMemory, OutputFailed}
use Rattle.scrypt_commands.specs.declared.run.Ended.{Ended}

-- the outcome of a run for each input, and whether it ends without reading the input
pub record Plan : Type 0 where
  pub outcome_on : List ℕ → Outcome
  pub is_unread : Bool

-- the plan of a run with this outcome for every input
abbrev pub unread_plan : Outcome → Plan
unread_plan outcome = record { outcome_on = λ _. outcome; is_unread = true }

-- the plan of a command with its options: invalid words are rejected before the input is read
abbrev pub plan_by : CommandLine → Plan
plan_by command_line =
    record { outcome_on = λ input. outcome (reply_by command_line input); is_unread = is_err (request_of command_line) }

-- the plan of a command, or of its error
abbrev pub plan_of_command : Result CommandLine CliError → Plan
plan_of_command (Ok command_line) = plan_by command_line
plan_of_command (Err error) = unread_plan (failure error)

-- the plan of words without options
abbrev pub plan_of_words : List (List ℕ) → Plan
plan_of_words words = plan_of_command (command_by no_options words)

-- the plan of an invocation, with this salt if the options draw one
abbrev pub plan_of : List ℕ → Option (List ℕ) → Invocation → Plan
plan_of salt file (Tell text) = unread_plan (record { status = 0; line = text; error = [] })
plan_of salt file (Refuse error) = unread_plan (failure error)
plan_of salt file (Command command_line) =
    plan_by (record command_line { salt = then_some command_line.options.draws_salt salt; file_text = file })

-- the remaining input, and the contents of the output and of the error output, where they are known
pub record Streams : Type 0 where
  pub input : Option (List ℕ)
  pub output : Option (List ℕ)
  pub faults : Option (List ℕ)

-- this holds of some input: the bytes that a reader has left, if they are known
abbrev pub OnInput : Option (List ℕ) → (List ℕ → Type 0) → Type 0
OnInput known P = (input : List ℕ) × IfSome known (λ bytes. input ≡ bytes) × P input

-- a run that ends with this status has written its output line
abbrev pub IsAnswer : ℕ → Type 0
IsAnswer status = (status ≡ 0) ⊎ (status ≡ 1)

-- this error line was written, if the run ended with `fault_told`
abbrev pub Tells : Ended → Streams → Streams → List ℕ → Type 0
Tells ended before after line = IsTrue ended.fault_told → Appends before.faults after.faults line

-- a prefix of this line was appended, possibly none or all of it
abbrev pub AppendsBeginning : Option (List ℕ) → Option (List ℕ) → List ℕ → Type 0
AppendsBeginning old new line = (n : ℕ) × Appends old new (take n line)

-- no run without a command ends out of memory: a text is written or `output failed`, and an error
-- has its status
abbrev pub EndsUnread : Invocation → Ended → Type 0
EndsUnread (Tell text) ended = ((ended.status ≡ 0) ⊎ (ended.status ≡ 4)) × ¬ IsTrue ended.input_failed
EndsUnread (Refuse error) ended = ended.status ≡ status_of error
EndsUnread (Command command_line) ended = ⊤

-- a command is rejected before the input is read, whichever salt is drawn
abbrev pub IsRefusedUnread : Option (List ℕ) → Invocation → Type 0
IsRefusedUnread file (Command command_line) =
    (salt : List ℕ) → length salt ≡ 16 → (plan_of salt file (Command command_line)).is_unread ≡ true
IsRefusedUnread file others = ⊥

-- a run has this outcome
abbrev pub HasOutcome : Ended → Streams → Streams → Outcome → Type 0
HasOutcome ended before after outcome = (ended.status ≡ outcome.status) × Appends before.output after.output outcome.line
    × Tells ended before after outcome.error

-- the end of a run with this plan, and the bytes that it has read and written
pub record IsRun (plan : Plan) (before after : Streams) (ended : Ended) : Type 0 where
  pub outcome : (ended.status ≡ 3) ⊎ (ended.status ≡ 4) ⊎ OnInput before.input (λ input. HasOutcome ended before after (plan.outcome_on input))
  pub out_of_memory : ended.status ≡ 3 → Tells ended before after (error_line OutOfMemory)
  pub failed : ended.status ≡ 4 → Tells ended before after (error_line (if ended.input_failed then InputFailed else OutputFailed))
  pub input_failed : IsTrue ended.input_failed → ended.status ≡ 4
  pub nothing : (ended.status ≡ 2) ⊎ (ended.status ≡ 3) ⊎ IsTrue ended.input_failed → Keeps before.output after.output
  pub begun : ended.status ≡ 4 → ended.input_failed ≡ false
      → OnInput before.input (λ input. AppendsBeginning before.output after.output (plan.outcome_on input).line)
  pub unread : plan.is_unread ≡ true → Keeps before.input after.input
  pub read : plan.is_unread ≡ false → IsAnswer ended.status ⊎ (ended.status ≡ 2) ⊎ ((ended.status ≡ 4) × (ended.input_failed ≡ false))
      → IsAtEnd after.input
  pub done : IsAnswer ended.status → IsTrue ended.fault_told
  pub no_error : IsAnswer ended.status → Keeps before.faults after.faults

-- the output line of the answer with this status was appended
abbrev pub AppendsReply : (List ℕ → Result Reply ErrorLine) → Option (List ℕ) → Option (List ℕ) → Option (List ℕ) → ℕ → Type 0
AppendsReply reply_on known old new status =
    OnInput known (λ input. (line : List ℕ) × (reply_on input ≡ Ok (record { status = status; line = line })) × Appends old new line)
