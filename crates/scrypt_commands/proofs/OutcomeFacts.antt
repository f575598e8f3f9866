-- Making hashes, carrying out a command, and the outcome and the plan of a run.
use Rattle.std.proofs.Common.{◌≡◌, ◌⊎◌, ℕ, true, List, [], Option, Some, None, Err, inl, inr, refl, sym, append-nil, arith}
use Rattle.std.specs.Prelude.{IfSome, Result}
use Rattle.std.specs.Io.KnownBytes.{Appends, Keeps}
use Rattle.std.proofs.KnownBytes.{Appends-kept, Appends-nil, Keeps-refl}
use Rattle.scrypt.specs.Terms.{Parameters, refusal, salt_refusal}
use Rattle.password_hash.specs.declared.error.Error.{Error}
use Rattle.scrypt_commands.specs.{AppendsReply, CommandLine, ErrorLine, FailsWith, HasOutcome, OnInput, Reply}
use Rattle.scrypt_commands.specs.{Streams, error_line, hash_error, invocation_of, new_hash, no_options, options_of}
use Rattle.scrypt_commands.specs.{outcome, plan_of, plan_of_words, reply_by, request_of, status_of, text_of_words}
use Rattle.scrypt_commands.specs.declared.command.Format.TheVariants.{Phc}
use Rattle.scrypt_commands.specs.declared.error.CliError.{CliError}
use Rattle.scrypt_commands.specs.declared.error.CliError.TheVariants.{InputFailed, OutOfMemory, OutputFailed}
use Rattle.scrypt_commands.specs.declared.run.Ended.{Ended}

-- the error of a PHC hash that was not made
pub phc_refused : (c : Parameters) (password salt : List ℕ) (why : Error) → refusal why ≡ salt_refusal salt
    → FailsWith (λ error. new_hash Phc c password salt ≡ Err (error_line error)) (hash_error why)
phc_refused c password salt = grind arith

-- what holds of every input holds of that of a reader
on_any_input : (known : Option (List ℕ)) (P : List ℕ → Type 0) → ((input : List ℕ) → P input) → OnInput known P
on_any_input None P h = ([], tt, h [])
on_any_input (Some input) P h = (input, refl, h input)

-- what holds of no input in particular
pub on_no_input : (known : Option (List ℕ)) (P : Type 0) → P → OnInput known (λ _. P)
on_no_input known P h = on_any_input known (λ _. P) (λ _. h)

-- nothing was appended
pub appends_nothing : (old new : Option (List ℕ)) → Keeps old new → Appends old new []
appends_nothing old new h = Appends-kept old old new [] (Appends-nil old) h

-- words that are refused are refused on each input
pub refused_args : (command_line : CommandLine) (known : Option (List ℕ)) (error : CliError)
    → FailsWith (λ error. request_of command_line ≡ Err (error_line error)) error → status_of error ≡ 2
    → OnInput known (λ input. reply_by command_line input ≡ Err (error_line error))
refused_args command_line known error (inl h) two = let wrong : ◌≡◌ {A = ℕ} 3 2 = rw h at two in absurd cc
refused_args command_line known error (inr (two, is)) _ = on_any_input known _ (λ input. rw is refl)

-- a command that is refused is refused on the input that was read
pub refused_input : (reply_on : List ℕ → Result Reply ErrorLine) (known : Option (List ℕ)) (input : List ℕ) (error : CliError)
    → IfSome known (λ bytes. input ≡ bytes) → FailsWith (λ error. reply_on input ≡ Err (error_line error)) error → status_of error ≡ 2
    → OnInput known (λ input. reply_on input ≡ Err (error_line error))
refused_input reply_on known input error same (inl h) two = let wrong : ◌≡◌ {A = ℕ} 3 2 = rw h at two in absurd cc
refused_input reply_on known input error same (inr (two, is)) _ = (input, same, is)

-- an error of status 4 other than `InputFailed` is `OutputFailed`
pub output_failed : (error : CliError) → status_of error ≡ 4 → ¬ (error ≡ InputFailed) → error ≡ OutputFailed
output_failed error is other = grind arith

-- the outcome of a run that ends without a line
pub end_outcome : (reply_on : List ℕ → Result Reply ErrorLine) (known old new faults faults' : Option (List ℕ)) (ended : Ended) (error : CliError)
    → ended.status ≡ status_of error → (error ≡ OutputFailed) ⊎ Keeps old new
    → (ended.fault_told ≡ true → Appends faults faults' (error_line error))
    → (status_of error ≡ 2 → OnInput known (λ input. reply_on input ≡ Err (error_line error)))
    → (ended.status ≡ 3) ⊎ (ended.status ≡ 4) ⊎ OnInput known (λ input. HasOutcome ended
    (record { input = known; output = old; faults = faults }) (record { input = known; output = new; faults = faults' }) (outcome (reply_on input)))
end_outcome reply_on known old new faults faults' ended error is kept written refused = grind (arith, appends_nothing)

-- the outcome of a run that has written its line
pub answered_outcome : (reply_on : List ℕ → Result Reply ErrorLine) (before after : Streams) (status : ℕ) (ended : Ended)
    → ended.status ≡ status → Keeps before.faults after.faults → AppendsReply reply_on before.input before.output after.output status
    → OnInput before.input (λ input. HasOutcome ended before after (outcome (reply_on input)))
answered_outcome reply_on before after status ended is same_faults (input, same, (line, has, appends)) = grind (arith, appends_nothing)

-- a command without options has the plan of its words
pub without_options : (salt : List ℕ) (words : List (List ℕ)) → text_of_words words ≡ None → options_of words ≡ (no_options, words)
    → plan_of salt None (invocation_of words) ≡ plan_of_words words
without_options salt words no_text none = grind arith

-- the ends of a run
pub ruleset endings = (refused_args, refused_input)

pub ruleset ends = (end_outcome, answered_outcome, Keeps-refl)

-- what is printed whatever the input is
pub ruleset without_input = (on_no_input, appends_nothing, Keeps-refl)
