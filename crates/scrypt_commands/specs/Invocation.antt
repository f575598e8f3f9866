-- Parsed command lines.
use Rattle.std.specs.Prelude.{ℕ, ◌||◌, Bool, bytes_eq, codes, if◌then◌else◌, is_some, List, [], ◌∷◌, Option, None, Some, Result, Ok, Err}
use Rattle.std.specs.Option.{option_copied, option_map_or}
use Rattle.scrypt.specs.Reading.{◌and_then◌}
use Rattle.scrypt_commands.specs.Options.{Options, no_options, options_of, texts_of}
use Rattle.scrypt_commands.specs.declared.command_line.CommandLine.{CommandLine as CommandLineOf}
use Rattle.scrypt_commands.specs.declared.command_line.Name.{Name}
use Rattle.scrypt_commands.specs.declared.command_line.Name.TheVariants.{Key, Hash, Verify, Rehash}
use Rattle.scrypt_commands.specs.declared.error.CliError.{CliError}
use Rattle.scrypt_commands.specs.declared.error.CliError.TheVariants.{Usage}
use Rattle.scrypt_commands.specs.declared.invocation.Invocation.{Invocation as InvocationOf}
use Rattle.scrypt_commands.specs.declared.invocation.Invocation.TheVariants as typed
use Rattle.scrypt_commands.specs.declared.options.Options.{Options as OptionsOf}
use Rattle.scrypt_commands.specs.declared.usage.TheConstants.{HELP, VERSION}

-- a command with its options, the words after its name, the drawn salt and the text of the hash
-- file, if there are any
pub record CommandLine : Type 0 where
  pub name : Name
  pub options : Options
  pub words : List (List ℕ)
  pub salt : Option (List ℕ)
  pub file_text : Option (List ℕ)

-- a parsed command line: a text about the program, an error, or a command with its options
pub data Invocation : Type 0 where
  Tell : (text : List ℕ) → Invocation
  Refuse : (error : CliError) → Invocation
  Command : (command_line : CommandLine) → Invocation

-- the command of this name
unfoldable pub name_of : List ℕ → Result Name CliError
name_of word =
    if bytes_eq word (codes "key") then Ok Key
    else if bytes_eq word (codes "hash") then Ok Hash
    else if bytes_eq word (codes "verify") then Ok Verify
    else if bytes_eq word (codes "rehash") then Ok Rehash
    else Err Usage

-- Whether an option does not fit a command. Only `verify` and `rehash` take options about a stored
-- hash, only `hash` and `rehash` draw a salt, only `hash` has recommended parameters, and only a key
-- is written raw, or made with its progress shown.
abbrev pub is_unfit : Options → Name → Bool
is_unfit o Key = (is_some o.limit_options || is_some o.hash_file) || o.draws_salt
is_unfit o Hash = ((is_some o.limit_options || is_some o.hash_file) || o.is_raw) || o.shows_progress
is_unfit o Verify = (o.draws_salt || o.is_raw) || o.shows_progress
is_unfit o Rehash = (o.is_recommended || o.is_raw) || o.shows_progress

-- this command with these options, if they fit it
abbrev pub command_line_of : Options → List (List ℕ) → Name → Result CommandLine CliError
command_line_of o words name = if is_unfit o name then Err Usage
    else Ok (record { name = name; options = o; words = words; salt = None; file_text = None })

-- the command of these words with these options
abbrev pub command_by : Options → List (List ℕ) → Result CommandLine CliError
command_by o [] = Err Usage
command_by o (word ∷ words) = name_of word and_then command_line_of o words

-- the invocation of a command, or its error
abbrev pub asked_by : Result CommandLine CliError → Invocation
asked_by (Ok command_line) = Command command_line
asked_by (Err error) = Refuse error

-- the text about the program that a word asks for, if any
unfoldable pub text_of : List ℕ → Option (List ℕ)
text_of word =
    if bytes_eq word (codes "--help") then Some HELP.now
    else if bytes_eq word (codes "-h") then Some HELP.now
    else if bytes_eq word (codes "--version") then Some VERSION.now
    else None

-- the text about the program that these words ask for: only a single word asks for one
unfoldable pub text_of_words : List (List ℕ) → Option (List ℕ)
text_of_words (word ∷ []) = text_of word
text_of_words others = None

-- the invocation of these options and the words after them
abbrev pub invocation_by : Options × List (List ℕ) → Invocation
invocation_by (o, words) = asked_by (command_by o words)

-- the invocation of these words, which can begin with options
abbrev pub invocation_of : List (List ℕ) → Invocation
invocation_of words = option_map_or Tell (text_of_words words) (invocation_by (options_of words))

-- the options of a command, or none if there is no command
abbrev pub options_in : Invocation → Options
options_in (Command command_line) = command_line.options
options_in others = no_options

-- the options, with the texts that they contain
abbrev pub options_view : OptionsOf → Options
options_view it = record {
  limit_options = it.limit_options;
  draws_salt = it.draws_salt;
  is_recommended = it.is_recommended;
  strips_newline = it.strips_newline;
  is_raw = it.is_raw;
  shows_progress = it.shows_progress;
  hash_file = option_copied it.hash_file;
}

-- a command with its options
abbrev pub command_line_view : CommandLineOf → CommandLine
command_line_view it = record {
  name = it.name;
  options = options_view it.options;
  words = texts_of it.words.now;
  salt = it.drawn;
  file_text = option_copied it.file_text;
}

-- a parsed command line
abbrev pub invocation_view : InvocationOf → Invocation
invocation_view (typed.Tell text) = Tell text.now
invocation_view (typed.Refuse error) = Refuse error
invocation_view (typed.Command command_line) = Command (command_line_view command_line)
