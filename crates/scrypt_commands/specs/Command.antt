-- The request of a command, or the error of the first thing that is wrong with it. After the words
-- and their decimals, these are read in this order: the salt, the parameters, the length of the
-- key, the text of a hash.
use Rattle.std.specs.Prelude.{ℕ, ◌^◌, ◌&&◌, Bool, false, true, bytes_eq, if◌then◌else◌, codes, ⊤, List, [], ◌∷◌, Option, None, Some, is_some, ok_or, option_map, Result, Ok, Err, String}
use Rattle.std.specs.Borrow.{Bor}
use Rattle.std.specs.Global.{Global}
use Rattle.hex.specs.Hex.{decode_of}
use Rattle.password_hash.specs.declared.error.Error.TheVariants.{EncodingInvalid}
use Rattle.password_hash.specs.Decimal.{decimal_below}
use Rattle.scrypt.specs.Terms.{◌and_then◌ as ◌>>=◌, Parameters, are_accepted, is_output_len, is_stored_len}
use Rattle.scrypt.specs.Terms.{is_stored_text}
use Rattle.scrypt_commands.specs.CliError.{ErrorLine, error_line, hash_error, refuse}
use Rattle.scrypt_commands.specs.Invocation.{CommandLine}
use Rattle.scrypt_commands.specs.Options.{texts_of}
use Rattle.scrypt_commands.specs.declared.command.Command.{Command}
use Rattle.scrypt_commands.specs.declared.command.Command.TheVariants.{Make, Verify}
use Rattle.scrypt_commands.specs.declared.command.Format.{Format}
use Rattle.scrypt_commands.specs.declared.command.Format.TheVariants.{Phc, Mcf}
use Rattle.scrypt_commands.specs.declared.command_line.Name.{Name}
use Rattle.scrypt_commands.specs.declared.command_line.Name.TheVariants as names
use Rattle.scrypt_commands.specs.declared.command.Making.{Making as MakingOf}
use Rattle.scrypt_commands.specs.declared.command.Salt.{Salt}
use Rattle.scrypt_commands.specs.declared.command.Salt.TheVariants.{Digits, Drawn}
use Rattle.scrypt_commands.specs.declared.command.Target.{Target}
use Rattle.scrypt_commands.specs.declared.command.Target.TheVariants.{Key, Hash}
use Rattle.scrypt_commands.specs.declared.command.UncheckedParams.{UncheckedParams}
use Rattle.scrypt_commands.specs.declared.error.CliError.TheVariants.{InvalidOutputLen, InvalidParams, SaltNotHex, Usage}

-- a key or a hash that is to be made from a password
pub record Making : Type 0 where
  pub target : Target
  pub params : Parameters
  pub salt : List ℕ

-- a request: make something, or verify a hash, and make something in its place if it is weaker
pub data Request : Type 0 where
  ToMake : (making : Making) → Request
  ToVerify : (text : List ℕ) (wanted : Option Making) → Request

-- the salt that was decoded from hexadecimal digits, if they are valid
abbrev pub decoded_salt : {E : Type 0} → Result (List ℕ) E → Result (List ℕ) ErrorLine
decoded_salt (Ok salt) = Ok salt
decoded_salt (Err why) = refuse SaltNotHex

-- the parameters, with the key length if one is given for a hash, if they are accepted
unfoldable pub checked_params : UncheckedParams → Option ℕ → Option Parameters
checked_params it key_len =
    if are_accepted it.log_n it.r it.p && is_stored_len key_len
    then Some (record { log_n = it.log_n; r = it.r; p = it.p; output_len = key_len })
    else None

-- the key or hash to make, with a salt that was read
unfoldable pub making_of : Target → UncheckedParams → Option ℕ → Result (List ℕ) ErrorLine → Result Making ErrorLine
making_of target unchecked key_len salt = do
  salt ← salt
  params ← ok_or (checked_params unchecked key_len) (error_line InvalidParams)
  Ok (record { target = target; params = params; salt = salt })

-- the text of a hash, if it has one of the two formats
abbrev pub hash_of : List ℕ → Result (List ℕ) ErrorLine
hash_of text = if is_stored_text text then Ok text else refuse (hash_error EncodingInvalid)

-- the first word, and the words after it
abbrev pub first_word : List (List ℕ) → Result (List ℕ × List (List ℕ)) ErrorLine
first_word [] = refuse Usage
first_word (word ∷ words) = Ok (word, words)

-- there are no words after the last one
abbrev pub end_of : List (List ℕ) → Result ⊤ ErrorLine
end_of [] = Ok tt
end_of words = refuse Usage

-- a decimal below its bound
abbrev pub number_of : ℕ → List ℕ → Result ℕ ErrorLine
number_of bound word = ok_or (decimal_below bound word) (error_line Usage)

-- the recommended parameters
abbrev pub recommended : UncheckedParams
recommended = record { log_n = 17; r = 8; p = 1 }

-- LOG_N R P, and the words after them; the recommended parameters have no words
unfoldable pub params_words : Bool → List (List ℕ) → Result (UncheckedParams × List (List ℕ)) ErrorLine
params_words true words = Ok (recommended, words)
params_words false words = do
  (log_n, words) ← first_word words
  (r, words) ← first_word words
  (p, words) ← first_word words
  log_n ← number_of (2 ^ 8) log_n
  r ← number_of (2 ^ 32) r
  p ← number_of (2 ^ 32) p
  Ok (record { log_n = log_n; r = r; p = p }, words)

-- LEN, and the words after it
unfoldable pub len_word : List (List ℕ) → Result (ℕ × List (List ℕ)) ErrorLine
len_word words = do
  (len, words) ← first_word words
  len ← number_of (2 ^ 64) len
  Ok (len, words)

-- [LEN], and no words after it
unfoldable pub optional_len : List (List ℕ) → Result (Option ℕ) ErrorLine
optional_len [] = Ok None
optional_len words = do
  (len, words) ← len_word words
  _ ← end_of words
  Ok (Some len)

-- SALT_HEX, and the words after it; a salt that was drawn has no word
unfoldable pub salt_word : Option (List ℕ) → List (List ℕ) → Result (Result (List ℕ) ErrorLine × List (List ℕ)) ErrorLine
salt_word (Some drawn) words = Ok (Ok drawn, words)
salt_word None words = do
  (digits, words) ← first_word words
  Ok (decoded_salt (decode_of digits), words)

-- HASH, and the words after it; the text of a file has no word
abbrev pub hash_word : Option (List ℕ) → List (List ℕ) → Result (List ℕ × List (List ℕ)) ErrorLine
hash_word (Some text) words = Ok (text, words)
hash_word None words = first_word words

-- phc|mcf, and the words after it
unfoldable pub format_word : List (List ℕ) → Result (Format × List (List ℕ)) ErrorLine
format_word words = do
  (name, words) ← first_word words
  if bytes_eq name (codes "phc") then Ok (Phc, words)
      else if bytes_eq name (codes "mcf") then Ok (Mcf, words)
      else refuse Usage

-- after `key`: LOG_N R P LEN SALT_HEX
unfoldable pub key_words : Bool → List (List ℕ) → Result Request ErrorLine
key_words is_raw words = do
  (params, words) ← params_words false words
  (len, words) ← len_word words
  (salt, words) ← salt_word None words
  _ ← end_of words
  making ← making_of (Key len is_raw) params None salt
  if is_output_len len then Ok (ToMake making) else refuse InvalidOutputLen

-- after `hash`: phc|mcf LOG_N R P SALT_HEX [LEN], or phc|mcf SALT_HEX for the recommended
-- parameters
unfoldable pub hash_words : Bool → Option (List ℕ) → List (List ℕ) → Result Request ErrorLine
hash_words is_recommended drawn words = do
  (format, words) ← format_word words
  (params, words) ← params_words is_recommended words
  (salt, words) ← salt_word drawn words
  len ← optional_len words
  making ← if is_recommended && is_some len then refuse Usage else making_of (Hash format) params len salt
  Ok (ToMake making)

-- after `verify`: HASH
unfoldable pub verify_words : Option (List ℕ) → List (List ℕ) → Result Request ErrorLine
verify_words file words = do
  (text, words) ← hash_word file words
  _ ← end_of words
  text ← hash_of text
  Ok (ToVerify text None)

-- after `rehash`: phc|mcf LOG_N R P LEN SALT_HEX HASH
unfoldable pub rehash_words : Option (List ℕ) → Option (List ℕ) → List (List ℕ) → Result Request ErrorLine
rehash_words drawn file words = do
  (format, words) ← format_word words
  (params, words) ← params_words false words
  (len, words) ← len_word words
  (salt, words) ← salt_word drawn words
  (text, words) ← hash_word file words
  _ ← end_of words
  wanted ← making_of (Hash format) params (Some len) salt
  text ← hash_of text
  Ok (ToVerify text (Some wanted))

-- The request in the words of a command. There are no words for the recommended parameters of
-- `hash`, for a drawn salt, and for a hash that is read from a file.
abbrev pub requested_by : CommandLine → Name → Result Request ErrorLine
requested_by command_line names.Key = key_words command_line.options.is_raw command_line.words
requested_by command_line names.Hash = hash_words command_line.options.is_recommended command_line.salt command_line.words
requested_by command_line names.Verify = verify_words command_line.file_text command_line.words
requested_by command_line names.Rehash = rehash_words command_line.salt command_line.file_text command_line.words

-- the request of a command
unfoldable pub request_of : CommandLine → Result Request ErrorLine
request_of command_line = requested_by command_line command_line.name

-- the salt of a command: its hexadecimal digits, or bytes that were drawn
abbrev pub salt_of : Salt → Result (List ℕ) ErrorLine
salt_of (Digits digits) = decoded_salt (decode_of digits.now)
salt_of (Drawn salt) = Ok salt

-- the value that is read from the first words, and the words after them
abbrev pub before_words : {A B : Type 0} → (A → B) → A × Bor (List (String Global)) → B × List (List ℕ)
before_words view (read, words) = (view read, texts_of words.now)

-- the key or hash to make, with the bytes of the salt
abbrev pub making_view : MakingOf → Making
making_view it = record { target = it.target; params = it.params; salt = it.salt.items }

-- the request of a command that was read
abbrev pub request_view : Command → Request
request_view (Make making) = ToMake (making_view making)
request_view (Verify hash wanted) = ToVerify hash (option_map making_view wanted)
