-- How the calls read the text of a hash, which they take as bytes.
use Rattle.std.specs.Prelude.{ℕ, if◌then◌else◌, List, Result, Err}
use Rattle.std.specs.Str.{is_utf8}
use Rattle.scrypt.specs.Terms.{EncodingInvalid, Parameters, Refusal, Stored, params_reading, reading}

-- the reading of bytes, as a text in UTF-8
unfoldable pub bytes_reading : List ℕ → Result Stored Refusal
bytes_reading bytes = if is_utf8 bytes then reading bytes else Err EncodingInvalid

-- the parameters that are read from bytes, and the length of the key
unfoldable pub bytes_params : List ℕ → Result (Parameters × ℕ) Refusal
bytes_params bytes = if is_utf8 bytes then params_reading bytes else Err EncodingInvalid
