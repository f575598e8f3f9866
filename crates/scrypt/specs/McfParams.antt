-- Five-letter numbers, and the parameters at the front of the first field of a `$7$` hash of
-- crypt(5).
use Rattle.std.specs.Prelude.{ℕ, nat_lt, if◌then◌else◌, List, ◌∷◌, ◌++◌, codes, length, slice_index, take, drop, Option, None, ok_or, unwrap_or, Result, Err}
use Rattle.password_hash.specs.Crypt64.{letter, letter_value, letters_of, number_of}
use Rattle.password_hash.specs.Refusal.{Refusal, EncodingInvalid}
use Rattle.scrypt.specs.Accepted.{Parameters}
use Rattle.scrypt.specs.Reading.{◌and_then◌, checked}

-- the five-letter number at the front of a text, the lowest letter first, or `None` if there are
-- fewer than five bytes or one of the five is not a letter
abbrev pub five_letter_number : List ℕ → Option ℕ
five_letter_number text = if nat_lt (length text) 5 then None else number_of (take 5 text)

-- the eleven letters of accepted numbers
abbrev pub params_letters : ℕ → ℕ → ℕ → List ℕ
params_letters log_n r p = letter log_n ∷ (letters_of 5 r ++ letters_of 5 p)

-- the text before the salt, for these parameters
abbrev pub params_text : Parameters → List ℕ
params_text c = codes "$7$" ++ params_letters c.log_n c.r c.p

-- The parameters that the first eleven bytes of a field encode: log_n in one letter, r and p in
-- five letters each. A first byte below 128 that is not a letter reads as 255. The rest of the
-- field is the salt.
unfoldable pub field_params : List ℕ → Result Parameters Refusal
field_params field = if nat_lt (slice_index field 0) 128 then (
    ok_or (five_letter_number (drop 1 field)) EncodingInvalid and_then λ r.
    ok_or (five_letter_number (drop 6 field)) EncodingInvalid and_then λ p.
    checked (unwrap_or (letter_value (slice_index field 0)) 255) r p) else Err EncodingInvalid
