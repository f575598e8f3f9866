-- Crypt Base64: the encoding of bytes in the letters of crypt(5).
use Rattle.std.specs.Prelude.{◌≡◌, ◌==◌, ℕ, zero, suc, ◌+◌, ◌*◌, ◌/◌, ◌%◌, ◌<◌, ◌≤◌, List, [], ◌∷◌, ◌++◌, Option, Some}
use Rattle.std.specs.Prelude.{None, codes, if◌then◌else◌, length, position, slice_index, unwrap_or}
use Rattle.std.specs.Str.{bytes_eq}
pub use Rattle.base64.specs.GeneralPurpose.{IsBytes}

-- the alphabet: the letter of each value from 0 to 63
abbrev pub alphabet : List ℕ
alphabet = codes "./0123456789ABCDEFGHIJKLMNOPQRSTUVWXYZabcdefghijklmnopqrstuvwxyz"

-- the letter of a value below 64
unfoldable pub letter : ℕ → ℕ
letter value = slice_index alphabet value

-- the value of a letter: its index in the alphabet
unfoldable pub letter_value : ℕ → Option ℕ
letter_value byte = position (λ other. other == byte) alphabet

-- the letters of the `count` least significant digits of a number in base 64, the least significant
-- first
unfoldable pub letters_of : ℕ → ℕ → List ℕ
letters_of zero number = []
letters_of (suc count) number = letter (number % 64) ∷ letters_of count (number / 64)

-- the number with this least significant digit and these digits above it, or `None` if one of the
-- two is missing
abbrev pub with_digit : Option ℕ → Option ℕ → Option ℕ
with_digit (Some value) (Some above) = Some (value + 64 * above)
with_digit value above = None

-- the number that letters encode: their values are the digits of the number in base 64, the least
-- significant first
unfoldable pub number_of : List ℕ → Option ℕ
number_of [] = Some 0
number_of (first ∷ letters) = with_digit (letter_value first) (number_of letters)

-- the encoding of bytes: four letters for each three bytes, and at the end three letters for two
-- bytes or two for one
unfoldable pub crypt64_of : List ℕ → List ℕ
crypt64_of [] = []
crypt64_of (a ∷ []) = letters_of 2 a
crypt64_of (a ∷ b ∷ []) = letters_of 3 (a + 256 * b)
crypt64_of (a ∷ b ∷ c ∷ rest) = letters_of 4 (a + 256 * b + 65536 * c) ++ crypt64_of rest

-- these letters are the encoding of these bytes
pub record Crypt64 (bytes letters : List ℕ) : Type 0 where
  pub are_bytes : IsBytes bytes
  pub encoding : letters ≡ crypt64_of bytes

-- these letters are the encoding of some bytes
abbrev pub IsCrypt64 : List ℕ → Type 0
IsCrypt64 letters = (bytes : List ℕ) × Crypt64 bytes letters

-- the `count` least significant bytes of a number, in little-endian order
unfoldable pub bytes_of_number : ℕ → ℕ → List ℕ
bytes_of_number zero number = []
bytes_of_number (suc count) number = (number % 256) ∷ bytes_of_number count (number / 256)

-- the bytes that the letters encode, or `None` if they are not an encoding
unfoldable pub decoded : List ℕ → Option (List ℕ)
decoded letters =
    let bytes = bytes_of_number (3 * length letters / 4) (unwrap_or (number_of letters) 0) in
    if bytes_eq letters (crypt64_of bytes) then Some bytes else None

-- the number of letters of n bytes: four for three bytes, rounded up
abbrev pub encoded_len : ℕ → ℕ
encoded_len n = (4 * n + 2) / 3

-- the letters of n bytes, from index `at` of `all` bytes, encode no other bytes: the n bytes begin
-- at a group of three, and end after a group or at the end
pub record IsPiece (at n all : ℕ) : Type 0 where
  pub begins : at % 3 ≡ 0
  pub inside : at + n ≤ all
  pub ends : at + n < all → n % 3 ≡ 0

-- the letters begin with the encoding of these bytes, followed by the rest
pub record Begins (letters bytes rest : List ℕ) : Type 0 where
  pub are_bytes : IsBytes bytes
  pub whole : letters ≡ crypt64_of bytes ++ rest
  pub groups : 0 < length rest → length bytes % 3 ≡ 0
