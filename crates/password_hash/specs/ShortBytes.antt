-- Lists of bytes of a limited length, and their representation in a fixed number of bytes.
use Rattle.std.specs.Prelude.{◌≡◌, ℕ, ◌-◌, ◌≤◌, List, ◌++◌, length, take, replicate}
use Rattle.base64.specs.GeneralPurpose.{IsBytes}

-- from `least` to `most` bytes
pub record AreBytesFromTo (least most : ℕ) (bytes : List ℕ) : Type 0 where
  pub are_bytes : IsBytes bytes
  pub enough : least ≤ length bytes
  pub fits : length bytes ≤ most

-- the list, padded with zeros to this length
abbrev pub padded : ℕ → List ℕ → List ℕ
padded size xs = xs ++ replicate (size - length xs) 0

-- from `least` to `most` bytes at the front of `most` bytes, followed by zeros
pub record AreStored (least most : ℕ) (places : List ℕ) (len : ℕ) : Type 0 where
  pub enough : least ≤ len
  pub within : len ≤ length places
  pub whole : length places ≡ most
  pub zeros : padded most (take len places) ≡ places
