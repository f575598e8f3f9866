-- The words of a command, and the tests of parameters and lengths.
use Rattle.std.proofs.Common.{◌≡◌, ◌≢◌, ◌/◌, ℕ, List, arith, bytes_eq, false, length}
use Rattle.std.proofs.lemmas.Bool.{false_from_ne_true}
use Rattle.std.proofs.lemmas.Slice.Eq.{bytes_eq-Decides}
use Rattle.hex.specs.Hex.{decode_of, decode_sized}

-- a text that is not this one
pub other : (text name : List ℕ) → text ≢ name → bytes_eq text name ≡ false
other text name h = false_from_ne_true _ (λ same. h ((bytes_eq-Decides text name).0 same))

-- digits decoded into half as many bytes
pub decoded : (digits : List ℕ) → decode_sized digits (length digits / 2) ≡ decode_of digits
decoded digits = grind (arith)
