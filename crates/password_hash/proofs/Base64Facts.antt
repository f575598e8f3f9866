-- Base64 of bytes, and the bytes that letters decode to.
use Rattle.std.proofs.Common.{◌≡◌, ℕ, zero, suc, ◌+◌, ◌*◌, ◌/◌, ◌%◌, ◌<◌, ◌==◌, false, List, [], ◌∷◌, take, drop, length, slice_index, ap, arith, ◌∙◌, refl}
use Rattle.std.specs.Prelude.{All, IsTrue, Ok}
use Rattle.std.specs.List.{AllByRecursion as ByRecursion}
use Rattle.std.proofs.lemmas.List.{append-nil, places}
use Rattle.std.proofs.lemmas.List.Elements.{All-get_or, All-from_recursion}
use Rattle.std.proofs.lemmas.List.Sums.{AllPass-from_list_all}
use Rattle.base64.specs.Rfc4648.{encode_symbols}
use Rattle.base64.specs.GeneralPurpose.{IsBytes, decode_of}
use Rattle.base64.specs.Engines.{standard_no_pad}
use Rattle.base64.proofs.EngineFacts.{decode_of-encode_of}
use Rattle.base64.proofs.RoundTrip.{length-encode_symbols}
use Rattle.password_hash.specs.{base64, is_base64_letter, is_value_letter}
use Rattle.password_hash.proofs.ParamsFacts.{Lacks, letters_lack}

-- lists of bytes

pub IsBytes-cons : (byte : ℕ) (bytes : List ℕ) → byte < 256 → IsBytes bytes → IsBytes (byte ∷ bytes)
IsBytes-cons byte bytes first rest zero = first
IsBytes-cons byte bytes first rest (suc i) = rest i

pub IsBytes-take : (n : ℕ) (xs : List ℕ) → IsBytes xs → IsBytes (take n xs)
IsBytes-take n xs are = λ i. grind (arith, places, are i)

pub IsBytes-drop : (n : ℕ) (xs : List ℕ) → IsBytes xs → IsBytes (drop n xs)
IsBytes-drop n xs are = λ i. grind (arith, places, are (n + i))

-- Base64

pub length-base64 : (bytes : List ℕ) → length (base64 bytes) ≡ (4 * length bytes + 2) / 3
length-base64 bytes = rw append-nil (length-encode_symbols standard_no_pad.encode_table bytes)

-- the letters of bytes decode to them
pub decode_of-base64 : (letters bytes : List ℕ) → IsBytes bytes → letters ≡ base64 bytes → decode_of standard_no_pad letters ≡ Ok bytes
decode_of-base64 letters bytes are same = ap (decode_of standard_no_pad) same ∙ decode_of-encode_of standard_no_pad bytes refl are

-- the symbols of six bits of a table
symbols_hold : (P : ℕ → Type 0) (t : List ℕ) → ((v : ℕ) → v < 64 → P (slice_index t v)) → (m : List ℕ) → IsBytes m
    → ByRecursion P (encode_symbols t m)
unfolding encode_symbols
symbols_hold P t each [] h = tt
symbols_hold P t each (a ∷ []) h = (each (a / 4) (omega (arith, h 0)), (each (a % 4 * 16) (omega arith), tt))
symbols_hold P t each (a ∷ b ∷ []) h =
    let second = each (a % 4 * 16 + b / 16) (omega (arith, h 1)) in
    (each (a / 4) (omega (arith, h 0)), (second, (each (b % 16 * 4) (omega arith), tt)))
symbols_hold P t each (a ∷ b ∷ c ∷ m) h =
    let first = each (a / 4) (omega (arith, h 0)) in
    let second = each (a % 4 * 16 + b / 16) (omega (arith, h 1)) in
    let third = each (b % 16 * 4 + c / 64) (omega (arith, h 2)) in
    (first, (second, (third, (each (c % 64) (omega arith), symbols_hold P t each m (λ i. h (suc (suc (suc i))))))))

-- what each symbol of the table is, every letter of Base64 is
base64_are : (P : ℕ → Type 0) → All P standard_no_pad.encode_table → (bytes : List ℕ) → IsBytes bytes → All P (base64 bytes)
base64_are P each bytes h =
    let table : List ℕ = standard_no_pad.encode_table in
    let symbols = symbols_hold P table (λ v below. All-get_or P table v 0 below each) bytes h in
    rw append-nil (All-from_recursion P (encode_symbols table bytes) symbols)

-- Base64 lacks each byte that is not a letter of values
pub base64_lacks : (c : ℕ) → is_value_letter c ≡ false → (bytes : List ℕ) → IsBytes bytes → Lacks c (base64 bytes)
base64_lacks c other bytes h = base64_are (λ b. (b == c) ≡ false) (letters_lack is_value_letter c other standard_no_pad.encode_table refl) bytes h

-- it has the letters `a-zA-Z0-9+/` alone
pub base64_letters : (bytes : List ℕ) → IsBytes bytes → All (λ byte. IsTrue (is_base64_letter byte)) (base64 bytes)
base64_letters bytes h =
    base64_are (λ byte. IsTrue (is_base64_letter byte)) (AllPass-from_list_all is_base64_letter standard_no_pad.encode_table refl) bytes h
