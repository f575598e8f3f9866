-- What follows from the alphabet and the definitions of crypt Base64.
use Rattle.std.proofs.Common.{◌≡◌, ◌≢◌, sym, ap, refl, arith, ℕ, zero, suc, ◌+◌, ◌-◌, ◌*◌, ◌/◌, ◌%◌, ◌^◌, ◌<◌, ◌≤◌, Option, Some, None, List, [], ◌∷◌, ◌++◌, length}
use Rattle.std.proofs.Common.{◌∙◌, map, true, cond, ◌&&◌, not, nat_le, nat_lt, eqb, get_or}
use Rattle.std.specs.Prelude.{IsSome}
use Rattle.std.proofs.Math.Nat.{pow-suc, pow-le-pow_right}
use Rattle.std.specs.List.{All, range_with_len}
use Rattle.std.proofs.lemmas.Nat.{div_below}
use Rattle.std.proofs.lemmas.List.Elements.{All-nil, All-cons, All-head, All-append, All-same}
use Rattle.std.proofs.lemmas.Bool.{agree_below_at, eqb-true, ltb-true, eqb-false, not-true, and_parts}
use Rattle.std.proofs.lemmas.Bool.Decides.{nat_tests}
use Rattle.std.proofs.lemmas.List.FromFn.{get_or-map-range_with_len}
use Rattle.std.proofs.lemmas.List.Quantifiers.{position-Some}
use Rattle.password_hash.specs.Crypt64.{letter, letter_value, letters_of, with_digit, number_of, crypt64_of, alphabet}

-- the value of a byte by the three ranges of the alphabet
abbrev pub value_by_range : ℕ → Option ℕ
value_by_range byte =
    cond (nat_le 46 byte && nat_le byte 57) (Some (byte - 46))
    (cond (nat_le 65 byte && nat_le byte 90) (Some (byte - 65 + 12))
    (cond (nat_le 97 byte && nat_le byte 122) (Some (byte - 97 + 38)) None))

-- two functions that agree at each number below n are listed alike
agree_at : (f g : ℕ → Option ℕ) (n value : ℕ) → map f (range_with_len 0 n) ≡ map g (range_with_len 0 n) → value < n → f value ≡ g value
agree_at f g n value same below =
    sym (get_or-map-range_with_len f 0 n value value None below (omega arith)) ∙ ap (λ answers. get_or answers value None) same
    ∙ get_or-map-range_with_len g 0 n value value None below (omega arith)

-- the ranges give each byte its value
pub value_of_byte : (byte : ℕ) → byte < 256 → letter_value byte ≡ value_by_range byte
unfolding letter_value
value_of_byte byte below = agree_at letter_value value_by_range 256 byte refl below

-- a value's letter, by arithmetic
pub letter_of_value : (value : ℕ) → value < 64
    → letter value ≡ value + 46 + 7 * ((value + 116) / 128) + 6 * ((value + 90) / 128)
unfolding letter
letter_of_value value below =
    let same = agree_at (λ v. Some (letter v)) (λ v. Some (v + 46 + 7 * ((v + 116) / 128) + 6 * ((v + 90) / 128))) 64 value refl below in
    cc

-- the value of a value's letter
pub letter_value-letter : (value : ℕ) → value < 64 → letter_value (letter value) ≡ Some value
unfolding letter letter_value
letter_value-letter value below = agree_at (λ v. letter_value (letter v)) Some 64 value refl below

-- a letter has a value below 64, and is that value's letter
pub letter-of_value : (byte value : ℕ) → letter_value byte ≡ Some value → (value < 64) × (letter value ≡ byte)
unfolding letter letter_value
letter-of_value byte value h =
    let found = position-Some (λ other. eqb other byte) alphabet value 0 h in
    (found.0, eqb-true (get_or alphabet value 0) byte found.1)

-- a letter is an ASCII byte and no dollar
pub letter-ascii : (value : ℕ) → value < 64 → (letter value < 128) × (letter value ≢ 36)
unfolding letter
letter-ascii value below =
    let parts = and_parts (nat_lt (letter value) 128) (not (eqb (letter value) 36))
    (agree_below_at (λ v. nat_lt (letter v) 128 && not (eqb (letter v) 36)) (λ _. true) 64 value refl below) in
    (ltb-true (letter value) 128 parts.0, eqb-false (letter value) 36 (not-true (eqb (letter value) 36) parts.1))

-- the ranges that a byte is in determine its value
pub ruleset byte_values = (value_of_byte, nat_tests)

-- numbers and their letters

pub length-letters_of : (count number : ℕ) → length (letters_of count number) ≡ count
unfolding letters_of
length-letters_of zero number = refl
length-letters_of (suc count) number = ap suc (length-letters_of count (number / 64))

-- a number that fits is read back from its letters
pub number_of-letters_of : (count number : ℕ) → number < 64 ^ count → number_of (letters_of count number) ≡ Some number
unfolding letters_of number_of
number_of-letters_of zero number below = ap Some (omega arith)
number_of-letters_of (suc count) number below =
    let digit : number % 64 < 64 = omega arith in
    let above : number / 64 < 64 ^ count = div_below number 64 (64 ^ count) (omega arith) (rw (pow-suc 64 count) at below) in
    let whole : number % 64 + 64 * (number / 64) ≡ number = omega arith in
    rw (letter_value-letter (number % 64) digit, number_of-letters_of count (number / 64) above) (ap Some whole)

-- the parts of a number that letters say
with_digit-Some : (value above : Option ℕ) (number : ℕ) → with_digit value above ≡ Some number
    → (low : ℕ) × (high : ℕ) × (value ≡ Some low) × (above ≡ Some high) × (number ≡ low + 64 * high)
with_digit-Some None above number h = absurd (cc)
with_digit-Some (Some low) None number h = absurd (cc)
with_digit-Some (Some low) (Some high) number h = (low, high, refl, refl, cc)

-- letters are those of their number, which fits
pub letters_of-number_of : (letters : List ℕ) (number : ℕ) → number_of letters ≡ Some number
    → (letters_of (length letters) number ≡ letters) × (number < 64 ^ length letters)
unfolding letters_of number_of
letters_of-number_of [] number h = grind arith
letters_of-number_of (first ∷ letters) number h =
    let (low, high, value, above, is) = with_digit-Some (letter_value first) (number_of letters) number h in
    let (below, digit) = letter-of_value first low value in
    let (rest, fits) = letters_of-number_of letters high above in
    let remainder : number % 64 ≡ low = omega arith in
    let quotient : number / 64 ≡ high = omega arith in
    (rw (remainder, quotient, digit, rest) refl, rw (pow-suc 64 (length letters)) (omega arith))

-- a number of at most four letters leaves room for one more digit
pub number_of-fits : (letters : List ℕ) (number : ℕ) → number_of letters ≡ Some number → length letters ≤ 4 → number < 64 ^ 4
number_of-fits letters number read short =
    let grows : 64 ^ length letters ≤ 64 ^ 4 = pow-le-pow_right (omega arith) short in
    omega (arith, (letters_of-number_of letters number read).1)

-- without the digits above there is no number
pub no_number : (value : Option ℕ) → with_digit value None ≡ None
no_number None = refl
no_number (Some value) = refl

-- a letter is taken off the letters that are left
pub next_letter : (pending number pending' number' x : ℕ) (bytes bytes' : List ℕ)
    → letters_of pending number ++ crypt64_of bytes ≡ letters_of pending' number' ++ crypt64_of bytes'
    → 0 < pending' → x ≡ letter (number' % 64)
    → letters_of pending number ++ crypt64_of bytes ≡ x ∷ (letters_of (pending' - 1) (number' / 64) ++ crypt64_of bytes')
unfolding letters_of
next_letter pending number zero number' x bytes bytes' same some is = absurd (omega arith)
next_letter pending number (suc count) number' x bytes bytes' same some is = grind arith

-- what the letter of each value is, every letter is

letters_of-are : (P : ℕ → Type 0) → ((value : ℕ) → value < 64 → P (letter value)) → (count number : ℕ) → All P (letters_of count number)
unfolding letters_of
letters_of-are P each zero number = All-nil P
letters_of-are P each (suc count) number =
    All-cons P (letter (number % 64)) (letters_of count (number / 64)) (each (number % 64) (omega arith))
    (letters_of-are P each count (number / 64))

crypt64_of-are : (P : ℕ → Type 0) → ((value : ℕ) → value < 64 → P (letter value)) → (bytes : List ℕ) → All P (crypt64_of bytes)
unfolding crypt64_of
crypt64_of-are P each [] = All-nil P
crypt64_of-are P each (a ∷ []) = letters_of-are P each 2 a
crypt64_of-are P each (a ∷ b ∷ []) = letters_of-are P each 3 (a + 256 * b)
crypt64_of-are P each (a ∷ b ∷ c ∷ rest) =
    let number = a + 256 * b + 65536 * c in
    All-append P (letters_of 4 number) (crypt64_of rest) (letters_of-are P each 4 number) (crypt64_of-are P each rest)

-- an ASCII byte and no dollar

abbrev pub IsPlain : ℕ → Type 0
IsPlain byte = (byte < 128) × (byte ≢ 36)

pub letters_of-plain : (count number : ℕ) → All IsPlain (letters_of count number)
letters_of-plain count number = letters_of-are IsPlain letter-ascii count number

pub crypt64_of-plain : (bytes : List ℕ) → All IsPlain (crypt64_of bytes)
crypt64_of-plain bytes = crypt64_of-are IsPlain letter-ascii bytes

-- a letter of the alphabet
pub crypt64_letters : (bytes : List ℕ) → All (λ byte. IsSome (letter_value byte)) (crypt64_of bytes)
crypt64_letters bytes =
    crypt64_of-are (λ byte. IsSome (letter_value byte)) (λ value below. rw (letter_value-letter value below) refl) bytes

-- so is the first letter that is left
pub letter-is_plain : (pending number x : ℕ) (bytes left' : List ℕ) → letters_of pending number ++ crypt64_of bytes ≡ x ∷ left' → IsPlain x
letter-is_plain pending number x bytes left' next =
    All-head IsPlain x left' (All-same IsPlain (x ∷ left') _ (sym next) (All-append IsPlain (letters_of pending number)
    (crypt64_of bytes) (letters_of-plain pending number) (crypt64_of-plain bytes)))

-- reading letters, the last one first
pub ruleset numbers = (number_of-fits, no_number, letter-of_value)
