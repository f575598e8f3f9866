-- Decimal digits.
use Rattle.std.proofs.Common.{◌≡◌, ◌≢◌, ◌↔◌, ◌&&◌, ℕ, ◌^◌, ◌<◌, ◌≤◌, true, false, nat_lt, List, length, get_or, slice_index}
use Rattle.std.proofs.Common.{Option, None, Some, Result, Ok, Err, sym, ap, ◌∙◌, arith, inl, inr}
use Rattle.std.specs.Prelude.{decimal}
use Rattle.std.specs.Result.{OkIff, result_ok}
use Rattle.std.specs.Str.{all_ascii_digits}
use Rattle.std.specs.Str.Parse.{AllDigits, digits_value}
use Rattle.std.proofs.lemmas.Bool.{cases_Bool}
use Rattle.std.proofs.lemmas.Fmt.{decimal_digit, decimal_is_IsNumeral, first_decimal, decimal-digits_value}
use Rattle.std.proofs.lemmas.Str.Parse.{IsNumeralModel, numerals_by_value, parse_plain, tells_digits, tells_all_ascii_digits, digit_at, not_in_digits}
use Rattle.std.proofs.lemmas.List.Elements.{All-from_get_or}
use Rattle.std.proofs.lemmas.List.Sums.{list_all-from_AllPass}
use Rattle.std.proofs.lemmas.Bool.Decides.{nat_tests}
use Rattle.std.proofs.lemmas.Option.{cond_some}
use Rattle.password_hash.specs.Letters.{is_value, is_value_letter}
use Rattle.password_hash.specs.Decimal.{DecimalGives, UnsignedGives, decimal_below, has_plus_or_leading_zero, is_decimal}

digits : IsNumeralModel (AllDigits 10) (digits_value 10)
digits = numerals_by_value (AllDigits 10) tells_digits

-- what is printed of a number does not begin with a zero, unless the number is one
leads : (n : ℕ) → n < 2 ^ 32 → slice_index (decimal n) 0 ≡ 48 → length (decimal n) ≡ 1
leads n small zero = grind (arith, first_decimal, decimal_digit)

-- a number in decimal digits is a value
pub is_value-decimal : (n : ℕ) → n < 2 ^ 32 → is_value (decimal n) ≡ true
is_value-decimal n small =
    let (some, digits) = (decimal_is_IsNumeral n (omega arith)).0 in
    let letter = λ (i : ℕ) (below : i < length (decimal n)). let range = digit_at (decimal n) i digits below in
    is_value_letter_digit (get_or (decimal n) i 0) (omega (arith, range)) (omega (arith, range)) in
    let letters = list_all-from_AllPass is_value_letter (decimal n) (All-from_get_or (λ b. is_value_letter b ≡ true) (decimal n) 0 letter) in
    grind (arith, nat_tests)
  where
    is_value_letter_digit : (digit : ℕ) → 48 ≤ digit → digit ≤ 57 → is_value_letter digit ≡ true
    is_value_letter_digit digit low high = grind (arith, nat_tests)

-- a text that begins with a plus or a leading zero is not a decimal
none_after_plus_or_zero : (limit : ℕ) (text : List ℕ) → has_plus_or_leading_zero text ≡ true → decimal_below limit text ≡ None
unfolding decimal_below
none_after_plus_or_zero limit text h = grind (arith, nat_tests)

-- without them, a plus does not come first
no_plus : (text : List ℕ) → has_plus_or_leading_zero text ≡ false → get_or text 0 0 ≢ 43
unfolding has_plus_or_leading_zero
no_plus text h = grind (arith, nat_tests)

-- what `parse` reads of such a text
plain_gives : {E : Type 0} → (limit : ℕ) (text : List ℕ) (r : Result ℕ E) → has_plus_or_leading_zero text ≡ false
    → OkIff r ((all_ascii_digits text ≡ true) × (0 < length text) × (digits_value 10 text < limit)) (digits_value 10 text)
    → result_ok r ≡ decimal_below limit text
unfolding decimal_below
plain_gives limit text (Ok x) h g = grind (arith, nat_tests)
plain_gives limit text (Err e) h g = grind (arith, nat_tests)

-- so a decimal of an unsigned type of k bits is a decimal below 2 ^ k
pub decimal_gives : (k : ℕ) (text : List ℕ) (answer : Option ℕ)
    → DecimalGives (UnsignedGives k) text answer → answer ≡ decimal_below (2 ^ k) text
decimal_gives k text answer given = elim (cases_Bool (has_plus_or_leading_zero text)) [
  | inl begins ↦ grind (arith, none_after_plus_or_zero)
  | inr plain ↦
      let read = rw plain at given in
      read.2 ∙ plain_gives (2 ^ k) text read.0 plain
      (parse_plain (numerals_by_value _ tells_all_ascii_digits) k text read.0 read.1.0 (no_plus text plain))
]

-- the decimal texts of numbers below 2 ^ 32 are what is printed of these
pub decimal_exact : (text : List ℕ) (n : ℕ) → (decimal_below (2 ^ 32) text ≡ Some n) ↔ ((n < 2 ^ 32) × (text ≡ decimal n))
unfolding decimal_below has_plus_or_leading_zero
decimal_exact text n = (
  λ is.
      let (passes, value) = cond_some (is_decimal text && nat_lt (digits_value 10 text) (2 ^ 32)) (digits_value 10 text) n is in
      let are = (numerals_by_value _ tells_all_ascii_digits).to text (grind (arith, nat_tests)) in
      let again : decimal (digits_value 10 text) ≡ text =
      decimal-digits_value digits text are (grind (arith, nat_tests)) (λ zero. grind (arith, nat_tests)) (grind (arith, nat_tests)) in
      (grind (arith, nat_tests), sym again ∙ ap decimal value),
  λ is. rw is.1 (printed is.0),
)
  where
    printed : n < 2 ^ 32 → decimal_below (2 ^ 32) (decimal n) ≡ Some n
    printed small =
        let ((some, are), value) = decimal_is_IsNumeral n (omega arith) in
        let ascii : all_ascii_digits (decimal n) ≡ true = (numerals_by_value _ tells_all_ascii_digits).from (decimal n) are in
        let zero = leads n small in
        let plus : slice_index (decimal n) 0 ≢ 43 = not_in_digits digits (decimal n) 43 are (λ range. omega arith) 0 some in
        grind (arith, nat_tests)
