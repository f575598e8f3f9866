-- Numbers in decimal digits, as in the PHC string format.
use Rattle.std.specs.Prelude.{◌≡◌, ℕ, ◌||◌, ◌&&◌, ◌==◌, not, nat_lt, Bool, if◌then◌else◌, List, length, slice_index, Option, Some, None, Result, MatchBool}
use Rattle.std.specs.Result.{result_ok}
use Rattle.std.specs.Str.{all_ascii_digits}
use Rattle.std.specs.Str.Parse.{ExplainsUnsignedError, HasUnsignedDigitsIfOk, ParsesUnsigned, digits_value}
use Rattle.std.specs.declared.num.ParseIntError.{ParseIntError}

-- the text begins with a plus, or with a zero that is not its only digit
unfoldable pub has_plus_or_leading_zero : List ℕ → Bool
has_plus_or_leading_zero text =
    slice_index text 0 == 43 || (slice_index text 0 == 48 && nat_lt 1 (length text))

-- one or more digits, the first not a zero unless it is the only one
abbrev pub is_decimal : List ℕ → Bool
is_decimal text = nat_lt 0 (length text) && all_ascii_digits text && not (has_plus_or_leading_zero text)

-- the value of a decimal text, or `None` if the text is not a decimal below the limit
unfoldable pub decimal_below : ℕ → List ℕ → Option ℕ
decimal_below limit text =
    if is_decimal text && nat_lt (digits_value 10 text) limit then Some (digits_value 10 text)
    else None

-- `answer` is the result of `parse`, as an option, but `None` if the text begins with a plus or a
-- leading zero
abbrev pub DecimalGives : {N E : Type 0} → (List ℕ → Result N E → Type 0) → List ℕ → Option N → Type 0
DecimalGives {N} {E} parse_gives text answer = MatchBool (has_plus_or_leading_zero text) (answer ≡ None)
    ((parsed : Result N E) × parse_gives text parsed × (answer ≡ result_ok parsed))

-- r is the result of `from_str` of an unsigned integer type of k bits
abbrev pub UnsignedGives : ℕ → List ℕ → Result ℕ ParseIntError → Type 0
UnsignedGives k text r =
    ParsesUnsigned k 10 text r × ExplainsUnsignedError 10 text r × HasUnsignedDigitsIfOk text r
