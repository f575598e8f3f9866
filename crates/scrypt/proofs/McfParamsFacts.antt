use Rattle.std.proofs.Common.{◌≡◌, ℕ, ◌-◌, ◌%◌, ◌^◌, ◌<◌, ◌≤◌, List, [], ◌∷◌, ◌++◌, length, take, drop, Some, None, unwrap_or, refl, rules, ap, arith, inl, inr, append_assoc, length-append, length-drop, slice_get, All, Err, IfErr, IsSome, Ok, Option, Result, nat_lt, ok_or, slice_index, IsTrue, append-nil, take_all, take-append-drop, length-take-le, drop-drop}
use Rattle.std.proofs.Math.Seq.{take-append_seam}
use Rattle.std.proofs.lemmas.Bool.{le-ltb, cases_lt, lt-ltb}
use Rattle.std.proofs.lemmas.List.Elements.{All-head, All-tail}
use Rattle.scrypt.specs.Terms.{◌and_then◌, EncodingInvalid, Parameters, Refusal, are_accepted, checked, field_params}
use Rattle.scrypt.specs.Terms.{five_letter_number, letter_value, letters_of, number_of, params_letters, with_digit}
use Rattle.password_hash.proofs.Crypt64Facts.{length-letters_of, letters_of-number_of, number_of-letters_of, letter-of_value}
use Rattle.scrypt.proofs.AcceptedFacts.{checked_ok, ok_if, small_params}
use Rattle.scrypt.proofs.ReadingFacts.{IsFault, faults}

-- where there are five letters, they say the number
five_letter_number-some : (text : List ℕ) → 5 ≤ length text → five_letter_number text ≡ number_of (take 5 text)
five_letter_number-some text some = rw (le-ltb (length text) 5 some) refl

-- the five letters of a number are those of what is left of it modulo 2^30
letters_of-modulo : (number : ℕ) → letters_of 5 number ≡ letters_of 5 (number % 2 ^ 30)
unfolding letters_of
letters_of-modulo number = grind arith

-- the number modulo 2^30 is read back from a text that begins with its five letters
pub five_letter_number_letters_of : (number : ℕ) (rest : List ℕ) → five_letter_number (letters_of 5 number ++ rest) ≡ Some (number % 2 ^ 30)
five_letter_number_letters_of number rest =
    grind (
      arith,
      length-letters_of 5 number,
      length-append (letters_of 5 number) rest,
      take-append_seam (letters_of 5 number) rest,
      five_letter_number-some,
      letters_of-modulo number,
      number_of-letters_of 5 (number % 2 ^ 30) (omega arith),
    )

-- a text from one place to its end
pub to_the_end : (bytes text : List ℕ) (place : ℕ) → bytes ≡ text → take (length bytes - place) (drop place bytes) ≡ drop place text
to_the_end bytes text place same = grind (arith, take_all, length-drop)

-- a field without bytes encodes no parameters
pub empty_says_none : (field : List ℕ) → slice_get field 0 ≡ None → field_params field ≡ Err EncodingInvalid
unfolding field_params
empty_says_none [] none = refl
empty_says_none (first ∷ field) none = absurd (cc)

-- the parameters of these numbers, if they are there
abbrev pub of_numbers : ℕ → Option ℕ → Option ℕ → Result Parameters Refusal
of_numbers log_n r p = ok_or r EncodingInvalid and_then λ r. ok_or p EncodingInvalid and_then λ p. checked log_n r p

-- what a field is read as, by the numbers in it
pub field_says : (field : List ℕ) (first log_n : ℕ) (r p : Option ℕ) → slice_index field 0 ≡ first → first < 128
    → unwrap_or (letter_value first) 255 ≡ log_n
    → five_letter_number (drop 1 field) ≡ r → five_letter_number (drop 6 field) ≡ p → field_params field ≡ of_numbers log_n r p
unfolding field_params
field_says field first log_n r p is ascii log_n_is r_is p_is = rw (is, lt-ltb first 128 ascii, log_n_is, r_is, p_is) refl

pub field_fault : (field : List ℕ) → IfErr (field_params field) IsFault
unfolding field_params
field_fault field = search (rules, faults)

-- numbers below 2^30 are read back from their five letters alone
pub five_letters_read_back : (number : ℕ) → number < 2 ^ 30 → five_letter_number (letters_of 5 number) ≡ Some number
five_letters_read_back number below = grind (arith, append-nil (letters_of 5 number), five_letter_number_letters_of number [])

-- five letters are those of the number that they say
pub five_letters_written_back : (letters : List ℕ) (number : ℕ) → length letters ≡ 5 → five_letter_number letters ≡ Some number
    → (letters_of 5 number ≡ letters) × (number < 2 ^ 30)
five_letters_written_back letters number five says =
    let read : number_of letters ≡ Some number = grind (arith, take_all 5 letters (omega arith), five_letter_number-some letters (omega arith)) in
    let both = letters_of-number_of letters number read in
    rw five at both

-- letters say a number
number_said : (letters : List ℕ) → All (λ byte. IsSome (letter_value byte)) letters → IsSome (number_of letters)
unfolding number_of
number_said [] each = refl
number_said (first ∷ letters) each =
    both (letter_value first) (number_of letters)
    (All-head (λ byte. IsSome (letter_value byte)) first letters each)
    (number_said letters (All-tail (λ byte. IsSome (letter_value byte)) first letters each))
  where
    both : (value above : Option ℕ) → IsSome value → IsSome above → IsSome (with_digit value above)
    both None above h k = h
    both (Some value) None h k = k
    both (Some value) (Some above) h k = refl

pub five_letters_said : (letters : List ℕ) → length letters ≡ 5 → All (λ byte. IsSome (letter_value byte)) letters
    → IsSome (five_letter_number letters)
five_letters_said letters five each = grind (arith, five_letter_number-some, take_all, number_said)

-- a text that says a number begins with its five letters
five_in_front : (text : List ℕ) (number : ℕ) → five_letter_number text ≡ Some number → text ≡ letters_of 5 number ++ drop 5 text
five_in_front text number says = elim (cases_lt (length text) 5) [
  | inl short ↦ let none : None ≡ Some number = rw (lt-ltb (length text) 5 short) at says in cc
  | inr some ↦ grind (arith, five_letter_number-some text some, length-take-le 5 text some, letters_of-number_of, take-append-drop 5 text)
]

-- what says a number that is not 255 is a letter
letter_said : (value : Option ℕ) (number : ℕ) → unwrap_or value 255 ≡ number → number ≤ 56 → value ≡ Some number
letter_said None number says small = absurd (omega arith)
letter_said (Some value) number says small = ap Some says

-- the numbers that parameters were made of
made_of : (log_n : ℕ) (r p : Option ℕ) (c : Parameters) → of_numbers log_n r p ≡ Ok c
    → IsTrue (are_accepted c.log_n c.r c.p) × (log_n ≡ c.log_n) × (r ≡ Some c.r) × (p ≡ Some c.p) × (c.output_len ≡ None)
made_of log_n None p c is = absurd cc
made_of log_n (Some r) None c is = absurd cc
made_of log_n (Some r) (Some p) c is = grind (arith, checked_ok)

-- what a field encodes are accepted parameters without a length
pub field_accepted : (field : List ℕ) (c : Parameters) → field_params field ≡ Ok c → IsTrue (are_accepted c.log_n c.r c.p) × (c.output_len ≡ None)
unfolding field_params
field_accepted field c says = grind (arith, made_of _ _ _ c (ok_if (nat_lt (slice_index field 0) 128) _ EncodingInvalid says).1)

-- a field that encodes accepted parameters begins with their letters
pub field_is : (field : List ℕ) (c : Parameters) → field_params field ≡ Ok c → field ≡ params_letters c.log_n c.r c.p ++ drop 11 field
unfolding field_params
field_is [] c says = absurd cc
field_is (first ∷ rest) c says =
    grind (
      arith,
      made_of _ _ _ c (ok_if (nat_lt first 128) _ EncodingInvalid says).1,
      small_params,
      letter-of_value,
      letter_said,
      five_in_front,
      drop-drop 5 5 rest,
      append_assoc (letters_of 5 c.r) (letters_of 5 c.p) (drop 10 rest),
    )

pub ruleset reading_field = (empty_says_none, field_says, to_the_end)
