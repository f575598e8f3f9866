-- Bytes and letters by groups: how many there are, what a group encodes, and what letters decode to.
use Rattle.std.proofs.lemmas.Grind.{common_steps}
use Rattle.std.proofs.Common.{◌≡◌, ◌∙◌, sym, ap, refl, arith, ℕ, zero, suc, ◌+◌, ◌-◌, ◌*◌, ◌/◌, ◌%◌, ◌^◌, ◌<◌, ◌≤◌, min, Some, List, [], ◌∷◌, length, None, true}
use Rattle.std.proofs.Common.{◌++◌, take, drop, replicate, append_assoc, length-append, length-drop}
use Rattle.std.specs.Int.{to_le_bytes, from_le_bytes, w32}
use Rattle.std.proofs.lemmas.List.{append-nil, places, take_at, drop_at, take_min, drop_min, take-append-drop, length-take, length-take-le}
use Rattle.std.specs.Str.{bytes_eq}
use Rattle.std.proofs.lemmas.Option.{cond_some}
use Rattle.std.proofs.lemmas.Slice.Eq.{bytes_eq-Decides}
use Rattle.password_hash.specs.Crypt64.{letters_of, number_of, crypt64_of, Crypt64, IsBytes, IsCrypt64, encoded_len, Begins, bytes_of_number, decoded}
use Rattle.password_hash.proofs.Base64Facts.{IsBytes-cons, IsBytes-drop, IsBytes-take}
use Rattle.password_hash.proofs.PhcReadingFacts.{none_exact}
use Rattle.password_hash.proofs.Crypt64Facts.{letter_value-letter, length-letters_of, number_of-letters_of, letters_of-number_of}

-- the number of letters is the one that is stated
pub length-crypt64_of : (bytes : List ℕ) → length (crypt64_of bytes) ≡ encoded_len (length bytes)
unfolding crypt64_of
length-crypt64_of [] = refl
length-crypt64_of (a ∷ []) = length-letters_of 2 a
length-crypt64_of (a ∷ b ∷ []) = length-letters_of 3 (a + 256 * b)
length-crypt64_of (a ∷ b ∷ c ∷ rest) =
    simp (length-append, length-letters_of) (omega (arith, length-crypt64_of rest))

pub ruleset lengths = (length-crypt64_of)

-- whole groups have letters of their own, and so have any bytes with none after them
crypt64_of-append : (front back : List ℕ) → (0 < length back → length front % 3 ≡ 0)
    → crypt64_of (front ++ back) ≡ crypt64_of front ++ crypt64_of back
unfolding crypt64_of
crypt64_of-append [] back whole = refl
crypt64_of-append (a ∷ []) [] whole = sym (append-nil (letters_of 2 a))
crypt64_of-append (a ∷ []) (b ∷ back) whole = absurd (omega (arith, whole (omega arith)))
crypt64_of-append (a ∷ b ∷ []) [] whole = sym (append-nil (letters_of 3 (a + 256 * b)))
crypt64_of-append (a ∷ b ∷ []) (c ∷ back) whole = absurd (omega (arith, whole (omega arith)))
crypt64_of-append (a ∷ b ∷ c ∷ front) back whole =
    let letters = letters_of 4 (a + 256 * b + 65536 * c) in
    ap (λ rest. letters ++ rest) (crypt64_of-append front back (λ some. omega (arith, whole some)))
    ∙ sym (append_assoc letters (crypt64_of front) (crypt64_of back))

-- so the letters are cut where the bytes are
pub crypt64_of-cut : (bytes : List ℕ) (n : ℕ) → n ≤ length bytes → (n < length bytes → n % 3 ≡ 0)
    → (take (encoded_len n) (crypt64_of bytes) ≡ crypt64_of (take n bytes)) × (drop (encoded_len n) (crypt64_of bytes) ≡
    crypt64_of (drop n bytes))
crypt64_of-cut bytes n inside ends =
    let front : length (take n bytes) ≡ n = length-take-le n bytes inside in
    let letters : length (crypt64_of (take n bytes)) ≡ encoded_len n = length-crypt64_of (take n bytes) ∙ ap encoded_len front in
    let whole : 0 < length (drop n bytes) → length (take n bytes) % 3 ≡ 0 = λ some. rw front (ends (omega (arith, length-drop n bytes))) in
    let joined = ap crypt64_of (sym (take-append-drop n bytes)) ∙ crypt64_of-append (take n bytes) (drop n bytes) whole in
    (ap (take (encoded_len n)) joined ∙ take_at _ _ _ letters, ap (drop (encoded_len n)) joined ∙ drop_at _ _ _ letters)

-- a text cut after n bytes, or at its end
pub cut_at : (n at : ℕ) (xs : List ℕ) → at ≡ min (length xs) n → (take at xs ≡ take n xs) × (drop at xs ≡ drop n xs)
cut_at n at xs is = let turned : at ≡ min n (length xs) = omega arith in rw turned (take_min n xs, drop_min n xs)

-- the letters of the first three bytes, or of the last one or two, are those of the number that is read of as many bytes, with
-- zeros after them
pub letters_of_read : (bytes first rest : List ℕ) (number : ℕ) → first ≡ take 3 bytes → rest ≡ drop 3 bytes → 0 < length first
    → number ≡ from_le_bytes w32 (first ++ drop (length first) (replicate 4 0))
    → crypt64_of bytes ≡ letters_of (length first + 1) number ++ crypt64_of rest
unfolding crypt64_of
letters_of_read [] first rest number cut left some read = absurd (omega (arith, ap length cut))
letters_of_read (a ∷ []) first rest number cut left some read = grind (arith, append-nil)
letters_of_read (a ∷ b ∷ []) first rest number cut left some read = grind (arith, append-nil)
letters_of_read (a ∷ b ∷ c ∷ bytes) first rest number cut left some read = grind arith

-- the first group of bytes
pub ruleset first_groups = (cut_at, letters_of_read)

-- bytes as one number, the lowest first
abbrev pub le_number : List ℕ → ℕ
le_number [] = 0
le_number (byte ∷ bytes) = byte + 256 * le_number bytes

-- the letters of a number, and others after them
number_of-front : (number above : ℕ) (rest : List ℕ) → number < 64 ^ 4 → number_of rest ≡ Some above
    → number_of (letters_of 4 number ++ rest) ≡ Some (number + 64 ^ 4 * above)
unfolding letters_of number_of
number_of-front number above rest below is = grind (arith, letter_value-letter)

-- the letters of bytes are those of their number
number_of-crypt64_of : (bytes : List ℕ) → IsBytes bytes → number_of (crypt64_of bytes) ≡ Some (le_number bytes)
unfolding crypt64_of number_of
number_of-crypt64_of [] are = refl
number_of-crypt64_of (a ∷ []) are =
    number_of-letters_of 2 a (omega (arith, are 0)) ∙ ap Some (omega arith)
number_of-crypt64_of (a ∷ b ∷ []) are =
    number_of-letters_of 3 (a + 256 * b) (omega (arith, are 0, are 1)) ∙ ap Some (omega arith)
number_of-crypt64_of (a ∷ b ∷ c ∷ rest) are =
    number_of-front (a + 256 * b + 65536 * c) (le_number rest) (crypt64_of rest)
    (omega (arith, are 0, are 1, are 2))
    (number_of-crypt64_of rest (λ i. are (suc (suc (suc i)))))
    ∙ ap Some (omega arith)

-- the number of one to three bytes fits into as many
le_number-fits : (bytes : List ℕ) → IsBytes bytes → length bytes ≤ 3 → le_number bytes / 2 ^ (8 * length bytes) ≡ 0
le_number-fits [] are most = omega arith
le_number-fits (a ∷ []) are most = omega (arith, are 0)
le_number-fits (a ∷ b ∷ []) are most = omega (arith, are 0, are 1)
le_number-fits (a ∷ b ∷ c ∷ []) are most = omega (arith, are 0, are 1, are 2)
le_number-fits (a ∷ b ∷ c ∷ d ∷ bytes) are most = absurd (omega arith)

-- the letters of a number that fits into one to three bytes are those of its bytes
letters_of_bytes : (len number : ℕ) → 0 < len → len ≤ 3 → number / 2 ^ (8 * len) ≡ 0
    → letters_of (suc len) number ≡ crypt64_of (take len (to_le_bytes w32 number))
unfolding crypt64_of
letters_of_bytes zero number some most fits = absurd (omega arith)
letters_of_bytes (suc zero) number some most fits = ap (letters_of 2) (omega arith)
letters_of_bytes (suc (suc zero)) number some most fits = ap (letters_of 3) (omega arith)
letters_of_bytes (suc (suc (suc zero))) number some most fits = ap (letters_of 4) (omega arith) ∙ sym (append-nil _)
letters_of_bytes (suc (suc (suc (suc len)))) number some most fits = absurd (omega arith)

-- a group of letters that encodes bytes, one fewer than there are letters
pub record IsGroup (group : List ℕ) (number : ℕ) : Type 0 where
  pub some : 2 ≤ length group
  pub read : number_of group ≡ Some number
  pub fits : number / 2 ^ (8 * (length group - 1)) ≡ 0

-- an encoding begins with a group, unless it is empty
first_four : (bytes : List ℕ) → take 4 (crypt64_of bytes) ≡ crypt64_of (take 3 bytes)
unfolding crypt64_of letters_of
first_four [] = refl
first_four (a ∷ []) = refl
first_four (a ∷ b ∷ []) = refl
first_four (a ∷ b ∷ c ∷ rest) = refl

pub no_group : (letters : List ℕ) → ((number : ℕ) → IsGroup (take 4 letters) number → ⊥) → IsCrypt64 letters → letters ≡ []
no_group [] none is = refl
no_group (letter ∷ letters) none (bytes, is) =
    let first : List ℕ = take 3 bytes in
    let group : take 4 (letter ∷ letters) ≡ crypt64_of first = ap (take 4) is.encoding ∙ first_four bytes in
    let most : length first ≤ 3 = omega (arith, length-take 3 bytes) in
    let some : 0 < length first = omega (arith, length-take 3 bytes, ap length is.encoding, length-crypt64_of bytes) in
    let count : length (crypt64_of first) - 1 ≡ length first = omega (arith, length-crypt64_of first) in
    let are : IsBytes first = IsBytes-take 3 bytes is.are_bytes in
    absurd (none (le_number first) (rw group (record {
      some = omega (arith, length-crypt64_of first);
      read = number_of-crypt64_of first are;
      fits = rw count (le_number-fits first are most);
    })))

-- otherwise the letters begin with the encoding of its bytes
pub begins_with_group : (letters : List ℕ) (number : ℕ) → IsGroup (take 4 letters) number
    → Begins letters (take (length (take 4 letters) - 1) (to_le_bytes w32 number)) (drop 4 letters)
begins_with_group letters number is =
    let len : ℕ = length (take 4 letters) - 1 in
    let bytes : List ℕ = to_le_bytes w32 number in
    let count : length (take 4 letters) ≡ suc len = omega (arith, is.some) in
    let as_many : length (take len bytes) ≡ len = length-take-le len bytes (omega (arith, length-take 4 letters)) in
    let group : letters_of (suc len) number ≡ take 4 letters = rw (← count) (letters_of-number_of (take 4 letters) number is.read).0 in
    grind (arith, take-append-drop, letters_of_bytes, length-take, length-drop)

-- letters that are read group by group

pub begins_none : (letters : List ℕ) → Begins letters [] letters
unfolding crypt64_of
begins_none letters = record { are_bytes = λ i. omega arith; whole = refl; groups = λ some. refl }

pub begins_more : (letters bytes rest front after : List ℕ) → Begins letters bytes rest → Begins rest front after
    → Begins letters (bytes ++ front) after
begins_more letters bytes rest front after first second =
    grind (arith, common_steps, places, length-append, length-crypt64_of, crypt64_of-append, append_assoc)

-- where nothing is left, the bytes are those of the letters
pub begins-end : (letters bytes rest : List ℕ) → Begins letters bytes rest → rest ≡ [] → Crypt64 bytes letters
begins-end letters bytes rest begins none = grind (arith, append-nil)

-- what is left of an encoding is one, so it is nothing if no group begins it
pub begins-stuck : (letters bytes rest : List ℕ) → Begins letters bytes rest → (IsCrypt64 rest → rest ≡ [])
    → IsCrypt64 letters → rest ≡ []
begins-stuck letters bytes rest begins stuck (all, is) =
    let n : ℕ = length bytes in
    let left : crypt64_of bytes ++ rest ≡ crypt64_of all = sym begins.whole ∙ is.encoding in
    let counts : encoded_len n + length rest ≡ encoded_len (length all) =
    omega (arith, ap length left, length-append (crypt64_of bytes) rest, length-crypt64_of bytes, length-crypt64_of all) in
    let cut = crypt64_of-cut all n (omega arith) (λ below. begins.groups (omega arith)) in
    stuck (
      drop n all,
      record {
        are_bytes = IsBytes-drop n all is.are_bytes;
        encoding = sym (drop_at (crypt64_of bytes) rest (encoded_len n) (length-crypt64_of bytes)) ∙ ap (drop (encoded_len n)) left ∙ cut.1;
      },
    )

-- bytes are those of their number
bytes_of-le_number : (bytes : List ℕ) → IsBytes bytes → bytes_of_number (length bytes) (le_number bytes) ≡ bytes
unfolding bytes_of_number
bytes_of-le_number [] are = refl
bytes_of-le_number (byte ∷ bytes) are =
    let small : byte < 256 = are 0 in
    let low : (byte + 256 * le_number bytes) % 256 ≡ byte = omega arith in
    let high : (byte + 256 * le_number bytes) / 256 ≡ le_number bytes = omega arith in
    rw (low, high, bytes_of-le_number bytes (λ i. are (suc i))) refl

bytes_of_number-are_bytes : (count number : ℕ) → IsBytes (bytes_of_number count number)
unfolding bytes_of_number
bytes_of_number-are_bytes zero number = λ i. omega arith
bytes_of_number-are_bytes (suc count) number =
    IsBytes-cons (number % 256) _ (omega arith) (bytes_of_number-are_bytes count (number / 256))

-- letters that encode bytes are decoded as these
pub decoded_is : (bytes letters : List ℕ) → Crypt64 bytes letters → decoded letters ≡ Some bytes
unfolding decoded
decoded_is bytes letters is =
    let long : 3 * length letters / 4 ≡ length bytes = omega (arith, ap length is.encoding, length-crypt64_of bytes) in
    let number : number_of letters ≡ Some (le_number bytes) = ap number_of is.encoding ∙ number_of-crypt64_of bytes is.are_bytes in
    let same : bytes_eq letters (crypt64_of bytes) ≡ true = (bytes_eq-Decides letters (crypt64_of bytes)).1 is.encoding in
    rw (long, number, bytes_of-le_number bytes is.are_bytes, same) refl

-- and what they are decoded as they encode
pub encoded_is : (bytes letters : List ℕ) → decoded letters ≡ Some bytes → Crypt64 bytes letters
unfolding decoded
encoded_is bytes letters is = grind (arith, cond_some, bytes_of_number-are_bytes, bytes_eq-Decides)

-- others are not decoded
pub not_decoded : (letters : List ℕ) → ¬ IsCrypt64 letters → decoded letters ≡ None
not_decoded letters none = none_exact (λ bytes. Crypt64 bytes letters) (decoded letters)
    (λ bytes. (encoded_is bytes letters, decoded_is bytes letters)) (λ bytes is. none (bytes, is))

-- one text is the encoding of one list of bytes
pub Crypt64-one : (letters xs ys : List ℕ) → Crypt64 xs letters → Crypt64 ys letters → xs ≡ ys
Crypt64-one letters xs ys is is' = let both = sym (decoded_is xs letters is) ∙ decoded_is ys letters is' in cc
