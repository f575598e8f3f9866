-- The Salsa20/8 core (RFC 7914, section 3) on a block.
use Rattle.std.specs.Prelude.{ℕ, List, bit_xor, slice_index, slice_set}
use Rattle.std.specs.Int.{w32, rotate_left}
use Rattle.scrypt_kernel.specs.Words.{add32, add_words}

-- a quarter round: b ^= R (a + d, 7), c ^= R (b + a, 9), d ^= R (c + b, 13), a ^= R (d + c, 18)
unfoldable pub quarter_round : ℕ → ℕ → ℕ → ℕ → ℕ × ℕ × ℕ × ℕ
quarter_round a b c d =
    let b' = bit_xor b (rotate_left w32 (add32 a d) 7) in
    let c' = bit_xor c (rotate_left w32 (add32 b' a) 9) in
    let d' = bit_xor d (rotate_left w32 (add32 c' b') 13) in
    let a' = bit_xor a (rotate_left w32 (add32 d' c') 18) in
    (a', b', c', d')

-- x after a quarter round of the words at indices a, b, c and d
abbrev pub quarter_round_at : ℕ → ℕ → ℕ → ℕ → List ℕ → List ℕ
quarter_round_at a b c d x =
    let q = quarter_round (slice_index x a) (slice_index x b) (slice_index x c) (slice_index x d) in
    slice_set (slice_set (slice_set (slice_set x b q.1) c q.2) d q.3) a q.0

-- a double round: the quarter rounds of the four columns, and then of the four rows
unfoldable pub double_round : List ℕ → List ℕ
double_round x =
    let x1 = quarter_round_at 0 4 8 12 x in
    let x2 = quarter_round_at 5 9 13 1 x1 in
    let x3 = quarter_round_at 10 14 2 6 x2 in
    let x4 = quarter_round_at 15 3 7 11 x3 in
    let x5 = quarter_round_at 0 1 2 3 x4 in
    let x6 = quarter_round_at 5 6 7 4 x5 in
    let x7 = quarter_round_at 10 11 8 9 x6 in
    quarter_round_at 15 12 13 14 x7

-- Salsa20/8: the input, and the input after four double rounds, added word by word
unfoldable pub salsa20_8 : List ℕ → List ℕ
salsa20_8 x = add_words x (double_round (double_round (double_round (double_round x))))
