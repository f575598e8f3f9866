-- Blocks, side by side in four vectors, with four lanes of each block.
-- `lanes v k` are the lanes of block k in a vector v.
use Rattle.std.specs.Prelude.{◌≡◌, ℕ, ◌-◌, List, ◌++◌, if◌then◌else◌, nat_lt, length, map, take, drop, slice_index, bit_xor}
use Rattle.std.specs.Int.{w32, rotate_left}
use Rattle.std.specs.List.{range_with_len}
use Rattle.std.specs.Simd.Lanes.{zip2}
use Rattle.scrypt_kernel.specs.Words.{part}
use Rattle.scrypt_kernel.specs.Salsa.{quarter_round}
use Rattle.scrypt_kernel.specs.declared.cores.simd.FourVectors.{FourVectors}

-- a block as the lanes of four vectors
abbrev pub lanes_of : List ℕ → List ℕ × List ℕ × List ℕ × List ℕ
lanes_of x = (part 4 x 0, part 4 x 1, part 4 x 2, part 4 x 3)

-- the lanes of block k in four vectors, where `lanes` gives the lanes in one vector
abbrev pub at : {V : Type 0} → (V → ℕ → List ℕ) → V × V × V × V → ℕ → List ℕ × List ℕ × List ℕ × List ℕ
at lanes x k = (lanes x.0 k, lanes x.1 k, lanes x.2 k, lanes x.3 k)

-- four lanes of each vector
pub record AreFourEach (x : List ℕ × List ℕ × List ℕ × List ℕ) : Type 0 where
  pub a : length x.0 ≡ 4
  pub b : length x.1 ≡ 4
  pub c : length x.2 ≡ 4
  pub d : length x.3 ≡ 4

-- the exclusive or of the words of x with the words of y, rotated to the left by k bits
abbrev pub xor_rotated : ℕ → List ℕ → List ℕ → List ℕ
xor_rotated k x y = zip2 (λ a b. bit_xor a (rotate_left w32 b k)) x y

-- the quarter rounds of four columns, whose words are the lanes of the vectors a, b, c and d
abbrev pub quarter_rounds : List ℕ → List ℕ → List ℕ → List ℕ → List ℕ × List ℕ × List ℕ × List ℕ
quarter_rounds a b c d =
    let column = λ (j : ℕ).
    quarter_round (slice_index a j) (slice_index b j) (slice_index c j) (slice_index d j) in
    let lanes = range_with_len 0 4 in (
      map (λ j. (column j).0) lanes,
      map (λ j. (column j).1) lanes,
      map (λ j. (column j).2) lanes,
      map (λ j. (column j).3) lanes,
    )

-- a vector rotated to the left by k lanes
abbrev pub turned_left : ℕ → List ℕ → List ℕ
turned_left k x = drop k x ++ take k x

-- the vectors of the rows from the vectors of the columns, or the reverse: d, c and b are rotated
-- to the left by one, two and three lanes, and d and b are exchanged
abbrev pub turned : List ℕ × List ℕ × List ℕ × List ℕ → List ℕ × List ℕ × List ℕ × List ℕ
turned (a, b, c, d) = (a, turned_left 1 d, turned_left 2 c, turned_left 3 b)

-- block k of the blocks of two vectors; the first vector has n blocks
abbrev pub of_both : ℕ → (ℕ → List ℕ) → (ℕ → List ℕ) → ℕ → List ℕ
of_both n x y k = if nat_lt k n then x k else y (k - n)

-- block k of several in four vectors
abbrev pub block_of : {V : Type 0} → (V → ℕ → List ℕ) → FourVectors V → ℕ → List ℕ
block_of lanes x k = lanes x.a k ++ lanes x.b k ++ lanes x.c k ++ lanes x.d k

-- block k has four lanes in each of the vectors
abbrev pub AreWhole : {V : Type 0} → (V → ℕ → List ℕ) → FourVectors V → ℕ → Type 0
AreWhole lanes x k = AreFourEach (lanes x.a k, lanes x.b k, lanes x.c k, lanes x.d k)
