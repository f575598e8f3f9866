-- The rows that a table keeps, and the walk over them.
use Rattle.std.specs.Prelude.{◌≡◌, ℕ, ◌+◌, ◌-◌, ◌*◌, ◌/◌, ◌%◌, ◌^◌, ◌<◌, ◌≤◌, Bool, List, length, take}
use Rattle.scrypt_kernel.specs.declared.cores.count.CoreCount.{CoreCount}
use Rattle.scrypt_kernel.specs.Words.{part, xor_words}
use Rattle.scrypt_kernel.specs.Count.{AreCountedAs}
use Rattle.scrypt_kernel.specs.BlockMix.{block_mix}
use Rattle.scrypt_kernel.specs.RoMix.{integerify, row, walk}
use Rattle.scrypt_kernel.specs.Diagonal.{AfterTurns, permuted}
use Rattle.scrypt_kernel.specs.Table.{extra_rows}

-- len is the length of a row in words: 32 * r with r at least 1
pub record IsRowLen (len : ℕ) : Type 0 where
  pub some : 0 < len
  pub whole : len % 32 ≡ 0

-- the row that is i rows after x, in the order p, whose inverse is q
abbrev pub mixed_in : List ℕ → List ℕ → ℕ → List ℕ → List ℕ
mixed_in p q i x = permuted p (row (permuted q x) i)

-- A row of a table has part_len words for each of n chunks, one after another. So the table is cut
-- into parts of part_len words, and row m of chunk k is the part of this number.
abbrev pub place : ℕ → ℕ → ℕ → ℕ
place n m k = m * n + k

-- after rows 0 to m comes a row each of whose n parts is f of the same part of row m
pub record AddsRow (f : List ℕ → List ℕ) (n part_len m : ℕ) (before after : List ℕ) : Type 0 where
  pub len : (m + 2) * (n * part_len) ≤ length after
  pub kept : (i : ℕ) → i < (m + 1) * n → part part_len after i ≡ part part_len before i
  pub added : (k : ℕ) → k < n → part part_len after (place n (m + 1) k) ≡ f (part part_len before (place n m k))

-- after rows 0 to m of `before`, kept, comes a row that is begun: the block mix of row m of chunk k,
-- whose X is now x k, after i double steps
pub record AfterRowTurns (p q : List ℕ) (n part_len m i : ℕ) (x : ℕ → List ℕ) (before after : List ℕ) : Type 0 where
  pub kept : take ((m + 1) * (n * part_len)) after ≡ take ((m + 1) * (n * part_len)) before
  pub mixed : (k : ℕ) → k < n → AfterTurns p q (part part_len before (place n m k)) i (x k) (part part_len after (place n (m + 1) k))

-- of the rows 0 to rows - 1 of chunk k of n, for its input b, the table keeps each row whose number
-- is a multiple of 2 ^ spacing
pub record KeepsRows (p b : List ℕ) (n k part_len spacing rows : ℕ) (kept : List ℕ) : Type 0 where
  pub each : (m : ℕ) → m * 2 ^ spacing < rows → part part_len kept (place n m k) ≡ permuted p (row b (m * 2 ^ spacing))

-- kept holds the rows that a table keeps for the parts of x, which are in the order p, and last is
-- the row after all rows
pub record IsFilled (p q : List ℕ) (n part_len log_n spacing : ℕ) (x kept last : List ℕ) : Type 0 where
  pub len : 2 ^ (log_n - spacing) * (n * part_len) ≤ length kept
  pub rows : (k : ℕ) → k < n → KeepsRows p (permuted q (part part_len x k)) n k part_len spacing (2 ^ log_n) kept
  pub after : (k : ℕ) → k < n → part part_len last k ≡ mixed_in p q (2 ^ log_n) (part part_len x k)

-- part k of x is X after i steps of the walk for the input b, and kept holds the rows of b that the
-- table keeps
pub record IsInWalk (p b : List ℕ) (n k part_len log_n spacing i : ℕ) (kept x : List ℕ) : Type 0 where
  pub rows : KeepsRows p b n k part_len spacing (2 ^ log_n) kept
  pub walked : part part_len x k ≡ permuted p (walk b log_n i)

-- the lengths in a walk: X has x_len words, part_len for each of n chunks, each row whose number is
-- a multiple of 2 ^ spacing is kept, the next X has next_len words, a row that is recomputed
-- spare_len, and the kept rows kept_len. Rows are recomputed only if there is one chunk.
pub record AreWalkLens (n part_len log_n spacing x_len next_len spare_len kept_len : ℕ) : Type 0 where
  pub some : 0 < n
  pub row : IsRowLen part_len
  pub small : log_n ≤ 56
  pub most : spacing ≤ log_n
  pub chunks : x_len ≡ n * part_len
  pub scratch : next_len ≡ x_len
  pub alone : 0 < spacing → n ≡ 1
  pub room : 0 < spacing → part_len ≤ spare_len
  pub rows : 2 ^ (log_n - spacing) * (n * part_len) ≤ kept_len

-- the block mix of the exclusive or of x and y, which are in the order p
abbrev pub mix_of : List ℕ → List ℕ → List ℕ → List ℕ → List ℕ
mix_of p q x y = permuted p (block_mix (permuted q (xor_words x y)))

-- the next X after x, the X of chunk k of n: row j is recomputed from the kept row below it
abbrev pub x_after : List ℕ → List ℕ → ℕ → ℕ → ℕ → ℕ → ℕ → List ℕ → List ℕ → List ℕ
x_after p q n k part_len log_n spacing kept x =
    let j = integerify (permuted q x) % 2 ^ log_n in
    mix_of p q x (mixed_in p q (j % 2 ^ spacing) (part part_len kept (place n (j / 2 ^ spacing) k)))

-- the cores of i steps of the walk for the input b of the first chunk, and of the rows that were
-- recomputed
abbrev pub steps_cost : List ℕ → ℕ → ℕ → ℕ → ℕ → ℕ → ℕ
steps_cost b n part_len log_n spacing i = (i + extra_rows b log_n spacing i) * (n * (2 * (part_len / 32)))

-- After `count` steps of the walk X is `to`, where it was `from`. The cores are those of the steps
-- and of the rows that were recomputed, which at spacing 0 are none.
pub record AfterSteps (p : List ℕ) (n part_len log_n spacing : ℕ) (diagonal : Bool) (kept : List ℕ) (count : ℕ)
    (from : List ℕ) (before : CoreCount) (to : List ℕ) (after : CoreCount) : Type 0 where
  pub walked : (k : ℕ) → k < n → (b : List ℕ) → (i : ℕ) → IsInWalk p b n k part_len log_n spacing i kept from
      → IsInWalk p b n k part_len log_n spacing (i + count) kept to
  pub counted : (b : List ℕ) → (i : ℕ) → (begin : CoreCount) → IsInWalk p b n 0 part_len log_n spacing i kept from
      → AreCountedAs diagonal (steps_cost b n part_len log_n spacing i) begin before
      → AreCountedAs diagonal (steps_cost b n part_len log_n spacing (i + count)) begin after
  pub whole : spacing ≡ 0 → AreCountedAs diagonal (count * (n * (2 * (part_len / 32)))) before after
