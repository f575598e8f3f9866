-- Facts on scryptROMix.
use Rattle.std.proofs.Common.{◌≡◌, Bool, ℕ, zero, suc, ◌<◌, ◌+◌, ◌*◌, ◌/◌, ◌%◌, ◌^◌, List, ◌++◌, length, bit_xor, refl, ◌≤◌, take, inl, inr}
use Rattle.std.proofs.Common.{sym, ap, ◌∙◌, arith, add-one, add-zero, length-append}
use Rattle.std.proofs.lemmas.Simd.{length-zip2}
use Rattle.scrypt_kernel.specs.{AddsRow, AfterRowTurns, AreCountedAs, AreInverse, block_mix, integerify, mixed_in, part}
use Rattle.scrypt_kernel.specs.{permuted, place, ro_mix, row, walk, xor_words}
use Rattle.scrypt_kernel.specs.declared.cores.count.CoreCount.{CoreCount}
use Rattle.scrypt_kernel.proofs.BlockMixFacts.{length-block_mix}
use Rattle.scrypt_kernel.proofs.OrderFacts.{length-permuted, out_then_in, standard_of, zip_out}
use Rattle.scrypt_kernel.proofs.CountFacts.{counted_both, counted_none}
use Rattle.scrypt_kernel.proofs.PartFacts.{length-part, part-take, part_after, part_append_front, part_inside, part_longer, parts_apart, take_longer}
use Rattle.std.proofs.lemmas.Bool.{cases_lt}
use Rattle.std.proofs.lemmas.List.{drop-drop, length-take, length-take-le}
use Rattle.std.proofs.Math.Nat.{mul-le-mul_right}

-- the rows after a row are rows
row_after : (b : List ℕ) (i k : ℕ) → row (row b i) k ≡ row b (i + k)
unfolding row
row_after b i zero = ap (row b) (sym (add-zero i))
row_after b i (suc k) =
    let there : suc (i + k) ≡ i + suc k = omega arith in
    ap block_mix (row_after b i k) ∙ ap (row b) there

-- scryptROMix keeps the length of its input
module _ (b : List ℕ) (some : 0 < length b) (whole : length b % 32 ≡ 0) where
  length-row : (i : ℕ) → length (row b i) ≡ length b
  unfolding row
  length-row zero = refl
  length-row (suc i) = let before = length-row i in length-block_mix (row b i) (omega arith) (omega arith) ∙ before

  length-walk : (log_n k : ℕ) → length (walk b log_n k) ≡ length b
  unfolding walk
  length-walk log_n zero = length-row _
  length-walk log_n (suc k) =
      let x = walk b log_n k in
      let before : length x ≡ length b = length-walk log_n k in
      let taken : List ℕ = row b _ in
      let joined : length (xor_words x taken) ≡ length b = length-zip2 bit_xor x taken (before ∙ sym (length-row _)) ∙ before in
      length-block_mix (xor_words x taken) (omega arith) (omega arith) ∙ joined

  pub length-ro_mix : (log_n : ℕ) → length (ro_mix b log_n) ≡ length b
  unfolding ro_mix
  length-ro_mix log_n = length-walk log_n _

pub length-mixed_in : (p q x : List ℕ) (i : ℕ) → 0 < length x → length x % 32 ≡ 0 → length (mixed_in p q i x) ≡ length x
length-mixed_in p q x i some whole = grind (arith, length-permuted, length-row)

-- rows of n chunks whose parts are those of x, one row in t, each with s words of each chunk
pub record HoldsRows (p q : List ℕ) (n s t rows : ℕ) (x v : List ℕ) : Type 0 where
  pub len : rows * (n * s) ≤ length v
  pub each : (m k : ℕ) → m < rows → k < n → part s v (place n m k) ≡ mixed_in p q (m * t) (part s x k)

-- after i block mixes of each part of kept: x is what they made, and the cores are counted
pub record AfterMixes (p q : List ℕ) (n s : ℕ) (diagonal : Bool) (before : CoreCount) (i : ℕ) (kept x : List ℕ) (after : CoreCount) : Type 0 where
  pub value : (k : ℕ) → k < n → part s x k ≡ mixed_in p q i (part s kept k)
  pub counted : AreCountedAs diagonal (i * (n * (2 * (s / 32)))) before after

-- a block mix is the row after one
pub one_mix : (p q x : List ℕ) → permuted p (block_mix (permuted q x)) ≡ mixed_in p q 1 x
unfolding row
one_mix p q x = refl

-- part k of row m of n chunks is inside, of so many rows
pub place_inside : (n s m rows k : ℕ) → k < n → m < rows → place n m k * s + s ≤ rows * (n * s)
place_inside n s m rows k below inside = grind (arith, parts_apart, mul-le-mul_right)

-- part k of row m
pub part_of_row : (n s m k : ℕ) (v : List ℕ) → k < n → part s (part (n * s) v m) k ≡ part s v (place n m k)
part_of_row n s m k v below = grind (arith, part-take, parts_apart, drop-drop)

pub length-part_of_row : (n s k : ℕ) (x : List ℕ) → k < n → length x ≡ n * s → length (part s x k) ≡ s
length-part_of_row n s k x below long = length-part s k x (part_inside s k n (length x) below (omega arith))

-- a row that is written after row m
pub adds_row : {f : List ℕ → List ℕ} {n s m a : ℕ} {before after : List ℕ} (added : List ℕ)
    → a ≡ (m + 1) * (n * s) → a ≤ length before → length added ≡ n * s → take (a + length added) after ≡ take a before ++ added
    → ((k : ℕ) → k < n → part s added k ≡ f (part s (part (n * s) before m) k)) → AddsRow f n s m before after
adds_row {f} {n} {s} {m} {a} {before} {after} added at room long is each =
    let front = length-take-le a before room in
    let end = ap length is ∙ length-append (take a before) added in
    record {
      len = omega (arith, at, long, front, end, length-take (a + length added) after);
      kept = λ i h.
          let inside : i * s + s ≤ a = omega (arith, parts_apart s i ((m + 1) * n) h, at) in
          sym (part-take s i (a + length added) after (omega (arith, inside))) ∙ ap (λ z. part s z i) is
          ∙ part_append_front s i (take a before) added (omega (arith, inside, front))
          ∙ part-take s i a before inside;
      added = λ k h.
          let there = place_inside n s (m + 1) (m + 2) k h (omega arith) in
          sym (part-take s (place n (m + 1) k) (a + length added) after (omega (arith, there, at, long)))
          ∙ ap (λ z. part s z (place n (m + 1) k)) is
          ∙ part_after s ((m + 1) * n) k (take a before) added (omega (arith, front, at))
          ∙ each k h ∙ ap f (part_of_row n s m k before h);
    }

-- a row that is begun, in memory that was made longer
pub begun_longer : {p q : List ℕ} {n s m i : ℕ} {x : ℕ → List ℕ} {before after : List ℕ} (longer : List ℕ)
    → AfterRowTurns p q n s m i x before after → (m + 2) * (n * s) ≤ length after → take (length after) longer ≡ after
    → AfterRowTurns p q n s m i x before longer
begun_longer {n = n} {s = s} {m = m} {after = after} longer begun room is = grind (arith, take_longer, place_inside, part_longer)

-- the row after one that is in another order
module _ {p q : List ℕ} (inverse : AreInverse p q) where
  -- the first row is the block itself
  pub row_zero_in : (x : List ℕ) → length x % 16 ≡ 0 → x ≡ permuted p (row (permuted q x) 0)
  unfolding row
  row_zero_in x whole = sym (out_then_in inverse x whole)

  -- and the row that is n rows after it
  pub row_after_in : (b x : List ℕ) (i n : ℕ) → length x % 16 ≡ 0 → x ≡ permuted p (row b i)
      → permuted p (row (permuted q x) n) ≡ permuted p (row b (i + n))
  row_after_in b x i n whole is = grind (arith, standard_of, row_after)

  -- before the first block mix, and after one more
  module _ (n s : ℕ) (whole : s % 32 ≡ 0) {diagonal : Bool} {begin : CoreCount} (kept : List ℕ) (long : length kept ≡ n * s) where
    pub no_mix : AfterMixes p q n s diagonal begin 0 kept kept begin
    no_mix = grind (arith, row_zero_in, length-part_of_row, counted_none)

    pub one_more_mix : (before after : CoreCount) (x y : List ℕ) (i j : ℕ) → AfterMixes p q n s diagonal begin i kept x before
        → length x ≡ n * s → ((k : ℕ) → k < n → part s y k ≡ mixed_in p q 1 (part s x k))
        → AreCountedAs diagonal (n * (2 * (s / 32))) before after → j ≡ i + 1 → AfterMixes p q n s diagonal begin j kept y after
    one_more_mix before after x y i j until same mixed counted is = rw is (record {
      value = λ k h. grind (arith, row_after_in, length-part_of_row);
      counted = counted_both _ until.counted counted (omega arith);
    })

  -- the first row of a table
  pub first_row : {n s t : ℕ} {x v : List ℕ} → length x ≡ n * s → s % 32 ≡ 0 → take (length x) v ≡ x
      → HoldsRows p q n s t 1 x v
  first_row {n} {s} {t} {x} {v} size whole is =
      let none : 0 * t ≡ 0 = omega arith in
      grind (arith, length-take, part_inside, length-part_of_row, part-take, row_zero_in)

  -- and one more, which is t rows after the last
  pub more_rows : {n s t i : ℕ} {x v v' : List ℕ} → s % 32 ≡ 0 → HoldsRows p q n s t (i + 1) x v
      → AddsRow (mixed_in p q t) n s i v v' → HoldsRows p q n s t (i + 1 + 1) x v'
  more_rows {n} {s} {t} {i} {x} {v} whole held added = record {
    len = omega (arith, added.len);
    each = λ m k inside h. elim (cases_lt m (i + 1)) [
      | inl lt ↦ grind (arith, parts_apart)
      | inr ge ↦
          let last : m ≡ i + 1 = omega arith in
          let there : i * t + t ≡ (i + 1) * t = omega arith in
          let room = place_inside n s i (i + 1) k h (omega arith) in
          let row_long = length-part s (place n i k) v (omega (arith, held.len, room)) in
          grind (arith, row_after_in)
    ];
  }

  -- the step after one, which takes in row j
  pub next_step_in : (b : List ℕ) (log_n k : ℕ) (x u : List ℕ) (j : ℕ) → length x % 16 ≡ 0 → length u ≡ length x
      → x ≡ permuted p (walk b log_n k) → j ≡ integerify (permuted q x) % 2 ^ log_n → u ≡ permuted p (row b j)
      → permuted p (block_mix (permuted q (xor_words x u))) ≡ permuted p (walk b log_n (k + 1))
  unfolding walk
  next_step_in b log_n k x u j whole same is names taken = grind (arith, standard_of, zip_out, add-one)
