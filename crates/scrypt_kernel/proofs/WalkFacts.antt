-- Facts on the walk over a table that keeps some rows, or all of them.
use Rattle.std.proofs.lemmas.Grind.{common_steps}
use Rattle.std.proofs.lemmas.List.{places}
use Rattle.std.proofs.Common.{◌≡◌, Bool, ℕ, zero, suc, ◌<◌, ◌≤◌, ◌+◌, ◌-◌, ◌*◌, ◌/◌, ◌%◌, ◌^◌, List, length, refl, sym, ap, ◌∙◌, arith, add-one}
use Rattle.std.proofs.lemmas.Nat.{mod_below, one_shl, pow-add, pow_pos, shr_below}
use Rattle.std.proofs.Math.Nat.{add_assoc, div-mul-le_self, lt_of_mul-lt-mul_left}
use Rattle.scrypt_kernel.specs.{AfterSteps, AreCountedAs, AreInverse, AreWalkLens, IsFilled, IsInWalk, extra_rows}
use Rattle.scrypt_kernel.specs.{integerify, mixed_in, part, permuted, place, recomputed_rows, ro_mix_cost, row}
use Rattle.scrypt_kernel.specs.{steps_cost, thin_ro_mix_cost, walk, x_after}
use Rattle.scrypt_kernel.specs.declared.cores.count.CoreCount.{CoreCount}
use Rattle.scrypt_kernel.proofs.CountFacts.{counted_both}
use Rattle.scrypt_kernel.proofs.PartFacts.{length-part}
use Rattle.scrypt_kernel.proofs.OrderFacts.{standard_of}
use Rattle.scrypt_kernel.proofs.RoMixFacts.{HoldsRows, length-mixed_in, length-part_of_row, next_step_in, part_of_row, place_inside, row_after_in}

-- a table's number of kept rows, of which m is the last
pub kept_rows : (log_n s m : ℕ) → log_n ≤ 56 → m ≡ 1 * 2 ^ (log_n - s) % 2 ^ 64 - 1 → m + 1 ≡ 2 ^ (log_n - s)
kept_rows log_n s m small last = grind (arith, common_steps, places, one_shl, pow_pos)

-- and of all rows
pub all_rows : (log_n s rows : ℕ) → s ≤ log_n → rows ≡ 2 ^ (log_n - s) → rows * 2 ^ s ≡ 2 ^ log_n
all_rows log_n s rows fits is = grind (arith, pow-add)

-- the rows that are held are those of a filled table, and the row that is 2 ^ t rows after the last is the one after them
pub filled : {p q : List ℕ} → AreInverse p q → {n s log_n t m : ℕ} {x v last end : List ℕ} → log_n ≤ 56 → t ≤ log_n
    → m ≡ 1 * 2 ^ (log_n - t) % 2 ^ 64 - 1 → s % 32 ≡ 0 → HoldsRows p q n s (2 ^ t) (m + 1) x v
    → last ≡ part (n * s) v m → ((k : ℕ) → k < n → part s end k ≡ mixed_in p q (2 ^ t) (part s last k)) → IsFilled p q n s log_n t x v end
filled {p} {q} inverse {n} {s} {log_n} {t} {m} {x} {v} {last} small fits count whole held last_is end_is =
    let step : ℕ = 2 ^ t in
    let kept = kept_rows log_n t m small count in
    let all = all_rows log_n t (m + 1) fits kept in
    let there : m * step + step ≡ 2 ^ log_n = omega (arith, all) in
    record {
      len = rw kept at held.len;
      rows = λ k h. record {
        each = λ i inside. grind (arith, lt_of_mul-lt-mul_left);
      };
      after = λ k h. grind (arith, place_inside, length-part, part_of_row, row_after_in);
    }

-- the part of a chunk in the kept row below row j is in the table
pub kept_place : (n len s log_n j k total : ℕ) → s ≤ log_n → j < 2 ^ log_n → k < n
    → 2 ^ (log_n - s) * (n * len) ≤ total → place n (j / 2 ^ s) k * len + len ≤ total
kept_place n len s log_n j k total fits inside chunk long = grind (arith, shr_below, place_inside)

-- if the first chunk's row is kept, so is each chunk's
pub all_kept : (n k s : ℕ) (j : ℕ → ℕ) → (0 < s → n ≡ 1) → k < n → j 0 % 2 ^ s ≡ 0 → j k % 2 ^ s ≡ 0
all_kept n k zero j alone below none = omega arith
all_kept n k (suc s) j alone below none = grind arith

-- with a table that keeps every row none is recomputed
pub extra_rows-whole : (b : List ℕ) (log_n k : ℕ) → extra_rows b log_n 0 k ≡ 0
unfolding extra_rows
extra_rows-whole b log_n zero = refl
extra_rows-whole b log_n (suc k) =
    let before = extra_rows-whole b log_n k in
    omega arith

-- so its cores are those of the standard's table
pub whole_cost : (b : List ℕ) (log_n r : ℕ) → thin_ro_mix_cost b log_n 0 r ≡ ro_mix_cost log_n r
whole_cost b log_n r = rw extra_rows-whole (omega arith)

-- a row is missing only if rows are left out
pub some_missing : (s j : ℕ) → (j % (1 * 2 ^ s % 2 ^ 64) ≡ 0 → ⊥) → 0 < s
some_missing zero j missing = absurd (missing (omega arith))
some_missing (suc s) j missing = omega arith

-- how many rows are missing before row j, as it is computed
pub missing_rows : (s j i : ℕ) → s ≤ 56 → j ≡ i → j % (1 * 2 ^ s % 2 ^ 64) ≡ i % 2 ^ s
missing_rows s j i small is = ap (λ n. j % n) (one_shl s 64 (omega arith)) ∙ ap (λ j. j % 2 ^ s) is

-- X after step 2 is that before the walk
pub starts_walk : {p q : List ℕ} {n s log_n t : ℕ} {x kept last : List ℕ} → IsFilled p q n s log_n t x kept last → (k : ℕ) → k < n
    → IsInWalk p (permuted q (part s x k)) n k s log_n t 0 kept last
unfolding walk
starts_walk filled k below = record { rows = filled.rows k below; walked = filled.after k below }

-- no step costs nothing
pub no_cost : (b : List ℕ) (n s log_n t : ℕ) → steps_cost b n s log_n t 0 ≡ 0
unfolding extra_rows
no_cost b n s log_n t = omega arith

extra_rows-more : (b : List ℕ) (log_n s k : ℕ)
    → extra_rows b log_n s (k + 1) ≡ extra_rows b log_n s k + recomputed_rows s (integerify (walk b log_n k) % 2 ^ log_n)
unfolding extra_rows
extra_rows-more b log_n s k = rw add-one refl

-- one step, from the X in x to the one in y
pub one_step : {p q : List ℕ} → AreInverse p q → {n s log_n t a c d : ℕ} {kept : List ℕ} → AreWalkLens n s log_n t a c d (length kept)
    → {diagonal : Bool} {before after : CoreCount} (x y : List ℕ) → length x ≡ n * s
    → ((k : ℕ) → k < n → part s y k ≡ x_after p q n k s log_n t kept (part s x k))
    → AreCountedAs diagonal ((recomputed_rows t (integerify (permuted q (part s x 0)) % 2 ^ log_n) + 1) * (n * (2 * (s / 32)))) before after
    → AfterSteps p n s log_n t diagonal kept 1 x before y after
one_step {p} {q} inverse {n} {s} {log_n} {t} {kept = kept} lens x y size stepped counted = record {
  walked = λ k below b i at.
      let j : ℕ = integerify (permuted q (part s x k)) % 2 ^ log_n in
      let step : ℕ = 2 ^ t in
      let inside : j < 2 ^ log_n = mod_below _ (2 ^ log_n) (pow_pos log_n) in
      let low : List ℕ = part s kept (place n (j / step) k) in
      let long = length-part s (place n (j / step) k) kept (kept_place n s t log_n j k _ lens.most inside below lens.rows) in
      let kept_row : j / step * step < 2 ^ log_n = omega (arith, div-mul-le_self j step, inside) in
      let there : j / step * step + j % step ≡ j = omega arith in
      let x_long = length-part_of_row n s k x below size in
      let same = length-mixed_in p q low (j % step) (omega (arith, long, lens.row.some)) (omega (arith, long, lens.row.whole)) in
      let taken = row_after_in inverse b low (j / step * step) (j % step) (omega (arith, long, lens.row.whole)) (at.rows.each (j / step) kept_row) in
      record {
        rows = at.rows;
        walked = stepped k below
            ∙ next_step_in inverse b log_n i (part s x k) _ j (omega (arith, x_long, lens.row.whole)) (same ∙ long ∙ sym x_long) at.walked refl
            (taken ∙ ap (λ i. permuted p (row b i)) there);
      };
  counted = λ b i begin at until.
      let x_long = length-part_of_row n s 0 x lens.some size in
      let standard = standard_of inverse (part s x 0) (walk b log_n i) (omega (arith, x_long, lens.row.whole)) at.walked in
      counted_both _ until (rw standard at counted) (rw (extra_rows-more b log_n t i) (omega arith));
  whole = λ every. let none : integerify (permuted q (part s x 0)) % 2 ^ log_n % 2 ^ t ≡ 0 = rw every (omega arith) in rw none at counted;
}

-- more steps after some
pub more_steps : {p : List ℕ} {n s log_n t m l : ℕ} {diagonal : Bool} {kept x y z : List ℕ} {a b c : CoreCount} → 0 < n
    → AfterSteps p n s log_n t diagonal kept m x a y b → AfterSteps p n s log_n t diagonal kept l y b z c
    → (count : ℕ) → count ≡ m + l → AfterSteps p n s log_n t diagonal kept count x a z c
more_steps {m = m} {l} some one two count sum = rw sum (record {
  walked = λ k below b i at. rw (← add_assoc i m l) (two.walked k below b (i + m) (one.walked k below b i at));
  counted = λ b i begin at until.
      rw (← add_assoc i m l) (two.counted b (i + m) begin (one.walked 0 some b i at) (one.counted b i begin at until));
  whole = λ every. counted_both _ (one.whole every) (two.whole every) (omega arith);
})

-- the cores of the fill and of the walk
pub filled_and_walked : {diagonal : Bool} {before filled after : CoreCount} (b : List ℕ) (n s log_n t r : ℕ) → s / 32 ≡ r
    → AreCountedAs diagonal (2 ^ log_n * (n * (2 * (s / 32)))) before filled
    → AreCountedAs diagonal (steps_cost b n s log_n t (2 ^ log_n)) filled after
    → AreCountedAs diagonal (n * thin_ro_mix_cost b log_n t r) before after
filled_and_walked b n s log_n t r blocks fill walk = counted_both _ (rw blocks at fill) (rw blocks at walk) (omega arith)
