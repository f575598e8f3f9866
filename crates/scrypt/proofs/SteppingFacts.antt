-- Facts on a derivation in steps.
use Rattle.std.proofs.Common.{◌≡◌, Bool, true, ℕ, ◌<◌, ◌≤◌, ◌+◌, ◌-◌, ◌*◌, ◌%◌, ◌^◌, min, List, [], ◌∷◌, ◌++◌, drop, length, refl, sym, ap, ◌∙◌, take_all, arith, suc, zero}
use Rattle.std.proofs.lemmas.Fn.{FoldsTo-push}
use Rattle.std.proofs.lemmas.Nat.{le-div, mul-le, one_shl, pow_pos, pow-add}
use Rattle.std.proofs.Math.Nat.{mul-le-mul_left, mul-le-mul_right, pow-le-pow_right}
use Rattle.scrypt_kernel.specs.Steps.{all_mixes}
use Rattle.scrypt_kernel.proofs.StepFacts.{drop_same}
use Rattle.scrypt.specs.Terms.{AreMixed, CanGoOn, IsNext, IsRestKept, Parameters, WentOn, Workspace, chunks_bytes, cost}
use Rattle.scrypt.specs.Terms.{interleaved_chunks, lacking, max_step, mixed_chunks, mixes_done, scratch_words}
use Rattle.scrypt.specs.Terms.{table_words, tables_used}
use Rattle.scrypt.specs.declared.stepping.Progress.{Progress}
use Rattle.scrypt.proofs.AcceptedFacts.{small_factor}
use Rattle.scrypt.proofs.CostFacts.{some_table}

-- all chunks, mixed
pub all_chunks_mixed : (b x : List ℕ) (log_n r i p : ℕ) → i ≡ p → length x ≡ p * (128 * r) → AreMixed b log_n r i x → x ≡ mixed_chunks b log_n r p
all_chunks_mixed b x log_n r i p all long mixed = sym (take_all (p * (128 * r)) x (omega arith)) ∙ (rw all at mixed.done)

-- chunks i to i + n are among the p
pub chunks_inside : (i n p s l : ℕ) → i + n ≤ p → l ≡ p * s → i * s + n * s ≤ l
chunks_inside i n p s l inside is = omega (arith, is, mul-le-mul_right s inside)

-- the first rows of n tables fit
pub first_rows_fit : (n log_n r l : ℕ) → n * table_words log_n r ≤ l → n * (32 * r) ≤ l
first_rows_fit n log_n r l room = grind (arith, mul-le-mul_right, pow_pos, mul-le-mul_left)

-- while chunks are left, mixes are left
pub mixes_left : (i n m a p : ℕ) → i + n ≤ p → 0 < n → m < a → i * a + n * m < p * a
mixes_left i zero m a p inside some less = absurd (omega arith)
mixes_left i (suc n) m a p inside some less =
    let fewer : n * m ≤ n * a = mul-le-mul_left n (omega arith) in
    omega (arith, fewer, mul-le-mul_right a inside)

-- a step does some
pub mixes_more : (n x : ℕ) → 0 < n → 0 < x → 0 < n * x
mixes_more zero x some more = absurd (omega arith)
mixes_more (suc n) x some more = omega arith

-- the mixes of n chunks, each d and then c more, of a in all
pub more_mixes : (n d c a m : ℕ) → d < a → m ≡ min (d + c) a → n * m ≡ n * d + n * min c (a - d)
more_mixes n d c a m less is = let sum : m ≡ d + min c (a - d) = omega (arith, is) in rw sum (omega arith)

-- all mixes of a chunk are done, as the code finds it
pub all_done : (log_n m d n : ℕ) → log_n ≤ 56 → 2 * 2 ^ log_n % 2 ^ 64 ≤ m → m ≡ min (d + n) (all_mixes log_n) → m ≡ all_mixes log_n
all_done log_n m d n small enough is = grind (arith, one_shl (log_n + 1) 64 (omega arith), pow-add 2 log_n 1)

-- the cores so far, and those of a step
pub cores_more : (i j n x c : ℕ) → j ≡ i + n * x → j * c ≡ i * c + x * (n * c)
cores_more i j n x c is = rw is (omega arith)

-- the cores of all mixes
pub all_mixes_cost : (log_n r p i n m : ℕ) → i ≡ p → m ≡ 0 → (i * all_mixes log_n + n * m) * (2 * r) ≡ cost log_n r p
all_mixes_cost log_n r p i n m all none = rw (all, none) (omega arith)

-- the chunks that are mixed, as the code counts their mixes
mixes_of_chunks : (i n k r p : ℕ) → i + n ≤ p → 0 < r → r * p < 2 ^ 30 → k ≤ 56
    → (i * 2 ^ (k + 1) ≤ 2 ^ 87) × (i * 2 ^ (k + 1) % 2 ^ 128 ≡ i * all_mixes k)
mixes_of_chunks i n k r p inside some product small =
    let below : k + 1 ≤ 57 = omega (arith, small) in
    let rows : 2 ^ (k + 1) ≤ 2 ^ 57 = pow-le-pow_right (omega arith) below in
    let double = pow-add 2 k 1 in
    grind (arith, small_factor, mul-le)

-- the cores, as the code counts them
pub cores_are : (i n k m r p : ℕ) → i + n ≤ p → 0 < r → r * p < 2 ^ 30 → k ≤ 56
    → (i * 2 ^ (k + 1) % 2 ^ 128 + n * m) * (2 * r) ≡ (i * all_mixes k + n * m) * (2 * r)
cores_are i n k m r p inside some product small = grind (arith, mixes_of_chunks i n k r p inside some product small)

-- and they fit 128 bits
pub cores_fit : (i n k m r p x : ℕ) → i + n ≤ p → n ≤ 4 → 0 < r → r * p < 2 ^ 30 → k ≤ 56 → m < 2 * 2 ^ k → x < 2 ^ 32
    → (i * 2 ^ (k + 1) % 2 ^ 128 + n * m) * (2 * x) < 2 ^ 128
cores_fit i n k m r p x inside few some product small less width =
    let rows : 2 ^ k ≤ 2 ^ 56 = pow-le-pow_right (omega arith) small in
    let chunks = mixes_of_chunks i n k r p inside some product small in
    grind (arith, mul-le n m 4 (2 ^ 57) few (omega (arith, less, rows)), mul-le-mul_right)

-- a group has a table and a scratch for each of its chunks
pub group_fits : (most : ℕ) (scalar : Bool) (c : Parameters) (at : Progress) (table scratch : List ℕ) → CanGoOn most scalar c at table scratch → 0 < c.r
    → at.interleaved ≤ tables_used c table scratch
unfolding interleaved_chunks
group_fits most scalar c at table scratch going some = grind (arith, le-div, some_table)

-- nothing is changed behind the part that is used if no more than n tables and scratches are
pub rest_kept : (c : Parameters) (n : ℕ) (before after : Workspace) → n ≤ tables_used c before.table before.scratch
    → drop (chunks_bytes c.r c.p) after.chunks ≡ drop (chunks_bytes c.r c.p) before.chunks
    → drop (n * table_words c.log_n c.r) after.table ≡ drop (n * table_words c.log_n c.r) before.table
    → drop (n * scratch_words c.r) after.scratch ≡ drop (n * scratch_words c.r) before.scratch → IsRestKept c before after
rest_kept c n before after few chunks table scratch = grind (arith, drop_same, mul-le-mul_right)

-- nor by one call after another
pub rest_then : (c : Parameters) (first next last : Workspace) → length next.table ≡ length first.table → length next.scratch ≡ length first.scratch
    → IsRestKept c first next → IsRestKept c next last → IsRestKept c first last
rest_then c first next last table scratch one two = grind arith

-- the number that a step shows is the next
pub next_shown : (most : ℕ) (scalar : Bool) (c : Parameters) (at : Progress) (table scratch : List ℕ) (count j t s : ℕ)
    → CanGoOn most scalar c at table scratch → length table ≡ t → length scratch ≡ s → 0 < c.r → 0 < count → at.chunks < c.p
    → j ≡ mixes_done c at + at.interleaved * min count (lacking c at)
    → IsNext (max_step c count t s) (mixes_done c at * (2 * c.r)) (j * (2 * c.r))
next_shown most scalar c at table scratch count j t s going table_is scratch_is some counted left is =
    let n : ℕ = at.interleaved in
    let x : ℕ = min count (lacking c at) in
    let width : n ≤ interleaved_chunks c.log_n c.r c.p t s = rw (table_is, scratch_is) at (group_fits most scalar c at table scratch going some) in
    let near : n * x ≤ interleaved_chunks c.log_n c.r c.p t s * count = mul-le n x _ count width (omega arith) in
    let more : 1 ≤ n * x = mul-le 1 1 n x (going.within.some left) (omega (arith, going.within.mixes)) in
    let cores = cores_more (mixes_done c at) j n x (2 * c.r) is in
    grind (arith, mul-le-mul_right (2 * c.r) more, mul-le-mul_right (2 * c.r) near)

-- nothing is shown yet
pub none_shown : {F : Type 0} (step : F → ℕ → Bool → F → Type 0) (most : ℕ) (f : F) (n : ℕ) → n ≡ 0 → WentOn step most f n f
none_shown step most f n none = record { shown = []; calls = ap (λ (k : ℕ). (f, k)) (sym none) }

-- one more number is shown
pub one_shown : {F : Type 0} (step : F → ℕ → Bool → F → Type 0) (most : ℕ) (first p q : F) (i j : ℕ)
    → WentOn step most first i p → IsNext most i j → step p j true q → WentOn step most first j q
one_shown {F} step most first p q i j before next went = record {
  shown = before.shown ++ (j ∷ []);
  calls = FoldsTo-push {P = F × ℕ} (λ p n q. step p.0 n true q.0 × IsNext most p.1 n × (q.1 ≡ n)) (first, 0) before.shown (p, i) j (q, j)
      before.calls (went, next, refl);
}
