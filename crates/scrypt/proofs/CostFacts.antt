use Rattle.std.proofs.Common.{◌≡◌, ℕ, zero, suc, ◌<◌, ◌≤◌, ◌+◌, ◌-◌, ◌*◌, ◌/◌, ◌^◌, List, refl, arith, lit≤, add-one, pow_pos, ◌↔◌, IsTrue}
use Rattle.std.proofs.Math.Nat.{div-eq_of_eq-mul_left, mul-div_left, one-le-pow}
use Rattle.std.proofs.lemmas.Nat.{le-div, mul-le}
use Rattle.scrypt.specs.Terms.{AreMostTables, Parameters, are_within, cost}
use Rattle.scrypt.specs.Terms.{extra_rows_of_chunks, hash_cost, interleaved_chunks, lengths_cost, part, scratch_words}
use Rattle.scrypt.specs.Terms.{table_words, tables_within, thin_chunks_cost, words_of, work}
use Rattle.scrypt_kernel.specs.Table.{extra_rows}
use Rattle.scrypt_kernel.proofs.WalkFacts.{extra_rows-whole, whole_cost}
use Rattle.scrypt.specs.declared.limits.Limits.{Limits}
use Rattle.scrypt.specs.Cost.{thin_ro_mix_cost}

none_of_chunks : (b : List ℕ) (log_n r i : ℕ) → extra_rows_of_chunks b log_n 0 r i ≡ 0
unfolding extra_rows_of_chunks
none_of_chunks b log_n r zero = refl
none_of_chunks b log_n r (suc i) = grind (arith, none_of_chunks b log_n r i, extra_rows-whole (words_of (part (128 * r) b i)) log_n (2 ^ log_n))

-- a table that keeps every row has the cost of the standard's
pub whole_table_cost : (b : List ℕ) (log_n r p : ℕ) → thin_chunks_cost b log_n r p 0 ≡ cost log_n r p
whole_table_cost b log_n r p = grind (arith, none_of_chunks)

-- n more chunks, of which there is one unless the table keeps every row
pub more_chunks : (b : List ℕ) (log_n s r i n : ℕ) → (0 < s → n ≡ 1) → thin_chunks_cost b log_n r (i + n) s
    ≡ thin_chunks_cost b log_n r i s + n * thin_ro_mix_cost (words_of (part (128 * r) b i)) log_n s r
unfolding extra_rows_of_chunks
more_chunks b log_n zero r i n alone = rw (whole_table_cost b log_n r (i + n), whole_table_cost b log_n r i, whole_cost) (omega arith)
more_chunks b log_n (suc s) r i n alone = let one : n ≡ 1 = alone (omega arith) in rw (one, add-one) (omega arith)

-- there is room for one at least exactly if one fits
pub room_for_one : (n one : ℕ) → 0 < one → (0 < n / one) ↔ (one ≤ n)
room_for_one n one some = grind arith

pub some_table : (log_n r : ℕ) → 0 < r → 0 < table_words log_n r
some_table log_n r some = mul-le 1 1 (2 ^ log_n) (32 * r) (one-le-pow log_n 2 (lit≤ tt)) (omega arith)

pub ruleset rooms = (room_for_one, some_table)

-- w chunks are mixed at a time where w tables and exactly w scratches are
pub width_is : (log_n r n w table scratch : ℕ) → 0 < r → w ≤ 4 → w ≤ n → w * table_words log_n r ≤ table → scratch ≡ w * scratch_words r
    → w ≡ interleaved_chunks log_n r n table scratch
unfolding interleaved_chunks
width_is log_n r n w table scratch some few within fits is = grind (arith, le-div, some_table, mul-div_left)

-- one is, where there is one table, and room for a scratch
pub one_table : (log_n r n table scratch : ℕ) → 0 < r → 0 < n → table ≡ table_words log_n r → scratch_words r ≤ scratch
    → 1 ≡ interleaved_chunks log_n r n table scratch
unfolding interleaved_chunks
one_table log_n r n table scratch some chunk is fits =
    let tables : table / table_words log_n r ≡ 1 = div-eq_of_eq-mul_left (some_table log_n r some) (omega (arith, is)) in
    grind (arith, le-div)

-- also if exactly so much of both is used
pub width_of_part : (log_n r n table scratch : ℕ) → 0 < r
    → let w = interleaved_chunks log_n r n table scratch in w ≡ interleaved_chunks log_n r n (w * table_words log_n r) (w * scratch_words r)
unfolding interleaved_chunks
width_of_part log_n r n table scratch some = grind (arith, width_is)

-- 14 blocks for each chunk of each r, which is less than 128 / 9, and those of the lengths
pub both_bounded : (password_len salt_len log_n r p n : ℕ)
    → cost log_n r p + 9 * hash_cost password_len salt_len r p n ≤ work log_n r p + 9 * lengths_cost password_len salt_len n
both_bounded password_len salt_len log_n r p n = grind arith

pub both_within : (limits : Limits) (c : Parameters) (password_len salt_len n : ℕ) → IsTrue (are_within limits c)
    → cost c.log_n c.r c.p + 9 * hash_cost password_len salt_len c.r c.p n ≤ limits.max_work + 9 * lengths_cost password_len salt_len n
unfolding are_within
both_within limits c password_len salt_len n fits = grind arith

-- k steps of the walk recompute at most 2 ^ s - 1 rows each
pub extra_rows_at_most : (b : List ℕ) (log_n s k : ℕ) → extra_rows b log_n s k ≤ k * (2 ^ s - 1)
unfolding extra_rows
extra_rows_at_most b log_n s zero = omega arith
extra_rows_at_most b log_n s (suc k) = grind (arith, extra_rows_at_most b log_n s k, pow_pos s)

-- w of these fit into the room that chunks leave, if no more than fit are taken, and at least one
some_fit : (w each chunks limit : ℕ) → 0 < w → 0 < each → w ≤ (limit - chunks) / each → chunks + w * each ≤ limit
some_fit w each chunks limit some one fewer = grind arith

-- and w do not, if fewer than w fit
none_fits : (w each chunks limit : ℕ) → 0 < each → (limit - chunks) / each < w → limit < chunks + w * each
none_fits w each chunks limit one fewer = grind (arith, le-div w (limit - chunks) each one)

-- as many tables are within a limit as fit, at least one, and at most four and one for each chunk
pub most_tables : (max_mem : ℕ) (c : Parameters) → 0 < c.r → AreMostTables max_mem c (tables_within max_mem c)
unfolding tables_within
most_tables max_mem c some = grind (arith, some_fit, none_fits)
