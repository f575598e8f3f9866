-- scryptROMix with an array is scryptROMix without one.
use Rattle.std.proofs.Common.{◌≡◌, ◌∙◌, ◌<◌, ◌%◌, ◌^◌, ℕ, List, [], zero, suc, length, length-append, get_or, inl, inr, refl, ap, arith}
use Rattle.std.proofs.lemmas.Bool.{cases_lt}
use Rattle.std.proofs.lemmas.List.{get_or_append_left, get_or_push}
use Rattle.std.proofs.lemmas.Nat.{mod_below, pow_pos}
use Rattle.scrypt_kernel.specs.{block_mix, filled, integerify, ro_mix, ro_mix_by_loops, row, walk, walked, xor_words}

-- after n turns of the first loop X is row n, and V holds the rows before it
x_filled : (b : List ℕ) (n : ℕ) → (filled b n).x ≡ row b n
unfolding filled row
x_filled b zero = refl
x_filled b (suc n) = ap block_mix (x_filled b n)

length_filled : (b : List ℕ) (n : ℕ) → length (filled b n).v ≡ n
unfolding filled
length_filled b zero = refl
length_filled b (suc n) = let before = length_filled b n in length-append (filled b n).v _ ∙ omega (arith, before)

v_filled : (b : List ℕ) (n i : ℕ) → i < n → get_or (filled b n).v i [] ≡ row b i
unfolding filled
v_filled b zero i below = absurd (omega (arith, below))
v_filled b (suc n) i below = elim (cases_lt i n) [
  | inl earlier ↦ get_or_append_left (filled b n).v _ [] i (omega (arith, earlier, length_filled b n)) ∙ v_filled b n i earlier
  | inr last ↦ grind (arith, get_or_push, length_filled, x_filled)
]

same_walk : (b : List ℕ) (log_n i : ℕ) → walked (filled b (2 ^ log_n)) (2 ^ log_n) i ≡ walk b log_n i
unfolding walked walk
same_walk b log_n zero = x_filled b (2 ^ log_n)
same_walk b log_n (suc i) =
    let n = 2 ^ log_n in
    let before = same_walk b log_n i in
    let j = integerify (walk b log_n i) % n in
    let below : j < n = mod_below _ n (pow_pos log_n) in
    rw before (ap (λ v. block_mix (xor_words (walk b log_n i) v)) (v_filled b n j below))

pub same_ro_mix : (b : List ℕ) (log_n : ℕ) → ro_mix_by_loops b log_n ≡ ro_mix b log_n
unfolding ro_mix_by_loops ro_mix
same_ro_mix b log_n = same_walk b log_n (2 ^ log_n)
