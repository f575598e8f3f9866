-- Facts on vectors of four lanes, and on a block in diagonal order as four of them.
use Rattle.std.proofs.Common.{◌≡◌, ℕ, ◌<◌, ◌+◌, ◌-◌, ◌*◌, ◌/◌, ◌%◌, ◌^◌, List, [], ◌∷◌, ◌++◌, length, bit_or, bit_xor}
use Rattle.std.proofs.Common.{get_or, arith, refl, sym, ap, ap₂, subst, ◌∙◌, add-zero, zero-add, Fits, replicate, append_assoc, zero, suc, inl, inr, length-append, take_all, drop, ◌≤◌}
use Rattle.std.proofs.lemmas.Bool.{cases_lt}
use Rattle.std.proofs.lemmas.Grind.{common_steps}
use Rattle.std.proofs.lemmas.List.{append-nil, places}
use Rattle.std.specs.Int.{w32, rotate_left}
use Rattle.std.specs.Int.Bits.{and_shifted, xor_assoc, xor_disjoint}
use Rattle.std.specs.Simd.Lanes.{Each1, pick_l, zip2}
use Rattle.std.proofs.lemmas.Nat.{mod-pow-add, mod_low, or_shifted, pow_pos, shl-shr, shr_below}
use Rattle.std.proofs.lemmas.List.FromFn.{fill_by_all}
use Rattle.scrypt_kernel.specs.{AreFourEach, add32, block, diagonal_core, diagonal_order, diagonal_round, double_round}
use Rattle.scrypt_kernel.specs.{inverse_pivot, lanes_of, part, permuted, pivot, quarter_round, quarter_rounds}
use Rattle.scrypt_kernel.specs.{salsa20_8, standard_order, turned, turned_left, xor_rotated}
use Rattle.scrypt_kernel.proofs.PartFacts.{block_same, length-part, length-part_of, part-take, part_inside, part_of_block, parts_all}
use Rattle.scrypt_kernel.proofs.OrderFacts.{diagonal_inverse, length-permuted, out_then_in, standard_of, zip_in}
use Rattle.scrypt_kernel.proofs.SalsaFacts.{length-double_round}

-- the two parts of a rotation share no bit, and an exclusive or joins them as an or does
rotation_parts : (x k : ℕ) → x < 2 ^ 32 → 0 < k → k < 32
    → bit_xor (x * 2 ^ k % 2 ^ 32) (x / 2 ^ (32 - k)) ≡ bit_or (x * 2 ^ k % 2 ^ 32) (x / 2 ^ (32 - k))
rotation_parts x k fits low high =
    let j : ℕ = 32 - k in
    let all : 32 ≡ j + k = omega arith in
    let turned : 32 ≡ k + j = omega arith in
    let clear : x * 2 ^ k % 2 ^ k ≡ 0 = ap (λ n. n % 2 ^ k) (sym (add-zero (x * 2 ^ k))) ∙ mod_low x k 0 (pow_pos k) in
    let upper : x * 2 ^ k % 2 ^ 32 ≡ x % 2 ^ j * 2 ^ k =
    ap (λ i. x * 2 ^ k % 2 ^ i) all ∙ mod-pow-add (x * 2 ^ k) j k ∙ rw (shl-shr x k, clear) (add-zero (x % 2 ^ j * 2 ^ k)) in
    let lower : x / 2 ^ j < 2 ^ k = shr_below x k j (subst (λ i. x < 2 ^ i) turned fits) in
    let apart = and_shifted (x % 2 ^ j) k (x / 2 ^ j) lower in
    rw upper (xor_disjoint (x % 2 ^ j * 2 ^ k) (x / 2 ^ j) apart ∙ sym (or_shifted (x % 2 ^ j) k (x / 2 ^ j) lower))

-- a word xor a rotated word, by two exclusive ors
xor_parts : (x y k : ℕ) → y < 2 ^ 32 → 0 < k → k < 32
    → bit_xor (bit_xor x (y * 2 ^ k % 2 ^ 32)) (y / 2 ^ (32 - k)) ≡ bit_xor x (rotate_left w32 y k)
xor_parts x y k fits low high = grind (arith, xor_assoc, rotation_parts)

-- a vector is its four lanes
four_lanes : (x : List ℕ) → length x ≡ 4 → x ≡ get_or x 0 0 ∷ get_or x 1 0 ∷ get_or x 2 0 ∷ get_or x 3 0 ∷ []
four_lanes x long = fill_by_all (λ k. get_or x k 0) x 4 0 long (λ k h. refl)

-- what holds of all vectors of four lanes
four_vectors : (P : List ℕ → List ℕ → List ℕ → List ℕ → Type 0) → ((a0 a1 a2 a3 b0 b1 b2 b3 c0 c1 c2 c3 d0 d1 d2 d3 : ℕ)
    → P (a0 ∷ a1 ∷ a2 ∷ a3 ∷ []) (b0 ∷ b1 ∷ b2 ∷ b3 ∷ []) (c0 ∷ c1 ∷ c2 ∷ c3 ∷ []) (d0 ∷ d1 ∷ d2 ∷ d3 ∷ []))
    → (a : List ℕ) → length a ≡ 4 → (b : List ℕ) → length b ≡ 4 → (c : List ℕ) → length c ≡ 4 → (d : List ℕ) → length d ≡ 4 → P a b c d
four_vectors P p a long_a b long_b c long_c d long_d =
    rw (four_lanes a long_a, four_lanes b long_b, four_lanes c long_c, four_lanes d long_d) (p _ _ _ _ _ _ _ _ _ _ _ _ _ _ _ _)

-- the vector y of n lanes, shifted by k to both sides and taken into x
abbrev XorRotated : ℕ → ℕ → List ℕ → List ℕ → Type 0
XorRotated k n x y =
    let left = zip2 (λ a n. a * 2 ^ n % 2 ^ 32) y (replicate n k) in
    let right = zip2 (λ a n. a / 2 ^ n) y (replicate n (32 - k)) in
    zip2 bit_xor (zip2 bit_xor x left) right ≡ xor_rotated k x y

pub xor_rotated_by_parts : (k : ℕ) → 0 < k → k < 32 → (n : ℕ) (x y : List ℕ) → length y ≡ n → Each1 (Fits w32) y → XorRotated k n x y
xor_rotated_by_parts k low high n [] y long fits = refl
xor_rotated_by_parts k low high n (a ∷ x) [] long fits = refl
xor_rotated_by_parts k low high zero (a ∷ x) (b ∷ y) long fits = absurd (omega arith)
xor_rotated_by_parts k low high (suc n) (a ∷ x) (b ∷ y) long fits =
    ap₂ (λ v z. v ∷ z) (xor_parts a b k fits.0.fits low high) (xor_rotated_by_parts k low high n x y (omega arith) fits.1)

-- the four steps of the quarter rounds on whole vectors
abbrev quarter_steps : List ℕ → List ℕ → List ℕ → List ℕ → List ℕ × List ℕ × List ℕ × List ℕ
quarter_steps a b c d =
    let b' = xor_rotated 7 b (zip2 add32 a d) in
    let c' = xor_rotated 9 c (zip2 add32 b' a) in
    let d' = xor_rotated 13 d (zip2 add32 c' b') in
    let a' = xor_rotated 18 a (zip2 add32 d' c') in
    (a', b', c', d')

-- with four lanes each they are the quarter rounds
pub quarter_rounds_are : (a : List ℕ) → length a ≡ 4 → (b : List ℕ) → length b ≡ 4
    → (c : List ℕ) → length c ≡ 4 → (d : List ℕ) → length d ≡ 4 → quarter_steps a b c d ≡ quarter_rounds a b c d
unfolding quarter_round
quarter_rounds_are = four_vectors (λ a b c d. quarter_steps a b c d ≡ quarter_rounds a b c d) (λ a0 a1 a2 a3 b0 b1 b2 b3 c0 c1 c2 c3 d0 d1 d2 d3. refl)

-- the lanes after the quarter rounds of the columns and of the rows
abbrev DoubleRound : List ℕ → List ℕ → List ℕ → List ℕ → Type 0
DoubleRound a b c d =
    let rows = turned (quarter_rounds a b c d) in
    turned (quarter_rounds rows.0 rows.1 rows.2 rows.3)
    ≡ lanes_of (diagonal_order (double_round (standard_order (a ++ b ++ c ++ d))))

pub double_rounds_are : (a : List ℕ) → length a ≡ 4 → (b : List ℕ) → length b ≡ 4
    → (c : List ℕ) → length c ≡ 4 → (d : List ℕ) → length d ≡ 4 → DoubleRound a b c d
unfolding double_round permuted
double_rounds_are = four_vectors DoubleRound (λ a0 a1 a2 a3 b0 b1 b2 b3 c0 c1 c2 c3 d0 d1 d2 d3. refl)

-- the lanes of a block, one after another
abbrev pub joined : List ℕ × List ℕ × List ℕ × List ℕ → List ℕ
joined lanes = lanes.0 ++ lanes.1 ++ lanes.2 ++ lanes.3

-- a block is its four rows of lanes, which are four each
pub lanes_joined : (l : List ℕ × List ℕ × List ℕ × List ℕ) (x : List ℕ) → length x ≡ 16 → l ≡ lanes_of x → joined l ≡ x
lanes_joined l x long is = ap joined is ∙ simp append_assoc (sym (simp append-nil at (parts_all (part 4 x) 4 4 x long (λ k h. refl))))

pub length-joined : (l : List ℕ × List ℕ × List ℕ × List ℕ) → AreFourEach l → length (joined l) ≡ 16
length-joined l four = simp length-append (omega (arith, four.a, four.b, four.c, four.d))

pub length-round : (x : List ℕ) → length (diagonal_round x) ≡ length x
length-round x = length-permuted pivot _ ∙ length-double_round _ ∙ length-permuted inverse_pivot x

-- an operation on the lanes of two blocks
pub zip_joined : (f : ℕ → ℕ → ℕ) (l m : List ℕ × List ℕ × List ℕ × List ℕ) → AreFourEach l → AreFourEach m
    → joined (zip2 f l.0 m.0, zip2 f l.1 m.1, zip2 f l.2 m.2, zip2 f l.3 m.3) ≡ zip2 f (joined l) (joined m)
zip_joined f l m four_l four_m =
    four_vectors (λ a b c d. joined (zip2 f a m.0, zip2 f b m.1, zip2 f c m.2, zip2 f d m.3) ≡ zip2 f (joined (a, b, c, d)) (joined m))
    (λ a0 a1 a2 a3 b0 b1 b2 b3 c0 c1 c2 c3 d0 d1 d2 d3.
    let a = a0 ∷ a1 ∷ a2 ∷ a3 ∷ [] in
    let b = b0 ∷ b1 ∷ b2 ∷ b3 ∷ [] in
    let c = c0 ∷ c1 ∷ c2 ∷ c3 ∷ [] in
    let d = d0 ∷ d1 ∷ d2 ∷ d3 ∷ [] in
    four_vectors (λ w x y z. joined (zip2 f a w, zip2 f b x, zip2 f c y, zip2 f d z) ≡ zip2 f (joined (a, b, c, d)) (joined (w, x, y, z)))
    (λ w0 w1 w2 w3 x0 x1 x2 x3 y0 y1 y2 y3 z0 z1 z2 z3. refl) m.0 four_m.a m.1 four_m.b m.2 four_m.c m.3 four_m.d)
    l.0 four_l.a l.1 four_l.b l.2 four_l.c l.3 four_l.d

-- the words x in diagonal order, of a block s in standard order
abbrev IsInOrder : List ℕ → List ℕ → Type 0
IsInOrder x s = (x ≡ diagonal_order s) × (length s ≡ 16)

next_round : (x s : List ℕ) → IsInOrder x s → IsInOrder (diagonal_round x) (double_round s)
next_round x s (is, long) =
    let whole : length x ≡ 16 = ap length is ∙ length-permuted pivot s ∙ long in
    (ap (λ z. diagonal_order (double_round z)) (standard_of diagonal_inverse x s (omega arith) is), length-double_round s ∙ long)

-- the core is the sum of a block and of what four double rounds make of it
pub core_of_rounds : (x : List ℕ) → length x ≡ 16
    → zip2 add32 x (diagonal_round (diagonal_round (diagonal_round (diagonal_round x)))) ≡ diagonal_core x
unfolding salsa20_8
core_of_rounds x long =
    let s = standard_order x in
    let is : IsInOrder x s = (sym (out_then_in diagonal_inverse x (omega arith)), length-permuted inverse_pivot x ∙ long) in
    let (rounds, same) = next_round _ _ (next_round _ _ (next_round _ _ (next_round x s is))) in
    ap₂ (zip2 add32) is.0 rounds ∙ zip_in diagonal_inverse add32 s _ (is.1 ∙ sym same) (omega (arith, is.1))

-- what holds of both parts of all vectors of eight lanes
pub eight_lanes : (P : List ℕ → ℕ → Type 0)
    → ((a0 a1 a2 a3 b0 b1 b2 b3 : ℕ) → let x : List ℕ = a0 ∷ a1 ∷ a2 ∷ a3 ∷ b0 ∷ b1 ∷ b2 ∷ b3 ∷ [] in P x 0 × P x 1)
    → (x : List ℕ) → length x ≡ 8 → (k : ℕ) → k < 2 → P x k
eight_lanes P p x long k h =
    let both = subst (λ x. P x 0 × P x 1) (sym (fill_by_all (λ k. get_or x k 0) x 8 0 long (λ k h. refl))) (p _ _ _ _ _ _ _ _) in
    elim (cases_lt k 1) [
      | inl lt ↦ let is : 0 ≡ k = omega arith in subst (P x) is both.0
      | inr ge ↦ let is : 1 ≡ k = omega arith in subst (P x) is both.1
    ]

-- the lanes that are picked by `places`, of part k of a vector, are turned to the left by n places
abbrev pub AreTurned : ℕ → List ℕ → List ℕ → ℕ → Type 0
AreTurned n places x k = part 4 (pick_l 0 (x ++ x) places) k ≡ turned_left n (part 4 x k)

-- a block in vectors of four lanes
pub block_of_lanes : (x a b c d : List ℕ) → length x ≡ 16 → a ≡ part 4 x 0 → b ≡ part 4 x 1 → c ≡ part 4 x 2 → d ≡ part 4 x 3
    → joined (part 4 a 0, part 4 b 0, part 4 c 0, part 4 d 0) ≡ x
block_of_lanes x a b c d long is_a is_b is_c is_d =
    let whole = λ (v : List ℕ) (k : ℕ) (inside : k < 4) (is : v ≡ part 4 x k).
    take_all 4 v (omega (arith, ap length is, length-part 4 k x (omega arith))) ∙ is in
    lanes_joined (part 4 a 0, part 4 b 0, part 4 c 0, part 4 d 0) x long (rw (whole a 0 (omega arith) is_a, whole b 1 (omega arith) is_b, whole c 2 (omega arith) is_c, whole d 3 (omega arith) is_d) refl)

-- a block of a list is the lanes that are there
pub block_lanes : (x : List ℕ) (i : ℕ) → i * 16 + 16 ≤ length x → {a b c d : List ℕ} → a ≡ part 4 x (4 * i) → b ≡ part 4 x (4 * i + 1)
    → c ≡ part 4 x (4 * i + 2) → d ≡ part 4 x (4 * i + 3) → joined (a, b, c, d) ≡ block x i
block_lanes x i room {a} {b} {c} {d} is_a is_b is_c is_d =
    let lanes = λ (j : ℕ) (inside : j < 4). part-take 4 j 16 (drop (i * 16) x) (omega arith) ∙ part_of_block x i j in
    grind (arith, lanes_joined, length-part)

-- the blocks that lanes are read from and written to
pub ruleset blocks_of_lanes = (block_lanes, block_same, common_steps, length-part, length-part_of, part_inside, places, zero-add)
