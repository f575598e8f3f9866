-- Facts on words whose blocks are permuted, and on the number that the last block's bytes write.
use Rattle.std.proofs.lemmas.Grind.{common_steps}
use Rattle.std.proofs.lemmas.List.{places, ext_get_or, get_or-take, get_or-drop, get_or-map, length-map, drop_more}
use Rattle.std.proofs.Common.{◌≡◌, ℕ, ◌<◌, ◌≤◌, ◌+◌, ◌*◌, ◌/◌, ◌%◌, List, length, map, get_or, refl, sym, ap, ◌∙◌, arith, zero-add}
use Rattle.std.proofs.lemmas.Bool.{ltb-true}
use Rattle.std.proofs.Math.ListN.{get_or-eq_default}
use Rattle.std.proofs.lemmas.List.FromFn.{length-map-range_with_len, get_or-map-range_with_len, get_or-range_with_len}
use Rattle.std.specs.List.{list_all, range_with_len}
use Rattle.std.specs.Prelude.{IsTrue, nat_lt}
use Rattle.std.specs.Simd.Lanes.{zip2}
use Rattle.std.proofs.lemmas.Simd.{length-zip2, get_or-zip2}
use Rattle.scrypt_kernel.specs.{AreInverse, block, bytes_of, integerify, inverse_pivot, last_block, le_number, part, permuted, pivot}
use Rattle.scrypt_kernel.proofs.PartFacts.{length-part}
use Rattle.std.proofs.Common.{◌-◌, ◌^◌, ◌∷◌, ◌++◌, take, drop, bit_and, bit_or}
use Rattle.std.specs.Int.{w32, to_le_bytes}
use Rattle.std.proofs.lemmas.Nat.{pow-add, and_mask, one_shl, or_shifted, shl_whole}
use Rattle.std.proofs.Math.Nat.{add-mul-mod_self_left, mul_assoc}

pub length-permuted : (p x : List ℕ) → length (permuted p x) ≡ length x
unfolding permuted
length-permuted p x = length-map-range_with_len _ 0 (length x)

pub get_or-permuted : (p x : List ℕ) (i : ℕ) → i < length x
    → get_or (permuted p x) i 0 ≡ get_or x (16 * (i / 16) + get_or p (i % 16) 0) 0
unfolding permuted
get_or-permuted p x i h = grind (arith, get_or-map-range_with_len)

-- p names places of a block
abbrev pub IsWithin : List ℕ → Type 0
IsWithin p = (j : ℕ) → get_or p j 0 < 16

pub within : (p : List ℕ) → IsTrue (list_all (λ j. nat_lt j 16) p) → IsWithin p
within p h j = grind (arith, common_steps, places, ltb-true, get_or-eq_default)

-- q undoes p
abbrev Undoes : List ℕ → List ℕ → Type 0
Undoes q p = (j : ℕ) → j < 16 → get_or p (get_or q j 0) 0 ≡ j

undoes : (p q : List ℕ) → map (λ j. get_or p j 0) q ≡ range_with_len 0 16 → Undoes q p
undoes p q undone j h =
    let long : length q ≡ 16 = sym (length-map q (λ j. get_or p j 0)) ∙ ap length undone in
    sym (get_or-map (λ j. get_or p j 0) q j 0 0 (omega arith)) ∙ ap (λ z. get_or z j 0) undone
    ∙ get_or-range_with_len 0 16 j 0 h ∙ zero-add j

permuted_back : (p q : List ℕ) → IsWithin q → Undoes q p → (x : List ℕ) → length x % 16 ≡ 0
    → permuted q (permuted p x) ≡ x
permuted_back p q inside back x whole =
    ext_get_or 0 _ _ (simp length-permuted) (λ i h.
    grind (arith, get_or-permuted, length-permuted))

module _ (p : List ℕ) (inside : IsWithin p) where
  pub part_permuted : (s k : ℕ) (x : List ℕ) → s % 16 ≡ 0 → k * s + s ≤ length x → part s (permuted p x) k ≡ permuted p (part s x k)
  part_permuted s k x whole room =
      let size : s ≡ s / 16 * 16 = omega arith in
      let blocks : k * s ≡ k * (s / 16) * 16 = ap (λ n. k * n) size ∙ omega arith in
      let one = length-part s k (permuted p x) (omega (arith, length-permuted p x)) in
      let two = length-part s k x room in
      ext_get_or 0 _ _ (one ∙ sym (length-permuted p (part s x k) ∙ two)) (λ i h.
      grind (arith, get_or-take, get_or-drop, get_or-permuted))

  -- an operation word by word
  zip_permuted : (f : ℕ → ℕ → ℕ) (x y : List ℕ) → length x ≡ length y → length x % 16 ≡ 0
      → zip2 f (permuted p x) (permuted p y) ≡ permuted p (zip2 f x y)
  zip_permuted f x y same whole =
      let both = length-zip2 f x y same in
      let left = length-zip2 f (permuted p x) (permuted p y) (simp length-permuted same) in
      ext_get_or 0 _ _ (left ∙ simp length-permuted (sym both)) (λ i h.
      grind (
        arith,
        get_or-permuted,
        length-permuted,
        get_or-zip2 f (permuted p x) (permuted p y) i 0 0 0,
        get_or-zip2 f x y (16 * (i / 16) + get_or p (i % 16) 0) 0 0 0,
      ))

-- a block whose words come from the places of p
pub block_by_places : (p x y : List ℕ) → length x ≡ 16 → length y ≡ 16
    → ((j : ℕ) → j < 16 → get_or y j 0 ≡ get_or x (get_or p j 0) 0) → y ≡ permuted p x
block_by_places p x y long_x long_y each =
    ext_get_or 0 y (permuted p x) (grind (arith, length-permuted)) (λ j h.
    grind (arith, get_or-permuted))

-- the order of the standard leaves each word where it is
pub permuted_in_place : (x : List ℕ) → permuted (range_with_len 0 16) x ≡ x
permuted_in_place x =
    ext_get_or 0 _ _ (length-permuted _ x) (λ i h.
    let below : i < length x = omega (arith, length-permuted (range_with_len 0 16) x) in
    let same = get_or-range_with_len 0 16 (i % 16) 0 (omega arith) in
    let at : 16 * (i / 16) + (0 + i % 16) ≡ i = omega arith in
    get_or-permuted (range_with_len 0 16) x i below ∙ rw (same, at) refl)

-- two tables that undo each other
module _ {p q : List ℕ} (inverse : AreInverse p q) where
  pub in_then_out : (x : List ℕ) → length x % 16 ≡ 0 → permuted q (permuted p x) ≡ x
  in_then_out x whole = permuted_back p q (within q inverse.inverse_places) (undoes p q inverse.undone) x whole

  pub out_then_in : (x : List ℕ) → length x % 16 ≡ 0 → permuted p (permuted q x) ≡ x
  out_then_in x whole = permuted_back q p (within p inverse.places) (undoes q p inverse.redone) x whole

  pub block_in : (x : List ℕ) (k : ℕ) → k * 16 + 16 ≤ length x → block (permuted p x) k ≡ permuted p (block x k)
  block_in x k room = part_permuted p (within p inverse.places) 16 k x refl room

  -- the words whose permutation is x
  pub standard_of : (x w : List ℕ) → length x % 16 ≡ 0 → x ≡ permuted p w → permuted q x ≡ w
  standard_of x w whole is = grind (arith, length-permuted, in_then_out)

  pub zip_out : (f : ℕ → ℕ → ℕ) (x y : List ℕ) → length x ≡ length y → length x % 16 ≡ 0
      → permuted q (zip2 f x y) ≡ zip2 f (permuted q x) (permuted q y)
  zip_out f x y same whole = sym (zip_permuted q (within q inverse.inverse_places) f x y same whole)

  pub zip_in : (f : ℕ → ℕ → ℕ) (x y : List ℕ) → length x ≡ length y → length x % 16 ≡ 0
      → zip2 f (permuted p x) (permuted p y) ≡ permuted p (zip2 f x y)
  zip_in f x y same whole = zip_permuted p (within p inverse.places) f x y same whole

-- the tables of the diagonal order
pub diagonal_inverse : AreInverse pivot inverse_pivot
diagonal_inverse = record { places = refl; inverse_places = refl; undone = refl; redone = refl }

-- the two orders of words, and the two tables of places
pub ruleset orders_are_inverse = (in_then_out, out_then_in, diagonal_inverse)

-- the number of a word's bytes and more bytes
le_word : (w : ℕ) (bs : List ℕ) → w < 2 ^ 32 → le_number (to_le_bytes w32 w ++ bs) ≡ w + 2 ^ 32 * le_number bs
le_word w bs fits = omega arith

-- the number of the bytes of two words and more words
le_words : (u w : ℕ) (ws : List ℕ) → u < 2 ^ 32 → w < 2 ^ 32
    → le_number (bytes_of (u ∷ w ∷ ws)) ≡ u + 2 ^ 32 * w + 2 ^ 64 * le_number (bytes_of ws)
le_words u w ws u_fits w_fits = grind (arith, le_word)

-- the low bits of the last block's number, by its first two words
pub integerify_low : (x : List ℕ) (a k : ℕ) → a + 16 ≡ length x → length x % 16 ≡ 0 → k ≤ 64
    → get_or x a 0 < 2 ^ 32 → get_or x (a + 1) 0 < 2 ^ 32
    → integerify x % 2 ^ k ≡ (get_or x a 0 + 2 ^ 32 * get_or x (a + 1) 0) % 2 ^ k
integerify_low x a k at whole small u_fits w_fits =
    let u = get_or x a 0 in
    let w = get_or x (a + 1) 0 in
    let rest : List ℕ = take 14 (drop (a + 1 + 1) x) in
    let start : (length x / 16 - 1) * 16 ≡ a = omega arith in
    let first = drop_more x a 0 (omega arith) in
    let second = drop_more x (a + 1) 0 (omega arith) in
    let written : last_block x ≡ u ∷ w ∷ rest = grind arith in
    let r : ℕ = le_number (bytes_of rest) in
    let j : ℕ = 64 - k in
    let whole_bits : k + j ≡ 64 = omega arith in
    let high : 2 ^ 64 * r ≡ 2 ^ k * (2 ^ j * r) =
    ap (λ i. 2 ^ i * r) (sym whole_bits) ∙ ap (λ m. m * r) (pow-add 2 k j) ∙ mul_assoc (2 ^ k) (2 ^ j) r in
    grind (arith, le_words, add-mul-mod_self_left)

-- the low bits of two words, as the code makes them
pub low_bits : (u w k : ℕ) → u < 2 ^ 32 → w < 2 ^ 32 → k < 64
    → bit_and (bit_or (w * 2 ^ 32 % 2 ^ 64) u) (1 * 2 ^ k % 2 ^ 64 - 1) ≡ (u + 2 ^ 32 * w) % 2 ^ k
low_bits u w k u_fits w_fits small = grind (arith, common_steps, places, shl_whole, one_shl, or_shifted, and_mask)
