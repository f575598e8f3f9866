-- Facts on scryptBlockMix.
use Rattle.std.proofs.lemmas.Grind.{common_steps}
use Rattle.std.proofs.lemmas.List.{places, append-nil, length-append}
use Rattle.std.proofs.Common.{◌≡◌, ◌≢◌, ℕ, zero, suc, ◌+◌, ◌-◌, ◌*◌, ◌/◌, ◌%◌, ◌<◌, ◌≤◌, List, [], length, zero-add, bit_xor, add-one, refl, sym, ap, ◌∙◌, arith}
use Rattle.std.proofs.lemmas.Simd.{length-zip2}
use Rattle.std.specs.List.{flat_map, range_with_len}
use Rattle.scrypt_kernel.specs.{AfterTurns, AreInverse, IsBlockMixBy, IsRowLen, block, block_mix, chain, chain_in, permuted, salsa20_8, xor_words, y}
use Rattle.scrypt_kernel.proofs.PartFacts.{halves_all, length-part, length-parts, part_after, part_of_parts}
use Rattle.scrypt_kernel.proofs.SalsaFacts.{length-salsa20_8}
use Rattle.scrypt_kernel.proofs.OrderFacts.{block_in, length-permuted, out_then_in, standard_of, zip_in}

-- one more step of the chain
chain_more : (b : List ℕ) (i : ℕ) → chain b (i + 1) ≡ salsa20_8 (xor_words (chain b i) (block b i))
unfolding chain
chain_more b i = rw add-one refl

length-chain : (b : List ℕ) → 16 ≤ length b → length b % 16 ≡ 0 → (i : ℕ) → i * 16 ≤ length b → length (chain b i) ≡ 16
unfolding chain
length-chain b some whole zero room = length-part 16 (length b / 16 - 1) b (omega arith)
length-chain b some whole (suc i) room =
    let before = length-chain b some whole i (omega arith) in
    let one : length (block b i) ≡ 16 = length-part 16 i b (omega arith) in
    length-salsa20_8 _ ∙ length-zip2 bit_xor (chain b i) (block b i) (before ∙ sym one) ∙ before

-- the parts of a block mix, and their length
module _ (b : List ℕ) (some : 0 < length b) (whole : length b % 32 ≡ 0) where
  length-y : (i : ℕ) → i < length b / 16 → length (y b i) ≡ 16
  length-y i inside = length-chain b (omega arith) (omega arith) (i + 1) (omega arith)

  length-even : length (flat_map (λ k. y b (2 * k)) (range_with_len 0 (length b / 32))) ≡ length b / 32 * 16
  length-even = length-parts (λ k. y b (2 * k)) 16 0 (length b / 32) (λ k h. length-y (2 * (0 + k)) (omega arith))

  pub length-block_mix : length (block_mix b) ≡ length b
  unfolding block_mix
  length-block_mix = grind (arith, length-parts, length-y, length-append, length-even)

  even_block : (k : ℕ) → k < length b / 32 → block (block_mix b) k ≡ y b (2 * k)
  unfolding block_mix
  even_block k inside =
      part_of_parts (λ k. y b (2 * k)) 16 0 (length b / 32) k _ (λ k h. length-y (2 * (0 + k)) (omega arith)) inside
      ∙ ap (λ i. y b (2 * i)) (zero-add k)

  odd_block : (k : ℕ) → k < length b / 32 → block (block_mix b) (length b / 32 + k) ≡ y b (2 * k + 1)
  unfolding block_mix
  odd_block k inside =
      let r : ℕ = length b / 32 in
      let odd = flat_map (λ k. y b (2 * k + 1)) (range_with_len 0 r) in
      part_after 16 r k (flat_map (λ k. y b (2 * k)) (range_with_len 0 r)) odd length-even
      ∙ ap (λ z. block z k) (sym (append-nil odd))
      ∙ part_of_parts (λ k. y b (2 * k + 1)) 16 0 r k [] (λ k h. length-y (2 * (0 + k) + 1) (omega arith)) inside
      ∙ ap (λ i. y b (2 * i + 1)) (zero-add k)

-- the core of words in another order
abbrev core_in : List ℕ → List ℕ → List ℕ → List ℕ
core_in p q x = permuted p (salsa20_8 (permuted q x))

-- the block mix of words in another order, by the core in that order
module _ {p q : List ℕ} (inverse : AreInverse p q) (b : List ℕ) (some : 0 < length b) (whole : length b % 32 ≡ 0) where
  next_in : (i : ℕ) → i * 16 + 16 ≤ length b
      → permuted p (chain b (i + 1)) ≡ core_in p q (xor_words (permuted p (chain b i)) (block (permuted p b) i))
  next_in i room =
      grind (arith, common_steps, places, length-chain, length-part, length-permuted, length-zip2, block_in, zip_in, standard_of, chain_more)

  pub block_mix_by : IsBlockMixBy (core_in p q) (permuted p b) (permuted p (block_mix b))
  unfolding chain
  block_mix_by =
      let long : length (permuted p b) ≡ length b = length-permuted p b in
      let mixed : length (block_mix b) ≡ length b = length-block_mix b some whole in
      record {
        x = λ i. permuted p (chain b i);
        first = rw long (sym (block_in inverse b (length b / 16 - 1) (omega arith)));
        next = λ i h. next_in i (omega arith);
        long = length-permuted p (block_mix b) ∙ mixed ∙ sym long;
        even = λ k h. block_in inverse (block_mix b) k (omega arith) ∙ ap (permuted p) (even_block b some whole k (omega arith));
        odd = λ k h. grind (arith, block_in, odd_block);
      }

-- the block mix is a block mix by the core
pub block_mix_by_core : (b : List ℕ) → 0 < length b → length b % 32 ≡ 0 → IsBlockMixBy salsa20_8 b (block_mix b)
unfolding chain
block_mix_by_core b some whole = record {
  x = chain b;
  first = refl;
  next = λ i h. chain_more b i;
  long = length-block_mix b some whole;
  even = even_block b some whole;
  odd = odd_block b some whole;
}

-- X before each step is the same in both
same_x : {f : List ℕ → List ℕ} {b out other : List ℕ} (one : IsBlockMixBy f b out) (two : IsBlockMixBy f b other)
    → (i : ℕ) → i ≤ length b / 16 → one.x i ≡ two.x i
same_x one two zero room = one.first ∙ sym two.first
same_x {f} {b} one two (suc i) room =
    let before = same_x one two i (omega arith) in
    let next = one.next i (omega arith) ∙ ap (λ x. f (xor_words x (block b i))) before ∙ sym (two.next i (omega arith)) in
    rw (← add-one) next

-- a core has one block mix
pub block_mix_by_once : (f : List ℕ → List ℕ) (b out other : List ℕ) → length b % 32 ≡ 0
    → IsBlockMixBy f b out → IsBlockMixBy f b other → out ≡ other
block_mix_by_once f b out other whole one two =
    let r : ℕ = length b / 32 in
    let long : length out ≡ 2 * r * 16 = omega (arith, one.long, whole) in
    let other_long : length other ≡ 2 * r * 16 = omega (arith, two.long, whole) in
    let first = halves_all (λ k. one.x (2 * k + 1)) (λ k. one.x (2 * k + 1 + 1)) 16 r out long one.even one.odd in
    let second = halves_all (λ k. one.x (2 * k + 1)) (λ k. one.x (2 * k + 1 + 1)) 16 r other other_long
    (λ k h. two.even k h ∙ sym (same_x one two (2 * k + 1) (omega arith)))
    (λ k h. two.odd k h ∙ sym (same_x one two (2 * k + 1 + 1) (omega arith))) in
    first ∙ sym second

-- the block mix by the core in another order is that of the words in standard order
pub mixed_in : {p q : List ℕ} → AreInverse p q → (input : List ℕ) → 0 < length input → length input % 32 ≡ 0
    → IsBlockMixBy (core_in p q) input (permuted p (block_mix (permuted q input)))
mixed_in {p} {q} inverse input some whole =
    let long : length (permuted q input) ≡ length input = length-permuted q input in
    let standard = block_mix_by inverse (permuted q input) (omega arith) (omega arith) in
    rw (out_then_in inverse input (omega arith)) at standard

-- the turns of the block mix of b, which is in another order
module _ {p q : List ℕ} (inverse : AreInverse p q) (b : List ℕ) {len : ℕ} (row : IsRowLen len) (long : length b ≡ len) where
  chain_first : chain_in p q b 0 ≡ block b (length b / 16 - 1)
  unfolding chain
  chain_first = grind (arith, common_steps, places, length-permuted, block_in, out_then_in)

  chain_next : (i : ℕ) → i < length b / 16 → chain_in p q b (i + 1) ≡ core_in p q (xor_words (chain_in p q b i) (block b i))
  chain_next i inside = grind (arith, length-permuted, next_in, out_then_in)

  -- before the first turn
  pub no_turn : (x output : List ℕ) → x ≡ block b (2 * (len / 32) - 1) → AfterTurns p q b 0 x output
  no_turn x output first = grind (arith, chain_first)

  -- one more turn, whose steps give x1 and x2
  pub one_more_turn : (i : ℕ) (x output x1 output1 x2 output2 : List ℕ) → i < len / 32 → AfterTurns p q b i x output
      → x1 ≡ core_in p q (xor_words x (block b (2 * i)))
      → block output1 i ≡ x1 → ((k : ℕ) → k ≢ i → block output1 k ≡ block output k)
      → x2 ≡ core_in p q (xor_words x1 (block b (2 * i + 1)))
      → block output2 (len / 32 + i) ≡ x2 → ((k : ℕ) → k ≢ len / 32 + i → block output2 k ≡ block output1 k)
      → AfterTurns p q b (i + 1) x2 output2
  one_more_turn i x output x1 output1 x2 output2 inside before is1 written1 others1 is2 written2 others2 =
      let first : x1 ≡ chain_in p q b (2 * i + 1) = rw (chain_next (2 * i) (omega arith), ← before.chained) is1 in
      let second : x2 ≡ chain_in p q b (2 * i + 1 + 1) = rw (chain_next (2 * i + 1) (omega arith), ← first) is2 in
      let even_next : 2 * i + 1 + 1 ≡ 2 * (i + 1) = omega arith in
      grind arith

  -- after the last turn
  pub all_turns : (i : ℕ) (x output : List ℕ) → i ≡ len / 32 → length output ≡ len → AfterTurns p q b i x output
      → output ≡ permuted p (block_mix (permuted q b))
  all_turns i x output done full after = block_mix_by_once (core_in p q) b output _ (omega arith) (record {
    x = chain_in p q b;
    first = chain_first;
    next = chain_next;
    long = full ∙ sym long;
    even = λ k h. after.even k (omega arith);
    odd = λ k h. after.odd k (omega arith);
  }) (mixed_in inverse b (omega arith) (omega arith))

-- a turn, in other words for the same lists
pub turns_at : (p q b b' : List ℕ) (i j : ℕ) (x y old old' new new' : List ℕ) → b ≡ b' → old ≡ old' → new ≡ new'
    → (AfterTurns p q b i x old → AfterTurns p q b j y new) → AfterTurns p q b' i x old' → AfterTurns p q b' j y new'
turns_at p q b b' i j x y old old' new new' is old_is new_is turn before = rw (← is, ← new_is) (turn (rw (is, old_is) before))
