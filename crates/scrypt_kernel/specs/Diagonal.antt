-- Diagonal order: in each block the words of the four diagonals follow one another, so that the
-- four columns of a double round are the lanes of four vectors of four words. This order is not the
-- standard's.
use Rattle.std.specs.Prelude.{◌≡◌, ℕ, ◌+◌, ◌*◌, ◌/◌, ◌%◌, ◌<◌, List, [], ◌∷◌, map, length, slice_index, nat_lt, IsTrue}
use Rattle.scrypt_kernel.specs.Words.{block, last_block, xor_words}
use Rattle.scrypt_kernel.specs.Salsa.{double_round, salsa20_8}
use Rattle.scrypt_kernel.specs.BlockMix.{chain}
use Rattle.std.specs.List.{list_all, range_with_len}

-- pivot[i] is the standard index of the word that diagonal order has at index i
abbrev pub pivot : List ℕ
pivot = 0 ∷ 5 ∷ 10 ∷ 15 ∷ 4 ∷ 9 ∷ 14 ∷ 3 ∷ 8 ∷ 13 ∷ 2 ∷ 7 ∷ 12 ∷ 1 ∷ 6 ∷ 11 ∷ []

-- inverse_pivot[i] is the index in diagonal order of the word of standard index i
abbrev pub inverse_pivot : List ℕ
inverse_pivot = 0 ∷ 13 ∷ 10 ∷ 7 ∷ 4 ∷ 1 ∷ 14 ∷ 11 ∷ 8 ∷ 5 ∷ 2 ∷ 15 ∷ 12 ∷ 9 ∷ 6 ∷ 3 ∷ []

-- in each block, the word from index p[i] at index i
unfoldable pub permuted : List ℕ → List ℕ → List ℕ
permuted p x =
    map (λ i. slice_index x (16 * (i / 16) + slice_index p (i % 16))) (range_with_len 0 (length x))

-- words in standard order, put into diagonal order
abbrev pub diagonal_order : List ℕ → List ℕ
diagonal_order x = permuted pivot x

-- words in diagonal order, put into standard order
abbrev pub standard_order : List ℕ → List ℕ
standard_order x = permuted inverse_pivot x

-- the tables p and q have indices in a block of 16 words, and are inverse to each other
pub record AreInverse (p q : List ℕ) : Type 0 where
  pub places : IsTrue (list_all (λ j. nat_lt j 16) p)
  pub inverse_places : IsTrue (list_all (λ j. nat_lt j 16) q)
  pub undone : map (slice_index p) q ≡ range_with_len 0 16
  pub redone : map (slice_index q) p ≡ range_with_len 0 16

-- the core on a block in diagonal order
abbrev pub diagonal_core : List ℕ → List ℕ
diagonal_core x = diagonal_order (salsa20_8 (standard_order x))

-- a double round on a block in diagonal order
abbrev pub diagonal_round : List ℕ → List ℕ
diagonal_round x = diagonal_order (double_round (standard_order x))

-- out is the block mix of b with f in place of the core, and x i is X before step i
pub record IsBlockMixBy (f : List ℕ → List ℕ) (b out : List ℕ) : Type 0 where
  pub x : ℕ → List ℕ
  pub first : x 0 ≡ last_block b
  pub next : (i : ℕ) → i < length b / 16 → x (i + 1) ≡ f (xor_words (x i) (block b i))
  pub long : length out ≡ length b
  pub even : (k : ℕ) → k < length b / 32 → block out k ≡ x (2 * k + 1)
  pub odd : (k : ℕ) → k < length b / 32 → block out (length b / 32 + k) ≡ x (2 * k + 1 + 1)

-- X before step i of the block mix of b, which is in the order p, and q is the inverse of p
abbrev pub chain_in : List ℕ → List ℕ → List ℕ → ℕ → List ℕ
chain_in p q b i = permuted p (chain (permuted q b) i)

-- after i double steps of this block mix: X is x, and output has the blocks that these steps wrote
pub record AfterTurns (p q b : List ℕ) (i : ℕ) (x output : List ℕ) : Type 0 where
  pub chained : x ≡ chain_in p q b (2 * i)
  pub even : (k : ℕ) → k < i → block output k ≡ chain_in p q b (2 * k + 1)
  pub odd : (k : ℕ) → k < i → block output (length b / 32 + k) ≡ chain_in p q b (2 * k + 1 + 1)
