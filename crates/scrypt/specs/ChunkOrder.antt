-- The chunks of B mixed one after another, in any order.
use Rattle.std.specs.Prelude.{◌≡◌, ℕ, ◌+◌, ◌*◌, ◌<◌, List, [], ◌∷◌, ◌++◌, take, drop, nat_eq, All, count_by}
use Rattle.scrypt.specs.Key.{mixed_chunk}

-- the list names each of n chunks once, and no others
pub record NamesEachOnce (n : ℕ) (order : List ℕ) : Type 0 where
  pub below : All (λ i. i < n) order
  pub once : (i : ℕ) → i < n → count_by (nat_eq i) order ≡ 1

-- B with its chunk i replaced by that chunk after scryptROMix
abbrev pub with_chunk_mixed : ℕ → ℕ → List ℕ → ℕ → List ℕ
with_chunk_mixed log_n r b i =
    take (i * (128 * r)) b ++ (mixed_chunk b log_n r i ++ drop ((i + 1) * (128 * r)) b)

-- B after the chunks of this list, in its order
abbrev pub mixed_in_order : ℕ → ℕ → List ℕ → List ℕ → List ℕ
mixed_in_order log_n r b [] = b
mixed_in_order log_n r b (i ∷ order) = mixed_in_order log_n r (with_chunk_mixed log_n r b i) order
