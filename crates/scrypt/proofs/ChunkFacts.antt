use Rattle.std.proofs.lemmas.List.{places}
use Rattle.std.proofs.Common.{◌≡◌, ◌≢◌, ℕ, ◌<◌, ◌≤◌, ◌+◌, ◌*◌, List, [], ◌∷◌, length, nat_eq, cond, refl, arith, inl, inr, zero-add, All, count_by, drop-drop, rules}
use Rattle.std.proofs.lemmas.Bool.{cases_Bool, eqb-true, eqb-false}
use Rattle.std.proofs.lemmas.List.Elements.{All-head, All-tail}
use Rattle.std.proofs.lemmas.List.Sums.{sum_by-cons}
use borrow.Rule.Slice.PartMut.{put_mid}
use Rattle.scrypt.specs.Terms.{NamesEachOnce, mixed_chunk, mixed_chunks, mixed_in_order, part, with_chunk_mixed}
use Rattle.scrypt.proofs.KeyFacts.{length-mixed_chunk}
use Rattle.scrypt_kernel.proofs.PartFacts.{length-part, part_put_same, part_put_other, parts_all, parts_apart}

-- B with one chunk replaced, part by part
module _ (b : List ℕ) (log_n r p i : ℕ) (some : 0 < r) (long : length b ≡ p * (128 * r)) (inside : i < p) where
  room : i * (128 * r) + 128 * r ≤ length b
  room = omega (arith, parts_apart (128 * r) i p inside)

  full : length (mixed_chunk b log_n r i) ≡ 128 * r
  full = length-mixed_chunk b log_n r i some room

  put : with_chunk_mixed log_n r b i ≡ put_mid (i * (128 * r)) (128 * r) b (mixed_chunk b log_n r i)
  put = grind (arith, drop-drop)

  pub length-mixed : length (with_chunk_mixed log_n r b i) ≡ p * (128 * r)
  length-mixed = search (rules, places, full, length-part, room, put)

  pub part_mixed : part (128 * r) (with_chunk_mixed log_n r b i) i ≡ mixed_chunk b log_n r i
  part_mixed = simp (put, part_put_same, full, room)

  pub part_kept : (k : ℕ) → k ≢ i → part (128 * r) (with_chunk_mixed log_n r b i) k ≡ part (128 * r) b k
  part_kept k other = grind (arith, put, part_put_other, full, room)

-- the length stays, a chunk that is not named stays, and one that is named once is mixed
record IsDone (log_n r p k : ℕ) (b order : List ℕ) : Type 0 where
  long : length (mixed_in_order log_n r b order) ≡ p * (128 * r)
  none : count_by (nat_eq k) order ≡ 0 → part (128 * r) (mixed_in_order log_n r b order) k ≡ part (128 * r) b k
  once : count_by (nat_eq k) order ≡ 1 → part (128 * r) (mixed_in_order log_n r b order) k ≡ mixed_chunk b log_n r k

done_in_order : (log_n r p k : ℕ) → 0 < r → (order b : List ℕ) → length b ≡ p * (128 * r) → All (λ i. i < p) order → IsDone log_n r p k b order
done_in_order log_n r p k some [] b long below = record { long = long; none = λ _. refl; once = λ one. absurd (omega (arith, one)) }
done_in_order log_n r p k some (i ∷ order) b long below =
    let inside : i < p = All-head (λ i. i < p) i order below in
    let rest = done_in_order log_n r p k some order (with_chunk_mixed log_n r b i) (length-mixed b log_n r p i some long inside)
    (All-tail (λ i. i < p) i order below) in
    let more = sum_by-cons (λ j. cond (nat_eq k j) 1 0) i order in
    elim (cases_Bool (nat_eq k i)) [
      | inl hit ↦ grind (arith, eqb-true, count_by, nat_eq, part_mixed)
      | inr miss ↦ grind (arith, part_kept, eqb-false, count_by, nat_eq, zero-add)
    ]

-- so all chunks are mixed
pub any_order : (b order : List ℕ) (log_n r p : ℕ) → 0 < r → length b ≡ p * (128 * r) → NamesEachOnce p order
    → mixed_in_order log_n r b order ≡ mixed_chunks b log_n r p
any_order b order log_n r p some long names =
    let done = λ (k : ℕ). done_in_order log_n r p k some order b long names.below in
    parts_all (mixed_chunk b log_n r) (128 * r) p (mixed_in_order log_n r b order) (done 0).long
    (λ k inside. (done k).once (names.once k inside))
