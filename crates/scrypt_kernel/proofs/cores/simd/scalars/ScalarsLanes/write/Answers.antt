use Rattle.std.proofs.lemmas.List.{length-take-le}
use Rattle.std.proofs.Common.{◌≡◌, ◌<◌, ◌≤◌, ◌++◌, ℕ, List, length, take, drop, ◌*◌, arith, ap, refl, ◌∙◌}
use Rattle.scrypt_kernel.specs.Words.{part}
use Rattle.scrypt_kernel.proofs.PartFacts.{part_put_other, part_put_same}
use Rattle.scrypt_kernel.proofs.cores.simd.scalars.ScalarsLanes.write.Goals as goal

-- the first part
first_part : (s : ℕ) (x : List ℕ) → part s x 0 ≡ take s x
first_part s x = let none : 0 * s ≡ 0 = omega arith in ap (λ n. take s (drop n x)) none

-- part k of a list whose first part is replaced
module _ (s k : ℕ) (x ys : List ℕ) (room : s ≤ length x) (long : length ys ≡ length (take s x)) where
  first_put : k ≡ 0 → part s (ys ++ drop s x) k ≡ ys
  first_put is = rw is (part_put_same s 0 x ys 0 s (omega arith) refl (long ∙ length-take-le s x room) (omega arith))

  others_kept : 0 < k → part s (ys ++ drop s x) k ≡ part s x k
  others_kept some = part_put_other s 0 x ys 0 s (omega arith) refl (long ∙ length-take-le s x room) (omega arith) k (omega arith)

pub returns-clause-written : goal.returns-clause-written
returns-clause-written c k h = grind (arith, first_put)

pub returns-clause-others : goal.returns-clause-others
returns-clause-others c k i ne = grind (arith, others_kept, first_put, first_part)
