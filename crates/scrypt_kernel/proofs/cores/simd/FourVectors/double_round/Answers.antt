use Rattle.std.proofs.Common.{arith, ◌≡◌, ◌++◌, List, ℕ, ◌∙◌, length}
use Rattle.scrypt_kernel.specs.{AreFourEach, diagonal_round, lanes_of, quarter_rounds, turned}
use Rattle.scrypt_kernel.proofs.LaneFacts.{double_rounds_are, lanes_joined, length-joined, length-round}
use Rattle.scrypt_kernel.proofs.cores.simd.FourVectors.double_round.Goals as goal

-- the lanes after both turns
lanes_after : (l m n : List ℕ × List ℕ × List ℕ × List ℕ) → AreFourEach l → m ≡ turned (quarter_rounds l.0 l.1 l.2 l.3)
    → n ≡ turned (quarter_rounds m.0 m.1 m.2 m.3) → n ≡ lanes_of (diagonal_round (l.0 ++ l.1 ++ l.2 ++ l.3))
lanes_after l m n four one two = grind (arith, double_rounds_are)

long : (l : List ℕ × List ℕ × List ℕ × List ℕ) → AreFourEach l → length (diagonal_round (l.0 ++ l.1 ++ l.2 ++ l.3)) ≡ 16
long l four = length-round _ ∙ length-joined l four

pub returns-clause-value : goal.returns-clause-value
returns-clause-value g c k h =
    let lanes = g.V.Lanes.lanes in
    let x : List ℕ × List ℕ × List ℕ × List ℕ = (lanes c.args.self.a k, lanes c.args.self.b k, lanes c.args.self.c k, lanes c.args.self.d k) in
    let four = c.turn-a.ensures.four k h in
    lanes_joined _ _ (long x four) (lanes_after x _ _ four (c.turn-a.ensures.value k h) (c.turn-a-2.ensures.value k h))
