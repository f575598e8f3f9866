use Rattle.std.proofs.Common.{arith, ◌≡◌, ℕ, List, [], ◌∷◌, bit_xor, refl, ap₂}
use Rattle.std.specs.Int.Bits.{xor_assoc, xor_comm}
use Rattle.scrypt_kernel.specs.Words.{xor_words}
use Rattle.scrypt_kernel.proofs.cores.simd.scalars.ScalarsLanes.xor.Goals as goal

xor_exchange : (a b c d : ℕ) → bit_xor (bit_xor a b) (bit_xor c d) ≡ bit_xor (bit_xor a c) (bit_xor b d)
xor_exchange a b c d = grind (arith, xor_assoc, xor_comm)

-- words and vectors are joined in either order
xors_exchange : (w x y z : List ℕ) → xor_words (xor_words w x) (xor_words y z) ≡ xor_words (xor_words w y) (xor_words x z)
xors_exchange [] x y z = refl
xors_exchange (a ∷ w) [] [] z = refl
xors_exchange (a ∷ w) [] (c ∷ y) z = refl
xors_exchange (a ∷ w) (b ∷ x) [] z = refl
xors_exchange (a ∷ w) (b ∷ x) (c ∷ y) [] = refl
xors_exchange (a ∷ w) (b ∷ x) (c ∷ y) (d ∷ z) = ap₂ (λ v l. v ∷ l) (xor_exchange a b c d) (xors_exchange w x y z)

pub returns-clause-value : goal.returns-clause-value
returns-clause-value c k =
    xors_exchange (c.args.self.a ∷ c.args.self.b ∷ c.args.self.c ∷ c.args.self.d ∷ []) (c.args.y.a ∷ c.args.y.b ∷ c.args.y.c ∷ c.args.y.d ∷ [])
    c.args.self.row c.args.y.row
