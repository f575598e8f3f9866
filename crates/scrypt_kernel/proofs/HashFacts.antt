-- Facts on the blocks that SHA-256 compresses.
use Rattle.std.proofs.lemmas.List.{places}
use Rattle.std.proofs.Common.{◌≡◌, ◌∙◌, ℕ, ◌+◌, ◌*◌, ◌%◌, List, ap, arith, length}
use Rattle.std.proofs.lemmas.Bool.{le-ltb, lt-ltb}
use Rattle.std.proofs.lemmas.Grind.{common_steps}
use Rattle.sha2.proofs.Facts256.{length-sha256}
use Rattle.sha2.specs.Hashers.{Holds256}
use Rattle.scrypt_kernel.specs.{AreHashed, padded_key}
use Rattle.sha2.specs.Sha256.{Holds}
use Rattle.sha2.specs.declared.Sha256.{Sha256}
use Rattle.scrypt_kernel.specs.declared.cores.count.CoreCount.{CoreCount}
use Rattle.scrypt_kernel.proofs.CountFacts.{hashed_none}

-- how many bytes a hasher holds of a block
pub same_fill : (s : Sha256) (m : List ℕ) → Holds256 s m → s.core.total % 64 ≡ length m % 64
unfolding Holds
same_fill s m held = omega (arith, held.0)

pub length-padded_key : (secret : List ℕ) → length (padded_key secret) ≡ 64
length-padded_key secret = grind (arith, common_steps, places, lt-ltb, length-sha256, le-ltb)

-- the ends of n texts and of m more, each of which costs the same
pub more_blocks : (e n m k : ℕ) → n + m ≡ k → n * e + m * e ≡ k * e
more_blocks e n m k sum = grind arith

-- none yet
pub no_ends_hashed : (n e : ℕ) (a : CoreCount) → n ≡ 0 → AreHashed (n * e) a a
no_ends_hashed n e a none = hashed_none (n * e) a (ap (λ z. z * e) none ∙ omega arith)
