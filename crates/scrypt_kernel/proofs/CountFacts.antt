-- Facts on the count of cores.
use Rattle.std.proofs.Common.{◌≡◌, ℕ, ◌+◌, Bool, true, arith}
use Rattle.scrypt_kernel.specs.declared.cores.count.CoreCount.{CoreCount}
use Rattle.scrypt_kernel.specs.Count.{AreCompressed, AreCounted, AreCountedAs, AreHashed}

-- no more cores
pub counted_none : (diagonal : Bool) (n : ℕ) (a : CoreCount) → n ≡ 0 → AreCountedAs diagonal n a a
counted_none diagonal n a none = grind arith

-- the cores of one step and of the next
pub counted_both : {diagonal : Bool} {n m : ℕ} {a b c : CoreCount} (k : ℕ) → AreCountedAs diagonal n a b → AreCountedAs diagonal m b c
    → k ≡ n + m → AreCountedAs diagonal k a c
counted_both k one two sum = grind arith

-- the same number of blocks in another form
pub hashed_as : {n : ℕ} {a b : CoreCount} (k : ℕ) → AreHashed n a b → n ≡ k → AreHashed k a b
hashed_as k one is = rw is at one

-- the blocks of one step and of the next
pub hashed_both : {n m : ℕ} {a b c : CoreCount} (k : ℕ) → AreHashed n a b → AreHashed m b c → n + m ≡ k → AreHashed k a c
hashed_both k one two sum = grind arith

-- nothing hashed
pub hashed_none : (n : ℕ) (a : CoreCount) → n ≡ 0 → AreHashed n a a
hashed_none n a none = grind arith

-- the blocks of two steps that hash, and the cores between them
pub counted_between : {n m k : ℕ} {a b c d : CoreCount} → AreHashed n a b → AreCountedAs true m b c → AreHashed k c d
    → AreCounted m a d × AreCompressed (n + k) a d
counted_between before cores after = (grind arith, grind arith)

-- the cores of one call and of the next
pub counted_then : {n k p : ℕ} {a b c : CoreCount} → AreCounted n a b → AreCounted k b c → n + k ≡ p → AreCounted p a c
counted_then one two cores = grind arith

-- their blocks
pub compressed_then : {n k p : ℕ} {a b c : CoreCount} → AreCompressed n a b → AreCompressed k b c → n + k ≡ p → AreCompressed p a c
compressed_then one two blocks = grind arith
