-- The count of Salsa20/8 cores, and of the blocks of 64 bytes that SHA-256 compresses.
use Rattle.std.specs.Prelude.{◌≡◌, ℕ, ◌+◌, Bool, if◌then◌else◌}
use Rattle.scrypt_kernel.specs.declared.cores.count.CoreCount.{CoreCount}

-- n more cores were run, each of them on words in diagonal order
pub record AreCounted (n : ℕ) (before after : CoreCount) : Type 0 where
  pub all : after.all ≡ before.all + n
  pub lanes : after.lanes ≡ before.lanes + n

-- n more blocks were compressed
pub record AreCompressed (n : ℕ) (before after : CoreCount) : Type 0 where
  pub compressions : after.compressions ≡ before.compressions + n

-- n more cores were run, on words in diagonal order if diagonal is true and otherwise in standard
-- order, and no block was compressed
pub record AreCountedAs (diagonal : Bool) (n : ℕ) (before after : CoreCount) : Type 0 where
  pub all : after.all ≡ before.all + n
  pub lanes : after.lanes ≡ before.lanes + (if diagonal then n else 0)
  pub compressions : after.compressions ≡ before.compressions

-- n more blocks were compressed, and no core was run
pub record AreHashed (n : ℕ) (before after : CoreCount) : Type 0 where
  pub all : after.all ≡ before.all
  pub lanes : after.lanes ≡ before.lanes
  pub compressions : after.compressions ≡ before.compressions + n
