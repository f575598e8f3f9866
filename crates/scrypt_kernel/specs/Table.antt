-- A table that keeps each row of V whose number is a multiple of 2 ^ s. A row that it does not keep
-- is recomputed from the kept row below it. At s = 0 it is the table of the standard.
use Rattle.std.specs.Prelude.{ℕ, zero, suc, ◌+◌, ◌*◌, ◌%◌, ◌^◌, List}
use Rattle.scrypt_kernel.specs.RoMix.{integerify, walk}
use Rattle.scrypt_kernel.specs.RoMixCost.{ro_mix_cost}

-- how many rows are recomputed to get row j
abbrev pub recomputed_rows : ℕ → ℕ → ℕ
recomputed_rows s j = j % 2 ^ s

-- how many rows are recomputed in k steps of the walk
unfoldable pub extra_rows : List ℕ → ℕ → ℕ → ℕ → ℕ
extra_rows b log_n s zero = 0
extra_rows b log_n s (suc k) = extra_rows b log_n s k + recomputed_rows s (integerify (walk b log_n k) % 2 ^ log_n)

-- the cores of one scryptROMix with such a table: 2 * r more for each row that is recomputed
abbrev pub thin_ro_mix_cost : List ℕ → ℕ → ℕ → ℕ → ℕ
thin_ro_mix_cost b log_n s r = ro_mix_cost log_n r + 2 * r * extra_rows b log_n s (2 ^ log_n)
