-- Which parameters and which output lengths are accepted, computed in unbounded integers. RFC 7914,
-- section 2, bounds p by (2 ^ 32 - 1) * 32 / (128 * r), which is the same as r * p < 2 ^ 30. It
-- requires 1 < N < 2 ^ (128 * r / 8), which is not required here; instead 128 * r * N is below 2 ^
-- 64.
use Rattle.std.specs.Prelude.{ℕ, ◌*◌, ◌^◌, ◌&&◌, Bool, true, nat_eq, nat_le, nat_lt, Option, None, Some}
use Rattle.std.specs.Option.{option_eq}
use Rattle.scrypt_kernel.specs.Pbkdf2.{max_output_len}

-- the parameters of a derivation, and optionally the length of a stored key
pub record Parameters : Type 0 where
  pub log_n : ℕ
  pub r : ℕ
  pub p : ℕ
  pub output_len : Option ℕ

-- the same parameters without a length
abbrev pub without_len : Parameters → Parameters
without_len c = record c { output_len = None }

-- whether log_n, r and p are accepted
unfoldable pub are_accepted : ℕ → ℕ → ℕ → Bool
are_accepted log_n r p = (nat_lt 0 r && nat_lt 0 p) && (nat_lt (128 * r * 2 ^ log_n) (2 ^ 64) && nat_lt (r * p) (2 ^ 30))

-- whether an output of this many bytes can be derived: dkLen is at least 1 and at most (2 ^ 32 - 1)
-- * 32
unfoldable pub is_output_len : ℕ → Bool
is_output_len n = nat_le 1 n && nat_le n max_output_len

-- whether a PHC string can have a key of this many bytes, if a length is given
unfoldable pub is_stored_len : Option ℕ → Bool
is_stored_len None = true
is_stored_len (Some n) = nat_le 10 n && nat_le n 64

-- the parameters that are recommended for new hashes: N = 2 ^ 17, r = 8, p = 1, and no length
abbrev pub recommended_parameters : Parameters
recommended_parameters = record { log_n = 17; r = 8; p = 1; output_len = None }

-- whether all four fields are equal: the optional length, log_n, r and p
abbrev pub parameters_eq : Parameters → Parameters → Bool
parameters_eq a b =
    (option_eq nat_eq a.output_len b.output_len && nat_eq a.log_n b.log_n)
    && (nat_eq a.r b.r && nat_eq a.p b.p)
