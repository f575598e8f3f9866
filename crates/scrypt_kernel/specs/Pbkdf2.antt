-- PBKDF2 (RFC 8018, section 5.2) with HMAC-SHA-256 and an iteration count of 1.
use Rattle.std.specs.Prelude.{ℕ, ◌+◌, ◌-◌, ◌*◌, ◌/◌, ◌%◌, ◌^◌, List, ◌++◌, map, slice_index}
use Rattle.std.specs.Int.{w32, to_be_bytes}
use Rattle.std.specs.List.{range_with_len}
use Rattle.scrypt_kernel.specs.Hmac.{hmac_sha256}

-- step 3: T_i = F (P, S, c, i) with c = 1, which has 32 bytes: the HMAC of the salt followed by i
-- as four bytes in big-endian order, where i is at least 1
abbrev pub pbkdf2_block : List ℕ → List ℕ → ℕ → List ℕ
pbkdf2_block password salt i = hmac_sha256 password (salt ++ to_be_bytes w32 i)

-- byte k, counted from 0, of T_1 ++ T_2 ++ ..
unfoldable pub pbkdf2_byte : List ℕ → List ℕ → ℕ → ℕ
pbkdf2_byte password salt k = slice_index (pbkdf2_block password salt (k / 32 + 1)) (k % 32)

-- step 1: the maximum dkLen, the length of 2 ^ 32 - 1 blocks
abbrev pub max_output_len : ℕ
max_output_len = (2 ^ 32 - 1) * 32

-- step 4: DK is the first n bytes of T_1 ++ T_2 ++ .., where n is dkLen, from 1 to `max_output_len`
abbrev pub pbkdf2 : List ℕ → List ℕ → ℕ → List ℕ
pbkdf2 password salt n = map (pbkdf2_byte password salt) (range_with_len 0 n)

-- n bytes of T_1 ++ T_2 ++ .., from byte `at` on
abbrev pub pbkdf2_from : List ℕ → List ℕ → ℕ → ℕ → List ℕ
pbkdf2_from password salt at n = map (pbkdf2_byte password salt) (range_with_len at n)
