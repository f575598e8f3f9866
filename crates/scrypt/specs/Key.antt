-- scrypt (RFC 7914, section 6).
use Rattle.std.specs.Prelude.{ℕ, ◌*◌, List}
use Rattle.std.specs.List.{flat_map, range_with_len}
use Rattle.scrypt_kernel.specs.Words.{bytes_of, part, words_of}
use Rattle.scrypt_kernel.specs.Pbkdf2.{pbkdf2}
use Rattle.scrypt_kernel.specs.RoMix.{ro_mix}

-- chunk i of B, of 128 * r bytes, after scryptROMix (step 2)
abbrev pub mixed_chunk : List ℕ → ℕ → ℕ → ℕ → List ℕ
mixed_chunk b log_n r i = bytes_of (ro_mix (words_of (part (128 * r) b i)) log_n)

-- the p chunks of B after scryptROMix
abbrev pub mixed_chunks : List ℕ → ℕ → ℕ → ℕ → List ℕ
mixed_chunks b log_n r p = flat_map (mixed_chunk b log_n r) (range_with_len 0 p)

-- B after step 2: PBKDF2 derives B (step 1), and its chunks are mixed
abbrev pub mixed_b : List ℕ → List ℕ → ℕ → ℕ → ℕ → List ℕ
mixed_b password salt log_n r p = mixed_chunks (pbkdf2 password salt (p * (128 * r))) log_n r p

-- DK, n bytes long, which PBKDF2 derives with the mixed B as salt (step 3)
unfoldable pub derived_key : List ℕ → List ℕ → ℕ → ℕ → ℕ → ℕ → List ℕ
derived_key password salt log_n r p n = pbkdf2 password (mixed_b password salt log_n r p) n
