use Rattle.std.proofs.Common.{◌≡◌, ℕ, zero, suc, ◌+◌, ◌*◌, ◌%◌, ◌^◌, List, [], ◌∷◌, ◌++◌, codes, refl, ap, ◌∙◌, add-zero, zero-add, arith}
use Rattle.sha2.specs.Sha256.{sha256, first_words, schedule, rounds, compress, hash_after, digest_bytes}
use Rattle.scrypt_kernel.specs.Hmac.{hmac_sha256}
use Rattle.scrypt.specs.Terms.{derived_key, extra_rows_of_chunks, mixed_chunks, pbkdf2, thin_cost, words_of, xor_words}
use Rattle.scrypt_kernel.proofs.Pbkdf2Facts.{pbkdf2_by_blocks}
use Rattle.scrypt_kernel.proofs.StandardFacts.{bytes, key_blocks, mixed_input, ro_mix_output, ro_mix_vector}
use Rattle.scrypt_kernel.specs.Salsa.{double_round, quarter_round, salsa20_8}
use Rattle.scrypt_kernel.specs.BlockMix.{block_mix, chain}
use Rattle.scrypt_kernel.specs.RoMix.{integerify, ro_mix, row, walk}
use Rattle.scrypt_kernel.specs.Table.{extra_rows, recomputed_rows}

abbrev pub first_key : List ℕ
first_key =
    bytes (codes "77d6576238657b203b19ca42c18a0497f16b4844e3074ae8dfdffa3fede21442")
    ++ bytes (codes "fcd0069ded0948f8326a753a0fc81f17e8d3e0fb2e0d3628cf35e20c38d18906")

first_chunk : key_blocks [] [] 4 ≡ mixed_input
unfolding hmac_sha256 sha256 first_words schedule rounds compress hash_after digest_bytes
first_chunk = refl

last_blocks : key_blocks [] ro_mix_output 2 ≡ first_key
unfolding hmac_sha256 sha256 first_words schedule rounds compress hash_after digest_bytes
last_blocks = refl

-- RFC 7914, section 12, the first key
pub derived_key_vector : derived_key [] [] 4 1 1 64 ≡ first_key
unfolding derived_key
derived_key_vector =
    let chunk : pbkdf2 [] [] 128 ≡ mixed_input = pbkdf2_by_blocks [] [] 4 ∙ first_chunk in
    let mixed : mixed_chunks (pbkdf2 [] [] 128) 4 1 1 ≡ ro_mix_output ++ [] =
    ap (λ b. mixed_chunks b 4 1 1) chunk ∙ ap (λ z. z ++ []) ro_mix_vector in
    ap (λ z. pbkdf2 [] z 64) mixed ∙ pbkdf2_by_blocks [] ro_mix_output 2 ∙ last_blocks

abbrev pub second_key : List ℕ
second_key = bytes (codes "fc33c1bce795d69209531989a190e987dc68a4f9f1cfb0de4f94a6443e1502fc")

-- its two chunks, of 256 bytes each, after scryptROMix
abbrev second_mixed : List ℕ
second_mixed = mixed_chunks (key_blocks (codes "password") (codes "NaCl") 16) 1 2 2

second_blocks : key_blocks (codes "password") second_mixed 1 ≡ second_key
unfolding hmac_sha256 sha256 first_words schedule rounds compress hash_after digest_bytes
    ro_mix walk row block_mix chain salsa20_8 double_round quarter_round
second_blocks = refl

-- a key with two chunks of four blocks, by OpenSSL
pub two_chunks_vector : derived_key (codes "password") (codes "NaCl") 1 2 2 32 ≡ second_key
unfolding derived_key
two_chunks_vector =
    let password = codes "password" in
    let chunks : pbkdf2 password (codes "NaCl") 512 ≡ key_blocks password (codes "NaCl") 16 = pbkdf2_by_blocks password (codes "NaCl") 16 in
    ap (λ b. pbkdf2 password (mixed_chunks b 1 2 2) 32) chunks ∙ pbkdf2_by_blocks password second_mixed 1 ∙ second_blocks

-- the words of that key's chunk
abbrev mixed_words : List ℕ
mixed_words = words_of mixed_input

-- the rows that k steps of the walk from x take in
walk_rows : List ℕ → ℕ → ℕ → List ℕ → List ℕ
walk_rows b log_n zero x = []
walk_rows b log_n (suc k) x =
    let j = integerify x % 2 ^ log_n in
    j ∷ walk_rows b log_n k (block_mix (xor_words x (row b j)))

-- how many rows are recomputed to get some rows
abbrev recomputed_for : ℕ → List ℕ → ℕ
recomputed_for s [] = 0
recomputed_for s (j ∷ js) = recomputed_rows s j + recomputed_for s js

extra_by_rows : (b : List ℕ) (log_n s i k : ℕ) → extra_rows b log_n s (i + k)
    ≡ extra_rows b log_n s i + recomputed_for s (walk_rows b log_n k (walk b log_n i))
unfolding extra_rows walk walk_rows
extra_by_rows b log_n s i zero = ap (extra_rows b log_n s) (add-zero i) ∙ omega arith
extra_by_rows b log_n s i (suc k) =
    let there : i + suc k ≡ suc i + k = omega arith in
    ap (extra_rows b log_n s) there ∙ extra_by_rows b log_n s (suc i) k ∙ omega arith

-- those of the first key of RFC 7914, section 12
abbrev first_names : List ℕ
first_names =
    4 ∷ 2 ∷ 5 ∷ 7 ∷ 9 ∷ 1 ∷ 7 ∷ 2 ∷ 13 ∷ 2 ∷ 11 ∷ 10 ∷ 10 ∷ 15 ∷ 13 ∷ 2 ∷ []

first_rows : walk_rows mixed_words 4 16 (walk mixed_words 4 0) ≡ first_names
unfolding walk_rows walk row block_mix chain salsa20_8 double_round quarter_round
first_rows = refl

-- the cores of that key, with a table that keeps one row in 2 ^ s
thin_cost_of : (s : ℕ) → thin_cost [] [] 4 1 1 s ≡ 64 + 2 * recomputed_for s first_names
unfolding extra_rows_of_chunks extra_rows
thin_cost_of s =
    let chunk : pbkdf2 [] [] 128 ≡ mixed_input = pbkdf2_by_blocks [] [] 4 ∙ first_chunk in
    let walked = walk_rows mixed_words 4 16 (walk mixed_words 4 0) in
    let rows : extra_rows mixed_words 4 s 16 ≡ recomputed_for s first_names =
    extra_by_rows mixed_words 4 s 0 16 ∙ zero-add (recomputed_for s walked) ∙ ap (recomputed_for s) first_rows in
    let chunks : extra_rows_of_chunks mixed_input 4 s 1 1 ≡ recomputed_for s first_names =
    zero-add (extra_rows mixed_words 4 s 16) ∙ rows in
    ap (λ b. 64 + 2 * extra_rows_of_chunks b 4 s 1 1) chunk ∙ ap (λ n. 64 + 2 * n) chunks

-- with one row in 1, 2, 4, 8 and 16
pub thin_cost_vectors : (thin_cost [] [] 4 1 1 0 ≡ 64) × (thin_cost [] [] 4 1 1 1 ≡ 82)
    × (thin_cost [] [] 4 1 1 2 ≡ 122) × (thin_cost [] [] 4 1 1 3 ≡ 178) × (thin_cost [] [] 4 1 1 4 ≡ 290)
thin_cost_vectors = (thin_cost_of 0, thin_cost_of 1, thin_cost_of 2, thin_cost_of 3, thin_cost_of 4)
