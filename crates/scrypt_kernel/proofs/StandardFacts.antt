-- The standards' own vectors, computed by the definitions, so that a wrong step or constant in a
-- definition does not check.
use Rattle.std.proofs.Common.{◌≡◌, ℕ, List, [], ◌∷◌, ◌++◌, ◌+◌, ◌*◌, ◌%◌, ◌^◌, codes, replicate, refl, ◌∙◌}
use Rattle.std.specs.Char.{digit_value}
use Rattle.std.specs.List.{flat_map, range_with_len}
use Rattle.sha2.specs.Sha256.{sha256, first_words, schedule, rounds, compress, hash_after, digest_bytes}
use Rattle.scrypt_kernel.specs.{block_mix, bytes_of, chain, double_round, hmac_sha256, integerify, pbkdf2, pbkdf2_block}
use Rattle.scrypt_kernel.specs.{quarter_round, ro_mix, row, salsa20_8, walk, words_of}
use Rattle.scrypt_kernel.proofs.Pbkdf2Facts.{pbkdf2_by_blocks}

-- the bytes that these hexadecimal digits spell, two for each
abbrev pub bytes : List ℕ → List ℕ
bytes (c ∷ d ∷ digits) = (16 * digit_value c + digit_value d) ∷ bytes digits
bytes digits = []

-- RFC 4231, section 4.3
pub hmac_vector : hmac_sha256 (codes "Jefe") (codes "what do ya want for nothing?")
    ≡ bytes (codes "5bdcc146bf60754e6a042426089575c75a003f089d2739839dec58b964ec3843")
unfolding hmac_sha256 sha256 first_words schedule rounds compress hash_after digest_bytes
hmac_vector = refl

-- a key of 65 bytes, one more than a block, by OpenSSL
pub long_key_vector : hmac_sha256 (replicate 65 0xaa) (codes "what do ya want for nothing?")
    ≡ bytes (codes "eb4692e2b460982c828a3865b886231f2d852425de8f1ff47831826c0059448a")
unfolding hmac_sha256 sha256 first_words schedule rounds compress hash_after digest_bytes
long_key_vector = refl

abbrev core_input : List ℕ
core_input =
    bytes (codes "7e879a214f3ec9867ca940e641718f26baee555b8c61c1b50df846116dcd3b1d")
    ++ bytes (codes "ee24f319df9b3d8514121e4b5ac5aa3276021d2909c74829edebc68db8b8c25e")

abbrev core_output : List ℕ
core_output =
    bytes (codes "a41f859c6608cc993b81cacb020cef05044b2181a2fd337dfd7b1c6396682f29")
    ++ bytes (codes "b4393168e3c9e6bcfe6bc5b7a06d96bae424cc102c91745c24ad673dc7618f81")

-- RFC 7914, section 8
pub salsa20_8_vector : bytes_of (salsa20_8 (words_of core_input)) ≡ core_output
unfolding salsa20_8 double_round quarter_round
salsa20_8_vector = refl

abbrev pub mixed_input : List ℕ
mixed_input =
    bytes (codes "f7ce0b653d2d72a4108cf5abe912ffdd777616dbbb27a70e8204f3ae2d0f6fad")
    ++ bytes (codes "89f68f4811d1e87bcc3bd7400a9ffd29094f0184639574f39ae5a1315217bcd7")
    ++ bytes (codes "894991447213bb226c25b54da86370fbcd984380374666bb8ffcb5bf40c254b0")
    ++ bytes (codes "67d27c51ce4ad5fed829c90b505a571b7f4d1cad6a523cda770e67bceaaf7e89")

abbrev block_mix_output : List ℕ
block_mix_output =
    bytes (codes "a41f859c6608cc993b81cacb020cef05044b2181a2fd337dfd7b1c6396682f29")
    ++ bytes (codes "b4393168e3c9e6bcfe6bc5b7a06d96bae424cc102c91745c24ad673dc7618f81")
    ++ bytes (codes "20edc975323881a80540f64c162dcd3c21077cfe5f8d5fe2b1a4168f953678b7")
    ++ bytes (codes "7d3b3d803b60e4ab920996e59b4d53b65d2a225877d5edf5842cb9f14eefe425")

-- RFC 7914, section 9
pub block_mix_vector : bytes_of (block_mix (words_of mixed_input)) ≡ block_mix_output
unfolding block_mix chain salsa20_8 double_round quarter_round
block_mix_vector = refl

abbrev pub ro_mix_output : List ℕ
ro_mix_output =
    bytes (codes "79ccc193629debca047f0b70604bf6b62ce3dd4a9626e355fafc6198e6ea2b46")
    ++ bytes (codes "d58413673b99b029d665c357601fb426a0b2f4bba200ee9f0a43d19b571a9c71")
    ++ bytes (codes "ef1142e65d5a266fddca832ce59faa7cac0b9cf1be2bffca300d01ee387619c4")
    ++ bytes (codes "ae12fd4438f203a0e4e1c47ec314861f4e9087cb33396a6873e8f9d2539a4b8e")

-- RFC 7914, section 10
pub ro_mix_vector : bytes_of (ro_mix (words_of mixed_input) 4) ≡ ro_mix_output
unfolding ro_mix walk row block_mix chain salsa20_8 double_round quarter_round
ro_mix_vector = refl

-- Integerify has more than 32 bits: the words at places 0 and 1 of the last block are 5 and 3
pub integerify_vector : integerify (replicate 16 7 ++ (5 ∷ 3 ∷ replicate 14 7)) % 2 ^ 33 ≡ 4294967301
integerify_vector = refl

-- n blocks of the key that PBKDF2 derives
abbrev pub key_blocks : List ℕ → List ℕ → ℕ → List ℕ
key_blocks password salt n = flat_map (λ i. pbkdf2_block password salt (i + 1)) (range_with_len 0 n)

abbrev pbkdf2_output : List ℕ
pbkdf2_output =
    bytes (codes "55ac046e56e3089fec1691c22544b605f94185216dde0465e68b9d57c20dacbc")
    ++ bytes (codes "49ca9cccf179b645991664b39d77ef317c71b845b1e30bd509112041d3a19783")

passwd_blocks : key_blocks (codes "passwd") (codes "salt") 2 ≡ pbkdf2_output
unfolding hmac_sha256 sha256 first_words schedule rounds compress hash_after digest_bytes
passwd_blocks = refl

-- RFC 7914, section 11
pub pbkdf2_vector : pbkdf2 (codes "passwd") (codes "salt") 64 ≡ pbkdf2_output
pbkdf2_vector = pbkdf2_by_blocks (codes "passwd") (codes "salt") 2 ∙ passwd_blocks
