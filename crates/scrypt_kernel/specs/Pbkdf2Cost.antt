-- The cost of PBKDF2: how many blocks of 64 bytes SHA-256 compresses (FIPS 180-4, section 6.2).
use Rattle.std.specs.Prelude.{ℕ, ◌+◌, ◌*◌, ◌/◌, ◌%◌, nat_lt, if◌then◌else◌}

-- the blocks of a message of n bytes and its padding: a byte, then zeros, then the length in eight
-- bytes
abbrev pub message_cost : ℕ → ℕ
message_cost n = (n + 8) / 64 + 1

-- the blocks of the digest of a key of n bytes, with which HMAC replaces a key longer than a block
abbrev pub key_cost : ℕ → ℕ
key_cost n = if nat_lt 64 n then message_cost n else 0

-- the blocks before the end of the text, which are hashed once for texts that begin with the same n
-- bytes: the blocks of the key's digest, K xor ipad, K xor opad, and the whole blocks of these
-- bytes
abbrev pub state_cost : ℕ → ℕ → ℕ
state_cost key_len n = key_cost key_len + 2 + n / 64

-- the blocks of the end of a text, whose last m bytes follow these n bytes, and of the outer hash
abbrev pub end_cost : ℕ → ℕ → ℕ
end_cost n m = message_cost (n % 64 + m) + 1

-- the blocks of PBKDF2 in one iteration: the password and the salt are hashed once, and the text
-- for each 32 derived bytes ends in four bytes of its own
abbrev pub pbkdf2_cost : ℕ → ℕ → ℕ → ℕ
pbkdf2_cost password_len salt_len n = state_cost password_len salt_len + (n + 31) / 32 * end_cost salt_len 4
