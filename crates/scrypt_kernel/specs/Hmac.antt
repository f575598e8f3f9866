-- HMAC (RFC 2104) with SHA-256, whose blocks have 64 bytes.
use Rattle.std.specs.Prelude.{ℕ, ◌-◌, List, ◌++◌, map, length, replicate, bit_xor, nat_lt, if◌then◌else◌}
use Rattle.sha2.specs.Sha256.{sha256}

-- a key longer than a block is replaced by its digest (section 2)
abbrev pub hashed_key : List ℕ → List ℕ
hashed_key secret = (if nat_lt 64 (length secret) then sha256 secret else secret)

-- step 1: the key, padded with zero bytes to 64 bytes
abbrev pub padded_key : List ℕ → List ℕ
padded_key secret = hashed_key secret ++ replicate (64 - length (hashed_key secret)) 0

-- steps 2 to 7: H (K xor opad, H (K xor ipad, text)), where K is the padded key, ipad is the byte
-- 0x36 repeated 64 times, and opad is the byte 0x5c repeated 64 times
unfoldable pub hmac_sha256 : List ℕ → List ℕ → List ℕ
hmac_sha256 secret text =
    let inner = sha256 (map (bit_xor 0x36) (padded_key secret) ++ text) in
    sha256 (map (bit_xor 0x5c) (padded_key secret) ++ inner)
