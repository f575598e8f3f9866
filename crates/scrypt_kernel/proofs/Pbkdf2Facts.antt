-- Facts on HMAC and PBKDF2.
use Rattle.std.proofs.Common.{◌≡◌, ℕ, zero, inl, inr, ◌<◌, ◌≤◌, ◌+◌, ◌*◌, ◌/◌, ◌%◌, suc, List, [], ◌∷◌, ◌++◌, refl, sym, ◌∙◌, arith, rules}
use Rattle.std.proofs.Common.{length, map, take, drop, get_or, slice_index, replicate, false, nat_lt}
use Rattle.std.proofs.lemmas.Bool.{cases_lt, le-ltb, lt-ltb}
use Rattle.std.proofs.lemmas.List.{drop-replicate, get_or_append_left, get_or-append_right, get_or-take, get_or-drop, ext_get_or, get_or_past, places, same_lists}
use Rattle.std.proofs.lemmas.List.FromFn.{get_or-map-range_with_len, length-map-range_with_len}
use Rattle.std.specs.List.{flat_map, range_with_len}
use Rattle.sha2.proofs.Facts256.{length-sha256}
use Rattle.sha2.specs.Sha256.{digest_bytes, sha256}
use Rattle.std.specs.Int.{to_be_bytes, w32}
use Rattle.std.proofs.lemmas.Grind.{common_steps}
use borrow.Rule.Slice.PartMut.{put_mid}
use Rattle.scrypt_kernel.specs.{hmac_sha256, padded_key, part, pbkdf2, pbkdf2_block, pbkdf2_byte, pbkdf2_from}
use Rattle.scrypt_kernel.proofs.PartFacts.{length-part, parts_all}

-- a key that fits a block
pub padded_short : (secret ys : List ℕ) → length secret ≤ 64 → ys ≡ secret
    → ys ++ drop (length secret) (replicate 64 0) ≡ padded_key secret
padded_short secret ys fits same =
    let short : nat_lt 64 (length secret) ≡ false = le-ltb 64 (length secret) fits in
    rw (same, drop-replicate {X = ℕ} (length secret) 64 0, short) refl

-- byte k after block i was written at its place, or as much of it as fits
pub block_written : (password salt out made ys : List ℕ) (skipped i size n k : ℕ) → 32 * i + size ≤ length out → length ys ≡ size
    → k < 32 * (i + 1) → k < 32 * i + size → made ≡ pbkdf2_block password salt (skipped + i + 1) → ys ≡ take size made
    → (k < 32 * i → get_or out k 0 ≡ pbkdf2_byte password salt (32 * skipped + k))
    → get_or (put_mid (32 * i) n out ys) k 0 ≡ pbkdf2_byte password salt (32 * skipped + k)
unfolding pbkdf2_byte
block_written password salt out made ys skipped i size n k room long next inside is_made is_cut before = grind (arith, places)

pub length-pbkdf2 : (password salt : List ℕ) (n : ℕ) → length (pbkdf2 password salt n) ≡ n
length-pbkdf2 password salt n = length-map-range_with_len (pbkdf2_byte password salt) 0 n

-- bytes that are written as a piece of more
pub pbkdf2-piece : (password salt : List ℕ) (at size n : ℕ) → at + size ≤ n
    → pbkdf2_from password salt at size ≡ take size (drop at (pbkdf2 password salt n))
pbkdf2-piece password salt at size n inside =
    same_lists _ _ (search (rules, places, length-map-range_with_len, get_or-map-range_with_len)) (λ i d h. grind (arith, places, length-map-range_with_len, get_or-map-range_with_len))

-- the bytes between 32 * i and 32 * (i + 1) are those of block i + 1
part_of_pbkdf2 : (password salt : List ℕ) (n i : ℕ) → i < n
    → part 32 (pbkdf2 password salt (n * 32)) i ≡ pbkdf2_block password salt (i + 1)
unfolding pbkdf2_byte hmac_sha256
part_of_pbkdf2 password salt n i inside =
    let whole = pbkdf2 password salt (n * 32) in
    let one : length (part 32 whole i) ≡ 32 = length-part 32 i whole (omega (arith, length-pbkdf2 password salt (n * 32))) in
    ext_get_or 0 _ _ (one ∙ sym (length-sha256 _)) (λ j h.
    let below : j < 32 = omega arith in
    let is = get_or-map-range_with_len (pbkdf2_byte password salt) 0 (n * 32) (i * 32 + j) (i * 32 + j) 0 (omega arith) (omega arith) in
    let number : (i * 32 + j) / 32 ≡ i = omega arith in
    let place : (i * 32 + j) % 32 ≡ j = omega arith in
    rw (get_or-take, get_or-drop, is, number, place) refl)

-- whole blocks of a derived key
pub pbkdf2_by_blocks : (password salt : List ℕ) (n : ℕ)
    → pbkdf2 password salt (n * 32) ≡ flat_map (λ i. pbkdf2_block password salt (i + 1)) (range_with_len 0 n)
pbkdf2_by_blocks password salt n =
    parts_all (λ i. pbkdf2_block password salt (i + 1)) 32 n (pbkdf2 password salt (n * 32))
    (length-pbkdf2 password salt (n * 32)) (λ i h. part_of_pbkdf2 password salt n i h)

-- a key that is padded to the same block gives the same bytes
same_byte : (one other salt : List ℕ) → padded_key one ≡ padded_key other → (k : ℕ) → pbkdf2_byte one salt k ≡ pbkdf2_byte other salt k
unfolding pbkdf2_byte hmac_sha256
same_byte one other salt padded k = rw padded refl

pub same_pbkdf2 : (one other salt : List ℕ) (n : ℕ) → padded_key one ≡ padded_key other → pbkdf2 one salt n ≡ pbkdf2 other salt n
same_pbkdf2 one other salt n padded = λ i. map (λ k. same_byte one other salt padded k i) (range_with_len 0 n)

-- a zero byte after a key that leaves room in its block
pub padded_zero_byte : (secret : List ℕ) → length secret < 64 → padded_key (secret ++ 0 ∷ []) ≡ padded_key secret
padded_zero_byte secret fits = same_lists _ _ (search (rules, places, le-ltb)) (λ i d h. grind (arith, places, le-ltb))

-- the digest of a key that is longer than a block
pub padded_digest : (secret : List ℕ) → 64 < length secret → padded_key (sha256 secret) ≡ padded_key secret
padded_digest secret above = grind (arith, common_steps, le-ltb, lt-ltb, length-sha256)

-- a digest is of bytes
digest_byte-fits : (h : List ℕ) (n k : ℕ) → get_or (digest_bytes h n) k 0 < 256
unfolding digest_bytes
digest_byte-fits h zero k = omega arith
digest_byte-fits h (suc n) k = elim (cases_lt k (length (digest_bytes h n))) [
  | inl lt ↦ rw (get_or_append_left (digest_bytes h n) _ 0 k lt) (digest_byte-fits h n k)
  | inr ge ↦ rw (get_or-append_right (digest_bytes h n) (to_be_bytes w32 (get_or h n 0)) _ k 0 refl ge) (search (rules, places))
]

-- and so is what PBKDF2 derives
pbkdf2_byte-fits : (password salt : List ℕ) (k : ℕ) → pbkdf2_byte password salt k < 256
unfolding pbkdf2_byte hmac_sha256 sha256
pbkdf2_byte-fits password salt k = digest_byte-fits _ 8 (k % 32)

pub pbkdf2-are_bytes : (password salt : List ℕ) (n i : ℕ) → slice_index (pbkdf2 password salt n) i < 256
pbkdf2-are_bytes password salt n i = grind (arith, get_or-map-range_with_len, pbkdf2_byte-fits, get_or_past, length-pbkdf2)
