-- Texts, read and printed by the definitions alone, so that a wrong letter, order or bound in a
-- definition does not check. `library_tests` has those that the functions are called with, too.
use Rattle.std.proofs.Common.{◌≡◌, ◌+◌, ◌*◌, ◌%◌, ℕ, Option, List, [], ◌∷◌, ◌++◌, map, replicate, codes, None, Some, refl}
use Rattle.std.specs.Char.{digit_value}
use Rattle.std.specs.Fmt.{digits}
use Rattle.std.specs.List.{range_with_len}
unfoldable pub use Rattle.base64.specs.Decode.{groups_bytes, groups_error, scan_steps}
unfoldable pub use Rattle.base64.specs.GeneralPurpose.{decoded_of}
unfoldable pub use Rattle.base64.specs.Rfc4648.{encode_symbols}
use Rattle.password_hash.specs.{bytes_of_number, crypt64_of, decimal_below, decoded, decoded_bytes}
use Rattle.password_hash.specs.{has_plus_or_leading_zero, hash_text, letter, letter_value, letters_of, number_of}
use Rattle.password_hash.specs.{parsed_pairs, read_hash}
use Rattle.password_hash.specs.declared.phc.hash.PasswordHash.{PasswordHash}

-- the bytes that hexadecimal digits spell, two for each
abbrev bytes : List ℕ → List ℕ
bytes (c ∷ d ∷ digits) = (16 * digit_value c + digit_value d) ∷ bytes digits
bytes digits = []

-- PHC strings

abbrev sodium_key : List ℕ
sodium_key = bytes (codes "7023bdcb3afd7348461c06cd81fd38ebfda8fbba904f8e3ea9b543f6545da1f2")

-- a text, and the hash of these parts
abbrev read_as : List ℕ → List ℕ → Option ℕ → List (List ℕ × List ℕ) → Option (List ℕ) → Option (List ℕ) → List ℕ × PasswordHash
read_as text algorithm version params salt key =
    (text, record { algorithm = algorithm; version = version; params = params; salt = salt; hash = key })

-- texts, and the hashes that they are read as and printed of
abbrev hash_texts : List (List ℕ × PasswordHash)
hash_texts =
    -- the hash of the PHC documents, by another algorithm
    read_as (codes "$argon2id$v=19$m=65536,t=2,p=1$gZiV/M1gPc22ElAH/Jh1Hw$CWOrkoo7oJBQ/iyh7uJ0LO2aLEfrHwTWllSAxT0zRno")
    (codes "argon2id") (Some 19) ((codes "m", codes "65536") ∷ (codes "t", codes "2") ∷ (codes "p", codes "1") ∷ [])
    (Some (bytes (codes "819895fccd603dcdb6125007fc98751f")))
    (Some (bytes (codes "0963ab928a3ba09050fe2ca1eee2742ced9a2c47eb1f04d6965480c53d33467a")))
    -- no version and no parameters
    ∷ read_as (codes "$a$U29kaXVtQ2hsb3JpZGU$cCO9yzr9c0hGHAbNgf046/2o+7qQT44+qbVD9lRdofI")
    (codes "a") None [] (Some (codes "SodiumChloride")) (Some sodium_key)
    -- the shortest salt and the shortest key
    ∷ read_as (codes "$scrypt$v=1$ln=1$aA$AAAAAAAAAAAAAA")
    (codes "scrypt") (Some 1) ((codes "ln", codes "1") ∷ []) (Some (codes "h")) (Some (replicate 10 0))
    -- the algorithm alone
    ∷ read_as (codes "$scrypt") (codes "scrypt") None [] None None
    -- a version, and no more
    ∷ read_as (codes "$scrypt$v=0") (codes "scrypt") (Some 0) [] None None
    -- the greatest version, and a salt without a key
    ∷ read_as (codes "$a$v=4294967295$aA") (codes "a") (Some 4294967295) [] (Some (codes "h")) None
    -- parameters keep their order
    ∷ read_as (codes "$a$b=1,a=2") (codes "a") None ((codes "b", codes "1") ∷ (codes "a", codes "2") ∷ []) None None
    -- the longest text of parameters
    ∷ read_as (codes "$scrypt$x=" ++ replicate 125 48) (codes "scrypt") None ((codes "x", replicate 125 48) ∷ []) None None
    ∷ []

pub hash_texts_read : map (λ row. read_hash row.0) hash_texts ≡ map (λ row. Some row.1) hash_texts
unfolding decimal_below decoded_bytes decoded_of digits encode_symbols groups_bytes groups_error has_plus_or_leading_zero
    parsed_pairs read_hash scan_steps
hash_texts_read = refl

-- texts that are not read
abbrev refused_hash_texts : List (List ℕ)
refused_hash_texts =
    -- a text before the first `$`
    codes "a$a"
    -- versions: none, a plus, two, one after the parameters
    ∷ codes "$a$v=" ∷ codes "$a$v=+1" ∷ codes "$a$v=1$v=2" ∷ codes "$a$b=1$v=2"
    -- parameters: no name, no pair after a `,`, the name `v`, another letter, two parts
    ∷ codes "$a$=1" ∷ codes "$a$b=1," ∷ codes "$a$b=1,v=2" ∷ codes "$a$b=1=2" ∷ codes "$a$b=1$c=2"
    -- salts: a letter alone, 65 bytes
    ∷ codes "$a$a" ∷ (codes "$a$" ++ replicate 87 65)
    -- keys: empty, a bit above the last byte, and a part after the key
    ∷ codes "$a$aA$" ∷ codes "$a$aA$AAAAAAAAAAAAAB" ∷ codes "$a$aA$AAAAAAAAAAAAAA$aA"
    ∷ []

pub hash_texts_refused : map read_hash refused_hash_texts ≡ map (λ text. None) refused_hash_texts
unfolding decimal_below decoded_bytes decoded_of digits encode_symbols groups_bytes groups_error has_plus_or_leading_zero
    parsed_pairs read_hash scan_steps
hash_texts_refused = refl

-- without a salt, a key is not printed
pub key_not_printed :
    hash_text (read_as [] (codes "scrypt") (Some 2) ((codes "b", codes "1") ∷ (codes "a", codes "2") ∷ []) None (Some sodium_key)).1
    ≡ codes "$scrypt$v=2$b=1,a=2"
unfolding digits
key_not_printed = refl

-- texts, and the decimals below 2 ^ 32 that they are
abbrev decimal_texts : List (List ℕ × Option ℕ)
decimal_texts =
    (codes "0", Some 0) ∷ (codes "7", Some 7) ∷ (codes "10", Some 10) ∷ (codes "4294967295", Some 4294967295)
    ∷ (codes "4294967296", None) ∷ ([], None) ∷ (codes "00", None) ∷ (codes "01", None) ∷ (codes "+1", None) ∷ (codes "-1", None)
    ∷ (codes "1.", None) ∷ (codes "a", None) ∷ []

pub decimals_read : map (λ row. decimal_below 4294967296 row.0) decimal_texts ≡ map (λ row. row.1) decimal_texts
unfolding decimal_below has_plus_or_leading_zero
decimals_read = refl

-- crypt Base64

-- the bytes 11, 48, 85, .., each 37 more than the one before
abbrev stepped : ℕ → List ℕ
stepped n = map (λ i. (11 + 37 * i) % 256) (range_with_len 0 n)

-- bytes and their letters
abbrev crypt64_letters : List (List ℕ × List ℕ)
crypt64_letters = (
  bytes (codes "77d6576238657b203b19ca42c18a0497f16b4844e3074ae8dfdffa3fede21442"),
  codes "rNxJWVHNv/mCNcgE/f6/L4zO6Fos5c2uTzhyzoisI62",
)
    ∷ (stepped 64, codes "9.HJux7ldvkAMpbc5nS2qg3UZewvIYXL1WOnmT/DVNseELj4zEKWiCByR6oNA4fpv1GFex6hNvz66paYrmR.a.")
    ∷ (stepped 63, codes "9.HJux7ldvkAMpbc5nS2qg3UZewvIYXL1WOnmT/DVNseELj4zEKWiCByR6oNA4fpv1GFex6hNvz66paYrmR.")
    ∷ (stepped 62, codes "9.HJux7ldvkAMpbc5nS2qg3UZewvIYXL1WOnmT/DVNseELj4zEKWiCByR6oNA4fpv1GFex6hNvz66paYrmB")
    ∷ (stepped 61, codes "9.HJux7ldvkAMpbc5nS2qg3UZewvIYXL1WOnmT/DVNseELj4zEKWiCByR6oNA4fpv1GFex6hNvz66paYr0")
    ∷ []

pub bytes_encoded : map (λ row. crypt64_of row.0) crypt64_letters ≡ map (λ row. row.1) crypt64_letters
unfolding crypt64_of letters_of letter
bytes_encoded = refl

pub letters_decoded : map (λ row. decoded row.1) crypt64_letters ≡ map (λ row. Some row.0) crypt64_letters
unfolding bytes_of_number crypt64_of decoded letters_of letter letter_value number_of
letters_decoded = refl
