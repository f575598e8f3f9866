use Rattle.std.proofs.Common.{◌≡◌, ℕ, List, [], ◌∷◌, map, codes, None, Ok, Err, refl, Result}
use Rattle.std.specs.Fmt.{digits}
use Rattle.scrypt.specs.Terms.{Algorithm, EncodingInvalid, ParamInvalid, ParamsInvalid, PasswordInvalid, Refusal}
use Rattle.scrypt.specs.Terms.{Stored, Version, are_accepted, bytes_of_number, checked, crypt64_of, decoded}
use Rattle.scrypt.specs.Terms.{field_params, formatted, is_mcf_text, is_output_len, letter, letter_value, letters_of}
use Rattle.scrypt.specs.Terms.{mcf_text, number_of, phc_params, read_mcf, read_pairs, reading}
use Rattle.password_hash.specs.Decimal.{decimal_below, has_plus_or_leading_zero}
use Rattle.password_hash.specs.PhcReading.{decoded_bytes, parsed_pairs, read_hash}
use Rattle.password_hash.proofs.StandardFacts.{decoded_of, encode_symbols, groups_bytes, groups_error, scan_steps}
use Rattle.scrypt_kernel.proofs.StandardFacts.{bytes}

-- the parts of a hash: parameters, a salt and a key
abbrev parts : ℕ → ℕ → ℕ → List ℕ → List ℕ → Stored
parts log_n r p salt key = record { params = record { log_n = log_n; r = r; p = p; output_len = None }; salt = salt; key = key }

-- a text, and the parts that it is read as
abbrev read_as : List ℕ → ℕ → ℕ → ℕ → List ℕ → List ℕ → List ℕ × Result Stored Refusal
read_as text log_n r p salt key = (text, Ok (parts log_n r p salt key))

-- a text, and the error of reading it
abbrev refused : List ℕ → Refusal → List ℕ × Result Stored Refusal
refused text why = (text, Err why)

-- PHC strings: what is read, and then refusals, of texts with one more error after the first;
-- `library_tests` has other refusals, and those of `$7$` hashes

abbrev phc_readings : List (List ℕ × Result Stored Refusal)
phc_readings =
    -- `passlib`'s hash of `password`
    read_as (codes "$scrypt$ln=16,r=8,p=1$aM15713r3Xsvxbi31lqr1Q$nFNh2CVHVjNldFVKDHDlm4CbdRSCdEBsjjJxD+iCs5E") 16 8 1
    (bytes (codes "68cd79ef5debdd7b2fc5b8b7d65aabd5"))
    (bytes (codes "9c5361d8254756336574554a0c70e59b809b75148274406c8e32710fe882b391"))
    -- parameters in another order, and none, which are (17, 8, 1)
    ∷ read_as (codes "$scrypt$p=3,r=2,ln=1$aA$AAAAAAAAAAAAAA") 1 2 3 (codes "h") (bytes (codes "00000000000000000000"))
    ∷ read_as (codes "$scrypt$aA$AAAAAAAAAAAAAA") 17 8 1 (codes "h") (bytes (codes "00000000000000000000"))
    ∷ refused (codes "$argon2id$v=19$m=65536,t=2,p=1$aA$AAAAAAAAAAAAAA") Algorithm
    ∷ refused (codes "$scrypt$v=1$ln=256$aA$AAAAAAAAAAAAAA") Version
    ∷ refused (codes "$scrypt$ln=1,r=4294967296$aA$AAAAAAAAAAAAAA") (ParamInvalid (codes "r"))
    ∷ refused (codes "$scrypt$ln=1,x=1,r=a$aA$AAAAAAAAAAAAAA") ParamsInvalid
    ∷ refused (codes "$scrypt$r=0") ParamsInvalid
    ∷ refused (codes "$scrypt$ln=1") PasswordInvalid
    -- an id that is not `7`
    ∷ refused (codes "$8$2/..../....$r/") EncodingInvalid
    ∷ []

pub phc_texts_read : map (λ row. reading row.0) phc_readings ≡ map (λ row. row.1) phc_readings
unfolding are_accepted checked decimal_below decoded_bytes decoded_of digits encode_symbols formatted groups_bytes groups_error
    has_plus_or_leading_zero is_mcf_text parsed_pairs phc_params read_hash read_pairs reading scan_steps
phc_texts_read = refl

-- `$7$` hashes, and the parts that they are read as and are the texts of

abbrev mcf_texts : List (List ℕ × Stored)
mcf_texts =
    -- the first key of RFC 7914, section 12, of 32 bytes
    (
      codes "$7$2/..../....$rNxJWVHNv/mCNcgE/f6/L4zO6Fos5c2uTzhyzoisI62",
      parts 4 1 1 [] (bytes (codes "77d6576238657b203b19ca42c18a0497f16b4844e3074ae8dfdffa3fede21442")),
    )
    -- `libxcrypt`'s hash
    ∷ (
      codes "$7$CU..../....Mq4YHD2syxYT.MsH1Ek0n1$JyHIxez0DOwm0r6.kAIohc8UFBOLU4xX8a1wGBpLrw7",
      parts 14 32 1 (codes "Mq4YHD2syxYT.MsH1Ek0n1") (bytes (codes "953f51bdfa0b8fc6cbc28d003043d12daa8051a35da0d18f8a39f052535f379f")),
    )
    -- a key of one byte, and a salt that is no encoding
    ∷ (codes "$7$CU..../....Mq_Y$r/", parts 14 32 1 (codes "Mq_Y") (bytes (codes "77")))
    ∷ []

pub mcf_texts_read : map (λ row. reading row.0) mcf_texts ≡ map (λ row. Ok row.1) mcf_texts
unfolding are_accepted bytes_of_number checked crypt64_of decoded field_params formatted is_mcf_text is_output_len letter letter_value letters_of
    number_of read_mcf reading
mcf_texts_read = refl

pub mcf_texts_written : map (λ row. mcf_text row.1) mcf_texts ≡ map (λ row. row.0) mcf_texts
unfolding crypt64_of letter letters_of
mcf_texts_written = refl
