use Rattle.std.proofs.Common.{◌≡◌, ℕ, ◌+◌, ◌<◌, ◌≤◌, List, ◌∷◌, ◌++◌, length, Ok, true, false, refl, arith, lit<, length-append, All, codes, IsTrue}
use Rattle.std.proofs.lemmas.Str.{IsUtf8-append, IsUtf8-from_ascii}
use Rattle.std.proofs.lemmas.Str.Ascii.{IsAscii-from_all}
use Rattle.std.proofs.lemmas.List.Elements.{All-cons, All-append, All-from_recursion, All-weaker}
use Rattle.std.specs.Str.{IsUtf8}
use Rattle.scrypt.specs.Terms.{IsBytes, IsField, IsKey, IsSalt, IsTextOfKey, Parameters, are_accepted, crypt64_of}
use Rattle.scrypt.specs.Terms.{encoded_len, formatted, hash_text, is_output_len, mcf_text, params_letters}
use Rattle.scrypt.specs.Terms.{params_text, parts_of_key, phc_hash, phc_params, read_phc, reading}
use Rattle.password_hash.specs.Parts.{dollar}
use Rattle.password_hash.proofs.Crypt64Facts.{IsPlain, crypt64_of-plain, length-letters_of}
use Rattle.password_hash.proofs.GroupFacts.{length-crypt64_of}
use Rattle.password_hash.proofs.PhcReadingFacts.{hash_is_read}
use Rattle.scrypt.proofs.AcceptedFacts.{small_params}
use Rattle.scrypt.proofs.McfHashFacts.{is_mcf}
use Rattle.scrypt.proofs.McfTextFacts.{plain_letters, text_read}
use Rattle.scrypt.proofs.PhcFacts.{has_text, written_read}
use Rattle.scrypt.proofs.StoredHashFacts.{mcf_is_seven, read_as_mcf, scrypt_is_phc}

-- a PHC string

is_read : (c : Parameters) (salt key : List ℕ) → IsTrue (are_accepted c.log_n c.r c.p)
    → read_phc (phc_hash c salt key) ≡ Ok (parts_of_key c salt key)
unfolding phc_params
is_read c salt key fits = rw (written_read c fits) refl

pub phc_of_key : (c : Parameters) (salt key : List ℕ) → IsTrue (are_accepted c.log_n c.r c.p) → IsSalt salt → IsKey key
    → IsTextOfKey false c salt key (hash_text (phc_hash c salt key))
unfolding reading formatted
phc_of_key c salt key fits salted keyed =
    let is = has_text c salt key fits salted keyed in
    let form = scrypt_is_phc is refl in
    (form, rw (form, hash_is_read (hash_text (phc_hash c salt key)) (phc_hash c salt key) is) (is_read c salt key fits))

-- a `$7$` hash

pub mcf_of_key : (c : Parameters) (salt key : List ℕ) → IsTrue (are_accepted c.log_n c.r c.p) → IsField salt
    → IsBytes key → IsTrue (is_output_len (length key)) → IsTextOfKey true c salt key (mcf_text (parts_of_key c salt key))
mcf_of_key c salt key fits field bytes len =
    let s = parts_of_key c salt key in
    let read = text_read (mcf_text s) s (record { whole = refl; params = fits; no_len = refl; salt = field; key = bytes; key_len = len }) in
    (mcf_is_seven (is_mcf read).1, read_as_mcf (mcf_text s) read)

pub length-mcf_of_key : (c : Parameters) (salt key : List ℕ)
    → length (mcf_text (parts_of_key c salt key)) ≡ 14 + length salt + (1 + encoded_len (length key))
length-mcf_of_key c salt key = grind (arith, length-append, length-letters_of, length-crypt64_of)

pub mcf_of_key_is_utf8 : (c : Parameters) (salt key : List ℕ) → IsTrue (are_accepted c.log_n c.r c.p) → IsUtf8 salt
    → IsUtf8 (mcf_text (parts_of_key c salt key))
mcf_of_key_is_utf8 c salt key good is =
    let ascii : ℕ → Type 0 = λ byte. byte < 128 in
    let plain = λ (letters : List ℕ) (each : All IsPlain letters). All-weaker IsPlain ascii (λ byte is. is.0) letters each in
    let small : c.log_n ≤ 56 = (small_params c.log_n c.r c.p good).0 in
    let front : All ascii (codes "$7$") = All-from_recursion ascii (codes "$7$") (lit< tt, (lit< tt, (lit< tt, tt))) in
    let letters = params_letters c.log_n c.r c.p in
    let last = dollar ∷ crypt64_of key in
    let first = IsUtf8-from_ascii (params_text c)
    (IsAscii-from_all (params_text c) (All-append ascii (codes "$7$") letters front (plain letters (plain_letters c.log_n c.r c.p (omega arith))))) in
    let end = IsUtf8-from_ascii last
    (IsAscii-from_all last (All-cons ascii dollar (crypt64_of key) (lit< tt) (plain (crypt64_of key) (crypt64_of-plain key)))) in
    IsUtf8-append (params_text c) (salt ++ last) first (IsUtf8-append salt last is end)
