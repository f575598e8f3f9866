-- New hashes, in the caller's buffer.
use Rattle.std.proofs.Common.{◌≡◌, ◌++◌, List, Ok, Err, ℕ, drop, false, inl, inr, length, refl, take, true, arith}
use Rattle.std.proofs.Math.Seq.{take-append_seam}
use Rattle.std.proofs.lemmas.Str.{IsUtf8-from_ascii}
use Rattle.std.proofs.lemmas.Bool.{false≢true}
use Rattle.std.specs.Prelude.{◌⊎◌, ◌&&◌, Bool, IsTrue, if◌then◌else◌, pos}
use Rattle.std.specs.Str.{IsAscii}
use Rattle.password_hash.specs.Refusal.{Refusal, BufferTooShort, SaltInvalid}
use Rattle.scrypt_c.specs.{HasHashed, IsWritten}

-- a text of ASCII bytes is UTF-8
pub written_ascii : (text old new : List ℕ) (len : ℕ) → len ≡ length text → new ≡ text ++ drop len old → IsAscii (take len new)
    → IsWritten text old new len
written_ascii text old new len is_len is_new ascii = (IsUtf8-from_ascii text (rw (is_new, is_len, take-append_seam) at ascii), is_len, is_new)

-- the length of a text that was written
pub len_is : {E : Type 0} (test : Bool) (n len : ℕ) (why : E) → Ok len ≡ (if test then Ok n else Err why) → len ≡ n
len_is test n len why is = grind arith

-- a text is written only in buffers that are long enough
pub enough_of : {E : Type 0} (fits enough : Bool) (n : ℕ) {len : ℕ} (why : E)
    → Ok len ≡ (if fits && enough then Ok n else Err why) → IsTrue enough
enough_of fits enough n why is = grind arith

-- why a PHC hash is refused in the caller's buffers: the salt is none, or they are too short
pub refused_in : {A : Type 0} (fits enough : Bool) (made : A) {why : Refusal}
    → Err why ≡ (if fits then if enough then Ok made else Err BufferTooShort else Err SaltInvalid)
    → ((why ≡ SaltInvalid) × (¬ IsTrue fits)) ⊎ ((why ≡ BufferTooShort) × IsTrue fits × (¬ IsTrue enough))
refused_in fits enough made is = grind (arith, false≢true)

-- the hash that is made there, and why
pub made_in : {A : Type 0} (fits enough : Bool) (made : A) {hash : A}
    → Ok hash ≡ (if fits then if enough then Ok made else Err BufferTooShort else Err SaltInvalid)
    → (hash ≡ made) × IsTrue fits × IsTrue enough
made_in fits enough made is = grind arith

-- a call that wrote its text
pub is_hashed : {text old new : List ℕ} {Accepted Salted Enough : Type 0} {old_len len : ℕ} → Accepted → Salted → Enough
    → IsWritten text old new len → HasHashed text Accepted Salted Enough old new old_len len (pos 0)
is_hashed accepted salted enough written = grind arith
