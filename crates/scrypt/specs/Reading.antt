-- The result of reading a stored hash, in either format, and what is computed from it.
use Rattle.std.specs.Prelude.{◌≡◌, ◌≢◌, ◌⊎◌, ℕ, Bool, true, false, nat_lt, ◌||◌, if◌then◌else◌, List, length, None, Result, Ok, Err, IsOk, ⊤, bytes_eq}
use Rattle.std.specs.Result.{result_map_both}
use Rattle.password_hash.specs.Refusal.{Refusal, BufferTooShort, KeyTooShort, OutOfMemory, ParamsInvalid, PasswordInvalid, TooCostly}
pub use Rattle.password_hash.specs.Refusal.{with_refusal}
use Rattle.scrypt.specs.Accepted.{Parameters, are_accepted, without_len}
use Rattle.scrypt.specs.Cost.{chunks_bytes, hash_cost}
use Rattle.scrypt.specs.Hashing.{key_len_or_default}
use Rattle.scrypt.specs.Key.{derived_key, mixed_chunks}
use Rattle.scrypt.specs.KeyOfParams.{key_by}
use Rattle.scrypt_kernel.specs.Pbkdf2.{pbkdf2}

-- the second step, if the first gave a value, as `Result::and_then`
infixl 10 ◌and_then◌
abbrev pub ◌and_then◌ : {A B E : Type 0} → Result A E → (A → Result B E) → Result B E
Ok x and_then f = f x
Err why and_then f = Err why

-- these three as parameters without a length, or `ParamsInvalid` if they are not accepted
unfoldable pub checked : ℕ → ℕ → ℕ → Result Parameters Refusal
checked log_n r p =
    if are_accepted log_n r p then Ok (record { log_n = log_n; r = r; p = p; output_len = None }) else Err ParamsInvalid

-- The parts of a stored hash. A *reading* is these parts or the first error: a
-- `Result Stored Refusal`.
pub record Stored : Type 0 where
  pub params : Parameters
  pub salt : List ℕ
  pub key : List ℕ

-- the chunks of its derivation from a password (step 1)
abbrev pub chunks_of : List ℕ → Stored → List ℕ
chunks_of password s = pbkdf2 password s.salt (chunks_bytes s.params.r s.params.p)

-- those chunks after scryptROMix (step 2)
abbrev pub mixed_of : List ℕ → Stored → List ℕ
mixed_of password s = mixed_chunks (chunks_of password s) s.params.log_n s.params.r s.params.p

-- the blocks that SHA-256 compresses when the key of the hash is compared with the key of a
-- password: the same number as for deriving a key of this length
abbrev pub verify_cost : List ℕ → Stored → ℕ
verify_cost password s = hash_cost (length password) (length s.salt) s.params.r s.params.p (length s.key)

-- whether the hash accepts the password: the stored key is the key of its length that the
-- parameters and the salt of the hash derive from the password
unfoldable pub is_right : List ℕ → Stored → Bool
is_right password s = bytes_eq s.key (derived_key password s.salt s.params.log_n s.params.r s.params.p (length s.key))

-- the verdict of verifying, if no allocation fails
abbrev pub verdict : List ℕ → Result Stored Refusal → Result ⊤ Refusal
verdict password reading = reading and_then λ s. if is_right password s then Ok tt else Err PasswordInvalid

-- `out` is the verdict, or `OutOfMemory`, which is possible only if the hash can be read
abbrev pub IsVerdict : List ℕ → Result Stored Refusal → Result ⊤ Refusal → Type 0
IsVerdict password reading out = (out ≡ verdict password reading) ⊎ (IsOk reading × (out ≡ Err OutOfMemory))

-- Whether a verdict accepts the password. A wrong password is rejected without an error, and so is
-- every password of a hash without a salt or a key.
abbrev pub let_in : Result ⊤ Refusal → Result Bool Refusal
let_in (Ok u) = Ok true
let_in (Err PasswordInvalid) = Ok false
let_in (Err why) = Err why

-- f of the value, or the same error, as `Result::map`
abbrev pub mapped : {A B E : Type 0} → (A → B) → Result A E → Result B E
mapped f reading = result_map_both f (λ why. why) reading

-- whether log_n, r, p or the length of the key is below the wanted one
unfoldable pub is_below : Parameters → Parameters → ℕ → Bool
is_below wanted c len =
    nat_lt c.log_n wanted.log_n || nat_lt c.r wanted.r || nat_lt c.p wanted.p || nat_lt len (key_len_or_default wanted)

-- whether a hash is weaker than wanted, or the error of reading it
abbrev pub weaker : Parameters → Result Stored Refusal → Result Bool Refusal
weaker wanted reading = mapped (λ s. is_below wanted s.params (length s.key)) reading

-- the parts of the hash that these parameters make of a password and a salt
abbrev pub made_stored : Parameters → List ℕ → List ℕ → Stored
made_stored c password salt = record { params = without_len c; salt = salt; key = key_by c password salt (key_len_or_default c) }

-- the hash is read as it was made: it accepts the password, and is not weaker than the parameters
pub record IsReadAsMade (c : Parameters) (password salt : List ℕ) (reading : Result Stored Refusal) : Type 0 where
  pub read : reading ≡ Ok (made_stored c password salt)
  pub accepts : verdict password reading ≡ Ok tt
  pub strong : weaker c reading ≡ Ok false

-- reading never gives an error that comes after it
abbrev pub IsOfText : {A : Type 0} → Result A Refusal → Type 0
IsOfText reading = (reading ≢ Err OutOfMemory) × ((bytes work : ℕ) → reading ≢ Err (TooCostly bytes work))
    × ((key_len : ℕ) → reading ≢ Err (KeyTooShort key_len)) × (reading ≢ Err BufferTooShort)

-- reading gives neither an error that comes after it nor `PasswordInvalid`
abbrev pub NamesNoPassword : {A : Type 0} → Result A Refusal → Type 0
NamesNoPassword reading = (reading ≢ Err PasswordInvalid) × IsOfText reading
