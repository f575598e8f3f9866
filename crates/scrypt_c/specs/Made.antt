-- The parameters of new hashes, and their texts, which are written to the caller's buffer or do not
-- fit it.
use Rattle.std.specs.Prelude.{◌≡◌, ◌≢◌, ◌↔◌, ℕ, ℤ, ◌<◌, ◌≤◌, List, ◌++◌, drop, length, Some, IsTrue}
use Rattle.std.specs.Str.{IsUtf8}
use Rattle.scrypt.specs.Terms.{IsCopiedTo, Parameters, are_accepted, is_stored_len}
use Rattle.scrypt_c.specs.declared.statuses.TheConstants.{OK, INVALID_PARAMS, OUT_OF_MEMORY, SALT_INVALID, BUFFER_SIZE}

-- parameters with the length of a key
abbrev pub wanted : ℕ → ℕ → ℕ → ℕ → Parameters
wanted log_n r p key_len = record { log_n = log_n; r = r; p = p; output_len = Some key_len }

-- a new hash can have them
abbrev pub AreHashParams : ℕ → ℕ → ℕ → ℕ → Type 0
AreHashParams log_n r p key_len = IsTrue (are_accepted log_n r p) × IsTrue (is_stored_len (Some key_len))

-- this text, in UTF-8, is a prefix of the caller's buffer, the rest is unchanged, and this is its
-- length
abbrev pub IsWritten : List ℕ → List ℕ → List ℕ → ℕ → Type 0
IsWritten text old new len = IsUtf8 text × (len ≡ length text) × (new ≡ text ++ drop len old)

-- such a text is
abbrev pub IsWrittenTo : (List ℕ → Type 0) → List ℕ → List ℕ → ℕ → Type 0
IsWrittenTo IsMade old new len = IsCopiedTo (λ text. IsUtf8 text × IsMade text) old new len

-- this text does not fit the caller's buffer, and this is its length
abbrev pub IsTooLong : List ℕ → List ℕ → ℕ → Type 0
IsTooLong text buffer len = (len ≡ length text) × (length buffer < len)

-- Why this text is not written: it does not fit the caller's buffer, and this is its length, or else
-- the buffers of the derivation are too short, and the length is unchanged.
abbrev pub IsTooShort : List ℕ → Type 0 → List ℕ → ℕ → ℕ → Type 0
IsTooShort text Enough buffer old new =
    (length buffer < length text → new ≡ length text) × (length text ≤ length buffer → (¬ Enough) × (new ≡ old))

-- What a call returns that makes this text, and what it writes to the caller's buffer for it. `Accepted`
-- is said of the parameters, `Salted` of the salt, and `Enough` of the caller's buffers for the
-- derivation. The text is known to fit before memory is allocated.
pub record HasHashed (text : List ℕ) (Accepted Salted Enough : Type 0) (old new : List ℕ) (old_len len : ℕ)
    (status : ℤ) : Type 0 where
  pub made : status ≡ OK → IsWritten text old new len
  pub enough : status ≡ OK → Enough
  pub params : (status ≡ INVALID_PARAMS) ↔ (¬ Accepted)
  pub salt : (status ≡ SALT_INVALID) ↔ (Accepted × ¬ Salted)
  pub size : status ≡ BUFFER_SIZE → IsTooShort text Enough old old_len len
  pub fits : status ≡ OUT_OF_MEMORY → length text ≤ length old
  pub refused : status ≢ OK → new ≡ old
  pub unchanged : status ≢ OK → status ≢ BUFFER_SIZE → len ≡ old_len
