-- The status of a cost within limits.
use Rattle.std.specs.Prelude.{◌≡◌, ◌⊎◌, ◌↔◌, ℕ, ℤ, ◌+◌, ◌*◌, ◌^◌, ◌≤◌, if◌then◌else◌, min, nat_lt, IsTrue, List, None, Result}
use Rattle.scrypt.specs.Terms.{Parameters, Refusal, Stored, are_accepted, are_within, chunks_bytes, scratch_words}
use Rattle.scrypt.specs.Terms.{table_words, tables_within, within}
use Rattle.scrypt.specs.declared.limits.Limits.{Limits}
use Rattle.scrypt_c.specs.Texts.{bytes_reading}
use Rattle.scrypt_c.specs.declared.statuses.TheConstants.{OK, INVALID_PARAMS, TOO_COSTLY}

-- these limits
abbrev pub limits_of : ℕ → ℕ → ℕ → Limits
limits_of max_mem max_work min_key_len =
    record { max_mem = max_mem; max_work = max_work; min_key_len = min_key_len }

-- the reading of bytes, if the hash is within these limits
abbrev pub limited_reading : ℕ → ℕ → ℕ → List ℕ → Result Stored Refusal
limited_reading max_mem max_work min_key_len bytes = within (limits_of max_mem max_work min_key_len) (bytes_reading bytes)

-- these parameters, without a length
abbrev pub params_of : ℕ → ℕ → ℕ → Parameters
params_of log_n r p = record { log_n = log_n; r = r; p = p; output_len = None }

-- these limits admit hashes with these parameters and keys of this length
abbrev pub Admit : ℕ → ℕ → ℕ → ℕ → ℕ → ℕ → ℕ → Type 0
Admit max_mem max_work min_key_len log_n r p key_len =
    IsTrue (are_within (limits_of max_mem max_work min_key_len) (params_of log_n r p)) × (min_key_len ≤ key_len)

-- The size limit for the buffers of a key, in bytes: the size with all tables that fit into
-- `max_mem`, up to `max_tables`. If a table has fewer than 2 ^ 14 words, interleaving is
-- slower: then the limit is 0, which selects one table.
unfoldable pub bytes_that_pay : ℕ → ℕ → Parameters → ℕ
bytes_that_pay max_tables max_mem c =
    let tables = min (tables_within max_mem c) max_tables in
    if nat_lt (table_words c.log_n c.r) (2 ^ 14) then 0
    else min (chunks_bytes c.r c.p + 4 * (tables * table_words c.log_n c.r) + 4 * (tables * scratch_words c.r)) max_mem

-- the status of a cost: `OK`, or that the parameters are not accepted or exceed the limits
pub record IsNeedStatus (max_mem max_work log_n r p : ℕ) (status : ℤ) : Type 0 where
  pub params : (status ≡ INVALID_PARAMS) ↔ (¬ IsTrue (are_accepted log_n r p))
  pub costly : (status ≡ TOO_COSTLY)
      ↔ (IsTrue (are_accepted log_n r p) × (¬ IsTrue (are_within (limits_of max_mem max_work 0) (params_of log_n r p))))
  pub one : (status ≡ OK) ⊎ (status ≡ INVALID_PARAMS) ⊎ (status ≡ TOO_COSTLY)
