-- Making a hash, in every format.
use Rattle.std.specs.Prelude.{ℕ, Bool, List, Option, is_some, not, unwrap_or, if◌then◌else◌, bytes_eq}
use Rattle.password_hash.specs.Refusal.{Refusal, Algorithm, Version}
use Rattle.scrypt.specs.Accepted.{Parameters}

-- the length of the key that hashing with these parameters makes: 32 if none was given
abbrev pub key_len_or_default : Parameters → ℕ
key_len_or_default c = unwrap_or c.output_len 32

-- whether the caller named this algorithm or none
abbrev pub is_named_or_none : List ℕ → Option (List ℕ) → Bool
is_named_or_none name alg_id = bytes_eq (unwrap_or alg_id name) name

-- the error of hashing: the algorithm, then the version that a call names, then this one
abbrev pub call_refusal : List ℕ → Option (List ℕ) → Option ℕ → Refusal → Refusal
call_refusal name alg_id version why =
    if not (is_named_or_none name alg_id) then Algorithm else if is_some version then Version else why
