-- Parameters of scrypt, read from the pairs of the PHC string format or from a hash, and written as
-- such pairs.
use Rattle.std.specs.Prelude.{ℕ, ◌^◌, if◌then◌else◌, List, [], ◌∷◌, codes, decimal, length, Option, Some, is_some, option_map, unwrap_or, Result, Err, ok_or, bytes_eq}
use Rattle.password_hash.specs.Decimal.{decimal_below}
use Rattle.password_hash.specs.Refusal.{Refusal, ParamInvalid, ParamsInvalid, Version}
use Rattle.password_hash.specs.declared.phc.hash.PasswordHash.{PasswordHash}
use Rattle.scrypt.specs.Accepted.{Parameters}
use Rattle.scrypt.specs.Reading.{◌and_then◌, checked, mapped}

-- The pairs are read in order and replace log_n, r and p, and the first invalid pair gives the
-- error. `ln` is a decimal of at most 255, `r` and `p` are decimals, and any other name is invalid.
-- At the end log_n, r and p have to be accepted.
unfoldable pub read_pairs : ℕ → ℕ → ℕ → List (List ℕ × List ℕ) → Result Parameters Refusal
read_pairs log_n r p [] = checked log_n r p
read_pairs log_n r p (pair ∷ pairs) =
    let below = λ (limit : ℕ). ok_or (decimal_below limit pair.1) (ParamInvalid pair.0) in
    if bytes_eq pair.0 (codes "ln") then (below 256 and_then λ n. read_pairs n r p pairs)
    else if bytes_eq pair.0 (codes "r") then (below (2 ^ 32) and_then λ n. read_pairs log_n n p pairs)
    else if bytes_eq pair.0 (codes "p") then (below (2 ^ 32) and_then λ n. read_pairs log_n r n pairs)
    else Err ParamsInvalid

-- The parameters that the pairs of a hash encode: log_n, r and p begin as 17, 8 and 1. Stored
-- hashes without these pairs have these values, whatever is recommended for new hashes.
abbrev pub params_of_pairs : List (List ℕ × List ℕ) → Result Parameters Refusal
params_of_pairs pairs = read_pairs 17 8 1 pairs

-- the pairs that these parameters are written as
abbrev pub written_pairs : Parameters → List (List ℕ × List ℕ)
written_pairs c = (codes "ln", decimal c.log_n) ∷ (codes "r", decimal c.r) ∷ (codes "p", decimal c.p) ∷ []

-- the length of a hash's key, or 32 if it has no key
abbrev pub output_len_of : Option (List ℕ) → ℕ
output_len_of key = unwrap_or (option_map length key) 32

-- the parameters of a hash with the length of its key, or the error of its version or of its
-- parameters
abbrev pub params_with_len : PasswordHash → Result Parameters Refusal
params_with_len hash =
    let with_len = λ (c : Parameters). record c { output_len = Some (output_len_of hash.hash) } in
    if is_some hash.version then Err Version else mapped with_len (params_of_pairs hash.params)
