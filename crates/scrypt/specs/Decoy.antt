-- Decoys: what a password is verified against if there is no stored hash for its name.
use Rattle.std.specs.Prelude.{ℕ, ◌&&◌, if◌then◌else◌, List, replicate, Result, Ok, Err}
use Rattle.password_hash.specs.Refusal.{Refusal, ParamsInvalid}
use Rattle.scrypt.specs.Accepted.{Parameters, are_accepted, is_stored_len, without_len}
use Rattle.scrypt.specs.Hashing.{key_len_or_default}
use Rattle.scrypt.specs.Reading.{Stored}

-- The number 256, which is not a byte, n times. For n above 0 no password has this key.
abbrev pub no_key : ℕ → List ℕ
no_key n = replicate n 256

-- The reading of a decoy: a hash with these parameters, this salt, and a key that no password has,
-- as long as the keys of hashes that are made with these parameters; or the error if no hash can
-- have them.
abbrev pub decoy_reading : Parameters → List ℕ → Result Stored Refusal
decoy_reading c salt =
    if are_accepted c.log_n c.r c.p && is_stored_len c.output_len
    then Ok (record { params = without_len c; salt = salt; key = no_key (key_len_or_default c) })
    else Err ParamsInvalid
