-- The texts that store a salt and a key, which any program has derived.
use Rattle.std.specs.Prelude.{◌≡◌, ℕ, Bool, List, Ok}
use Rattle.scrypt.specs.Accepted.{Parameters, without_len}
use Rattle.scrypt.specs.Reading.{Stored}
use Rattle.scrypt.specs.StoredHash.{is_mcf_text, reading}

-- these parts of a hash
abbrev pub parts_of_key : Parameters → List ℕ → List ℕ → Stored
parts_of_key c salt key = record { params = without_len c; salt = salt; key = key }

-- the text has this format, and is read as these parts
abbrev pub IsTextOfKey : Bool → Parameters → List ℕ → List ℕ → List ℕ → Type 0
IsTextOfKey is_mcf c salt key text = (is_mcf_text text ≡ is_mcf) × (reading text ≡ Ok (parts_of_key c salt key))
