-- The keys of encrypted files.
use Rattle.std.specs.Prelude.{ℕ, List, codes}

-- the label before the salt of an age file, in the salt of its derivation
abbrev pub age_label : List ℕ
age_label = codes "age-encryption.org/v1/scrypt"
