-- `$7$` hashes of crypt(5): how they are read and made.
use Rattle.std.specs.Prelude.{◌≡◌, ℕ, ◌+◌, List, [], ◌∷◌, ◌++◌, length, drop, codes, if◌then◌else◌, IsTrue, None, ok_or, Result, Ok, Err, bytes_eq}
use Rattle.password_hash.specs.Crypt64.{IsBytes, crypt64_of, decoded, encoded_len}
use Rattle.password_hash.specs.Mcf.{IsField}
use Rattle.password_hash.specs.Parts.{dollar, parts_of}
use Rattle.password_hash.specs.Refusal.{Refusal, Algorithm, EncodingInvalid, OutputSize}
use Rattle.scrypt.specs.Accepted.{Parameters, are_accepted, is_output_len}
use Rattle.scrypt.specs.KeyOfParams.{key_by}
use Rattle.scrypt.specs.McfParams.{field_params, params_text}
use Rattle.scrypt.specs.Hashing.{key_len_or_default}
use Rattle.scrypt.specs.Reading.{◌and_then◌, Stored, made_stored}

-- the id of `$7$` hashes
abbrev pub mcf_id : List ℕ
mcf_id = codes "7"

-- the key that a single field encodes in crypt Base64, of an accepted output length
abbrev pub read_key : List (List ℕ) → Result (List ℕ) Refusal
read_key (letters ∷ []) =
    ok_or (decoded letters) EncodingInvalid and_then λ key. if is_output_len (length key) then Ok key else Err OutputSize
read_key _ = Err EncodingInvalid

-- the first field encodes the parameters, followed by the salt; the second and last field encodes
-- the key
abbrev pub read_fields : List (List ℕ) → Result Stored Refusal
read_fields (field ∷ after) = field_params field and_then λ c. read_key after and_then λ key.
    Ok (record { params = c; salt = drop 11 field; key = key })
read_fields [] = Err EncodingInvalid

-- a text, split at each `$`: nothing, the id `7` and fields; any other id is another algorithm
abbrev pub read_parts : List (List ℕ) → Result Stored Refusal
read_parts ([] ∷ id ∷ fields) = if bytes_eq id mcf_id then read_fields fields else Err Algorithm
read_parts _ = Err EncodingInvalid

-- the reading of a text
unfoldable pub read_mcf : List ℕ → Result Stored Refusal
read_mcf text = read_parts (parts_of text)

-- the text of these parts: `$7$`, the eleven letters of the parameters, the salt as it is, `$`, and
-- the key in crypt Base64
abbrev pub mcf_text : Stored → List ℕ
mcf_text s = params_text s.params ++ (s.salt ++ dollar ∷ crypt64_of s.key)

-- the text is read as these parts: it is their text, and they are allowed
pub record IsMcfHashText (text : List ℕ) (s : Stored) : Type 0 where
  pub whole : text ≡ mcf_text s
  pub params : IsTrue (are_accepted s.params.log_n s.params.r s.params.p)
  pub no_len : s.params.output_len ≡ None
  pub salt : IsField s.salt
  pub key : IsBytes s.key
  pub key_len : IsTrue (is_output_len (length s.key))

-- the key that these parameters make of a password and a salt: the salt of its derivation is the
-- letters of the salt
abbrev pub made_key : Parameters → List ℕ → List ℕ → List ℕ
made_key c password salt = key_by c password (crypt64_of salt) (key_len_or_default c)

-- the text of the hash that these parameters make of a password and a salt
unfoldable pub made_mcf : Parameters → List ℕ → List ℕ → List ℕ
made_mcf c password salt = mcf_text (made_stored c password (crypt64_of salt))

-- the length of the text, for a salt of n bytes: the parameters, the letters of the salt, `$`, and
-- the letters of the key
abbrev pub made_text_len : Parameters → ℕ → ℕ
made_text_len c n = 14 + encoded_len n + (1 + encoded_len (key_len_or_default c))
