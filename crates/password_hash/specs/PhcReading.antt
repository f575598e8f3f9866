-- The reading of a PHC string: its parts are read one after another, each only in its printed form.
use Rattle.std.specs.Prelude.{ℕ, ◌^◌, ◌==◌, ◌&&◌, Bool, true, not, nat_eq, nat_le, nat_lt, if◌then◌else◌, List, [], ◌∷◌, codes, length}
use Rattle.std.specs.Prelude.{Option, None, Some, option_and_then}
use Rattle.std.specs.List.{after_first, list_all, list_any, starts_with}
use Rattle.std.specs.Str.{bytes_eq}
use Rattle.base64.specs.Engines.{standard_no_pad}
use Rattle.base64.specs.GeneralPurpose.{decoded_of}
use Rattle.password_hash.specs.Decimal.{decimal_below}
use Rattle.password_hash.specs.Letters.{is_identifier}
use Rattle.password_hash.specs.Pairs.{equals, is_pair, pairs_of, pairs_text}
use Rattle.password_hash.specs.Parts.{parts_of}
use Rattle.password_hash.specs.Phc.{base64}
use Rattle.password_hash.specs.declared.phc.hash.PasswordHash.{PasswordHash}

-- no name occurs twice
abbrev pub names_differ : List (List ℕ × List ℕ) → Bool
names_differ [] = true
names_differ (pair ∷ pairs) = list_all (λ (other : List ℕ × List ℕ). not (bytes_eq pair.0 other.0)) pairs && names_differ pairs

-- decides `ArePairs`
abbrev pub are_pairs : List (List ℕ × List ℕ) → Bool
are_pairs pairs = list_all is_pair pairs && (names_differ pairs && nat_le (length (pairs_text pairs)) 127)

-- decides `AreBytesFromTo`
abbrev pub are_bytes_from_to : ℕ → ℕ → List ℕ → Bool
are_bytes_from_to least most xs = nat_le least (length xs) && (nat_le (length xs) most && list_all (λ byte. nat_lt byte 256) xs)

-- the second step, if the first gave a value
infixl 10 ◌>>=◌
abbrev pub ◌>>=◌ : {A B : Type 0} → Option A → (A → Option B) → Option B
o >>= f = option_and_then f o

-- the pairs of a text, if they are allowed
unfoldable pub parsed_pairs : List ℕ → Option (List (List ℕ × List ℕ))
parsed_pairs text = if are_pairs (pairs_of text) then Some (pairs_of text) else None

-- the bytes that letters encode, if there are from `least` to 64
unfoldable pub decoded_bytes : ℕ → List ℕ → Option (List ℕ)
decoded_bytes least letters = do
  bytes ← decoded_of standard_no_pad letters
  if are_bytes_from_to least 64 bytes && bytes_eq letters (base64 bytes) then Some bytes else None

-- the version, if the first part begins with `v=`, and the parts after it
abbrev pub version_and_rest : List (List ℕ) → Option (Option ℕ × List (List ℕ))
version_and_rest [] = Some (None, [])
version_and_rest (part ∷ after) =
    if starts_with nat_eq part (codes "v=")
    then decimal_below (2 ^ 32) (after_first (λ byte. byte == equals) part) >>= (λ version. Some (Some version, after))
    else Some (None, part ∷ after)

-- the parameters, if the first part has a `=`, and the parts after them
abbrev pub params_and_rest : List (List ℕ) → Option (List (List ℕ × List ℕ) × List (List ℕ))
params_and_rest [] = Some ([], [])
params_and_rest (part ∷ after) =
    if list_any (λ byte. byte == equals) part then parsed_pairs part >>= (λ pairs. Some (pairs, after)) else Some ([], part ∷ after)

-- the salt and the key after it, if they are there; no part may follow
abbrev pub salt_and_key : List (List ℕ) → Option (Option (List ℕ) × Option (List ℕ))
salt_and_key [] = Some (None, None)
salt_and_key (salt ∷ []) = decoded_bytes 1 salt >>= λ salt. Some (Some salt, None)
salt_and_key (salt ∷ key ∷ []) = do
  salt ← decoded_bytes 1 salt
  key ← decoded_bytes 10 key
  Some (Some salt, Some key)
salt_and_key parts = None

-- the hash of this algorithm and of the parts after it
abbrev pub hash_after : List ℕ → List (List ℕ) → Option PasswordHash
hash_after algorithm parts = do
  (version, parts) ← version_and_rest parts
  (params, parts) ← params_and_rest parts
  (salt, key) ← salt_and_key parts
  Some (record { algorithm = algorithm; version = version; params = params; salt = salt; hash = key })

-- the hash of the parts of a text: the first part, before the first `$`, is empty, and the second
-- is the algorithm
abbrev pub hash_of_parts : List (List ℕ) → Option PasswordHash
hash_of_parts ([] ∷ algorithm ∷ parts) = if is_identifier algorithm then hash_after algorithm parts else None
hash_of_parts parts = None

-- the hash that the text is read as, or `None` if it is not a PHC string
unfoldable pub read_hash : List ℕ → Option PasswordHash
read_hash text = hash_of_parts (parts_of text)
