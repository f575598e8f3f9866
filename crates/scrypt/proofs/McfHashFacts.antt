use Rattle.std.proofs.Common.{◌≡◌, ◌≢◌, false, ℕ, List, [], ◌∷◌, ◌++◌, length, Some, None, Ok, Err, refl, rules, append_assoc, lit<, IfErr, Option, if◌then◌else◌, ok_or, IsTrue, bytes_eq, append-nil, arith}
use Rattle.std.proofs.lemmas.Slice.Eq.{bytes_eq-Decides}
use Rattle.scrypt.specs.Terms.{◌and_then◌, Algorithm, Crypt64, EncodingInvalid, IsBytes, IsCrypt64, IsMcfText}
use Rattle.scrypt.specs.Terms.{NamesNoPassword, OutputSize, Parameters, Stored, are_accepted, crypt64_of, decoded}
use Rattle.scrypt.specs.Terms.{field_params, is_output_len, mcf_id, mcf_text, params_letters, params_text, read_fields}
use Rattle.scrypt.specs.Terms.{read_key, read_mcf, read_parts}
use Rattle.password_hash.specs.Parts.{dollar, parts_of, parts_text}
use Rattle.password_hash.proofs.McfFacts.{IsMcfText-from_parts, parts_of-IsMcfText}
use Rattle.scrypt.proofs.AcceptedFacts.{ok_if, refuted}
use Rattle.scrypt.proofs.McfParamsFacts.{field_accepted, field_fault, field_is}
use Rattle.scrypt.proofs.ReadingFacts.{IsFault, both_read, faults, no_password}
use Rattle.password_hash.proofs.GroupFacts.{decoded_is, encoded_is, not_decoded}

-- what a text of some fields is read as

pub read_seven : {text id : List ℕ} {fields : List (List ℕ)} → IsMcfText text id fields → id ≡ mcf_id → read_mcf text ≡ read_fields fields
unfolding read_mcf
read_seven {text} {id} {fields} is seven = rw (parts_of-IsMcfText text id fields is, (bytes_eq-Decides id mcf_id).1 seven) refl

pub read_other : {text id : List ℕ} {fields : List (List ℕ)} → IsMcfText text id fields → id ≢ mcf_id → read_mcf text ≡ Err Algorithm
unfolding read_mcf
read_other {text} {id} {fields} is other = grind (arith, parts_of-IsMcfText, refuted, bytes_eq-Decides)

-- a key, by its length

pub key_read : {letters key : List ℕ} → Crypt64 key letters → IsTrue (is_output_len (length key)) → read_key (letters ∷ []) ≡ Ok key
key_read {letters} {key} is fits = rw (decoded_is key letters is, fits) refl

pub key_refused : {letters key : List ℕ} → Crypt64 key letters → is_output_len (length key) ≡ false → read_key (letters ∷ []) ≡ Err OutputSize
key_refused {letters} {key} is long = rw (decoded_is key letters is, long) refl

pub no_key : {letters : List ℕ} (after : List (List ℕ)) → ¬ IsCrypt64 letters → read_key (letters ∷ after) ≡ Err EncodingInvalid
no_key {letters} [] none = rw (not_decoded letters none) refl
no_key (third ∷ after) none = refl

pub ruleset reading_parts = (read_other, read_seven)

pub ruleset reading_key = (decoded_is, key_read, key_refused, no_key)

-- what a text that is read as a hash consists of

parts_read : (parts : List (List ℕ)) (s : Stored) → read_parts parts ≡ Ok s
    → (fields : List (List ℕ)) × (parts ≡ [] ∷ mcf_id ∷ fields) × (read_fields fields ≡ Ok s)
parts_read ([] ∷ id ∷ fields) s is = grind (arith, ok_if, bytes_eq, bytes_eq-Decides)
parts_read ([] ∷ []) s is = absurd cc
parts_read ((byte ∷ first) ∷ rest) s is = absurd cc
parts_read [] s is = absurd cc

key_is : (letters key : List ℕ) → read_key (letters ∷ []) ≡ Ok key → Crypt64 key letters × IsTrue (is_output_len (length key))
key_is letters key is = let found = at (decoded letters) is in (encoded_is key letters found.0, found.1)
  where
    at : (found : Option (List ℕ))
        → (ok_or found EncodingInvalid and_then λ key. if is_output_len (length key) then Ok key else Err OutputSize) ≡ Ok key
        → (found ≡ Some key) × IsTrue (is_output_len (length key))
    at None is = absurd cc
    at (Some bytes) is =
        let fits = ok_if (is_output_len (length bytes)) (Ok bytes) OutputSize is in
        grind arith

-- the fields of a hash: the letters of allowed parameters and the salt, and the letters of the key
pub record AreFields (s : Stored) (fields : List (List ℕ)) : Type 0 where
  pub written : fields ≡ (params_letters s.params.log_n s.params.r s.params.p ++ s.salt) ∷ crypt64_of s.key ∷ []
  pub params : IsTrue (are_accepted s.params.log_n s.params.r s.params.p)
  pub no_len : s.params.output_len ≡ None
  pub key : IsBytes s.key
  pub key_len : IsTrue (is_output_len (length s.key))

pub fields_read : (fields : List (List ℕ)) (s : Stored) → read_fields fields ≡ Ok s → AreFields s fields
fields_read (field ∷ letters ∷ []) s is =
    let params = both_read (field_params field) _ is in
    let key = both_read (read_key (letters ∷ [])) _ params.2 in
    grind (arith, key_is letters key.0 key.1, field_accepted field params.0 params.1, field_is field params.0 params.1)
fields_read (field ∷ letters ∷ third ∷ after) s is = let none = (both_read (field_params field) _ is).2 in absurd cc
fields_read (field ∷ []) s is = let none = (both_read (field_params field) _ is).2 in absurd cc
fields_read [] s is = absurd cc

-- the text of such fields
pub text_of_fields : (c : Parameters) (salt letters : List ℕ)
    → parts_text (mcf_id ∷ (params_letters c.log_n c.r c.p ++ salt) ∷ letters ∷ []) ≡ params_text c ++ (salt ++ dollar ∷ letters)
text_of_fields c salt letters = simp (append-nil, append_assoc)

-- such a text is a `$7$` hash
pub is_mcf : {text : List ℕ} {s : Stored} → read_mcf text ≡ Ok s
    → (fields : List (List ℕ)) × IsMcfText text mcf_id fields × (read_fields fields ≡ Ok s)
unfolding read_mcf
is_mcf {text} {s} is =
    let (fields, parts, read) = parts_read (parts_of text) s is in
    (fields, IsMcfText-from_parts text mcf_id fields parts (lit< tt, refl), read)

-- a hash has one text
pub text_of : {text : List ℕ} {s : Stored} → read_mcf text ≡ Ok s → text ≡ mcf_text s
text_of {text} {s} is = grind (arith, is_mcf, fields_read, text_of_fields)

key_fault : (fields : List (List ℕ)) → IfErr (read_key fields) IsFault
key_fault [] = tt
key_fault (letters ∷ []) = search (rules, faults)
key_fault (letters ∷ third ∷ after) = tt

fields_fault : (fields : List (List ℕ)) → IfErr (read_fields fields) IsFault
fields_fault [] = tt
fields_fault (field ∷ after) = search (rules, faults, field_fault, key_fault)

parts_fault : (parts : List (List ℕ)) → IfErr (read_parts parts) IsFault
parts_fault ([] ∷ id ∷ fields) = search (rules, faults, fields_fault)
parts_fault [] = tt
parts_fault ([] ∷ []) = tt
parts_fault ((byte ∷ first) ∷ rest) = tt

pub mcf_fault : (text : List ℕ) → IfErr (read_mcf text) IsFault
unfolding read_mcf
mcf_fault text = parts_fault (parts_of text)

pub mcf_none : (text : List ℕ) → NamesNoPassword (read_mcf text)
mcf_none text = no_password (read_mcf text) (mcf_fault text)
