use Rattle.std.proofs.Common.{◌≡◌, List, ℕ, [], ◌∷◌, true, false, Ok, Err, refl, sym, inl, inr, lit<, nat_eq, ◌⊎◌, IfErr, Option, Some, None, Result, codes, length, ok_or, IsTrue, ◌<◌, arith}
use Rattle.std.specs.Prelude.{IsOk}
use Rattle.std.proofs.lemmas.Bool.{or_cases}
use Rattle.std.proofs.lemmas.Slice.Eq.{bytes_eq-Decides, starts_is}
use Rattle.std.specs.List.{starts_with}
use Rattle.std.specs.Str.{bytes_eq}
use Rattle.std.proofs.lemmas.Bool.Decides.{Decides-eqb}
use Rattle.password_hash.proofs.McfFacts.{IsMcfText-from_parts}
use Rattle.password_hash.proofs.PhcReadingFacts.{hash_is_read}
use Rattle.scrypt.specs.Terms.{◌and_then◌, EncodingInvalid, Formatted, IsHashText, IsMcfText, IsOfText, IsSalt, McfText}
use Rattle.scrypt.specs.Terms.{NamesNoPassword, Parameters, PasswordInvalid, PhcHash, Refusal, Stored, SufficeFor}
use Rattle.scrypt.specs.Terms.{are_accepted, are_enough, crypt64_of, fields_of, formatted, hash_text, is_mcf_text}
use Rattle.scrypt.specs.Terms.{is_output_len, is_stored_len, is_stored_text, key_len_or_default, made_mcf, made_phc}
use Rattle.scrypt.specs.Terms.{made_stored, mcf_id, params_and_len, params_reading, phc_params, read_fields}
use Rattle.scrypt.specs.Terms.{read_mcf, reading, whole, within}
use Rattle.password_hash.specs.Parts.{parts_of}
use Rattle.password_hash.specs.declared.phc.hash.PasswordHash.{PasswordHash}
use Rattle.scrypt.proofs.McfHashFacts.{is_mcf, mcf_fault, mcf_none, read_seven}
use Rattle.scrypt.specs.declared.limits.Limits.{Limits}
use Rattle.scrypt.proofs.AcceptedFacts.{bounds}
use Rattle.scrypt.proofs.McfTextFacts.{made_text, read_is_text}
use Rattle.scrypt.proofs.PhcFacts.{made_is_text, made_read, params_fault, params_good, params_none}
use Rattle.scrypt.proofs.ReadingFacts.{AreGood, IsFault, enough_within, no_password, part_fault, some_fault, then_fault}

-- a text that is `$7`, or begins with `$7$`, is a `$7$` hash
pub seven_is_mcf : (text : List ℕ) → is_mcf_text text ≡ true → IsMcfText text mcf_id (fields_of text)
unfolding is_mcf_text fields_of
seven_is_mcf text seven = IsMcfText-from_parts text mcf_id (fields_of text) (at (or_cases _ _ seven)) (lit< tt, refl)
  where
    at : (bytes_eq text (codes "$7") ≡ true) ⊎ (starts_with nat_eq text (codes "$7$") ≡ true) → parts_of text ≡ [] ∷ mcf_id ∷ fields_of text
    at (inl whole) = rw ((bytes_eq-Decides text (codes "$7")).0 whole) refl
    at (inr begins) = rw ((starts_is Decides-eqb text (codes "$7$") true (sym begins)).0 refl) refl

pub seven_read : (text : List ℕ) → is_mcf_text text ≡ true → read_mcf text ≡ read_fields (fields_of text)
seven_read text seven = read_seven (seven_is_mcf text seven) refl

pub no_reading : (text : List ℕ) → is_stored_text text ≡ false → (reading text ≡ Err EncodingInvalid) × (params_reading text ≡ Err EncodingInvalid)
unfolding is_stored_text reading params_reading
no_reading text none = grind arith

-- the parameters and the whole of a hash

-- the parts of a PHC hash
abbrev phc_parts : Result Parameters Refusal → Option (List ℕ) → Option (List ℕ) → Result Stored Refusal
phc_parts params salt key = params and_then λ c. ok_or salt PasswordInvalid and_then λ salt.
    ok_or key PasswordInvalid and_then λ key. Ok (record { params = c; salt = salt; key = key })

phc_whole : (params : Result Parameters Refusal) (salt key : Option (List ℕ)) (s : Stored) → phc_parts params salt key ≡ Ok s
    → (params ≡ Ok s.params) × (key ≡ Some s.key)
phc_whole (Ok c) (Some salt) (Some key) s is = grind arith
phc_whole (Ok c) (Some salt) None s is = absurd cc
phc_whole (Ok c) None key s is = absurd cc
phc_whole (Err why) salt key s is = absurd cc

pub params_of_whole : (text : List ℕ) (s : Stored) → reading text ≡ Ok s → params_reading text ≡ Ok (s.params, length s.key)
unfolding reading params_reading
params_of_whole text s is = grind arith

pub params_refused : (text : List ℕ) (why : Refusal) → params_reading text ≡ Err why → reading text ≡ Err why
unfolding reading params_reading
params_refused text why is = grind arith

-- the parameters are accepted

pub reading_accepted : (text : List ℕ) (s : Stored) → reading text ≡ Ok s → IsTrue (are_accepted s.params.log_n s.params.r s.params.p)
unfolding reading
reading_accepted text s is = at (formatted text) is
  where
    at : (found : Option Formatted) → (ok_or found EncodingInvalid and_then whole) ≡ Ok s → AreGood s.params
    at (Some (McfText text)) is = (read_is_text text s is).params
    at (Some (PhcHash hash)) is = rw (phc_whole (phc_params hash) hash.salt hash.hash s is).0 at (params_good hash)
    at None is = absurd cc

pub some_read : (text : List ℕ) (s : Stored) → reading text ≡ Ok s → 0 < s.params.p
some_read text s is = (bounds s.params.log_n s.params.r s.params.p (reading_accepted text s is)).1

-- a hash within limits has enough room in buffers that suffice for them
pub enough_read : (limits : Limits) (text : List ℕ) (s : Stored) (chunks table scratch : List ℕ) → SufficeFor limits chunks table scratch
    → reading text ≡ Ok s → IsOk (within limits (reading text)) → IsTrue (are_enough s.params chunks table scratch)
enough_read limits text s chunks table scratch suffice is fits = grind (arith, enough_within, some_read)

-- the error of its parameters, and of the whole, which may lack the salt or the key

params_and_len_fault : (it : Formatted) → IfErr (params_and_len it) IsFault
params_and_len_fault (McfText text) = part_fault _ (read_mcf text) (mcf_fault text)
params_and_len_fault (PhcHash hash) = part_fault _ (phc_params hash) (params_fault hash)

pub stored_none : (text : List ℕ) → NamesNoPassword (params_reading text)
unfolding params_reading
stored_none text = no_password _ (then_fault _ params_and_len (some_fault (formatted text) EncodingInvalid tt) params_and_len_fault)

phc_of_text : (params : Result Parameters Refusal) (salt key : Option (List ℕ)) → IfErr params IsFault
    → IsOfText (phc_parts params salt key)
phc_of_text (Ok c) (Some salt) (Some key) fault = (λ is. absurd cc, λ bytes work is. absurd cc, λ key_len is. absurd cc, λ is. absurd cc)
phc_of_text (Ok c) (Some salt) None fault = (λ is. absurd cc, λ bytes work is. absurd cc, λ key_len is. absurd cc, λ is. absurd cc)
phc_of_text (Ok c) None key fault = (λ is. absurd cc, λ bytes work is. absurd cc, λ key_len is. absurd cc, λ is. absurd cc)
phc_of_text (Err why) salt key fault = (no_password (Err why) fault).1

pub whole_of_text : (text : List ℕ) → IsOfText (reading text)
unfolding reading
whole_of_text text = at (formatted text)
  where
    at : (found : Option Formatted) → IsOfText (ok_or found EncodingInvalid and_then whole)
    at (Some (McfText text)) = (no_password _ (mcf_fault text)).1
    at (Some (PhcHash hash)) = phc_of_text (phc_params hash) hash.salt hash.hash (params_fault hash)
    at None = (no_password {A = Stored} (Err EncodingInvalid) tt).1

-- a text with the id `7` is read as a `$7$` hash
pub mcf_is_seven : {text : List ℕ} {fields : List (List ℕ)} → IsMcfText text mcf_id fields → is_mcf_text text ≡ true
unfolding is_mcf_text
mcf_is_seven {fields = []} is = rw is.written refl
mcf_is_seven {fields = field ∷ fields} is = rw is.written refl

-- the text of a PHC hash of scrypt is read as a PHC string
pub scrypt_is_phc : {text : List ℕ} {hash : PasswordHash} → IsHashText text hash → hash.algorithm ≡ codes "scrypt" → is_mcf_text text ≡ false
unfolding is_mcf_text
scrypt_is_phc is named = rw (is.whole, named) refl

-- a hash that is read in its format is read so by its text

pub read_as_mcf : (text : List ℕ) {s : Stored} → read_mcf text ≡ Ok s → reading text ≡ Ok s
unfolding reading formatted
read_as_mcf text is = rw (mcf_is_seven (is_mcf is).1) is

pub mcf_reading : (c : Parameters) (password salt : List ℕ) → IsTrue (are_accepted c.log_n c.r c.p)
    → IsTrue (is_output_len (key_len_or_default c)) → reading (made_mcf c password salt) ≡ Ok (made_stored c password (crypt64_of salt))
mcf_reading c password salt fits len = read_as_mcf _ (made_text c password salt fits len)

pub phc_reading : (c : Parameters) (password salt : List ℕ) → IsTrue (are_accepted c.log_n c.r c.p) → IsTrue (is_stored_len c.output_len)
    → IsSalt salt → reading (hash_text (made_phc c password salt)) ≡ Ok (made_stored c password salt)
unfolding reading formatted made_phc
phc_reading c password salt fits len salted =
    let is = made_is_text c password salt fits len salted in
    rw (scrypt_is_phc is refl, hash_is_read _ _ is) (made_read c password salt fits)

pub ruleset errors_of_reading = (mcf_none, params_none, stored_none, whole_of_text)
