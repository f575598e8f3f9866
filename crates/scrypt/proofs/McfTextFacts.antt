use Rattle.std.proofs.Common.{◌≡◌, ◌≢◌, ℕ, ◌<◌, ◌≤◌, List, [], ◌∷◌, ◌++◌, length, drop, Option, Ok, ◌∙◌, refl, sym, ap, subst, arith, lit<, append_assoc, length-append, All, codes, IsTrue, lt-ltb, IsAscii, rules}
use Rattle.std.proofs.lemmas.Str.{IsUtf8-from_ascii}
use Rattle.std.proofs.lemmas.Str.Ascii.{IsAscii-from_all}
use Rattle.std.proofs.lemmas.List.{append-nil, drop_all, drop_at, places}
use Rattle.std.proofs.lemmas.List.Elements.{All-nil, All-cons, All-append, All-drop, All-from_recursion, All-head, All-weaker}
use Rattle.scrypt.specs.Terms.{IsField, IsMcf, IsMcfHashText, IsMcfText, Parameters, Stored, are_accepted}
use Rattle.scrypt.specs.Terms.{crypt64_of, field_params, is_output_len}
use Rattle.scrypt.specs.Terms.{key_len_or_default, letters_of, made_key, made_mcf, made_stored, made_text_len}
use Rattle.scrypt.specs.Terms.{mcf_id, mcf_text, params_letters, params_text, parts_of_key, read_mcf, without_len}
use Rattle.password_hash.specs.Parts.{dollar}
use Rattle.password_hash.proofs.Crypt64Facts.{letter-ascii, letter_value-letter, IsPlain, crypt64_of-plain, length-letters_of, letters_of-plain}
use Rattle.password_hash.proofs.GroupFacts.{length-crypt64_of}
use Rattle.password_hash.proofs.McfFacts.{IsField-crypt64_of}
use Rattle.scrypt.proofs.KeyFacts.{key_by-are_bytes, length-key_by}
use Rattle.scrypt.proofs.AcceptedFacts.{checked_is, numbers, small_params}
use Rattle.scrypt.proofs.McfParamsFacts.{five_letter_number_letters_of, of_numbers}
use Rattle.scrypt.proofs.McfHashFacts.{fields_read, is_mcf, key_read, read_seven, text_of, text_of_fields}

-- the letters of the numbers

pub plain_letters : (log_n r p : ℕ) → log_n < 64 → All IsPlain (params_letters log_n r p)
plain_letters log_n r p small = search (rules, places, letter-ascii, letters_of-plain)

count_letters : (log_n r p : ℕ) → length (params_letters log_n r p) ≡ 11
count_letters log_n r p = omega (arith, length-append (letters_of 5 r) (letters_of 5 p), length-letters_of 5 r, length-letters_of 5 p)

-- the field that they begin is read as the parameters
field_read : (c : Parameters) (salt : List ℕ) → IsTrue (are_accepted c.log_n c.r c.p)
    → field_params (params_letters c.log_n c.r c.p ++ salt) ≡ Ok (without_len c)
unfolding field_params
field_read c salt good =
    let small = small_params c.log_n c.r c.p good in
    let r_letters = letters_of 5 c.r in
    let p_letters = letters_of 5 c.p in
    let from_r : (r_letters ++ p_letters) ++ salt ≡ r_letters ++ (p_letters ++ salt) = append_assoc r_letters p_letters salt in
    let from_p : drop 5 ((r_letters ++ p_letters) ++ salt) ≡ p_letters ++ salt =
    ap (drop 5) from_r ∙ drop_at r_letters (p_letters ++ salt) 5 (length-letters_of 5 c.r) in
    grind (arith, five_letter_number_letters_of, lt-ltb, letter-ascii, letter_value-letter, of_numbers, checked_is)

-- so the letters of accepted parameters are those of one log_n, one r and one p
pub params_letters_once : (log_n r p other_log_n other_r other_p : ℕ) → IsTrue (are_accepted log_n r p) → IsTrue (are_accepted other_log_n other_r other_p)
    → params_letters log_n r p ≡ params_letters other_log_n other_r other_p → (log_n ≡ other_log_n) × (r ≡ other_r) × (p ≡ other_p)
params_letters_once log_n r p other_log_n other_r other_p fits other_fits same =
    let c = numbers log_n r p in
    let d = numbers other_log_n other_r other_p in
    grind (arith, field_read c [] fits, field_read d [] other_fits)

-- the text of some parameters, a salt without a dollar, and a key
text_parts : (c : Parameters) (salt key : List ℕ) → IsTrue (are_accepted c.log_n c.r c.p) → IsField salt
    → IsMcfText (params_text c ++ (salt ++ dollar ∷ crypt64_of key)) mcf_id
    ((params_letters c.log_n c.r c.p ++ salt) ∷ crypt64_of key ∷ [])
text_parts c salt key good no_dollar =
    let letters = params_letters c.log_n c.r c.p in
    let field = letters ++ salt in
    let small : c.log_n ≤ 56 = (small_params c.log_n c.r c.p good).0 in
    let field_is : IsField field =
    All-append (λ byte. byte ≢ dollar) letters salt
    (All-weaker IsPlain (λ byte. byte ≢ dollar) (λ byte plain. plain.1) letters (plain_letters c.log_n c.r c.p (omega arith))) no_dollar in
    record {
      is_id = (lit< tt, refl);
      are_fields = All-cons IsField field (crypt64_of key ∷ []) field_is
          (All-cons IsField (crypt64_of key) [] (IsField-crypt64_of key) (All-nil IsField));
      written = sym (text_of_fields c salt (crypt64_of key));
    }

-- the text of allowed parts is read as these
pub text_read : (text : List ℕ) (s : Stored) → IsMcfHashText text s → read_mcf text ≡ Ok s
text_read text s is =
    let c = s.params in
    let front = params_letters c.log_n c.r c.p in
    let rest : drop 11 (front ++ s.salt) ≡ s.salt = drop_at front s.salt 11 (count_letters c.log_n c.r c.p) in
    let bare : without_len c ≡ c = ap (λ (len : Option ℕ). record c { output_len = len }) (sym is.no_len) in
    ap read_mcf is.whole ∙ read_seven (text_parts c s.salt s.key is.params is.salt) refl
    ∙ rw (field_read c s.salt is.params, key_read (record { are_bytes = is.key; encoding = refl }) is.key_len, rest, bare) refl

-- and what is read as some parts is their text
pub read_is_text : (text : List ℕ) (s : Stored) → read_mcf text ≡ Ok s → IsMcfHashText text s
read_is_text text s is =
    let (fields, seven, read) = is_mcf is in
    let are = fields_read fields s read in
    let front = params_letters s.params.log_n s.params.r s.params.p in
    let rest : drop 11 (front ++ s.salt) ≡ s.salt = drop_at front s.salt 11 (count_letters s.params.log_n s.params.r s.params.p) in
    let field = All-head IsField (front ++ s.salt) (crypt64_of s.key ∷ []) (subst (All IsField) are.written seven.are_fields) in
    record {
      whole = text_of is;
      params = are.params;
      no_len = are.no_len;
      salt = subst IsField rest (All-drop (λ byte. byte ≢ dollar) 11 (front ++ s.salt) field);
      key = are.key;
      key_len = are.key_len;
    }

-- the text that hashing makes
pub made_text : (c : Parameters) (password salt : List ℕ) → IsTrue (are_accepted c.log_n c.r c.p)
    → IsTrue (is_output_len (key_len_or_default c)) → read_mcf (made_mcf c password salt) ≡ Ok (made_stored c password (crypt64_of salt))
unfolding made_mcf
made_text c password salt good fits =
    let letters = crypt64_of salt in
    let key = made_key c password salt in
    let long = length-key_by c password letters (key_len_or_default c) in
    text_read _ (made_stored c password letters) (record {
      whole = refl;
      params = good;
      no_len = refl;
      salt = IsField-crypt64_of salt;
      key = key_by-are_bytes c password letters (key_len_or_default c);
      key_len = rw long fits;
    })

pub made_mcf_len : (c : Parameters) (password salt : List ℕ) → length (made_mcf c password salt) ≡ made_text_len c (length salt)
unfolding made_mcf
made_mcf_len c password salt = grind (arith, count_letters c.log_n c.r c.p, length-append, length-crypt64_of salt, length-crypt64_of, length-key_by)

-- a text that was written whole

pub whole_is_made : (c : Parameters) (password salt key text : List ℕ) → text ≡ mcf_text (parts_of_key c (crypt64_of salt) key) → key ≡ made_key c password salt
    → text ≡ made_mcf c password salt
unfolding made_mcf
whole_is_made c password salt key text is derived = rw (is, derived) refl

pub whole_is_ascii : (c : Parameters) (salt key text : List ℕ) → text ≡ mcf_text (parts_of_key c (crypt64_of salt) key) → IsTrue (are_accepted c.log_n c.r c.p) → IsAscii text
whole_is_ascii c salt key text is good =
    let ascii : ℕ → Type 0 = λ byte. byte < 128 in
    let plain = λ (letters : List ℕ) (each : All IsPlain letters). All-weaker IsPlain ascii (λ byte is. is.0) letters each in
    let small : c.log_n ≤ 56 = (small_params c.log_n c.r c.p good).0 in
    let front : All ascii (codes "$7$") = All-from_recursion ascii (codes "$7$") (lit< tt, (lit< tt, (lit< tt, tt))) in
    let letters = params_letters c.log_n c.r c.p in
    let last = dollar ∷ crypt64_of key in
    let after = crypt64_of salt ++ last in
    rw is (IsAscii-from_all (codes "$7$" ++ (letters ++ after)) (All-append ascii (codes "$7$") (letters ++ after) front
    (All-append ascii letters after (plain letters (plain_letters c.log_n c.r c.p (omega arith)))
    (All-append ascii (crypt64_of salt) last (plain (crypt64_of salt) (crypt64_of-plain salt))
    (All-cons ascii dollar (crypt64_of key) (lit< tt) (plain (crypt64_of key) (crypt64_of-plain key)))))))

pub whole_is_mcf : (c : Parameters) (salt key text : List ℕ) → text ≡ mcf_text (parts_of_key c (crypt64_of salt) key) → IsTrue (are_accepted c.log_n c.r c.p) → IsMcf text
whole_is_mcf c salt key text is good = rw is (_, _, text_parts c (crypt64_of salt) key good (IsField-crypt64_of salt))

pub ruleset whole_texts = (whole_is_ascii, whole_is_made)

-- letters that fill their room
pub filled : (letters room new : List ℕ) → new ≡ letters ++ drop (length letters) room → length room ≡ length letters → new ≡ letters
filled letters room new is full = grind (arith, drop_all, append-nil)

pub ruleset ascii_texts = (IsUtf8-from_ascii)
