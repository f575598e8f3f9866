-- A hash and the parts of its text: PHC strings are read as the hashes that they are printed of.
use Rattle.std.proofs.Common.{◌≡◌, ◌≢◌, ◌↔◌, ◌^◌, ◌<◌, ◌≤◌, ◌==◌, ℕ, suc, false, true, not, List, [], ◌∷◌, ◌++◌, map, codes, refl, sym, ap, subst, ◌∙◌, arith}
use Rattle.std.proofs.Common.{length, drop, Option, None, Some, inl, inr}
use Rattle.std.specs.Borrow.{Bor}
use Rattle.std.specs.Prelude.{All, AllPairs, IfSome, IsSome, OnSome, decimal, is_some, nat_eq, nat_le, nat_lt}
use Rattle.std.specs.Bool.{Decides}
use Rattle.std.specs.List.{after_first, list_all, list_any, starts_with, join_with_byte}
use Rattle.std.specs.Str.{bytes_eq}
use Rattle.std.proofs.lemmas.Bool.{and_parts, cases_Bool, false≢true, false_from_ne_true}
use Rattle.std.proofs.lemmas.Bool.Decides.{Decides-and, Decides-by_and, Decides-eqb, Decides-like, Decides-ltb, Decides-not, nat_tests}
use Rattle.std.proofs.lemmas.List.{get_or_at, length-append}
use Rattle.std.proofs.lemmas.List.Elements.{All-append, All-head, All-nil, All-cons, All-tail, All-from_recursion, All-get_or}
use Rattle.std.proofs.lemmas.List.Folds.{list_any_at, list_any_none}
use Rattle.std.proofs.lemmas.List.Kept.{AllPairs-cons}
use Rattle.std.proofs.lemmas.List.Splits.{length-slice_split, slice_split_at}
use Rattle.std.proofs.lemmas.Option.{cond_some, option_and_then_some}
use Rattle.std.proofs.lemmas.Slice.Eq.{bytes_eq-Decides, starts_is}
use Rattle.base64.specs.Engines.{standard_no_pad}
use Rattle.base64.specs.GeneralPurpose.{IsBytes, decoded_of}
use Rattle.password_hash.specs.{AreBytesFromTo, ArePairs, IsHashText, IsKey, IsPair, IsSalt, are_bytes_from_to}
use Rattle.password_hash.specs.{are_pairs, base64, decimal_below, decoded_bytes, hash_after, hash_of_parts, hash_parts}
use Rattle.password_hash.specs.{hash_text, is_identifier, is_identifier_letter, is_pair, is_value_letter, names_differ}
use Rattle.password_hash.specs.{pair_text, pairs_text, params_and_rest, params_part, parsed_pairs, parts_left}
use Rattle.password_hash.specs.{parts_of, read_hash, salt_and_key, salt_and_key_parts, version_and_rest, version_part}
use Rattle.password_hash.specs.declared.phc.hash.PasswordHash.{PasswordHash}
use Rattle.base64.proofs.Streams.{decoded_of-ok}
use Rattle.password_hash.proofs.Base64Facts.{IsBytes-cons, decode_of-base64, base64_lacks}
use Rattle.password_hash.proofs.DecimalFacts.{decimal_exact, is_value-decimal}
use Rattle.password_hash.proofs.ParamsFacts.{text_of_pairs, pair_is, Lacks, equals_of_pairs, pairs_of-pairs_text, letters_lack, texts_lack, cut_at_first}
use Rattle.password_hash.proofs.ParamsFacts.{parts_of-parts_text, text_of_parts}

-- a version below 2 ^ 32, or none
abbrev IsVersion : Option ℕ → Type 0
IsVersion version = IfSome version (λ number. number < 2 ^ 32)

-- a part that does not begin with `v=`
abbrev LacksVersion : List ℕ → Type 0
LacksVersion part = (rest : List ℕ) → part ≢ codes "v=" ++ rest

-- a row of pieces that lack a byte lacks it, unless it separates them
join_lacks : (c separator : ℕ) → (separator == c) ≡ false → (pieces : List (List ℕ)) → All (Lacks c) pieces
    → Lacks c (join_with_byte separator pieces)
join_lacks c separator other [] h = All-nil (λ b. (b == c) ≡ false)
join_lacks c separator other (piece ∷ []) h = All-head (Lacks c) piece [] h
join_lacks c separator other (piece ∷ next ∷ pieces) h =
    All-append (λ b. (b == c) ≡ false) piece _ (All-head (Lacks c) piece (next ∷ pieces) h)
    (All-cons (λ b. (b == c) ≡ false) separator _ other
    (join_lacks c separator other (next ∷ pieces) (All-tail (Lacks c) piece (next ∷ pieces) h)))

version_lacks : (version : Option ℕ) → IsVersion version → All (Lacks 36) (version_part version)
version_lacks None h = All-nil (Lacks 36)
version_lacks (Some number) h =
    let equals = All-from_recursion (λ b. (b == 36) ≡ false) (codes "v=") (refl, (refl, tt)) in
    let digits = letters_lack is_value_letter 36 refl (decimal number) (and_parts _ _ (is_value-decimal number h)).1 in
    let whole = All-append (λ b. (b == 36) ≡ false) (codes "v=") (decimal number) equals digits in
    All-from_recursion (Lacks 36) ((codes "v=" ++ decimal number) ∷ []) (whole, tt)

params_lack : (params : List (List ℕ × List ℕ)) → ArePairs params → All (Lacks 36) (params_part params)
params_lack [] h = All-nil (Lacks 36)
params_lack (pair ∷ params) h =
    let texts = join_lacks 36 44 refl (map pair_text (pair ∷ params)) (texts_lack 36 refl refl refl (pair ∷ params) h.each) in
    All-from_recursion (Lacks 36) (pairs_text (pair ∷ params) ∷ []) (texts, tt)

-- neither a salt nor a key has a byte that is not a letter of values
salt_and_key_lack : (c : ℕ) → is_value_letter c ≡ false → (salt key : Option (List ℕ)) → IfSome salt IsSalt → IfSome key IsKey
    → All (Lacks c) (salt_and_key_parts salt key)
salt_and_key_lack c other None key hs hk = All-nil (Lacks c)
salt_and_key_lack c other (Some salt) None hs hk = grind (arith, base64_lacks)
salt_and_key_lack c other (Some salt) (Some key) hs hk = grind (arith, base64_lacks)

-- no part of a hash has a `$`
parts_lack : (text : List ℕ) (hash : PasswordHash) → IsHashText text hash → All (Lacks 36) (hash_parts hash)
parts_lack text hash h =
    All-cons (Lacks 36) hash.algorithm _ (letters_lack is_identifier_letter 36 refl hash.algorithm (and_parts _ _ (and_parts _ _ h.algorithm).1).1)
    (All-append (Lacks 36) (version_part hash.version) _ (version_lacks hash.version h.version)
    (All-append (Lacks 36) (params_part hash.params) _ (params_lack hash.params h.params)
    (salt_and_key_lack 36 refl hash.salt hash.hash h.salt h.key)))

-- the text of parameters does not begin with `v=`, since no name is `v`
params_no_version : (params : List (List ℕ × List ℕ)) → ArePairs params → All LacksVersion (params_part params)
params_no_version [] h = All-nil LacksVersion
params_no_version (pair ∷ params) h =
    let is = pair_is pair (All-head IsPair pair params h.each) in
    let equals = equals_of_pairs pair params in
    let name = cut_at_first 61 pair.0 equals.0 (letters_lack is_identifier_letter 61 refl pair.0 is.name) in
    let none : Lacks 61 (codes "v") = All-from_recursion (λ b. (b == 61) ≡ false) (codes "v") (refl, tt) in
    let text : LacksVersion (pairs_text (pair ∷ params)) = λ rest e. grind (arith, cut_at_first) in
    All-from_recursion LacksVersion (pairs_text (pair ∷ params) ∷ []) (text, tt)

-- nor does what has no `=`
lacking_no_version : (parts : List (List ℕ)) → All (Lacks 61) parts → All LacksVersion parts
lacking_no_version parts h = λ k d below rest e.
    let equals = subst (Lacks 61) e (h k d below) in
    false≢true (sym (All-get_or (λ b. (b == 61) ≡ false) (codes "v=" ++ rest) 1 0 (omega arith) equals))

-- the tests decide

pub leb_decided : (m n : ℕ) → Decides (nat_le m n) (m ≤ n)
leb_decided m n = grind (arith, nat_tests)

abbrev Differ : List ℕ × List ℕ → List ℕ × List ℕ → Type 0
Differ first second = first.0 ≢ second.0

names_decided : (pairs : List (List ℕ × List ℕ)) → Decides (names_differ pairs) (AllPairs Differ pairs)
names_decided [] = (λ _ i j d before inside. absurd (omega arith), λ _. refl)
names_decided (pair ∷ pairs) =
    let first = Decides-by_and _ (Differ pair) (list_all (λ (other : List ℕ × List ℕ). not (bytes_eq pair.0 other.0)))
    (λ other. Decides-not _ (bytes_eq-Decides pair.0 other.0)) refl (λ _ _. refl) pairs in
    Decides-like (names_differ (pair ∷ pairs)) (λ h. AllPairs-cons Differ pair pairs h.0 h.1)
    (λ (h : AllPairs Differ (pair ∷ pairs)). (
      λ k d below. h 0 (suc k) d (omega arith) (omega arith),
      λ i j d before inside. h (suc i) (suc j) d (omega arith) (omega arith),
    ))
    (Decides-and _ _ first (names_decided pairs))

pub pairs_decided : (pairs : List (List ℕ × List ℕ)) → Decides (are_pairs pairs) (ArePairs pairs)
pairs_decided pairs = Decides-like (are_pairs pairs)
    (λ h. record { each = h.0; once = h.1.0; short = h.1.1 })
    (λ (are : ArePairs pairs). (are.each, (are.once, are.short)))
    (Decides-and _ _ (Decides-by_and is_pair IsPair (list_all is_pair) (λ pair. (λ is. is, λ is. is)) refl (λ _ _. refl) pairs)
    (Decides-and _ _ (names_decided pairs) (leb_decided _ _)))

bytes_decided : (xs : List ℕ) → Decides (list_all (λ byte. nat_lt byte 256) xs) (IsBytes xs)
bytes_decided [] = (λ _ i. omega arith, λ _. refl)
bytes_decided (x ∷ xs) =
    Decides-like (list_all (λ byte. nat_lt byte 256) (x ∷ xs)) (λ (h : (x < 256) × IsBytes xs). IsBytes-cons x xs h.0 h.1)
    (λ (h : IsBytes (x ∷ xs)). (h 0, λ i. h (suc i))) (Decides-and _ _ (Decides-ltb x 256) (bytes_decided xs))

pub within_decided : (least most : ℕ) (xs : List ℕ) → Decides (are_bytes_from_to least most xs) (AreBytesFromTo least most xs)
within_decided least most xs = grind (arith, leb_decided, bytes_decided)

pairs_exact : (text : List ℕ) (pairs : List (List ℕ × List ℕ))
    → (parsed_pairs text ≡ Some pairs) ↔ (ArePairs pairs × (text ≡ pairs_text pairs))
unfolding parsed_pairs
pairs_exact text pairs = grind (arith, cond_some, pairs_decided, text_of_pairs, pairs_of-pairs_text)

pub bytes_exact : (least : ℕ) (letters bytes : List ℕ)
    → (decoded_bytes least letters ≡ Some bytes) ↔ (AreBytesFromTo least 64 bytes × (letters ≡ base64 bytes))
unfolding decoded_bytes
bytes_exact least letters bytes =
    let decided = Decides-and _ _ (within_decided least 64 bytes) (bytes_eq-Decides letters (base64 bytes)) in (
      λ is. option_and_then_some _ (decoded_of standard_no_pad letters) bytes is (λ found _ is.
          let (passes, same) = cond_some _ found bytes is in
          decided.0 (rw same at passes)),
      λ is. rw (decoded_of-ok standard_no_pad letters bytes (decode_of-base64 letters bytes is.0.are_bytes is.1), decided.1 is) refl,
    )

-- without an allowed value there is none
pub none_exact : {X : Type 0} (P : X → Type 0) (answer : Option X) → ((x : X) → (answer ≡ Some x) ↔ P x) → ((x : X) → ¬ P x)
    → answer ≡ None
none_exact P None exact none = refl
none_exact P (Some x) exact none = absurd (none x ((exact x).0 refl))

-- what the parts are printed of is read

version_taken : (version : Option ℕ) (others : List (List ℕ)) → IsVersion version → All LacksVersion others
    → version_and_rest (version_part version ++ others) ≡ Some (version, others)
version_taken None [] is none = refl
version_taken None (part ∷ others) is none =
    let other = false_from_ne_true (starts_with nat_eq part (codes "v=")) (λ begins.
    All-head LacksVersion part others none _ ((starts_is Decides-eqb part (codes "v=") _ refl).0 begins)) in
    rw other refl
version_taken (Some number) others is none = grind (arith, decimal_exact)

params_taken : (params : List (List ℕ × List ℕ)) (others : List (List ℕ)) → ArePairs params → All (Lacks 61) others
    → params_and_rest (params_part params ++ others) ≡ Some (params, others)
params_taken [] [] are none = refl
params_taken [] (part ∷ others) are none =
    rw (list_any_none (λ b. b == 61) part (All-head (Lacks 61) part others none)) refl
params_taken (pair ∷ params) others are none =
    let equals = equals_of_pairs pair params in
    let has = list_any_at (λ b. b == 61) (pairs_text (pair ∷ params)) (length pair.0) 0
    (omega (arith, ap length equals.1, length-append pair.0 (61 ∷ equals.0)))
    (rw (equals.1, get_or_at pair.0 61 equals.0 0 (length pair.0) refl) refl) in
    rw (has, (pairs_exact (pairs_text (pair ∷ params)) (pair ∷ params)).1 (are, refl)) refl

salt_and_key_taken : (salt key : Option (List ℕ)) → IfSome salt IsSalt → IfSome key IsKey → OnSome key (IsSome salt)
    → salt_and_key (salt_and_key_parts salt key) ≡ Some (salt, key)
salt_and_key_taken None None is_salt is_key after = refl
salt_and_key_taken None (Some key) is_salt is_key after = absurd (false≢true after)
salt_and_key_taken (Some salt) None is_salt is_key after = rw ((bytes_exact 1 (base64 salt) salt).1 (is_salt, refl)) refl
salt_and_key_taken (Some salt) (Some key) is_salt is_key after = grind (arith, bytes_exact)

pub hash_is_read : (text : List ℕ) (hash : PasswordHash) → IsHashText text hash → read_hash text ≡ Some hash
unfolding read_hash
hash_is_read text hash h =
    let rest : List ℕ = drop 1 (hash_text hash) in
    let last : List (List ℕ) = salt_and_key_parts hash.salt hash.hash in
    let after : List (List ℕ) = params_part hash.params ++ last in
    let split : parts_of rest ≡ hash_parts hash =
    parts_of-parts_text rest hash.algorithm (version_part hash.version ++ after) (parts_lack text hash h) refl in
    let whole : parts_of text ≡ [] ∷ hash_parts hash = grind (arith, slice_split_at) in
    let no_equals = salt_and_key_lack 61 refl hash.salt hash.hash h.salt h.key in
    let no_version = All-append LacksVersion (params_part hash.params) last (params_no_version hash.params h.params)
    (lacking_no_version last no_equals) in
    grind (arith, version_taken, params_taken, salt_and_key_taken)

-- what is read of parts is allowed, and they are printed of it

no_pairs : ArePairs []
no_pairs = (pairs_decided []).0 refl

version_read : (parts : List (List ℕ)) (read : Option ℕ × List (List ℕ)) → version_and_rest parts ≡ Some read
    → IsVersion read.0 × (parts ≡ version_part read.0 ++ read.1)
version_read [] read is = let same : read ≡ (None, []) = cc in rw same (tt, refl)
version_read (part ∷ after) read is = elim (cases_Bool (starts_with nat_eq part (codes "v="))) [
  | inl begins ↦
      let front = (starts_is Decides-eqb part (codes "v=") _ refl).0 begins in
      let digits = after_first (λ b. b == 61) part in
      let same = sym (ap (after_first (λ b. b == 61)) front) in
      option_and_then_some _ (decimal_below (2 ^ 32) digits) read (rw begins at is) (λ number below is.
      let found = (decimal_exact digits number).0 below in
      let one : read ≡ (Some number, after) = cc in
      rw one (found.0, ap (λ part. part ∷ after) (front ∙ ap (λ digits. codes "v=" ++ digits) (same ∙ found.1))))
  | inr other ↦ grind arith
]

params_read : (parts : List (List ℕ)) (read : List (List ℕ × List ℕ) × List (List ℕ)) → params_and_rest parts ≡ Some read
    → ArePairs read.0 × (parts ≡ params_part read.0 ++ read.1)
params_read [] read is = let same : read ≡ ([], []) = cc in rw same (no_pairs, refl)
params_read (part ∷ after) read is = elim (cases_Bool (list_any (λ b. b == 61) part)) [
  | inl has ↦ option_and_then_some _ (parsed_pairs part) read (rw has at is) (λ pairs parsed is.
      let exact = (pairs_exact part pairs).0 parsed in
      let same : read ≡ (pairs, after) = cc in
      rw same (exact.0, shown pairs has exact.1))
  | inr other ↦ grind (arith, no_pairs)
]
  where
    shown : (found : List (List ℕ × List ℕ)) → list_any (λ b. b == 61) part ≡ true → part ≡ pairs_text found
        → part ∷ after ≡ params_part found ++ after
    shown [] has text = absurd (false≢true (rw text at has))
    shown (pair ∷ found) has text = ap (λ part. part ∷ after) text

-- the parts are a salt and a key, a salt alone, or none
record AreSaltAndKey (parts : List (List ℕ)) (read : Option (List ℕ) × Option (List ℕ)) : Type 0 where
  pub whole : parts ≡ salt_and_key_parts read.0 read.1
  pub salt_bytes : IfSome read.0 IsSalt
  pub key_bytes : IfSome read.1 IsKey
  pub key_after_salt : OnSome read.1 (IsSome read.0)

salt_and_key_read : (parts : List (List ℕ)) (read : Option (List ℕ) × Option (List ℕ)) → salt_and_key parts ≡ Some read
    → AreSaltAndKey parts read
salt_and_key_read [] read is = grind arith
salt_and_key_read (letters ∷ []) read is = option_and_then_some _ (decoded_bytes 1 letters) read is (λ salt same is.
    let one : read ≡ (Some salt, None) = cc in
    let exact = (bytes_exact 1 letters salt).0 same in
    rw (one, exact.1) (record { whole = refl; salt_bytes = exact.0; key_bytes = tt; key_after_salt = tt }))
salt_and_key_read (letters ∷ more ∷ []) read is = option_and_then_some _ (decoded_bytes 1 letters) read is (λ salt same is.
    option_and_then_some _ (decoded_bytes 10 more) read is (λ key same' is.
    let one : read ≡ (Some salt, Some key) = cc in
    let first = (bytes_exact 1 letters salt).0 same in
    let second = (bytes_exact 10 more key).0 same' in
    rw (one, first.1, second.1) (record { whole = refl; salt_bytes = first.0; key_bytes = second.0; key_after_salt = refl })))
salt_and_key_read (letters ∷ more ∷ last ∷ parts) read is = absurd cc

pub read_is_hash : (text : List ℕ) (hash : PasswordHash) → read_hash text ≡ Some hash → IsHashText text hash
unfolding read_hash
read_is_hash text hash is = at (parts_of text) refl is
  where
    after : (algorithm : List ℕ) (parts : List (List ℕ)) → parts_of text ≡ [] ∷ algorithm ∷ parts → is_identifier algorithm ≡ true
        → hash_after algorithm parts ≡ Some hash → IsHashText text hash
    after algorithm parts split named is =
        option_and_then_some _ (version_and_rest parts) hash is (λ version one is.
        option_and_then_some _ (params_and_rest version.1) hash is (λ params two is.
        option_and_then_some _ (salt_and_key params.1) hash is (λ last three is.
        let is_version = version_read parts version one in
        let are_pairs = params_read version.1 params two in
        let both = salt_and_key_read params.1 last three in
        grind (arith, text_of_parts))))

    at : (parts : List (List ℕ)) → parts_of text ≡ parts → hash_of_parts parts ≡ Some hash → IsHashText text hash
    at [] split is = absurd cc
    at ([] ∷ []) split is = absurd cc
    at ((byte ∷ first) ∷ []) split is = absurd cc
    at ((byte ∷ first) ∷ algorithm ∷ parts) split is = absurd cc
    at ([] ∷ algorithm ∷ parts) split is = elim (cases_Bool (is_identifier algorithm)) [
      | inl named ↦ after algorithm parts split named (rw named at is)
      | inr other ↦ let said = rw other at is in absurd cc
    ]

pub printed_back : (text : List ℕ) (hash : PasswordHash) → read_hash text ≡ Some hash → hash_text hash ≡ text
printed_back text hash is = sym (read_is_hash text hash is).whole

pub none_is_read : (text : List ℕ) → ((hash : PasswordHash) → ¬ IsHashText text hash) → read_hash text ≡ None
none_is_read text = none_exact (IsHashText text) (read_hash text) (λ hash. (read_is_hash text hash, hash_is_read text hash))

-- a text that begins with no `$` is not read
pub not_begun : (text : List ℕ) → ((rest : List ℕ) → text ≢ 36 ∷ rest) → read_hash text ≡ None
not_begun text none = none_is_read text (λ hash is. none _ is.whole)

-- two hashes with one text are one
pub one_reading : (text : List ℕ) (a b : PasswordHash) → IsHashText text a → IsHashText text b → a ≡ b
one_reading text a b ha hb = let both = sym (hash_is_read text a ha) ∙ hash_is_read text b hb in cc

-- more parts than a salt and a key
pub parts_left_over : (salt key : List ℕ) (left : Option (Bor (List ℕ))) → is_some left ≡ true
    → salt_and_key (salt ∷ key ∷ parts_left left) ≡ None
parts_left_over salt key None some = absurd (false≢true some)
parts_left_over salt key (Some text) some = at (parts_of text.now) (omega (arith, length-slice_split (λ b. b == 36) text.now))
  where
    at : (parts : List (List ℕ)) → 0 < length parts → salt_and_key (salt ∷ key ∷ parts) ≡ None
    at [] none = absurd (omega arith)
    at (part ∷ parts) none = refl
