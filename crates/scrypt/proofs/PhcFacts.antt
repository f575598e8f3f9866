use Rattle.std.proofs.lemmas.List.{places}
use Rattle.std.proofs.Common.{◌≡◌, ℕ, ◌++◌, ◌^◌, ◌<◌, ◌≤◌, List, [], ◌∷◌, refl, rules, arith, Ok, Some, None, ◌≢◌, false, length, codes, sym, ◌∙◌, lit<, length-append, IfErr, Option, decimal, ok_or, IsTrue, bytes_eq, IfOk}
use Rattle.std.proofs.lemmas.Bool.Decides.{nat_tests}
use Rattle.password_hash.specs.Decimal.{decimal_below}
use Rattle.password_hash.proofs.DecimalFacts.{decimal_exact, is_value-decimal}
use Rattle.scrypt.specs.Terms.{IsHashText, IsKey, IsSalt, NamesNoPassword, Parameters, are_accepted}
use Rattle.scrypt.specs.Terms.{hash_text, is_salt_len, is_stored_len, key_len_or_default, made_phc}
use Rattle.scrypt.specs.Terms.{made_stored, params_of_pairs, phc_hash, phc_params, read_pairs, read_phc, refusal}
use Rattle.scrypt.specs.Terms.{salt_refusal, without_len, written_pairs}
use Rattle.scrypt.proofs.AcceptedFacts.{checked_is, small_params, key_len_stored}
use Rattle.scrypt.proofs.ReadingFacts.{AreGood, IsFault, checked_fault, checked_good, faults, if_good, no_password, then_good}
use Rattle.std.proofs.lemmas.Bool.{false≢true}
use Rattle.std.proofs.lemmas.Fmt.{length-decimal-le}
use Rattle.std.proofs.lemmas.Slice.Eq.{bytes_eq-Decides}
use Rattle.password_hash.proofs.Base64Facts.{length-base64}
use Rattle.password_hash.specs.Pairs.{ArePairs}
use Rattle.password_hash.specs.Parts.{parts_text}
use Rattle.password_hash.proofs.ParamsFacts.{ArePairs-front}
use Rattle.password_hash.specs.declared.phc.hash.PasswordHash.{PasswordHash}
use Rattle.password_hash.specs.declared.error.Error.{Error}
use Rattle.password_hash.specs.declared.error.Error.TheVariants.{OutOfMemory as NoMemory}
use Rattle.scrypt.proofs.KeyFacts.{key_by-are_bytes, length-key_by}

-- the number of a value

pub smaller : (limit : ℕ) (text : List ℕ) (n : ℕ) → decimal_below (2 ^ 32) text ≡ Some n → n < limit → decimal_below limit text ≡ Some n
unfolding decimal_below
smaller limit text n is small = grind (arith, nat_tests)

pub larger : (limit : ℕ) (text : List ℕ) (n : ℕ) → decimal_below (2 ^ 32) text ≡ Some n → limit ≤ n → decimal_below limit text ≡ None
unfolding decimal_below
larger limit text n is large = grind (arith, nat_tests)

pub neither : (limit : ℕ) (text : List ℕ) → limit ≤ 2 ^ 32 → decimal_below (2 ^ 32) text ≡ None → decimal_below limit text ≡ None
unfolding decimal_below
neither limit text fits none = grind (arith, nat_tests)

pub number_is : {E : Type 0} (found : Option ℕ) (why : E) (n : ℕ) → Ok n ≡ ok_or found why → found ≡ Some n
number_is None why n is = absurd cc
number_is (Some m) why n is = cc

pub ruleset numbers = (smaller, larger, neither)

-- parameters that were written are read
pub written_read : (c : Parameters) → IsTrue (are_accepted c.log_n c.r c.p) → params_of_pairs (written_pairs c) ≡ Ok (without_len c)
unfolding read_pairs
written_read c fits =
    grind (
      arith,
      small_params c.log_n c.r c.p fits,
      smaller,
      decimal_exact (decimal c.log_n) c.log_n,
      decimal_exact (decimal c.r) c.r,
      decimal_exact (decimal c.p) c.p,
      checked_is c.log_n c.r c.p fits,
    )

pairs_fault : (log_n r p : ℕ) (pairs : List (List ℕ × List ℕ)) → IfErr (read_pairs log_n r p pairs) IsFault
unfolding read_pairs
pairs_fault log_n r p [] = checked_fault log_n r p
pairs_fault log_n r p (pair ∷ pairs) =
    let after = λ (log_n r p : ℕ). pairs_fault log_n r p pairs in search (rules, faults, after)

pairs_good : (log_n r p : ℕ) (pairs : List (List ℕ × List ℕ)) → IfOk (read_pairs log_n r p pairs) AreGood
unfolding read_pairs
pairs_good log_n r p [] = checked_good log_n r p
pairs_good log_n r p (pair ∷ pairs) =
    let after = λ (log_n r p : ℕ). pairs_good log_n r p pairs in search (rules, if_good, then_good, after)

differ : (name other : List ℕ) → bytes_eq name other ≡ false → name ≢ other
differ name other apart same = false≢true (sym apart ∙ (bytes_eq-Decides name other).1 same)

short : (n : ℕ) → n < 2 ^ 32 → length (decimal n) ≤ 10
short n small = length-decimal-le 10 n (lit< tt) (omega (arith, small)) (omega (arith, small))

pub three_pairs : (m n k : ℕ) → m < 2 ^ 32 → n < 2 ^ 32 → k < 2 ^ 32
    → ArePairs ((codes "ln", decimal m) ∷ (codes "r", decimal n) ∷ (codes "p", decimal k) ∷ [])
three_pairs m n k small_m small_n small_k = grind (arith, decimal, is_value-decimal, differ, short, length-append)

pub two_pairs : (m n : ℕ) → m < 2 ^ 32 → n < 2 ^ 32 → ArePairs ((codes "ln", decimal m) ∷ (codes "r", decimal n) ∷ [])
two_pairs m n small_m small_n = ArePairs-front (_ ∷ _ ∷ []) _ (three_pairs m n 0 small_m small_n (lit< tt))

pub one_pair : (m : ℕ) → m < 2 ^ 32 → ArePairs ((codes "ln", decimal m) ∷ [])
one_pair m small = ArePairs-front (_ ∷ []) _ (three_pairs m 0 0 small (lit< tt) (lit< tt))

pub ruleset pairs_of_params = (one_pair, three_pairs, two_pairs)

pub params_fault : (hash : PasswordHash) → IfErr (phc_params hash) IsFault
unfolding phc_params
params_fault hash = search (rules, faults, pairs_fault)

pub params_good : (hash : PasswordHash) → IfOk (phc_params hash) AreGood
unfolding phc_params
params_good hash = search (rules, if_good, pairs_good)

pub params_none : (hash : PasswordHash) → NamesNoPassword (phc_params hash)
params_none hash = no_password (phc_params hash) (params_fault hash)

-- the hash of a salt and a key has a text

pub has_text : (c : Parameters) (salt key : List ℕ) → IsTrue (are_accepted c.log_n c.r c.p) → IsSalt salt → IsKey key
    → IsHashText (hash_text (phc_hash c salt key)) (phc_hash c salt key)
has_text c salt key fits salted keyed =
    let small = small_params c.log_n c.r c.p fits in
    grind (arith, three_pairs c.log_n c.r c.p (omega (arith, small.0)) (omega (arith, small.1)) (omega (arith, small.2)))

pub made_is_text : (c : Parameters) (password salt : List ℕ) → IsTrue (are_accepted c.log_n c.r c.p) → IsTrue (is_stored_len c.output_len)
    → IsSalt salt → IsHashText (hash_text (made_phc c password salt)) (made_phc c password salt)
unfolding made_phc
made_is_text c password salt fits len salted =
    let stored = key_len_stored c.output_len len in
    let long = length-key_by c password salt (key_len_or_default c) in
    has_text c salt _ fits salted (record {
      are_bytes = key_by-are_bytes c password salt (key_len_or_default c);
      enough = omega (arith, long, stored.0);
      fits = omega (arith, long, stored.1);
    })

-- a hash can have a salt of 16 bytes, so hashing with it only runs out of memory
pub only_memory : (salt : List ℕ) (why : Error) → length salt ≡ 16 → refusal why ≡ salt_refusal salt → why ≡ NoMemory
unfolding is_salt_len
only_memory salt why long is = grind arith

-- a made hash is read as it was made
pub made_read : (c : Parameters) (password salt : List ℕ) → IsTrue (are_accepted c.log_n c.r c.p)
    → read_phc (made_phc c password salt) ≡ Ok (made_stored c password salt)
unfolding made_phc phc_params
made_read c password salt fits = rw (written_read c fits) refl

-- texts that differ in a last part of the same length have one length
same_joined : (one other : List ℕ) → length one ≡ length other → (parts : List (List ℕ))
    → length (parts_text (parts ++ one ∷ [])) ≡ length (parts_text (parts ++ other ∷ []))
same_joined one other same [] = simp length-append (omega (arith, same))
same_joined one other same (part ∷ parts) = grind (arith, same_joined one other same parts, length-append)

-- so a hash that is made has a text as long as with any key of its length
pub same_lengths : (c : Parameters) (password salt key : List ℕ) → length key ≡ key_len_or_default c
    → length (hash_text (made_phc c password salt)) ≡ length (hash_text (phc_hash c salt key))
unfolding made_phc
same_lengths c password salt key is = search (rules, places, length-base64, length-key_by, same_joined)
